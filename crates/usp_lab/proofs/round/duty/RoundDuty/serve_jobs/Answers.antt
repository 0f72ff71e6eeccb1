use Rattle.std.proofs.Common.{refl, sym, ap, subst, ◌∙◌, ◌≡◌, ◌+◌, ◌*◌, ◌≤◌, ◌∷◌, [], ◌++◌, length, map, take, drop, All, rules, arith}
use Rattle.std.specs.List.{AllByRecursion}
use Rattle.std.proofs.lemmas.List.{length-map, map-append, nil_from_length}
use Rattle.usp_edge.specs.declared.limits.TheConstants.{MAX_HEADS}
use Rattle.usp_lab.specs.Jobs.{IsOwn, IsReady, deed_by, task_by}
use Rattle.usp_lab.specs.Shares.{AllGain, LessBy, part_by, table_of}
use Rattle.usp_lab.proofs.Rounds.Behind.{Behind, behind_more, behind_none, done_all, next_own}
use Rattle.usp_lab.proofs.Rounds.Lending.{written_back}
use Rattle.usp_lab.proofs.Rounds.Working.{enough_next}
use Rattle.usp_lab.proofs.round.duty.RoundDuty.serve_jobs.Goals as goal

pub loop-job-init : goal.loop-job-init
loop-job-init g c =
    let p = part_by g.L.Source.left g.L.Sink.told in
    record {
      tables = refl;
      ready = c.requires.tasks;
      enough = c.requires.enough;
      done = λ issued known own. behind_none c.args.self.now.script.now issued known c.args.self.now.asks.now (p c.args.share.now) c.requires.deeds;
    }

pub serve_job-requires-clause-ready : goal.serve_job-requires-clause-ready
serve_job-requires-clause-ready g c =
    let P = IsReady c.args.self.now.script.now c.args.self.now.asks.now in
    let task = task_by g.L.Source.left g.L.Sink.told in
    (subst (λ l. AllByRecursion P (map task l)) c.in-Some.ensures.items c.loop-job.invariant.ready).0

pub serve_job-requires-clause-tables : goal.serve_job-requires-clause-tables
serve_job-requires-clause-tables g c = ap (map table_of) c.deref_mut.ensures.value ∙ (c.loop-job.invariant.tables ∙ c.requires.tables)

pub serve_job-requires-clause-enough : goal.serve_job-requires-clause-enough
serve_job-requires-clause-enough g c =
    let task = task_by g.L.Source.left g.L.Sink.told in
    let long = ap (λ l. length (map task l)) c.in-Some.ensures.items in
    subst (All (λ seat. MAX_HEADS ≤ seat.left)) (sym c.deref_mut.ensures.value) (λ e d lt.
    let had = c.loop-job.invariant.enough e d lt in
    omega (arith, had, long))

pub loop-job-preserved : goal.loop-job-preserved
loop-job-preserved g c =
    let left = g.L.Source.left in
    let told = g.L.Sink.told in
    let script = c.args.self.now.script.now in
    let asks = c.args.self.now.asks.now in
    let inv = c.loop-job.invariant in
    let task = task_by left told in
    let deed = deed_by left told in
    let job = c.in-Some.job in
    let rest = c.pop_front.new.self.items in
    let seats = c.loop-job.share.seats.items in
    let after = c.serve_job.new.seats in
    let begun = c.args.share.now.seats.items in
    let lent = c.deref_mut.ensures.value in
    let taken = ap (map task) c.in-Some.ensures.items in
    let tables : map table_of after ≡ map table_of seats = c.serve_job.ensures.tables ∙ ap (map table_of) lent in
    let long : length seats ≡ length begun = sym (length-map seats table_of) ∙ (ap length inv.tables ∙ length-map begun table_of) in
    let same : length after ≡ length seats = sym (length-map after table_of) ∙ (ap length tables ∙ length-map seats table_of) in
    let many : length (map task c.loop-job.share.jobs.items) ≡ length (map task rest) + 1 = (let l = ap length taken in omega (arith, l)) in
    let back : take c.loop-job.share.seats.len (after ++ drop (length after) seats) ≡ after =
    written_back c.loop-job.share.seats.len after seats same (let ok = c.loop-job.share.seats.ok.0 in omega (arith, ok)) in
    record {
      tables = ap (map table_of) back ∙ (tables ∙ inv.tables);
      ready = (subst (AllByRecursion (IsReady script asks)) taken inv.ready).1;
      enough = subst (All (λ seat. MAX_HEADS * length (map task rest) ≤ seat.left)) (sym back)
          (enough_next MAX_HEADS (length (map task c.loop-job.share.jobs.items)) (length (map task rest)) seats after many same
          (subst (λ l. LessBy MAX_HEADS l after) lent c.serve_job.ensures.left) inv.enough);
      done = λ issued known own.
          let behind = inv.done issued known own in
          let mine = next_own (IsOwn script issued asks) behind.first (task job) (map task rest) (map task c.args.share.now.jobs.items)
          (ap (λ l. behind.first ++ l) (sym taken) ∙ behind.whole) own in
          let did = c.in_ok-done.ensures.done issued known mine in
          subst (λ l. Behind script issued known asks (part_by left told c.args.share.now)
          (record { tasks = map task rest; deeds = map deed c.push_back.new.self.items; seats = l; whole = c.loop-job.share.whole })) (sym back)
          (behind_more script issued known asks (part_by left told c.args.share.now) (part_by left told c.loop-job.share)
          (record { tasks = map task rest; deeds = map deed c.push_back.new.self.items; seats = after; whole = c.loop-job.share.whole }) (task job) (deed c.in_ok-done.done) taken
          (ap (map deed) c.in_ok-push_back.ensures.items ∙ map-append deed c.loop-job.share.done.items (c.in_ok-done.done ∷ [])) long behind
          (record { served = did.0; done = did.1; gain = subst (λ l. AllGain l after (did.0 ∷ [])) lent did.2 }));
    }

pub returns-clause-done : goal.returns-clause-done
returns-clause-done g c =
    let p = part_by g.L.Source.left g.L.Sink.told in
    let empty : length c.loop-job.share.jobs.items ≡ 0 = search rules in
    let none = ap (map (task_by g.L.Source.left g.L.Sink.told)) (nil_from_length c.loop-job.share.jobs.items empty) in
    λ issued known own.
    done_all c.args.self.now.script.now issued known c.args.self.now.asks.now (p c.args.share.now) (p c.loop-job.share) _ none refl refl (c.loop-job.invariant.done issued known own)
