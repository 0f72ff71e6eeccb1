use Rattle.std.proofs.Common.{refl, sym, ap, subst, ◌∙◌, ◌≡◌, ◌+◌, ◌%◌, ◌∷◌, [], ◌++◌, Some, length, map, length-append, rules, arith}
use Rattle.std.specs.Prelude.{slice_index_or}
use Rattle.std.proofs.lemmas.List.{map-append, length-map, nil_from_length}
use Rattle.usp_lab.specs.Shares.{part_by}
use Rattle.usp_lab.proofs.Rounds.Handing.{dealing_done, dealing_next, dealing_none, task_same}
use Rattle.usp_lab.proofs.round.dealing.deal.Goals as goal

pub loop-head-init : goal.loop-head-init
loop-head-init g c =
    let p = part_by g.B.Line.Source.left g.B.Line.Sink.told in
    record { dealt = dealing_none p _ c.args.shares.now c.requires.empty; out = refl; back = refl }

pub loop-head-preserved : goal.loop-head-preserved
loop-head-preserved g c =
    let left = g.B.Line.Source.left in
    let told = g.B.Line.Sink.told in
    let p = part_by left told in
    let inv = c.loop-head.invariant in
    let now = c.loop-head.shares in
    let olds = c.args.shares.now in
    let rest = c.pop.new.self.items in
    let head = c.in-Some.head in
    let line = c.in_ok-line.line in
    let turn = c.len-place.result % length now in
    let old = p (slice_index_or now turn c.index-shares-turn.result) in
    let popped = c.in-Some.ensures.items in
    let place : c.len-place.result ≡ length (map (λ h. h.items) rest) = (let m = length-map rest (λ h. h.items) in omega (arith, c.len-place.ensures, c.pop.new.self.ok.0, m)) in
    let long = ap length popped ∙ length-append rest (head ∷ []) in
    record {
      dealt = dealing_next p (map (λ h. h.items) c.args.heads.items) (map (λ h. h.items) c.loop-head.heads.items) (map (λ h. h.items) rest) head.items olds now c.hand.new.share
          c.index-shares-turn.result turn c.requires.some c.loop-head.auto.shares (ap (map (λ h. h.items)) popped ∙ map-append (λ h. h.items) rest (head ∷ []))
          (ap (λ k. k % length now) place ∙ ap (λ n. length (map (λ h. h.items) rest) % n) c.loop-head.auto.shares) inv.dealt
          (c.in_ok-hand.ensures.handed ∙ ap (λ t. record old { tasks = t ∷ old.tasks })
          (task_same c.len-place.result (length (map (λ h. h.items) rest)) (left line) (Some head.items) (told line) (Some []) place c.in_ok-line.ensures.fresh.0 c.in_ok-line.ensures.fresh.1));
      out = omega (arith, c.in_ok-line.ensures.out, inv.out, long);
      back = c.in_ok-line.ensures.back ∙ inv.back;
    }

pub returns-clause-dealt : goal.returns-clause-dealt
returns-clause-dealt g c =
    let p = part_by g.B.Line.Source.left g.B.Line.Sink.told in
    let empty : length c.loop-head.heads.items ≡ 0 = search rules in
    dealing_done p (map (λ h. h.items) c.args.heads.items) (map (λ h. h.items) c.loop-head.heads.items) c.args.shares.now c.loop-head.shares
    (ap (map (λ h. h.items)) (nil_from_length c.loop-head.heads.items empty)) c.loop-head.invariant.dealt
