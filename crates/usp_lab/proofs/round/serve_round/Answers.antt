use Rattle.std.proofs.Common.{refl, sym, ap, subst, ◌∙◌, ◌≡◌, ◌+◌, ◌*◌, ◌≤◌, ◌<◌, ℕ, true, min, max, List, length, map, All, rules, arith}
use Rattle.std.specs.Prelude.{slice_index_or}
use Rattle.std.proofs.lemmas.List.{length-map}
use Rattle.std.proofs.lemmas.Result.{IfOk-weaker, on_ok_weaker}
use Rattle.usp_edge.specs.declared.limits.TheConstants.{MAX_HEADS}
use Rattle.usp_lab.specs.Benches.{append_used}
use Rattle.usp_lab.specs.Jobs.{tasks_from, used_of}
use Rattle.usp_lab.specs.Shares.{HasWorked, IsFreshPart, part_by, share_of, table_of}
use Rattle.usp_lab.specs.Tables.{part_at, tables_of}
use Rattle.usp_lab.specs.declared.round.share.Share.{Share}
use Rattle.usp_lab.proofs.Rounds.Final.{deeds_parted, long_deeds, room_all, round_deeds, serves, whole_all}
use Rattle.usp_lab.proofs.Rounds.Holding.{from_first, heads_many, own_from, ready_all, tasks_many}
use Rattle.usp_lab.proofs.Rounds.Overall.{ids_worked, ready_dealt}
use Rattle.usp_lab.proofs.Rounds.Rounding.{count_is, parts_fit}
use Rattle.usp_lab.proofs.Rounds.Taking.{same_tables}
use Rattle.usp_lab.proofs.round.serve_round.Goals as goal

pub make_shares-requires : goal.make_shares-requires
make_shares-requires g c =
    let asks = c.args.asks.now in
    let n = length asks in
    let workers = c.args.crew.now.workers in
    let count = c.max-count.result in
    let count_eq : count ≡ max (min workers n) 1 = search rules in
    let some : 0 < count = omega (arith, count_eq) in
    let le : count ≤ workers = omega (arith, count_eq, c.requires.workers.0) in
    let part = MAX_HEADS * n in
    parts_fit count part n c.args.tables.now (omega (arith, le, c.requires.workers.1)) refl c.requires.room

pub serve_shares-requires-clause-ready : goal.serve_shares-requires-clause-ready
serve_shares-requires-clause-ready g c κs within =
    let asks = c.args.asks.now in
    let n = length asks in
    let workers = c.args.crew.now.workers in
    let count = c.max-count.result in
    let count_eq : count ≡ max (min workers n) 1 = search rules in
    let some : 0 < count = omega (arith, count_eq) in
    let le : count ≤ workers = omega (arith, count_eq, c.requires.workers.0) in
    let part = MAX_HEADS * n in
    let left = g.B.Line.Source.left in
    let told = g.B.Line.Sink.told in
    let script = c.args.crew.now.script.now in
    let tables = c.args.tables.now in
    let lent = c.make_shares.new.tables in
    let heads = map (λ head. head.items) c.args.heads.items in
    let tasks = tasks_from 0 heads in
    let fresh = c.as_mut_slice-shares.result.now in
    let v1 = c.as_mut_slice-shares.ensures.value in
    let many : length fresh ≡ count = ap length v1 ∙ c.in_ok-made.ensures.count in
    let fresh_is : All (λ (share : Share g.row.B-Line.Denot). IsFreshPart (map (part_at part) tables) (part_by left told share)) fresh =
    subst (All (λ (share : Share g.row.B-Line.Denot). IsFreshPart (map (part_at part) tables) (part_by left told share))) (sym v1) c.in_ok-made.ensures.fresh in
    let all_ids = subst (All (λ (share : Share g.row.B-Line.Denot). map table_of share.seats.items ≡ tables_of tables)) (sym v1) c.in_ok-made.ensures.tables in
    let ids : All (λ (share : Share g.row.B-Line.Denot). map table_of share.seats.items ≡ tables_of lent) fresh =
    (λ w d lt. all_ids w d lt ∙ sym (same_tables tables lent c.make_shares.ensures.shared)) in
    let dealt = c.deal.new.shares in
    let v2 = refl in
    let same : length dealt ≡ length fresh = ap length v2 ∙ c.deal.auto.shares in
    let dealt_is = subst (λ l. (w : ℕ) (d : Share g.row.B-Line.Denot) → w < length fresh → part_by left told (slice_index_or l w d)
    ≡ record (part_by left told (slice_index_or fresh w d)) { tasks = share_of (length fresh) 0 w tasks }) (sym v2) c.in_ok-deal.ensures.dealt in
    let own = own_from script c.requires.heads.0 asks 0 asks heads (from_first asks) c.requires.heads.1 in
    let long = tasks_many 0 heads ∙ heads_many script c.requires.heads.0 asks heads c.requires.heads.1 in
    ready_dealt left told script asks count part tables tasks fresh dealt many same fresh_is dealt_is (tables_of lent) ids (ready_all script c.requires.heads.0 asks tasks c.requires.asks own)
    (omega (arith, long))

pub join_shares-requires : goal.join_shares-requires
join_shares-requires g c =
    let asks = c.args.asks.now in
    let n = length asks in
    let workers = c.args.crew.now.workers in
    let count = c.max-count.result in
    let count_eq : count ≡ max (min workers n) 1 = search rules in
    let some : 0 < count = omega (arith, count_eq) in
    let le : count ≤ workers = omega (arith, count_eq, c.requires.workers.0) in
    let part = MAX_HEADS * n in
    let left = g.B.Line.Source.left in
    let told = g.B.Line.Sink.told in
    let script = c.args.crew.now.script.now in
    let tables = c.args.tables.now in
    let lent = c.make_shares.new.tables in
    let heads = map (λ head. head.items) c.args.heads.items in
    let tasks = tasks_from 0 heads in
    let fresh = c.as_mut_slice-shares.result.now in
    let v1 = c.as_mut_slice-shares.ensures.value in
    let many : length fresh ≡ count = ap length v1 ∙ c.in_ok-made.ensures.count in
    let fresh_is : All (λ (share : Share g.row.B-Line.Denot). IsFreshPart (map (part_at part) tables) (part_by left told share)) fresh =
    subst (All (λ (share : Share g.row.B-Line.Denot). IsFreshPart (map (part_at part) tables) (part_by left told share))) (sym v1) c.in_ok-made.ensures.fresh in
    let all_ids = subst (All (λ (share : Share g.row.B-Line.Denot). map table_of share.seats.items ≡ tables_of tables)) (sym v1) c.in_ok-made.ensures.tables in
    let ids : All (λ (share : Share g.row.B-Line.Denot). map table_of share.seats.items ≡ tables_of lent) fresh =
    (λ w d lt. all_ids w d lt ∙ sym (same_tables tables lent c.make_shares.ensures.shared)) in
    let dealt = c.deal.new.shares in
    let v2 = refl in
    let same : length dealt ≡ length fresh = ap length v2 ∙ c.deal.auto.shares in
    let dealt_is = subst (λ l. (w : ℕ) (d : Share g.row.B-Line.Denot) → w < length fresh → part_by left told (slice_index_or l w d)
    ≡ record (part_by left told (slice_index_or fresh w d)) { tasks = share_of (length fresh) 0 w tasks }) (sym v2) c.in_ok-deal.ensures.dealt in
    let worked = c.serve_shares.new.shares in
    let v3 = refl in
    let also : length worked ≡ length dealt = ap length v3 ∙ c.serve_shares.auto.shares in
    let works = subst (λ l. (w : ℕ) (d : Share g.row.B-Line.Denot) → w < length dealt → HasWorked script asks (part_by left told (slice_index_or dealt w d)) (part_by left told (slice_index_or l w d)))
    (sym v3) c.in_ok-serve_shares.ensures in
    ids_worked left told script asks count part tables tasks fresh dealt many same fresh_is dealt_is worked also works (tables_of lent) ids

pub gather-requires-clause-out : goal.gather-requires-clause-out
gather-requires-clause-out g c =
    let long = heads_many c.args.crew.now.script.now c.requires.heads.0 c.args.asks.now (map (λ head. head.items) c.args.heads.items) c.requires.heads.1 in
    let m = length-map c.args.heads.items (λ head. head.items) in
    omega (arith, c.in_ok-deal.ensures.out, long, m)

pub returns-clause-served : goal.returns-clause-served
returns-clause-served g c =
    let asks = c.args.asks.now in
    let n = length asks in
    let workers = c.args.crew.now.workers in
    let count = c.max-count.result in
    let count_eq : count ≡ max (min workers n) 1 = search rules in
    let some : 0 < count = omega (arith, count_eq) in
    let le : count ≤ workers = omega (arith, count_eq, c.requires.workers.0) in
    let part = MAX_HEADS * n in
    let left = g.B.Line.Source.left in
    let told = g.B.Line.Sink.told in
    let script = c.args.crew.now.script.now in
    let tables = c.args.tables.now in
    let lent = c.make_shares.new.tables in
    let heads = map (λ head. head.items) c.args.heads.items in
    let tasks = tasks_from 0 heads in
    let fresh = c.as_mut_slice-shares.result.now in
    let v1 = c.as_mut_slice-shares.ensures.value in
    let many : length fresh ≡ count = ap length v1 ∙ c.in_ok-made.ensures.count in
    let fresh_is : All (λ (share : Share g.row.B-Line.Denot). IsFreshPart (map (part_at part) tables) (part_by left told share)) fresh =
    subst (All (λ (share : Share g.row.B-Line.Denot). IsFreshPart (map (part_at part) tables) (part_by left told share))) (sym v1) c.in_ok-made.ensures.fresh in
    let all_ids = subst (All (λ (share : Share g.row.B-Line.Denot). map table_of share.seats.items ≡ tables_of tables)) (sym v1) c.in_ok-made.ensures.tables in
    let ids : All (λ (share : Share g.row.B-Line.Denot). map table_of share.seats.items ≡ tables_of lent) fresh =
    (λ w d lt. all_ids w d lt ∙ sym (same_tables tables lent c.make_shares.ensures.shared)) in
    let dealt = c.deal.new.shares in
    let v2 = refl in
    let same : length dealt ≡ length fresh = ap length v2 ∙ c.deal.auto.shares in
    let dealt_is = subst (λ l. (w : ℕ) (d : Share g.row.B-Line.Denot) → w < length fresh → part_by left told (slice_index_or l w d)
    ≡ record (part_by left told (slice_index_or fresh w d)) { tasks = share_of (length fresh) 0 w tasks }) (sym v2) c.in_ok-deal.ensures.dealt in
    let worked = c.serve_shares.new.shares in
    let v3 = refl in
    let also : length worked ≡ length dealt = ap length v3 ∙ c.serve_shares.auto.shares in
    let works = subst (λ l. (w : ℕ) (d : Share g.row.B-Line.Denot) → w < length dealt → HasWorked script asks (part_by left told (slice_index_or dealt w d)) (part_by left told (slice_index_or l w d)))
    (sym v3) c.in_ok-serve_shares.ensures in
    let joined = c.join_shares.new.shares in
    let are : c.are_whole.result ≡ true = search rules in
    let whole = subst (All (λ (share : Share g.row.B-Line.Denot). share.whole ≡ true)) refl (c.are_whole.ensures are) in
    let fits = parts_fit count part n tables (omega (arith, le, c.requires.workers.1)) refl c.requires.room in
    let shared = c.join_shares.ensures.shared ∙ c.make_shares.ensures.shared in
    let v4 = refl in
    IfOk-weaker c.gather.result _ _ (λ notes gathered issued known mine.
    let deeds = round_deeds left told script asks heads count part workers tables lent c.join_shares.new.tables fresh dealt worked joined some le (count_is workers n count count_eq c.requires.workers.0) many same also
    fresh_is dealt_is works c.join_shares.ensures.done c.join_shares.ensures.whole whole fits c.in_ok-made.ensures.kept c.join_shares.ensures.taken shared issued known mine in
    let so = gathered deeds (long_deeds left told script asks heads count part workers tables lent c.join_shares.new.tables fresh dealt worked joined some le (count_is workers n count count_eq c.requires.workers.0) many same also
    fresh_is dealt_is works c.join_shares.ensures.done c.join_shares.ensures.whole whole fits c.in_ok-made.ensures.kept c.join_shares.ensures.taken shared issued known mine)
    (subst (λ (l : List (Share g.row.B-Line.Denot)). (w : ℕ) (d : Share g.row.B-Line.Denot) → w < length l → (part_by left told (slice_index_or l w d)).deeds ≡ share_of (length l) 0 w deeds) (sym v4)
    (deeds_parted left told script asks heads count part workers tables lent c.join_shares.new.tables fresh dealt worked joined some le (count_is workers n count count_eq c.requires.workers.0) many same also
    fresh_is dealt_is works c.join_shares.ensures.done c.join_shares.ensures.whole whole fits c.in_ok-made.ensures.kept c.join_shares.ensures.taken shared issued known mine)) in
    serves left told script asks heads count part workers tables lent c.join_shares.new.tables fresh dealt worked joined some le (count_is workers n count count_eq c.requires.workers.0) many same also
    fresh_is dealt_is works c.join_shares.ensures.done c.join_shares.ensures.whole whole fits c.in_ok-made.ensures.kept c.join_shares.ensures.taken shared issued known mine notes.items (g.B.Bench.given_back c.args.bench.now) (g.B.Bench.given_back c.gather.new.bench) so.0
    (so.1 ∙ ap (λ k. append_used k (map used_of deeds)) c.in_ok-deal.ensures.back)) c.gather.ensures.gathered

pub returns-clause-room : goal.returns-clause-room
returns-clause-room g c =
    let asks = c.args.asks.now in
    let n = length asks in
    let workers = c.args.crew.now.workers in
    let count = c.max-count.result in
    let count_eq : count ≡ max (min workers n) 1 = search rules in
    let some : 0 < count = omega (arith, count_eq) in
    let le : count ≤ workers = omega (arith, count_eq, c.requires.workers.0) in
    let part = MAX_HEADS * n in
    let left = g.B.Line.Source.left in
    let told = g.B.Line.Sink.told in
    let script = c.args.crew.now.script.now in
    let tables = c.args.tables.now in
    let lent = c.make_shares.new.tables in
    let heads = map (λ head. head.items) c.args.heads.items in
    let tasks = tasks_from 0 heads in
    let fresh = c.as_mut_slice-shares.result.now in
    let v1 = c.as_mut_slice-shares.ensures.value in
    let many : length fresh ≡ count = ap length v1 ∙ c.in_ok-made.ensures.count in
    let fresh_is : All (λ (share : Share g.row.B-Line.Denot). IsFreshPart (map (part_at part) tables) (part_by left told share)) fresh =
    subst (All (λ (share : Share g.row.B-Line.Denot). IsFreshPart (map (part_at part) tables) (part_by left told share))) (sym v1) c.in_ok-made.ensures.fresh in
    let all_ids = subst (All (λ (share : Share g.row.B-Line.Denot). map table_of share.seats.items ≡ tables_of tables)) (sym v1) c.in_ok-made.ensures.tables in
    let ids : All (λ (share : Share g.row.B-Line.Denot). map table_of share.seats.items ≡ tables_of lent) fresh =
    (λ w d lt. all_ids w d lt ∙ sym (same_tables tables lent c.make_shares.ensures.shared)) in
    let dealt = c.deal.new.shares in
    let v2 = refl in
    let same : length dealt ≡ length fresh = ap length v2 ∙ c.deal.auto.shares in
    let dealt_is = subst (λ l. (w : ℕ) (d : Share g.row.B-Line.Denot) → w < length fresh → part_by left told (slice_index_or l w d)
    ≡ record (part_by left told (slice_index_or fresh w d)) { tasks = share_of (length fresh) 0 w tasks }) (sym v2) c.in_ok-deal.ensures.dealt in
    let worked = c.serve_shares.new.shares in
    let v3 = refl in
    let also : length worked ≡ length dealt = ap length v3 ∙ c.serve_shares.auto.shares in
    let works = subst (λ l. (w : ℕ) (d : Share g.row.B-Line.Denot) → w < length dealt → HasWorked script asks (part_by left told (slice_index_or dealt w d)) (part_by left told (slice_index_or l w d)))
    (sym v3) c.in_ok-serve_shares.ensures in
    let joined = c.join_shares.new.shares in
    let are : c.are_whole.result ≡ true = search rules in
    let whole = subst (All (λ (share : Share g.row.B-Line.Denot). share.whole ≡ true)) refl (c.are_whole.ensures are) in
    let fits = parts_fit count part n tables (omega (arith, le, c.requires.workers.1)) refl c.requires.room in
    let shared = c.join_shares.ensures.shared ∙ c.make_shares.ensures.shared in
    on_ok_weaker c.gather.result (λ is. room_all left told script asks heads count part workers tables lent c.join_shares.new.tables fresh dealt worked joined some le (count_is workers n count count_eq c.requires.workers.0) many same also
    fresh_is dealt_is works c.join_shares.ensures.done c.join_shares.ensures.whole whole fits c.in_ok-made.ensures.kept c.join_shares.ensures.taken shared c.requires.heads.0 0 c.requires.heads.1) c.gather.ensures.out

pub returns-clause-whole : goal.returns-clause-whole
returns-clause-whole g c =
    let asks = c.args.asks.now in
    let n = length asks in
    let workers = c.args.crew.now.workers in
    let count = c.max-count.result in
    let count_eq : count ≡ max (min workers n) 1 = search rules in
    let some : 0 < count = omega (arith, count_eq) in
    let le : count ≤ workers = omega (arith, count_eq, c.requires.workers.0) in
    let part = MAX_HEADS * n in
    let left = g.B.Line.Source.left in
    let told = g.B.Line.Sink.told in
    let script = c.args.crew.now.script.now in
    let tables = c.args.tables.now in
    let lent = c.make_shares.new.tables in
    let heads = map (λ head. head.items) c.args.heads.items in
    let tasks = tasks_from 0 heads in
    let fresh = c.as_mut_slice-shares.result.now in
    let v1 = c.as_mut_slice-shares.ensures.value in
    let many : length fresh ≡ count = ap length v1 ∙ c.in_ok-made.ensures.count in
    let fresh_is : All (λ (share : Share g.row.B-Line.Denot). IsFreshPart (map (part_at part) tables) (part_by left told share)) fresh =
    subst (All (λ (share : Share g.row.B-Line.Denot). IsFreshPart (map (part_at part) tables) (part_by left told share))) (sym v1) c.in_ok-made.ensures.fresh in
    let all_ids = subst (All (λ (share : Share g.row.B-Line.Denot). map table_of share.seats.items ≡ tables_of tables)) (sym v1) c.in_ok-made.ensures.tables in
    let ids : All (λ (share : Share g.row.B-Line.Denot). map table_of share.seats.items ≡ tables_of lent) fresh =
    (λ w d lt. all_ids w d lt ∙ sym (same_tables tables lent c.make_shares.ensures.shared)) in
    let dealt = c.deal.new.shares in
    let v2 = refl in
    let same : length dealt ≡ length fresh = ap length v2 ∙ c.deal.auto.shares in
    let dealt_is = subst (λ l. (w : ℕ) (d : Share g.row.B-Line.Denot) → w < length fresh → part_by left told (slice_index_or l w d)
    ≡ record (part_by left told (slice_index_or fresh w d)) { tasks = share_of (length fresh) 0 w tasks }) (sym v2) c.in_ok-deal.ensures.dealt in
    let worked = c.serve_shares.new.shares in
    let v3 = refl in
    let also : length worked ≡ length dealt = ap length v3 ∙ c.serve_shares.auto.shares in
    let works = subst (λ l. (w : ℕ) (d : Share g.row.B-Line.Denot) → w < length dealt → HasWorked script asks (part_by left told (slice_index_or dealt w d)) (part_by left told (slice_index_or l w d)))
    (sym v3) c.in_ok-serve_shares.ensures in
    let joined = c.join_shares.new.shares in
    let are : c.are_whole.result ≡ true = search rules in
    let whole = subst (All (λ (share : Share g.row.B-Line.Denot). share.whole ≡ true)) refl (c.are_whole.ensures are) in
    let fits = parts_fit count part n tables (omega (arith, le, c.requires.workers.1)) refl c.requires.room in
    let shared = c.join_shares.ensures.shared ∙ c.make_shares.ensures.shared in
    on_ok_weaker c.gather.result (λ is. whole_all left told script asks heads count part workers tables lent c.join_shares.new.tables fresh dealt worked joined some le (count_is workers n count count_eq c.requires.workers.0) many same also
    fresh_is dealt_is works c.join_shares.ensures.done c.join_shares.ensures.whole whole fits c.in_ok-made.ensures.kept c.join_shares.ensures.taken shared c.requires.heads.0 0 c.requires.heads.1) c.gather.ensures.out

pub returns-clause-out : goal.returns-clause-out
returns-clause-out g c =
    let long = heads_many c.args.crew.now.script.now c.requires.heads.0 c.args.asks.now (map (λ head. head.items) c.args.heads.items) c.requires.heads.1 in
    let m = length-map c.args.heads.items (λ head. head.items) in
    on_ok_weaker c.gather.result (λ is. omega (arith, is, c.in_ok-deal.ensures.out, long, m)) c.gather.ensures.out
