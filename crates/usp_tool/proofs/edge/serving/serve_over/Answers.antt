use Rattle.std.proofs.Common.{refl, sym, ap, ◌∙◌, subst, ◌≡◌, ◌-◌, ◌*◌, [], None, Some, length, map, le_refl}
use Rattle.usp_nonce.specs.History.{IsLegal}
use Rattle.usp_edge.specs.declared.limits.TheConstants.{MAX_HEADS}
use Rattle.usp_shared.specs.Seats.{Seated}
use Rattle.usp_tool.specs.Edge.Desks.{desk_by, seat_at, with_seat}
use Rattle.usp_tool.specs.Edge.Workers.{IsReady, OneHistory}
use Rattle.usp_tool.proofs.Serving.Giving.{all_made}
use Rattle.usp_tool.proofs.Serving.Parting.{few_calls, left_of_whole}
use Rattle.usp_tool.proofs.Serving.Together.{its_tables, one_history, whole_share, worked_all}
use Rattle.usp_tool.proofs.edge.serving.serve_over.Goals as goal

pub serve_workers-requires-clause-ready : goal.serve_workers-requires-clause-ready
serve_workers-requires-clause-ready g c κs within =
    all_made (λ w. IsReady c.args.table.table c.args.service.now.most w.shift.seat) _ c.args.workers.now c.give_seats.new.workers c.give_seats.ensures.given
    (λ w. record { given = _; is = refl; of_table = ap (λ s. s.table) c.requires.seat; enough = le_refl (MAX_HEADS * c.args.service.now.most) })

pub close_edge-requires-clause-seats : goal.close_edge-requires-clause-seats
close_edge-requires-clause-seats g c =
    let desk = desk_by g.D.Door.coming g.D.Door.given_back g.D.Door.lines_out g.D.Door.door_count g.C.Clock.given g.O.Objects.objects g.O.Objects.object_count in
    let part = MAX_HEADS * c.args.service.now.most in
    let first : Seated = record { table = c.args.seat.table; seen = c.args.seat.seen; places = []; left = part } in
    let conf = c.args.service.now.edge.conf.now in
    let most = c.args.service.now.most in
    let olds = c.args.workers.now in
    let mid = c.give_seats.new.workers in
    let afters = c.serve_workers.new.workers in
    let worked = worked_all desk seat_at (with_seat (Some first)) (with_seat None) first (λ w. refl) (λ w. refl) (λ w. refl) conf most olds mid afters c.give_seats.ensures.given
    c.serve_workers.auto.workers c.serve_workers.ensures in
    its_tables desk seat_at (with_seat (Some first)) (with_seat None) first (λ w. refl) (λ w. refl) (λ w. refl) conf most olds afters worked c.args.table.table (ap (λ (s : Seated). s.table) c.requires.seat)

pub close_edge-requires-clause-whole : goal.close_edge-requires-clause-whole
close_edge-requires-clause-whole g c = λ final taken.
    let desk = desk_by g.D.Door.coming g.D.Door.given_back g.D.Door.lines_out g.D.Door.door_count g.C.Clock.given g.O.Objects.objects g.O.Objects.object_count in
    let part = MAX_HEADS * c.args.service.now.most in
    let first : Seated = record { table = c.args.seat.table; seen = c.args.seat.seen; places = []; left = part } in
    let conf = c.args.service.now.edge.conf.now in
    let most = c.args.service.now.most in
    let olds = c.args.workers.now in
    let mid = c.give_seats.new.workers in
    let afters = c.serve_workers.new.workers in
    let worked = worked_all desk seat_at (with_seat (Some first)) (with_seat None) first (λ w. refl) (λ w. refl) (λ w. refl) conf most olds mid afters c.give_seats.ensures.given
    c.serve_workers.auto.workers c.serve_workers.ensures in
    let begun = c.give_seats.new.seat in
    let fresh : begun.places ≡ [] = ap (λ (s : Seated). s.places) c.give_seats.ensures.kept ∙ ap (λ (s : Seated). s.places) c.requires.seat in
    let parted : begun.left ≡ c.args.table.share - length olds * part =
    ap (λ (s : Seated). s.left) c.give_seats.ensures.kept ∙ ap (λ k. k - length olds * part) (ap (λ (s : Seated). s.left) c.requires.seat) in
    let kept = left_of_whole begun.left c.args.table.share (length olds * part) parted (sym c.requires.share) in
    whole_share desk seat_at (with_seat (Some first)) (with_seat None) first (λ w. refl) (λ w. refl) (λ w. refl) conf most olds afters worked refl begun final taken fresh c.args.table.share kept

pub returns-clause-served : goal.returns-clause-served
returns-clause-served g c =
    let desk = desk_by g.D.Door.coming g.D.Door.given_back g.D.Door.lines_out g.D.Door.door_count g.C.Clock.given g.O.Objects.objects g.O.Objects.object_count in
    let part = MAX_HEADS * c.args.service.now.most in
    let first : Seated = record { table = c.args.seat.table; seen = c.args.seat.seen; places = []; left = part } in
    let conf = c.args.service.now.edge.conf.now in
    let most = c.args.service.now.most in
    let olds = c.args.workers.now in
    let mid = c.give_seats.new.workers in
    let afters = c.serve_workers.new.workers in
    let worked = worked_all desk seat_at (with_seat (Some first)) (with_seat None) first (λ w. refl) (λ w. refl) (λ w. refl) conf most olds mid afters c.give_seats.ensures.given
    c.serve_workers.auto.workers c.serve_workers.ensures in
    let begun = c.give_seats.new.seat in
    let fresh : begun.places ≡ [] = ap (λ (s : Seated). s.places) c.give_seats.ensures.kept ∙ ap (λ (s : Seated). s.places) c.requires.seat in
    let closed = c.close_edge.ensures.closed in
    subst (λ ws. OneHistory conf most c.close_edge.result.calls (map desk olds) (map desk ws)) (sym c.close_edge.ensures.rest)
    (one_history desk seat_at (with_seat (Some first)) (with_seat None) first (λ w. refl) (λ w. refl) (λ w. refl) conf most olds afters worked refl begun closed.0 closed.1 fresh c.close_edge.result.calls
    (subst (λ r. IsLegal r closed.0.seen) c.requires.room closed.3) (sym closed.2.calls) closed.4)

pub returns-clause-few : goal.returns-clause-few
returns-clause-few g c =
    let desk = desk_by g.D.Door.coming g.D.Door.given_back g.D.Door.lines_out g.D.Door.door_count g.C.Clock.given g.O.Objects.objects g.O.Objects.object_count in
    let part = MAX_HEADS * c.args.service.now.most in
    let first : Seated = record { table = c.args.seat.table; seen = c.args.seat.seen; places = []; left = part } in
    let conf = c.args.service.now.edge.conf.now in
    let most = c.args.service.now.most in
    let olds = c.args.workers.now in
    let mid = c.give_seats.new.workers in
    let afters = c.serve_workers.new.workers in
    let worked = worked_all desk seat_at (with_seat (Some first)) (with_seat None) first (λ w. refl) (λ w. refl) (λ w. refl) conf most olds mid afters c.give_seats.ensures.given
    c.serve_workers.auto.workers c.serve_workers.ensures in
    let begun = c.give_seats.new.seat in
    let fresh : begun.places ≡ [] = ap (λ (s : Seated). s.places) c.give_seats.ensures.kept ∙ ap (λ (s : Seated). s.places) c.requires.seat in
    let parted : begun.left ≡ c.args.table.share - length olds * part =
    ap (λ (s : Seated). s.left) c.give_seats.ensures.kept ∙ ap (λ k. k - length olds * part) (ap (λ (s : Seated). s.left) c.requires.seat) in
    let kept = left_of_whole begun.left c.args.table.share (length olds * part) parted (sym c.requires.share) in
    let closed = c.close_edge.ensures.closed in
    few_calls c.close_edge.result.calls (length closed.0.seen) (length closed.0.places) closed.0.left c.args.table.share closed.2.calls closed.5
    (whole_share desk seat_at (with_seat (Some first)) (with_seat None) first (λ w. refl) (λ w. refl) (λ w. refl) conf most olds afters worked refl begun closed.0 closed.1 fresh c.args.table.share kept)
