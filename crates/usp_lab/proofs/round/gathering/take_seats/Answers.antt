use Rattle.std.proofs.Common.{refl, sym, ap, ◌∙◌, ◌≡◌, ◌∷◌, [], ◌++◌, length, append_assoc, rules, arith}
use Rattle.std.proofs.Math.Seq.{map-set_same}
use Rattle.usp_lab.specs.Tables.{shared_of}
use Rattle.usp_lab.proofs.Rounds.Taking.{id_of_popped, same_tables, tables_many, taken_next}
use Rattle.usp_lab.proofs.round.gathering.take_seats.Goals as goal

pub take_back-requires : goal.take_back-requires
take_back-requires c =
    let inv = c.loop-seat.invariant in
    let at : c.len-edge.result ≡ length c.pop.new.self.items = omega (arith, c.len-edge.ensures, c.pop.new.self.ok.0) in
    id_of_popped c.loop-seat.tables c.args.seats.now.items c.loop-seat.seats.items c.pop.new.self.items inv.more.0 c.in-Some.seat c.index-tables-edge.result c.len-edge.result
    inv.more.1 c.in-Some.ensures.items at (c.requires ∙ sym (same_tables c.args.tables.now c.loop-seat.tables inv.shared))

pub loop-seat-preserved : goal.loop-seat-preserved
loop-seat-preserved c =
    let inv = c.loop-seat.invariant in
    let rest = c.pop.new.self.items in
    let seat = c.in-Some.seat in
    let at : c.len-edge.result ≡ length rest = omega (arith, c.len-edge.ensures, c.pop.new.self.ok.0) in
    record {
      more = (seat ∷ inv.more.0, inv.more.1 ∙ (ap (λ l. l ++ inv.more.0) c.in-Some.ensures.items ∙ append_assoc rest (seat ∷ []) inv.more.0));
      shared = map-set_same shared_of c.loop-seat.tables c.len-edge.result c.take_back.new.self c.index-tables-edge.result c.take_back.ensures.shared ∙ inv.shared;
      taken = taken_next c.args.tables.now c.loop-seat.tables c.args.seats.now.items c.loop-seat.seats.items rest inv.more.0 seat c.take_back.new.self c.index-tables-edge.result c.len-edge.result
          inv.more.1 c.in-Some.ensures.items at c.loop-seat.auto.tables (tables_many c.args.seats.now.items c.args.tables.now c.requires) inv.taken c.take_back.ensures.seat;
    }

pub returns-clause-taken : goal.returns-clause-taken
returns-clause-taken c = λ edge d e lt.
    let empty : length c.loop-seat.seats.items ≡ 0 = search rules in
    c.loop-seat.invariant.taken.taken edge d e (omega (arith, empty)) lt
