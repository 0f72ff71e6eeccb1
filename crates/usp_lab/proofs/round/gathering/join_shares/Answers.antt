use Rattle.std.proofs.Common.{refl, sym, ap, subst, ◌∙◌, ◌≡◌, ◌+◌, length, map, arith}
use Rattle.std.specs.Prelude.{slice_index_or}
use Rattle.std.proofs.Math.Seq.{map-set_same}
use Rattle.std.proofs.lemmas.List.{get_or-set_other}
use Rattle.usp_lab.specs.Shares.{TakenIn, seat_in, table_of}
use Rattle.usp_lab.proofs.Rounds.Lending.{all_taken}
use Rattle.usp_lab.proofs.Rounds.Taking.{joined_next, none_joined, same_tables}
use Rattle.usp_lab.proofs.round.gathering.join_shares.Goals as goal

pub shares-init : goal.shares-init
shares-init g c = record {
  shared = refl;
  taken = λ edge d e lt. none_joined (slice_index_or c.args.tables.now edge d).seat;
  done = refl;
  whole = refl;
  ahead = λ w d le. refl;
}

pub take_seats-requires : goal.take_seats-requires
take_seats-requires g c =
    let i = c.shares.share-index in
    let d = c.share-item.result in
    ap (λ share. map table_of share.seats.items) (c.shares.invariant.ahead i d (omega arith))
    ∙ (c.requires i d c.shares-test.true ∙ sym (same_tables c.args.tables.now c.shares.tables c.shares.invariant.shared))

pub shares-preserved : goal.shares-preserved
shares-preserved g c =
    let i = c.shares.share-index in
    let now = c.shares.shares in
    let xs = c.args.shares.now in
    let d = c.share-item.result in
    let inv = c.shares.invariant in
    record {
      shared = c.take_seats.ensures.shared ∙ inv.shared;
      taken = λ edge t e lt. joined_next (seat_in {L = g.row.L.Denot} edge e) xs now i d (slice_index_or c.args.tables.now edge t).seat (slice_index_or c.shares.tables edge t).seat
          (slice_index_or c.take_seats.new.tables edge t).seat c.shares-test.true (inv.ahead i d (omega arith)) (inv.taken edge t e lt)
          (c.take_seats.ensures.taken edge t e (omega (arith, lt, c.shares.auto.tables)));
      done = map-set_same (λ share. share.done) now i _ d refl ∙ inv.done;
      whole = map-set_same (λ share. share.whole) now i _ d refl ∙ inv.whole;
      ahead = λ w e le. get_or-set_other now i w _ e (λ is. absurd (omega (arith, is, le))) ∙ inv.ahead w e (omega (arith, le));
    }

pub returns-clause-taken : goal.returns-clause-taken
returns-clause-taken g c = λ edge d e lt.
    subst (λ l. TakenIn (slice_index_or c.args.tables.now edge d).seat (map (seat_in {L = g.row.L.Denot} edge e) l) (slice_index_or c.shares.tables edge d).seat)
    (all_taken c.args.shares.now c.shares.share-index (omega (arith, c.shares-test.false, c.shares.auto.shares, c.shares.auto.share-index-end)))
    (c.shares.invariant.taken edge d e lt)
