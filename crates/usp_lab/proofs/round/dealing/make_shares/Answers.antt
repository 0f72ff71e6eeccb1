use Rattle.std.proofs.Common.{refl, sym, ap, subst, ◌∙◌, ◌≡◌, ◌+◌, ◌*◌, ◌∷◌, [], length, map, length-append, All, arith}
use Rattle.std.proofs.lemmas.List.Elements.{All-nil, All-push}
use Rattle.usp_lab.specs.Jobs.{deed_by, task_by}
use Rattle.usp_lab.specs.Shares.{IsFreshPart, part_by, table_of}
use Rattle.usp_lab.specs.declared.round.share.Share.{Share}
use Rattle.usp_lab.specs.Tables.{lent, part_at, shared_of, tables_of}
use Rattle.usp_lab.proofs.Rounds.Handing.{fresh_by}
use Rattle.usp_lab.proofs.Rounds.Lending.{lent_more, lent_none, more_parts, part_lent, parts_left, shared_lent}
use Rattle.usp_lab.proofs.Rounds.Taking.{same_tables}
use Rattle.usp_lab.proofs.round.dealing.make_shares.Goals as goal

pub shares-init : goal.shares-init
shares-init g c =
    let tables = c.args.tables.now in
    let P = λ (share : Share g.row.L.Denot). IsFreshPart (map (part_at c.args.part) tables) (part_by g.L.Source.left g.L.Sink.told share) in
    let Q = λ (share : Share g.row.L.Denot). map table_of share.seats.items ≡ tables_of tables in
    record {
      count = ap length c.in_ok-shares.ensures.items;
      fresh = subst (All P) (sym c.in_ok-shares.ensures.items) (All-nil P);
      tables = subst (All Q) (sym c.in_ok-shares.ensures.items) (All-nil Q);
      kept = lent_none tables ∙ ap (λ n. map (lent n) tables) (let e : 0 ≡ 0 * c.args.part = omega arith in e);
    }

pub lend_seats-requires : goal.lend_seats-requires
lend_seats-requires g c = parts_left c.shares.counter c.args.count c.args.part c.args.tables.now c.shares.tables c.shares.invariant.kept c.shares-test.true c.requires

pub shares-preserved : goal.shares-preserved
shares-preserved g c =
    let left = g.L.Source.left in
    let told = g.L.Sink.told in
    let tables = c.args.tables.now in
    let part = c.args.part in
    let k = c.shares.counter in
    let inv = c.shares.invariant in
    let xs = c.shares.shares.items in
    let P = λ (share : Share g.row.L.Denot). IsFreshPart (map (part_at part) tables) (part_by left told share) in
    let Q = λ (share : Share g.row.L.Denot). map table_of share.seats.items ≡ tables_of tables in
    let items = c.in_ok-push.ensures.items in
    let long = ap length items ∙ length-append xs _ in
    let seats = c.in_ok-lend_seats.ensures.seats ∙ (ap (map (part_at part)) inv.kept ∙ part_lent part (k * part) tables) in
    let fresh = fresh_by (map (task_by left told) c.new.result.items) (map (deed_by left told) c.new-in-shares.result.items) c.in_ok-lend_seats.field-0.items (map (part_at part) tables)
    (ap (map (task_by left told)) c.new.ensures.items) (ap (map (deed_by left told)) c.new-in-shares.ensures.items) seats in
    let ids = c.in_ok-lend_seats.ensures.tables ∙ same_tables tables c.shares.tables (ap (map shared_of) inv.kept ∙ shared_lent (k * part) tables) in
    record {
      count = omega (arith, long, inv.count);
      fresh = subst (All P) (sym items) (All-push P xs _ inv.fresh fresh);
      tables = subst (All Q) (sym items) (All-push Q xs _ inv.tables ids);
      kept = c.in_ok-lend_seats.ensures.kept ∙ (ap (map (lent part)) inv.kept ∙ (lent_more (k * part) part tables ∙ ap (λ n. map (lent n) tables) (more_parts k part)));
    }

pub returns-in_err-lend_seats-clause-shared : goal.returns-in_err-lend_seats-clause-shared
returns-in_err-lend_seats-clause-shared g c =
    c.lend_seats.ensures.shared ∙ (ap (map shared_of) c.shares.invariant.kept ∙ shared_lent (c.shares.counter * c.args.part) c.args.tables.now)

pub returns-in_err-push-clause-shared : goal.returns-in_err-push-clause-shared
returns-in_err-push-clause-shared g c =
    c.lend_seats.ensures.shared ∙ (ap (map shared_of) c.shares.invariant.kept ∙ shared_lent (c.shares.counter * c.args.part) c.args.tables.now)

pub returns-clause-shared : goal.returns-clause-shared
returns-clause-shared g c = ap (map shared_of) c.shares.invariant.kept ∙ shared_lent (c.shares.counter * c.args.part) c.args.tables.now
