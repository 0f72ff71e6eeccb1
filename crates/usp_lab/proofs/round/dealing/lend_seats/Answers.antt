use Rattle.std.proofs.Common.{refl, sym, ap, ◌∙◌, ◌+◌, ◌∷◌, [], map}
use Rattle.std.proofs.lemmas.List.{map-append}
use Rattle.usp_lab.specs.Shares.{table_of}
use Rattle.usp_lab.specs.Tables.{lent, part_at, shared_of}
use Rattle.usp_lab.proofs.Rounds.Lending.{made_next, rest_next, same_at, seen_same}
use Rattle.usp_lab.proofs.round.dealing.lend_seats.Goals as goal

pub returns-in_err-push-clause-shared : goal.returns-in_err-push-clause-shared
returns-in_err-push-clause-shared c =
    let xs = c.args.tables.now in
    let i = c.tables.table-index in
    ap (map shared_of) (rest_next (lent c.args.part) xs c.tables.tables i c.table-item.result _ c.tables-test.true c.tables.invariant.kept c.lend.ensures.kept)
    ∙ seen_same (lent c.args.part) shared_of (λ t. refl) xs (i + 1)

pub tables-preserved : goal.tables-preserved
tables-preserved c =
    let xs = c.args.tables.now in
    let now = c.tables.tables in
    let i = c.tables.table-index in
    let d = c.table-item.result in
    let same = same_at (lent c.args.part) xs now i d c.tables-test.true c.tables.invariant.kept in
    record {
      kept = rest_next (lent c.args.part) xs now i d _ c.tables-test.true c.tables.invariant.kept c.lend.ensures.kept;
      seats = c.in_ok-push.ensures.items
          ∙ made_next (part_at c.args.part) xs i d c.tables.seats.items _ c.tables-test.true c.tables.invariant.seats (c.lend.ensures.given ∙ ap (part_at c.args.part) same);
      tables = ap (map table_of) c.in_ok-push.ensures.items
          ∙ (map-append table_of c.tables.seats.items (c.lend.result ∷ [])
          ∙ made_next (λ table. table.shared.table) xs i d (map table_of c.tables.seats.items) _ c.tables-test.true c.tables.invariant.tables
          (c.lend.ensures.table ∙ ap (λ table. table.shared.table) same));
    }

pub returns-clause-shared : goal.returns-clause-shared
returns-clause-shared c =
    ap (map shared_of) c.tables.invariant.kept ∙ seen_same (lent c.args.part) shared_of (λ t. refl) c.args.tables.now c.tables.table-index
