use Rattle.std.proofs.Common.{refl, sym, ap, subst, ◌∙◌, ◌≡◌, ◌<◌, length, arith}
use Rattle.std.specs.Prelude.{slice_index_or}
use Rattle.std.proofs.Math.Seq.{map-set_same}
use Rattle.std.proofs.lemmas.Option.{get_or_from_slice_get}
use Rattle.usp_lab.specs.Asking.{HoldsHead}
use Rattle.usp_lab.specs.Rounds.{IsServed}
use Rattle.usp_lab.specs.Shares.{table_of}
use Rattle.usp_lab.specs.Tokens.{carried_token}
use Rattle.usp_lab.proofs.Rounds.Taking.{told_at, told_many}
use Rattle.usp_lab.proofs.Rounds.Working.{gain_one}
use Rattle.usp_lab.proofs.round.duty.RoundDuty.serve_job.Goals as goal

pub serve_over-requires-clause-table : goal.serve_over-requires-clause-table
serve_over-requires-clause-table g c = λ d.
    let ask = slice_index_or c.args.self.now.asks.now c.args.job.place c.index-self-place.result in
    let own = c.requires.ready in
    let is : ask ≡ own.ask = get_or_from_slice_get c.args.self.now.asks.now c.args.job.place own.ask c.index-self-place.result own.at in
    let edge = ap (λ a. a.edge) is in
    let many = told_many c.args.seats.now c.args.self.now.tables.now (λ nonces. nonces.now.table) c.requires.tables in
    told_at c.args.seats.now c.args.self.now.tables.now (λ nonces. nonces.now.table) c.requires.tables ask.edge c.index-seats-ask.result d (omega (arith, own.is.edge, edge, many, c.args.self.now.edges))

pub serve_over-requires-clause-left : goal.serve_over-requires-clause-left
serve_over-requires-clause-left g c =
    let ask = slice_index_or c.args.self.now.asks.now c.args.job.place c.index-self-place.result in
    let own = c.requires.ready in
    let is : ask ≡ own.ask = get_or_from_slice_get c.args.self.now.asks.now c.args.job.place own.ask c.index-self-place.result own.at in
    let edge = ap (λ a. a.edge) is in
    let many = told_many c.args.seats.now c.args.self.now.tables.now (λ nonces. nonces.now.table) c.requires.tables in
    c.requires.enough ask.edge c.index-seats-ask.result (omega (arith, own.is.edge, edge, many, c.args.self.now.edges))

pub returns-in_err-note-clause-tables : goal.returns-in_err-note-clause-tables
returns-in_err-note-clause-tables g c =
    map-set_same table_of c.args.seats.now (slice_index_or c.args.self.now.asks.now c.args.job.place c.index-self-place.result).edge c.serve_over.new.seat c.index-seats-ask.result c.serve_over.ensures.table

pub returns-clause-tables : goal.returns-clause-tables
returns-clause-tables g c =
    map-set_same table_of c.args.seats.now (slice_index_or c.args.self.now.asks.now c.args.job.place c.index-self-place.result).edge c.serve_over.new.seat c.index-seats-ask.result c.serve_over.ensures.table

pub returns-clause-done : goal.returns-clause-done
returns-clause-done g c = λ issued known mine.
    let script = c.args.self.now.script.now in
    let asks = c.args.self.now.asks.now in
    let seats = c.args.seats.now in
    let ask = slice_index_or c.args.self.now.asks.now c.args.job.place c.index-self-place.result in
    let own = c.requires.ready in
    let is : ask ≡ own.ask = get_or_from_slice_get asks c.args.job.place own.ask c.index-self-place.result own.at in
    let also : ask ≡ mine.ask = get_or_from_slice_get asks c.args.job.place mine.ask c.index-self-place.result mine.at in
    let edge = ap (λ a. a.edge) is in
    let many = told_many seats c.args.self.now.tables.now (λ nonces. nonces.now.table) c.requires.tables in
    let lt : ask.edge < length seats = omega (arith, own.is.edge, edge, many, c.args.self.now.edges) in
    let has = c.in_ok-note.ensures.served issued known
    (subst (λ a. HoldsHead script.edges a (carried_token script issued a.carried) (g.L.Source.left c.args.job.line) (g.L.Sink.told c.args.job.line)) (sym also) mine.holds) in (
      has.served,
      record {
        ask = mine.ask;
        at = mine.at;
        is = subst (λ a. IsServed script issued known a has.served) also has.is;
        left = has.left;
        put = has.told;
        note = sym has.noted;
      },
      gain_one seats ask.edge c.serve_over.new.seat c.index-seats-ask.result has.served (ap (λ a. a.edge) has.is.is) lt has.gained,
    )
