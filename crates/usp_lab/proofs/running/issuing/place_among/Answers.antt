use Rattle.std.proofs.Common.{sym, ◌∙◌}
use Rattle.usp_lab.specs.Entries.{ledger_of}
use Rattle.usp_lab.proofs.FrontPlaces.{front_found, front_none, front_past}
use Rattle.usp_lab.proofs.running.issuing.place_among.Goals as goal

pub returns-in_default-clause-value : goal.returns-in_default-clause-value
returns-in_default-clause-value c =
    sym (front_none c.args.token.now (ledger_of c.args.entries.now) c.args.known (sym c.first_place.ensures ∙ c.in_default.is))

pub returns-then-place-known-clause-value : goal.returns-then-place-known-clause-value
returns-then-place-known-clause-value c =
    sym
    (front_found c.args.token.now (ledger_of c.args.entries.now) c.args.known c.in-Some.place
    (sym c.first_place.ensures ∙ c.in-Some.is) c.if-place-known.true)

pub returns-else-place-known-clause-value : goal.returns-else-place-known-clause-value
returns-else-place-known-clause-value c =
    sym
    (front_past c.args.token.now (ledger_of c.args.entries.now) c.args.known c.in-Some.place
    (sym c.first_place.ensures ∙ c.in-Some.is) c.if-place-known.false)
