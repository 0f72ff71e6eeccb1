use Rattle.std.proofs.Common.{sym, ◌∙◌}
use Rattle.usp_claims.specs.Table.{name_of}
use Rattle.usp_claims.proofs.Changed.{place_within, present, absent}
use Rattle.usp_claims.proofs.changes.change.Goals as goal

pub set-requires : goal.set-requires
set-requires c =
    let at = rw (c.as_bytes.ensures.value, c.name.ensures) at (sym c.place.ensures ∙ c.in-Some.is) in
    place_within (name_of c.args.name) c.args.members.now c.in-Some.place c.requires at

pub returns-in-Some-clause-changed : goal.returns-in-Some-clause-changed
returns-in-Some-clause-changed c =
    let at = rw (c.as_bytes.ensures.value, c.name.ensures) at (sym c.place.ensures ∙ c.in-Some.is) in
    present c.args.name c.args.value c.args.members.now c.set.new.self c.in-Some.place c.requires at c.set.ensures.names c.set.ensures.values

pub returns-in_ok-push-in-None-clause-changed : goal.returns-in_ok-push-in-None-clause-changed
returns-in_ok-push-in-None-clause-changed c =
    let at = rw (c.as_bytes.ensures.value, c.name.ensures) at (sym c.place.ensures ∙ c.in-None.is) in
    let names = rw (c.in_ok-text-in-None.ensures, c.name-in-None.ensures) at c.in_ok-push-in-None.ensures.names in
    absent c.args.name c.args.value c.args.members.now c.push.new.self c.requires at names c.in_ok-push-in-None.ensures.values
