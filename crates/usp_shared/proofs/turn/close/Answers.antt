use Rattle.std.proofs.Common.{◌≡◌, subst, sym, ap, ◌∙◌, arith}
use Rattle.std.specs.Prelude.{Option, Some}
use mathlib.Core.Option.{some-injective}
use Rattle.usp_nonce.specs.Table.{Table}
use Rattle.usp_shared.specs.Rule.{Has, rank}
use Rattle.usp_shared.proofs.Ends.{closes}
use Rattle.usp_shared.proofs.Opens.{seen_too}
use Rattle.usp_shared.proofs.turn.close.Goals as goal

pub returns-clause-has : goal.returns-clause-has
returns-clause-has c =
    let terms = c.args.table.shared.key in
    let v = c.args.token.me.0 in
    let idle = c.requires.idle.stage in
    let end = c.close_with-closed.ensures.values.2 in
    let last = closes terms c.args.token.id v end.0 (seen_too terms c.args.token.id v end.0 (omega (arith, ap rank idle)) end.1) idle c.requires.whole in
    let table : Option Table = Some last.table in
    let same : c.take-slot.result ≡ table = some-injective c.take-slot.result table (sym c.take-slot.ensures.value ∙ end.4 0 table last.home) in
    let is : c.in-Some.table ≡ last.table = cc (same, c.in-Some.is) in
    subst (λ (t : Table). Has terms.table.room t v.seen) (sym is) last.has

pub returns-clause-legal : goal.returns-clause-legal
returns-clause-legal c =
    let terms = c.args.table.shared.key in
    let v = c.args.token.me.0 in
    let idle = c.requires.idle.stage in
    let end = c.close_with-closed.ensures.values.2 in
    (closes terms c.args.token.id v end.0 (seen_too terms c.args.token.id v end.0 (omega (arith, ap rank idle)) end.1) idle c.requires.whole).legal

pub returns-clause-all : goal.returns-clause-all
returns-clause-all c =
    let terms = c.args.table.shared.key in
    let v = c.args.token.me.0 in
    let idle = c.requires.idle.stage in
    let end = c.close_with-closed.ensures.values.2 in
    (closes terms c.args.token.id v end.0 (seen_too terms c.args.token.id v end.0 (omega (arith, ap rank idle)) end.1) idle c.requires.whole).all

pub returns-clause-counted : goal.returns-clause-counted
returns-clause-counted c =
    let terms = c.args.table.shared.key in
    let v = c.args.token.me.0 in
    let idle = c.requires.idle.stage in
    let end = c.close_with-closed.ensures.values.2 in
    (closes terms c.args.token.id v end.0 (seen_too terms c.args.token.id v end.0 (omega (arith, ap rank idle)) end.1) idle c.requires.whole).counted

pub unreachable-requires : goal.unreachable-requires
unreachable-requires c =
    let terms = c.args.table.shared.key in
    let v = c.args.token.me.0 in
    let idle = c.requires.idle.stage in
    let end = c.close_with-closed.ensures.values.2 in
    let last = closes terms c.args.token.id v end.0 (seen_too terms c.args.token.id v end.0 (omega (arith, ap rank idle)) end.1) idle c.requires.whole in
    let table : Option Table = Some last.table in
    let same : c.take-slot.result ≡ table = some-injective c.take-slot.result table (sym c.take-slot.ensures.value ∙ end.4 0 table last.home) in
    absurd (cc (same, c.in-None.is))
