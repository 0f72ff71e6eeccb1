use Rattle.std.proofs.Common.{◌≡◌, ◌+◌, length, ◌∙◌, subst, arith}
use Rattle.usp_script.specs.Drafts.{Draft, rounds_of}
use Rattle.usp_script.specs.Script.{asks_in}
use Rattle.usp_script.proofs.Adding.{asked_few, asked_is}
use Rattle.usp_script.proofs.draft.Draft.asked.Goals as goal

pub returns-clause-asks : goal.returns-clause-asks
returns-clause-asks c =
    let i = c.self.inside in
    let is = asked_is i.edges.items i.objects.items i.keys.items i.outsides.items i.rounds.items (record { grants = i.grants.items; asks = i.asks.items }) i.has_begun i.granted i.issued c.self.invariant in
    let same : i.issued + c.len.result ≡ i.issued + length i.asks.items = omega (arith, i.asks.ok.0, c.len.ensures) in
    subst (λ (d : Draft). i.issued + c.len.result ≡ asks_in (rounds_of d)) c.self.view_is (same ∙ is)

pub returns-clause-few : goal.returns-clause-few
returns-clause-few c =
    let i = c.self.inside in
    omega (arith, i.asks.ok.0, c.len.ensures, asked_few i.edges.items i.objects.items i.keys.items i.outsides.items i.rounds.items (record { grants = i.grants.items; asks = i.asks.items }) i.has_begun i.granted i.issued c.self.invariant)
