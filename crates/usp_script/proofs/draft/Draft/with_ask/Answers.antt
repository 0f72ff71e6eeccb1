use Rattle.std.proofs.Common.{◌<◌, true, List, sym, subst}
use Rattle.usp_script.specs.Drafts.{Draft, draft_of, rounds_of}
use Rattle.usp_script.specs.Kept.{IsDraft}
use Rattle.usp_script.specs.Script.{IsAsk, asks_in}
use Rattle.usp_script.specs.declared.ask.LabAsk.{LabAsk}
use Rattle.usp_script.specs.declared.limits.TheConstants.{MAX_ASKS}
use Rattle.usp_script.proofs.Adding.{ask_added}
use Rattle.usp_script.proofs.draft.Draft.with_ask.Goals as goal

pub invariant_of-self : goal.invariant_of-self
invariant_of-self c =
    let i = c.self.inside in
    let is = subst (λ (d : Draft). IsAsk d.edges c.args.ask) (sym c.self.view_is) c.requires.ask in
    let few = subst (λ (d : Draft). asks_in (rounds_of d) < MAX_ASKS) (sym c.self.view_is) c.requires.few in
    subst (λ (asks : List LabAsk). IsDraft (draft_of i.edges.items i.objects.items i.keys.items i.outsides.items i.rounds.items (record { grants = i.grants.items; asks = asks }) true) i.granted i.issued)
    (sym c.in_ok-push.ensures.items)
    (ask_added i.edges.items i.objects.items i.keys.items i.outsides.items i.rounds.items (record { grants = i.grants.items; asks = i.asks.items }) i.has_begun i.granted i.issued c.self.invariant c.args.ask is few)
