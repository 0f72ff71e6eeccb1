use Rattle.std.proofs.Common.{◌<◌, List, length, sym, subst}
use Rattle.usp_conf.specs.Values.{ConfValue}
use Rattle.usp_script.specs.Drafts.{Draft, draft_of}
use Rattle.usp_script.specs.Kept.{IsDraft}
use Rattle.usp_script.specs.declared.limits.TheConstants.{MAX_EDGES}
use Rattle.usp_script.proofs.Adding.{edge_kept}
use Rattle.usp_script.proofs.draft.Draft.with_edge.Goals as goal

pub invariant_of-self : goal.invariant_of-self
invariant_of-self c =
    let i = c.self.inside in
    let few = subst (λ (d : Draft). length d.edges < MAX_EDGES) (sym c.self.view_is) c.requires in
    subst (λ (edges : List ConfValue). IsDraft (draft_of edges i.objects.items i.keys.items i.outsides.items i.rounds.items (record { grants = i.grants.items; asks = i.asks.items }) i.has_begun) i.granted i.issued)
    (sym c.in_ok-push.ensures.items)
    (edge_kept i.edges.items i.objects.items i.keys.items i.outsides.items i.rounds.items (record { grants = i.grants.items; asks = i.asks.items }) i.has_begun i.granted i.issued c.self.invariant c.args.edge few c.know_conf.ensures)
