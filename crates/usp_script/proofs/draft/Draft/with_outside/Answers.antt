use Rattle.std.proofs.Common.{ℕ, true, List, sym, subst, arith}
use Rattle.usp_script.specs.Drafts.{draft_of}
use Rattle.usp_script.specs.Kept.{IsDraft}
use Rattle.usp_script.proofs.Adding.{outside_kept}
use Rattle.usp_script.proofs.draft.Draft.with_outside.Goals as goal

pub invariant_of-self : goal.invariant_of-self
invariant_of-self c =
    let i = c.self.inside in
    subst (λ (outsides : List (List ℕ)). IsDraft (draft_of i.edges.items i.objects.items i.keys.items outsides i.rounds.items (record { grants = i.grants.items; asks = i.asks.items }) true) i.granted i.issued)
    (sym c.in_ok-push.ensures.items)
    (outside_kept i.edges.items i.objects.items i.keys.items i.outsides.items i.rounds.items (record { grants = i.grants.items; asks = i.asks.items }) i.has_begun i.granted i.issued c.self.invariant c.args.token c.requires
    (omega (arith, i.outsides.ok.0, c.len.ensures, c.if-len.false)))
