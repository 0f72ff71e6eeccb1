use Rattle.std.proofs.Common.{◌≤◌, length, sym, subst}
use Rattle.usp_json.specs.Canon.{canon_members}
use Rattle.usp_json.specs.declared.value.Members.{Members}
use Rattle.usp_claims.specs.Changes.{with_claim}
use Rattle.usp_claims.specs.Table.{IsClaimSet}
use Rattle.usp_claims.specs.declared.limits.TheConstants.{MAX_CANONICAL}
use Rattle.usp_claims.proofs.Named.{still_named}
use Rattle.usp_claims.proofs.claims.Claims.with.Goals as goal

pub invariant_of-result : goal.invariant_of-result
invariant_of-result c =
    let set = subst (λ (m : Members). IsClaimSet (with_claim c.args.name c.args.value m)) (sym c.self.view_is) c.requires.set in
    let short = subst (λ (m : Members). length (canon_members (with_claim c.args.name c.args.value m)) ≤ MAX_CANONICAL) (sym c.self.view_is) c.requires.short in
    let named = still_named c.args.name c.args.value c.self.inside.members c.self.invariant.2 in
    rw c.in-Ok.ensures.changed (set, short, named)
