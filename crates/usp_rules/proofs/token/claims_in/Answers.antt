use Rattle.std.proofs.Common.{sym, subst, IfOk, MatchOption}
use Rattle.usp_json.specs.declared.value.Members.{Members}
use Rattle.usp_rules.specs.Tokens.{HasClaims, SpellsClaims}
use Rattle.usp_rules.proofs.Readings.{claims_by}
use Rattle.usp_rules.proofs.token.claims_in.Goals as goal

pub returns : goal.returns
returns c =
    claims_by c.args.token.now.parts.payload c.args.token.now.payload c.claims_of.result c.payload.ensures.encoded c.payload.ensures.bytes
    (subst (λ bytes. IfOk c.claims_of.result (λ found. MatchOption found ((members : Members) → SpellsClaims bytes members → ⊥) (λ claims. SpellsClaims bytes claims)))
    c.payload.ensures.value c.claims_of.ensures)
