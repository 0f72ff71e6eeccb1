use Rattle.std.proofs.Common.{subst}
use Rattle.usp_rules.specs.Tokens.{SpellsClaims}
use Rattle.usp_lab.proofs.Windows.{IsMadeOf, window_of_claims}
use Rattle.usp_lab.proofs.text.window.window_of.Goals as goal

-- a token with claims
pub returns : goal.returns
returns c =
    let decoded = c.in-Some.decoded in
    let claims = c.in-Some-2.claims in
    let token = rw c.in-Some.is at c.in_ok-decoded.ensures in
    let spelled = rw c.in-Some-2.is at c.in_ok-claims.ensures in
    let made : IsMadeOf c.args.token.now decoded.payload decoded.parts
    = record { short = token.0; whole = token.1; encoded = c.payload.ensures.encoded; are_bytes = c.payload.ensures.bytes } in
    window_of_claims c.args.token.now decoded.payload decoded.parts claims _ made (subst (λ bytes. SpellsClaims bytes claims) c.payload.ensures.value spelled) c.nbf.ensures.value c.exp.ensures.value
