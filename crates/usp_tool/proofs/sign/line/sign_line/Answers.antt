use Rattle.std.proofs.Common.{◌∙◌, sym}
use Rattle.usp_rules.specs.Tokens.{SpellsClaims}
use Rattle.usp_tool.proofs.Signing.Line.{claims_short, signed_line}
use Rattle.usp_tool.proofs.sign.line.sign_line.Goals as goal

pub sign_uri-requires-clause-short : goal.sign_uri-requires-clause-short
sign_uri-requires-clause-short c =
    let spells : SpellsClaims c.in-Some.claims.now c.in-Some-3.claims = rw c.in-Some-3.is at c.in_ok-claims.ensures in
    claims_short c.in-Some.claims.now c.in-Some-3.claims spells

pub returns : goal.returns
returns c =
    let spells : SpellsClaims c.in-Some.claims.now c.in-Some-3.claims = rw c.in-Some-3.is at c.in_ok-claims.ensures in
    signed_line (λ v. v.items) c.args.attribute.now c.args.line.now c.in-Some.typed.now c.in-Some.claims.now c.in-Some-2.uri c.args.key.now c.in-Some-3.claims
    c.sign_uri.result (sym c.in-Some.ensures) (sym c.in_ok-uri.ensures ∙ c.in-Some-2.is) (c.is_bare.ensures.0 c.if-not-is_bare.false) spells c.sign_uri.ensures
