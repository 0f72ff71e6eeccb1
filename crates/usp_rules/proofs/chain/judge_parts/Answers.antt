use Rattle.std.proofs.Common.{◌≡◌, ◌∙◌, sym, ap, List, ℕ, Option, Some, None}
use Rattle.usp_json.specs.declared.value.Members.{Members}
use Rattle.usp_jws.specs.Headers.{IsHeader}
use Rattle.usp_rules.specs.Tokens.{HasClaims, verifying}
use Rattle.usp_rules.proofs.Firsts.{denied_by_claims, denied_by_header, denied_by_signature, judged_by_constraints}
use Rattle.usp_rules.proofs.chain.judge_parts.Goals as goal

pub returns-in_default : goal.returns-in_default
returns-in_default g c =
    let none : (kid : Option (List ℕ)) → IsHeader c.args.token.now.parts.header kid → ⊥ = rw c.in_default.is at c.in_ok-header.ensures in
    denied_by_header c.args.terms.now.profile.now c.args.token.now.parts c.args.content c.args.terms.now.moment c.requires.token none

pub returns-in_default-verifier : goal.returns-in_default-verifier
returns-in_default-verifier g c =
    let header : IsHeader c.args.token.now.parts.header c.in-Some.header.kid = rw c.in-Some.is at c.in_ok-header.ensures in
    denied_by_signature c.args.terms.now.profile.now c.args.token.now.parts c.args.content c.args.terms.now.moment c.in-Some.header.kid c.requires.token header
    (sym (ap (verifying c.args.terms.now.profile.now.ring c.in-Some.header.kid) c.parts-parts.ensures) ∙ (sym c.verifier.ensures ∙ c.in_default-verifier.is))

pub returns-in_default-2 : goal.returns-in_default-2
returns-in_default-2 g c =
    let header : IsHeader c.args.token.now.parts.header c.in-Some.header.kid = rw c.in-Some.is at c.in_ok-header.ensures in
    let none : (members : Members) → HasClaims c.args.token.now.parts.payload members → ⊥ = rw c.in_default-2.is at c.in_ok-claims.ensures in
    denied_by_claims c.args.terms.now.profile.now c.args.token.now.parts c.args.content c.args.terms.now.moment c.in-Some.header.kid c.in-Some-verifier.place c.requires.token header
    (sym (ap (verifying c.args.terms.now.profile.now.ring c.in-Some.header.kid) c.parts-parts.ensures) ∙ (sym c.verifier.ensures ∙ c.in-Some-verifier.is)) none

pub returns : goal.returns
returns g c =
    let header : IsHeader c.args.token.now.parts.header c.in-Some.header.kid = rw c.in-Some.is at c.in_ok-header.ensures in
    let has : HasClaims c.args.token.now.parts.payload c.in-Some-2.claims = rw c.in-Some-2.is at c.in_ok-claims.ensures in
    judged_by_constraints c.args.terms.now.profile.now c.args.token.now.parts c.args.content c.args.terms.now.moment c.in-Some.header.kid c.in-Some-verifier.place c.in-Some-2.claims
    c.judge_claims.result c.requires.token header (sym (ap (verifying c.args.terms.now.profile.now.ring c.in-Some.header.kid) c.parts-parts.ensures) ∙ (sym c.verifier.ensures ∙ c.in-Some-verifier.is)) has
    (rw c.parts-parts.ensures at c.judge_claims.ensures)
