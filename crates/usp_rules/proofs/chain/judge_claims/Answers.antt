use Rattle.std.proofs.Common.{length, refl}
use Rattle.std.proofs.lemmas.Option.{slice_get_read}
use Rattle.std.specs.Option.{option_copied}
use Rattle.usp_jws.specs.Parts.{text_of}
use Rattle.usp_rules.proofs.Firsts.{claims_denied, claims_passed}
use Rattle.usp_rules.proofs.chain.judge_claims.Goals as goal

pub returns-in-Some : goal.returns-in-Some
returns-in-Some g c =
    claims_denied c.args.terms.now.profile.now (text_of c.args.parts.now) c.args.content c.args.terms.now.moment c.args.claims c.args.place c.index-keys-place.result
    c.issuer-issuer.result.now (option_copied c.as_ref.result) c.in_ok-rule.field-0 c.in-Some.rule c.requires.claims c.requires.verified
    (slice_get_read c.args.terms.now.profile.now.ring (length c.args.terms.now.profile.now.ring) c.args.place c.index-keys-place.result refl c.requires.within (rw c.keys.ensures.keys at c.index-keys-place.is)) c.issuer-issuer.ensures.value c.as_ref.ensures.value c.in-Some.is c.in_ok-rule.ensures

pub returns : goal.returns
returns g c =
    claims_passed c.args.terms.now.profile.now (text_of c.args.parts.now) c.args.content c.args.terms.now.moment c.args.claims c.args.place c.index-keys-place.result
    c.issuer-issuer.result.now (option_copied c.as_ref.result) c.in_ok-rule.field-0 c.in-Some-content.content c.of.result c.requires.claims c.requires.verified
    (slice_get_read c.args.terms.now.profile.now.ring (length c.args.terms.now.profile.now.ring) c.args.place c.index-keys-place.result refl c.requires.within (rw c.keys.ensures.keys at c.index-keys-place.is)) c.issuer-issuer.ensures.value c.as_ref.ensures.value c.in_default.is c.in-Some-content.is c.of.ensures c.in_ok-rule.ensures
