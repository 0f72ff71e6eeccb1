-- The window of a token is that of its claims.
use Rattle.std.proofs.Common.{◌≡◌, ℕ, List, codes, sym, ap, ◌∙◌, subst}
use Rattle.base64.specs.GeneralPurpose.{IsBytes}
use Rattle.usp_claims.specs.Table.{number_claim}
use Rattle.usp_json.specs.declared.value.Members.{Members}
use Rattle.usp_jws.proofs.Once.{b64u_once}
use Rattle.usp_jws.specs.Base64url.{b64u}
use Rattle.usp_jws.specs.Compact.{IsToken}
use Rattle.usp_jws.specs.Parts.{PartsValue, text_of}
use Rattle.usp_rules.proofs.Single.{claims_at, one_claims}
use Rattle.usp_rules.specs.Tokens.{CarriesClaims, HasClaims, HasParts, SpellsClaims}
use Rattle.usp_lab.specs.Links.{IsWindow}
use Rattle.usp_lab.specs.declared.text.window.Window.{Window}

-- a text that is no token has no claims
pub no_token : (token : List ℕ) (window : Window) → (IsToken token → ⊥) → IsWindow token window
no_token token window never = record {
  from = λ members h. absurd (never h.split.short);
  until = λ members h. absurd (never h.split.short);
}

-- A token whose payload is the base64url of these bytes.
pub record IsMadeOf (token payload : List ℕ) (parts : PartsValue) : Type 0 where
  pub short : IsToken token
  pub whole : token ≡ text_of parts
  pub encoded : parts.payload ≡ b64u payload
  pub are_bytes : IsBytes payload

split_of : (token payload : List ℕ) (parts : PartsValue) → IsMadeOf token payload parts → HasParts token parts
split_of token payload parts made = record { short = made.short; whole = made.whole }

-- the claims of a token are those that the bytes of its payload spell
spelled_by : (token payload : List ℕ) (parts : PartsValue) (members : Members) → IsMadeOf token payload parts → CarriesClaims token members → SpellsClaims payload members
spelled_by token payload parts members made h =
    let has : HasClaims parts.payload members = claims_at token parts members (split_of token payload parts made) h in
    let same : has.bytes ≡ payload = b64u_once has.bytes payload has.are_bytes made.are_bytes (sym has.encoded ∙ made.encoded) in
    subst (λ bytes. SpellsClaims bytes members) same has.claims

carried_by : (token payload : List ℕ) (parts : PartsValue) (members : Members) → IsMadeOf token payload parts → SpellsClaims payload members → CarriesClaims token members
carried_by token payload parts members made spells = record {
  parts = parts;
  split = split_of token payload parts made;
  claims = record { bytes = payload; are_bytes = made.are_bytes; encoded = made.encoded; claims = spells };
}

-- a payload that spells no claims
pub no_claims : (token payload : List ℕ) (parts : PartsValue) (window : Window) → IsMadeOf token payload parts → ((members : Members) → SpellsClaims payload members → ⊥)
    → IsWindow token window
no_claims token payload parts window made none = record {
  from = λ members h. absurd (none members (spelled_by token payload parts members made h));
  until = λ members h. absurd (none members (spelled_by token payload parts members made h));
}

-- a payload that spells these claims
pub window_of_claims : (token payload : List ℕ) (parts : PartsValue) (claims : Members) (window : Window) → IsMadeOf token payload parts → SpellsClaims payload claims
    → window.from ≡ number_claim (codes "nbf") claims → window.until ≡ number_claim (codes "exp") claims → IsWindow token window
window_of_claims token payload parts claims window made spells from until = record {
  from = λ members h. from ∙ ap (number_claim (codes "nbf")) (one_claims token claims members (carried_by token payload parts claims made spells) h);
  until = λ members h. until ∙ ap (number_claim (codes "exp")) (one_claims token claims members (carried_by token payload parts claims made spells) h);
}
