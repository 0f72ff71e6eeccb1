-- Lines that are refused, by the first thing that fails.
use Rattle.std.proofs.Common.{◌≡◌, ◌≢◌, ℕ, ◌≤◌, true, false, List, [], ◌∷◌, length, codes, Option, Some, None, refl, sym, ap, ◌∙◌, subst, arith}
use Rattle.std.specs.List.{find}
use Rattle.std.specs.Result.{result_ok}
use Rattle.std.specs.Str.{bytes_eq}
use Rattle.usp_claims.proofs.Shorter.{no_longer}
use Rattle.usp_claims.specs.declared.limits.TheConstants.{MAX_PAYLOAD}
use Rattle.usp_json.specs.Canon.{canon_members}
use Rattle.usp_json.specs.declared.value.Members.{Members}
use Rattle.usp_jws.specs.Base64url.{b64u_bytes}
use Rattle.usp_jws.specs.KeyFaults.{RefusesKey}
use Rattle.usp_jws.specs.Keys.{KeyValue, has_kid}
use Rattle.usp_jws.specs.Letters.{is_identity, is_kid}
use Rattle.usp_jws.specs.declared.key.KeyFault.{KeyFault}
use Rattle.usp_jws.specs.declared.key.KeyFault.TheVariants as fault
use Rattle.usp_rules.specs.Tokens.{SpellsClaims}
use Rattle.usp_uri.specs.Faults.{normal_of}
use Rattle.usp_script.specs.Drafts.{Draft}
use Rattle.usp_script.specs.Reading.{AddsKey, AddsObject, Seals, edge_at, fields}

-- ---- objects

module _ (draft : Draft) (line name typed text : List ℕ) (cut : fields 3 line ≡ Some (codes "object" ∷ name ∷ typed ∷ text ∷ [])) where
  object_parts : (place : ℕ) (uri t : List ℕ) (a : AddsObject draft line place uri t) → (a.edge ≡ name) × (a.typed ≡ typed) × (t ≡ text)
  object_parts place uri t a = let e = sym a.fields ∙ cut in (cc, cc, cc)

  pub object_of_no_edge : edge_at draft.edges name ≡ None → (place : ℕ) (uri t : List ℕ) → AddsObject draft line place uri t → ⊥
  object_of_no_edge none place uri t a =
      let clash : ◌≡◌ {A = Option ℕ} None (Some place) = sym none ∙ (ap (edge_at draft.edges) (sym (object_parts place uri t a).0) ∙ a.at) in cc

  pub object_of_no_uri : result_ok (normal_of typed) ≡ None → (place : ℕ) (uri t : List ℕ) → AddsObject draft line place uri t → ⊥
  object_of_no_uri none place uri t a =
      let there : result_ok (normal_of typed) ≡ Some uri = ap (λ (u : List ℕ). result_ok (normal_of u)) (sym (object_parts place uri t a).1) ∙ ap result_ok a.normal in
      let clash : ◌≡◌ {A = Option (List ℕ)} None (Some uri) = sym none ∙ there in cc

-- ---- keys

module _ (draft : Draft) (line kid issuer secret : List ℕ) (cut : fields 3 line ≡ Some (codes "key" ∷ kid ∷ issuer ∷ secret ∷ [])) where
  key_parts : (key : KeyValue) (a : AddsKey draft line key) → (key.kid ≡ kid) × (key.issuer ≡ issuer) × (a.secret ≡ secret)
  key_parts key a = let e = sym a.fields ∙ cut in (cc, cc, cc)

  pub key_repeated : has_kid draft.keys kid ≡ true → (key : KeyValue) → AddsKey draft line key → ⊥
  key_repeated there key a =
      let none : has_kid draft.keys kid ≡ false = ap (has_kid draft.keys) (sym (key_parts key a).0) ∙ a.unused in
      let clash : true ≡ false = sym there ∙ none in cc

  pub key_of_no_bytes : b64u_bytes secret ≡ None → (key : KeyValue) → AddsKey draft line key → ⊥
  key_of_no_bytes none key a =
      let clash : ◌≡◌ {A = Option (List ℕ)} None (Some key.secret) = sym none ∙ (ap b64u_bytes (sym (key_parts key a).2) ∙ a.bytes) in cc

  key_bytes : (bytes : List ℕ) → b64u_bytes secret ≡ Some bytes → (key : KeyValue) → AddsKey draft line key → key.secret ≡ bytes
  key_bytes bytes is key a =
      let both : ◌≡◌ {A = Option (List ℕ)} (Some key.secret) (Some bytes) = sym a.bytes ∙ (ap b64u_bytes (key_parts key a).2 ∙ is) in cc

  pub key_refused : (bytes : List ℕ) (e : KeyFault) → b64u_bytes secret ≡ Some bytes → RefusesKey e kid issuer bytes → e ≢ fault.NoMemory
      → (key : KeyValue) → AddsKey draft line key → ⊥
  key_refused bytes fault.BadKid is refused other key a =
      let clash : true ≡ false = sym a.kid ∙ (ap is_kid (key_parts key a).0 ∙ refused) in cc
  key_refused bytes fault.BadIssuer is refused other key a =
      let clash : true ≡ false = sym a.issuer ∙ (ap is_identity (key_parts key a).1 ∙ refused.1) in cc
  key_refused bytes fault.ShortKey is refused other key a = omega (arith, a.long, refused.2, ap length (key_bytes bytes is key a))
  key_refused bytes fault.LongKey is refused other key a = omega (arith, a.short, refused.2, ap length (key_bytes bytes is key a))
  key_refused bytes fault.NoMemory is refused other key a = other refl

-- ---- tokens

pub claims_short : (text : List ℕ) (members : Members) → SpellsClaims text members → length (canon_members members) ≤ MAX_PAYLOAD
claims_short text members spells = omega (arith, no_longer text members spells.reads, spells.short)

module _ (draft : Draft) (word line kid claims : List ℕ) (cut : fields 2 line ≡ Some (word ∷ kid ∷ claims ∷ [])) where
  seal_parts : (token : List ℕ) (s : Seals draft word line token) → (s.kid ≡ kid) × (s.claims ≡ claims)
  seal_parts token s = let e = sym s.fields ∙ cut in (cc, cc)

  pub sealed_by_no_key : find (λ (key : KeyValue). bytes_eq key.kid kid) draft.keys ≡ None → (token : List ℕ) → Seals draft word line token → ⊥
  sealed_by_no_key none token s =
      let there : find (λ (key : KeyValue). bytes_eq key.kid kid) draft.keys ≡ Some s.key =
      ap (λ (k : List ℕ). find (λ (key : KeyValue). bytes_eq key.kid k) draft.keys) (sym (seal_parts token s).0) ∙ s.named in
      let clash : ◌≡◌ {A = Option KeyValue} None (Some s.key) = sym none ∙ there in cc

  pub sealed_no_claims : ((members : Members) → SpellsClaims claims members → ⊥) → (token : List ℕ) → Seals draft word line token → ⊥
  sealed_no_claims none token s = none s.members (subst (λ (c : List ℕ). SpellsClaims c s.members) (seal_parts token s).1 s.spells)
