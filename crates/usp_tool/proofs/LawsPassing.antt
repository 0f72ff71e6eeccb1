-- What is signed passes the first six rules.
use Rattle.std.proofs.Common.{◌≡◌, ℕ, suc, ◌≤◌, Bool, true, false, cond, codes, List, [], ◌∷◌, ◌++◌, length, Option, Some, None, Ok, inl, inr, refl, sym, ap, ◌∙◌, subst, arith, append-nil}
use Rattle.std.specs.Prelude.{slice_get}
use Rattle.std.specs.List.{list_all}
use Rattle.std.specs.Result.{result_ok}
use Rattle.std.specs.Str.{IsUtf8, bytes_eq}
use Rattle.std.proofs.lemmas.Str.{IsAscii-append, IsUtf8-from_ascii}
use Rattle.usp_claims.proofs.Counts.{there_kept}
use Rattle.usp_claims.proofs.Rows.{tells}
use Rattle.usp_claims.specs.Changes.{with_claim}
use Rattle.usp_claims.specs.Table.{IsClaimSet}
use Rattle.usp_claims.specs.declared.limits.TheConstants.{MAX_PAYLOAD}
use Rattle.usp_claims.specs.declared.table.ClaimName.TheVariants.{Uc}
use Rattle.usp_json.proofs.ByteLaws.{reading_bytes, tested_ascii}
use Rattle.usp_json.proofs.CanonLaws.{reads_back}
use Rattle.usp_json.proofs.KeepLaws.{reading_keeps}
use Rattle.usp_json.specs.Kept.{KeepsLimits, string}
use Rattle.usp_json.specs.Spells.{IsReading, given}
use Rattle.usp_json.specs.declared.value.Json.TheVariants.{Str}
use Rattle.usp_json.specs.declared.value.Members.{Members}
use Rattle.usp_jws.proofs.Naming.{sealed_place}
use Rattle.usp_jws.proofs.Sealing.{sealed_has_parts, sealed_header, sealed_payload, sealed_token}
use Rattle.usp_jws.proofs.TokenLetters.{token_letters}
use Rattle.usp_jws.specs.Compact.{IsToken}
use Rattle.usp_jws.specs.Headers.{IsHeader}
use Rattle.usp_jws.specs.Keys.{KeyValue, first_repeat, key_named}
use Rattle.usp_jws.specs.Letters.{is_kid}
use Rattle.usp_jws.specs.Parts.{PartsValue, text_of}
use Rattle.usp_jws.specs.Sealed.{sealed}
use Rattle.usp_package.proofs.EmbedLaws.{embedded_again, embedded_normal, length-embedded}
use Rattle.usp_package.specs.Name.{is_attr_name}
use Rattle.usp_package.specs.Package.{carried, is_run_byte, package_of}
use Rattle.usp_rules.proofs.Firsts.{claims_here, header_here, verified_here}
use Rattle.usp_rules.proofs.Segments.{segment_ascii}
use Rattle.usp_rules.specs.Asks.{content_in}
use Rattle.usp_rules.specs.Rules.{AllHold, Holds, HoldsWith}
use Rattle.usp_rules.specs.Segment.{segment_of}
use Rattle.usp_rules.specs.Tokens.{CarriesClaims, HasClaims, HasHeader, IsVerified, SpellsClaims}
use Rattle.usp_rules.specs.declared.profile.Profile.{Profile}
use Rattle.usp_rules.specs.declared.rule.Rule.{Rule}
use Rattle.usp_rules.specs.declared.rule.Rule.TheVariants as rule
use Rattle.usp_tool.proofs.Signing.Line.{container_set}
use Rattle.usp_tool.specs.Sign.Line.{SignsLine, claims_for, is_open, payload_for, signed_uri}
use Rattle.usp_uri.proofs.NormalLaws.{normal_again}
use Rattle.usp_uri.specs.Components.{query_in}
use Rattle.usp_uri.specs.Faults.{normal_of}
use Rattle.usp_uri.specs.declared.limits.TheConstants.{MAX_LEN}

-- ---- the claims that are sealed

abbrev container_for : List ℕ → List ℕ
container_for uri = codes "hash:" ++ segment_of uri

container_utf8 : (uri : List ℕ) → IsUtf8 (container_for uri)
container_utf8 uri = IsUtf8-from_ascii (container_for uri) (IsAscii-append (codes "hash:") (segment_of uri) (tested_ascii (codes "hash:") refl) (segment_ascii uri))

container_kept : (uri : List ℕ) (m : Members) → KeepsLimits m → IsClaimSet m → KeepsLimits (with_claim Uc (Str (container_for uri)) m)
container_kept uri m k set =
    let value = Str (container_for uri) in
    there_kept Uc value m set.contained k (string given.levels value (container_for uri) refl (container_utf8 uri))

-- either of two members
by_test : (b : Bool) (P : Members → Type 0) (x y : Members) → P x → P y → P (cond b x y)
by_test true P x y h k = h
by_test false P x y h k = k

sealed_kept : (uri : List ℕ) (m : Members) → KeepsLimits m → IsClaimSet m → KeepsLimits (claims_for uri m)
sealed_kept uri m k set = by_test (is_open m) KeepsLimits (with_claim Uc (Str (container_for uri)) m) m (container_kept uri m k set) k

sealed_set : (uri : List ℕ) (m : Members) → IsClaimSet m → IsClaimSet (claims_for uri m)
sealed_set uri m set = by_test (is_open m) IsClaimSet (with_claim Uc (Str (container_for uri)) m) m (container_set (container_for uri) m set) set

sealed_reads : (text uri : List ℕ) (m : Members) → SpellsClaims text m → IsReading (payload_for uri m) (claims_for uri m)
sealed_reads text uri m spells = reads_back (claims_for uri m) (sealed_kept uri m (reading_keeps text m spells.reads) spells.set)

sealed_claims : (text uri : List ℕ) (m : Members) → SpellsClaims text m → length (payload_for uri m) ≤ MAX_PAYLOAD → SpellsClaims (payload_for uri m) (claims_for uri m)
sealed_claims text uri m spells short = record { short = short; reads = sealed_reads text uri m spells; set = sealed_set uri m spells.set }

-- ---- the token and the package

abbrev token_for : KeyValue → List ℕ → Members → List ℕ
token_for key uri m = sealed key (payload_for uri m)

token_is : (attribute text claims uri : List ℕ) (key : KeyValue) (m : Members) → SpellsClaims claims m → is_kid key.kid ≡ true
    → text ≡ signed_uri attribute key uri m → length text ≤ MAX_LEN → IsToken (token_for key uri m)
token_is attribute text claims uri key m spells named is short =
    sealed_token key (payload_for uri m) named (reading_bytes given (payload_for uri m) (claims_for uri m) (sealed_reads claims uri m spells))
    (omega (arith, short, length-embedded attribute uri (token_for key uri m) (query_in uri) text is))

-- what the rules look at
pub record IsPackaged (attribute text token uri : List ℕ) : Type 0 where
  pub pack : package_of attribute text ≡ carried token uri []
  pub normal : normal_of text ≡ Ok text

packaged : (attribute : List ℕ) (key : KeyValue) (line text : List ℕ) (s : SignsLine attribute key line text) → is_attr_name attribute ≡ true → is_kid key.kid ≡ true
    → IsPackaged attribute text (token_for key s.uri s.members) s.uri
packaged attribute key line text s attr named =
    let token = token_for key s.uri s.members in
    let again = normal_again s.typed s.uri s.normal in
    let run : list_all is_run_byte token ≡ true = token_letters token (token_is attribute text s.claims s.uri key s.members s.spells named s.signed s.short) in
    record {
      pack = embedded_again attribute s.uri token attr again run s.bare text s.signed;
      normal = embedded_normal attribute s.uri token attr again run text s.signed s.short;
    }

found_at : (ring : List KeyValue) (kid : List ℕ) (key : KeyValue) → key_named ring kid ≡ Some key → (i : ℕ) × (slice_get ring i ≡ Some key)
found_at [] kid key e = cc
found_at (k ∷ ring) kid key e = elim (tells (bytes_eq k.kid kid)) [
  | inl hit ↦ let is : Some k ≡ Some key = rw hit at e in (0, is)
  | inr miss ↦ let later : key_named ring kid ≡ Some key = rw miss at e in let f = found_at ring kid key later in (suc f.0, f.1)
]

abbrev pub first_six : List Rule
first_six = rule.Uri ∷ rule.Missing ∷ rule.Package ∷ rule.Header ∷ rule.Signature ∷ rule.Claims ∷ []

six : (profile : Profile) (uri token before normal : List ℕ) (cookie kid : Option (List ℕ)) (moment place : ℕ) (m : Members) → normal_of uri ≡ Ok normal → IsToken token
    → HasHeader token kid → IsVerified profile.ring token place → CarriesClaims token m
    → AllHold (λ r. HoldsWith r profile (record { uri = uri; cookie = cookie; moment = moment }) (carried token before [])) first_six
six profile uri token before normal cookie kid moment place m n t h v c = ((normal, n), (refl, (t, ((kid, h), ((place, v), ((m, c), tt))))))

-- a token with a header that names the key, that the key verifies, and with claims
pub record Carries (ring : List KeyValue) (token : List ℕ) (kid : Option (List ℕ)) (place : ℕ) (m : Members) : Type 0 where
  pub compact : IsToken token
  pub header : HasHeader token kid
  pub verified : IsVerified ring token place
  pub claims : CarriesClaims token m

carries_parts : (ring : List KeyValue) (key : KeyValue) (payload : List ℕ) (m : Members) (place : ℕ) (parts : PartsValue) → first_repeat ring ≡ None → slice_get ring place ≡ Some key
    → is_kid key.kid ≡ true → SpellsClaims payload m → text_of parts ≡ sealed key payload → IsToken (text_of parts) → Carries ring (text_of parts) (Some key.kid) place m
carries_parts ring key payload m place parts apart there named spells is token =
    let header : IsHeader parts.header (Some key.kid) = sealed_header key payload parts named is in
    let has : HasClaims parts.payload m =
    record { bytes = payload; are_bytes = reading_bytes given payload m spells.reads; encoded = sealed_payload key payload parts is; claims = spells } in
    record {
      compact = token;
      header = header_here parts (Some key.kid) token header;
      verified = verified_here ring parts (Some key.kid) place token header (sealed_place ring place key payload parts apart there is);
      claims = claims_here parts m token has;
    }

carries_sealed : (ring : List KeyValue) (key : KeyValue) (payload : List ℕ) (m : Members) (place : ℕ) → first_repeat ring ≡ None → slice_get ring place ≡ Some key
    → is_kid key.kid ≡ true → SpellsClaims payload m → IsToken (sealed key payload) → Carries ring (sealed key payload) (Some key.kid) place m
carries_sealed ring key payload m place apart there named spells token =
    let p = sealed_has_parts key payload in
    subst (λ t. Carries ring t (Some key.kid) place m) p.1 (carries_parts ring key payload m place p.0 apart there named spells p.1 (subst IsToken (sym p.1) token))

pub signed_passes : (profile : Profile) (kid line text : List ℕ) (key : KeyValue) (cookie : Option (List ℕ)) (moment : ℕ) (s : SignsLine profile.attribute key line text)
    → is_attr_name profile.attribute ≡ true → first_repeat profile.ring ≡ None → key_named profile.ring kid ≡ Some key → is_kid key.kid ≡ true
    → length (payload_for s.uri s.members) ≤ MAX_PAYLOAD → AllHold (λ r. Holds r profile (record { uri = text; cookie = cookie; moment = moment })) first_six
signed_passes profile kid line text key cookie moment s attr apart found named short =
    let payload = payload_for s.uri s.members in
    let token = token_is profile.attribute text s.claims s.uri key s.members s.spells named s.signed s.short in
    let p = packaged profile.attribute key line text s attr named in
    let at = found_at profile.ring kid key found in
    let c = carries_sealed profile.ring key payload (claims_for s.uri s.members) at.0 apart at.1 named (sealed_claims s.claims s.uri s.members s.spells short) token in
    subst (λ pack. AllHold (λ r. HoldsWith r profile (record { uri = text; cookie = cookie; moment = moment }) pack) first_six) (sym p.pack)
    (six profile text (sealed key payload) s.uri text cookie (Some key.kid) moment at.0 (claims_for s.uri s.members) p.normal c.compact c.header c.verified c.claims)

content_of_carried : (token text uri : List ℕ) → normal_of uri ≡ Ok uri → content_in text (carried token uri []) ≡ Some uri
content_of_carried token text uri normal =
    ap (λ (t : List ℕ). result_ok (normal_of t)) (append-nil uri) ∙ ap result_ok normal

pub signed_content : (attribute : List ℕ) (key : KeyValue) (line text : List ℕ) (s : SignsLine attribute key line text) → is_attr_name attribute ≡ true → is_kid key.kid ≡ true
    → content_in text (package_of attribute text) ≡ Some s.uri
signed_content attribute key line text s attr named =
    ap (content_in text) (packaged attribute key line text s attr named).pack
    ∙ content_of_carried (token_for key s.uri s.members) text s.uri (normal_again s.typed s.uri s.normal)
