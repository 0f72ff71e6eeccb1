-- One line of `sign`.
use Rattle.std.proofs.Common.{IfOk, MatchOption, ◌≡◌, ℕ, ◌<◌, ◌≤◌, codes, List, [], ◌++◌, length, Option, Some, None, Result, Ok, Err, refl, sym, ap, ◌∙◌, subst, arith, length-append}
use Rattle.std.specs.Result.{result_ok}
use Rattle.usp_base.proofs.Facts.{same_some}
use Rattle.usp_base.specs.Cuts.{cut_at}
use Rattle.usp_claims.proofs.Decimals.{text_set}
use Rattle.usp_claims.proofs.Lengths.{grows, text_size}
use Rattle.usp_claims.proofs.Shorter.{no_longer}
use Rattle.usp_claims.specs.Changes.{with_claim}
use Rattle.usp_claims.specs.declared.limits.TheConstants.{MAX_CANONICAL, MAX_PAYLOAD}
use Rattle.usp_claims.specs.Table.{IsClaimSet}
use Rattle.usp_claims.specs.declared.table.ClaimName.TheVariants.{Uc}
use Rattle.usp_json.specs.Canon.{canon_members}
use Rattle.usp_json.specs.declared.value.Json.TheVariants.{Str}
use Rattle.usp_json.specs.declared.value.Members.{Members}
use Rattle.usp_jws.specs.Keys.{KeyValue}
use Rattle.usp_package.specs.Package.{nothing, package_of}
use Rattle.usp_rules.proofs.Readings.{ok_of}
use Rattle.usp_rules.proofs.Segments.{length-segment}
use Rattle.usp_rules.specs.Segment.{segment_of}
use Rattle.usp_rules.specs.Tokens.{SpellsClaims}
use Rattle.usp_uri.specs.Faults.{normal_of}
use Rattle.usp_uri.specs.declared.limits.TheConstants.{MAX_LEN}
use Rattle.usp_json.proofs.FaultLaws.{reads_once}
use Rattle.usp_json.specs.Spells.{given}
use Rattle.usp_tool.specs.Check.Line.{space}
use Rattle.usp_tool.specs.Sign.Line.{SignsLine, signed_uri}
use Rattle.usp_tool.specs.declared.memory.NoMemory.{NoMemory}

-- the claims with the container of a URI are a claim set, and not too long
pub container_set : (container : List ℕ) (members : Members) → IsClaimSet members → IsClaimSet (with_claim Uc (Str container) members)
container_set container members set = text_set 10 Uc container members refl set

pub container_short : (container uri : List ℕ) (members : Members) → container ≡ codes "hash:" ++ segment_of uri → length (canon_members members) ≤ MAX_PAYLOAD
    → length (canon_members (with_claim Uc (Str container) members)) ≤ MAX_CANONICAL
container_short container uri members is short =
    omega (arith, short, grows Uc (Str container) members, text_size container, ap length is, length-append (codes "hash:") (segment_of uri), length-segment uri)

pub claims_short : (text : List ℕ) (members : Members) → SpellsClaims text members → length (canon_members members) ≤ MAX_PAYLOAD
claims_short text members spells = omega (arith, no_longer text members spells.reads, spells.short)

-- ---- one line

abbrev first_of : Option (List ℕ × List ℕ) → List ℕ
first_of None = []
first_of (Some cut) = cut.0

abbrev second_of : Option (List ℕ × List ℕ) → List ℕ
second_of None = []
second_of (Some cut) = cut.1

one_pair : (a b x y : List ℕ) → ◌≡◌ {A = Option (List ℕ × List ℕ)} (Some (a, b)) (Some (x, y)) → (a ≡ x) × (b ≡ y)
one_pair a b x y e = (ap first_of e, ap second_of e)

pub no_space : (attribute line : List ℕ) (key : KeyValue) → cut_at space line ≡ None → (text : List ℕ) → SignsLine attribute key line text → ⊥
no_space attribute line key none text s =
    let both : ◌≡◌ {A = Option (List ℕ × List ℕ)} None (Some (s.typed, s.claims)) = sym none ∙ s.cut in cc

-- What is signed for a line with this URI and these claims is signed for them.
pub of_these : (attribute line typed claims : List ℕ) (key : KeyValue) (text : List ℕ) (s : SignsLine attribute key line text) → cut_at space line ≡ Some (typed, claims)
    → (s.typed ≡ typed) × (s.claims ≡ claims)
of_these attribute line typed claims key text s cut = one_pair s.typed s.claims typed claims (sym s.cut ∙ cut)

pub no_uri : (attribute line typed claims : List ℕ) (key : KeyValue) → cut_at space line ≡ Some (typed, claims) → result_ok (normal_of typed) ≡ None
    → (text : List ℕ) → SignsLine attribute key line text → ⊥
no_uri attribute line typed claims key cut none text s =
    let there : result_ok (normal_of typed) ≡ Some s.uri = ap (λ t. result_ok (normal_of t)) (sym (of_these attribute line typed claims key text s cut).0) ∙ ap result_ok s.normal in
    let both : ◌≡◌ {A = Option (List ℕ)} None (Some s.uri) = sym none ∙ there in cc

uri_is : (attribute line typed claims uri : List ℕ) (key : KeyValue) (text : List ℕ) (s : SignsLine attribute key line text) → cut_at space line ≡ Some (typed, claims)
    → result_ok (normal_of typed) ≡ Some uri → s.uri ≡ uri
uri_is attribute line typed claims uri key text s cut some =
    let there : result_ok (normal_of typed) ≡ Some s.uri = ap (λ t. result_ok (normal_of t)) (sym (of_these attribute line typed claims key text s cut).0) ∙ ap result_ok s.normal in
    same_some s.uri uri (sym there ∙ some)

pub not_bare : (attribute line typed claims uri : List ℕ) (key : KeyValue) → cut_at space line ≡ Some (typed, claims) → result_ok (normal_of typed) ≡ Some uri
    → (package_of attribute uri ≡ nothing → ⊥) → (text : List ℕ) → SignsLine attribute key line text → ⊥
not_bare attribute line typed claims uri key cut some has text s =
    has (subst (λ u. package_of attribute u ≡ nothing) (uri_is attribute line typed claims uri key text s cut some) s.bare)

pub no_claims : (attribute line typed claims : List ℕ) (key : KeyValue) → cut_at space line ≡ Some (typed, claims)
    → ((members : Members) → SpellsClaims claims members → ⊥) → (text : List ℕ) → SignsLine attribute key line text → ⊥
no_claims attribute line typed claims key cut none text s =
    none s.members (subst (λ c. SpellsClaims c s.members) (of_these attribute line typed claims key text s cut).1 s.spells)

too_long : (attribute line typed claims uri : List ℕ) (key : KeyValue) (members : Members) → cut_at space line ≡ Some (typed, claims)
    → result_ok (normal_of typed) ≡ Some uri → SpellsClaims claims members → MAX_LEN < length (signed_uri attribute key uri members)
    → (text : List ℕ) → SignsLine attribute key line text → ⊥
too_long attribute line typed claims uri key members cut some spells long text s =
    let u : s.uri ≡ uri = uri_is attribute line typed claims uri key text s cut some in
    let c : SpellsClaims claims s.members = subst (λ c. SpellsClaims c s.members) (of_these attribute line typed claims key text s cut).1 s.spells in
    let m : s.members ≡ members = reads_once given claims s.members members c.reads spells.reads in
    let same : text ≡ signed_uri attribute key uri members =
    s.signed ∙ (ap (λ u. signed_uri attribute key u s.members) u ∙ ap (λ m. signed_uri attribute key uri m) m) in
    omega (arith, long, s.short, ap length same)

-- the line is signed as its URI and its claims are
pub signed_line : {X : Type 0} (items : X → List ℕ) (attribute line typed claims uri : List ℕ) (key : KeyValue) (members : Members) (r : Result (Option X) NoMemory) → cut_at space line ≡ Some (typed, claims)
    → result_ok (normal_of typed) ≡ Some uri → package_of attribute uri ≡ nothing → SpellsClaims claims members
    → IfOk r (λ signed. MatchOption signed (MAX_LEN < length (signed_uri attribute key uri members))
    (λ text. (items text ≡ signed_uri attribute key uri members) × (length (items text) ≤ MAX_LEN)))
    → IfOk r (λ signed. MatchOption signed ((text : List ℕ) → SignsLine attribute key line text → ⊥) (λ text. SignsLine attribute key line (items text)))
signed_line items attribute line typed claims uri key members (Err e) cut some bare spells h = h
signed_line items attribute line typed claims uri key members (Ok None) cut some bare spells h = too_long attribute line typed claims uri key members cut some spells h
signed_line items attribute line typed claims uri key members (Ok (Some text)) cut some bare spells h =
    record { typed = typed; claims = claims; uri = uri; members = members; cut = cut; normal = ok_of (normal_of typed) uri some; bare = bare; spells = spells; signed = h.0; short = h.1 }
