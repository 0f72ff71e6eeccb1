-- That changed claims are a claim set, and how long they and the token over them are.
use Rattle.std.proofs.Common.{◌≡◌, ◌≢◌, ℕ, zero, suc, ◌+◌, ◌<◌, ◌≤◌, Bool, true, false, ◌&&◌, ◌||◌, ◌==◌, List, [], ◌∷◌, ◌++◌, length, codes, refl, sym, ap, ◌∙◌, arith, le-leb, length-append}
use Rattle.std.specs.Prelude.{nat_le, slice_index}
use Rattle.std.specs.Char.{is_ascii_alphanumeric}
use Rattle.std.specs.Fmt.{decimal}
use Rattle.std.specs.Int.{byte_at, bytes_high_first, to_be_bytes, w32}
use Rattle.std.specs.List.{list_all}
use Rattle.std.proofs.lemmas.Bool.{and_parts, leb-true}
use Rattle.std.proofs.lemmas.Bool.Decides.{nat_tests}
use Rattle.std.proofs.lemmas.List.Folds.{list_all-append}
use Rattle.base64.specs.GeneralPurpose.{IsBytes}
use Rattle.sha2.specs.Sha256.{sha256, digest_bytes, final_hash, initial_hash_256}
use Rattle.sha2.proofs.Facts256.{length-sha256}
use Rattle.usp_claims.proofs.Decimals.{either_set, number_set, text_set}
use Rattle.usp_claims.proofs.Lengths.{grows, number_size}
use Rattle.usp_claims.specs.Changes.{with_claim}
use Rattle.usp_claims.specs.Table.{IsClaimSet, name_of}
use Rattle.usp_claims.specs.declared.limits.TheConstants.{MAX_NUMBER}
use Rattle.usp_claims.specs.declared.table.ClaimName.{ClaimName}
use Rattle.usp_claims.specs.declared.table.ClaimName.TheVariants.{Aud, Exp, Iat, Iss, Uc}
use Rattle.usp_json.proofs.CharLemmas.{differs}
use Rattle.usp_json.proofs.PlainLaws.{plain_length}
use Rattle.usp_json.specs.Canon.{canon, canon_members}
use Rattle.usp_json.specs.Grammar.{is_unescaped}
use Rattle.usp_json.specs.declared.value.Json.{Json}
use Rattle.usp_json.specs.declared.value.Json.TheVariants.{Num, Str}
use Rattle.usp_json.specs.declared.value.Members.{Members}
use Rattle.usp_jws.proofs.TokenLetters.{token_letters}
use Rattle.usp_jws.proofs.Tokens.{length-b64u}
use Rattle.usp_jws.specs.Base64url.{b64u}
use Rattle.usp_jws.specs.Compact.{IsToken, compact}
use Rattle.usp_jws.specs.Letters.{is_identity, is_identity_byte, is_token_letter}
use Rattle.usp_jws.specs.Sealed.{sealed_len}
use Rattle.usp_jws.specs.declared.limits.TheConstants.{MAX_IDENTITY, MAX_KID}
use Rattle.usp_rules.proofs.Segments.{length-segment}
use Rattle.usp_rules.specs.Segment.{segment_of}
use Rattle.usp_issue.specs.declared.limits.TheConstants.{MAX_CHANGED, MAX_TOKEN}

-- ---- claim sets

pub issuer_set : (issuer : List ℕ) (m : Members) → IsClaimSet m → IsClaimSet (with_claim Iss (Str issuer) m)
issuer_set issuer m set = text_set 0 Iss issuer m refl set

pub audience_set : (audience : List ℕ) (m : Members) → IsClaimSet m → IsClaimSet (with_claim Aud (Str audience) m)
audience_set audience m set = either_set audience m set

pub container_set : (container : List ℕ) (m : Members) → IsClaimSet m → IsClaimSet (with_claim Uc (Str container) m)
container_set container m set = text_set 10 Uc container m refl set

pub moment_set : (n : ℕ) (m : Members) → n ≤ MAX_NUMBER → IsClaimSet m → IsClaimSet (with_claim Iat (Num (decimal n)) m)
moment_set n m le set = number_set 5 Iat n m refl le set

pub expiry_set : (n : ℕ) (m : Members) → n ≤ MAX_NUMBER → IsClaimSet m → IsClaimSet (with_claim Exp (Num (decimal n)) m)
expiry_set n m le set = number_set 3 Exp n m refl le set

-- by how much they grow at most
pub growth : (name : ClaimName) (value : Json) (m : Members) → length (canon_members (with_claim name value m)) ≤ length (canon_members m) + length (name_of name) + 4 + length (canon value)
growth name value m = grows name value m

-- ---- how long values are

unescaped : (c : ℕ) → 32 ≤ c → c ≢ 34 → c ≢ 92 → is_unescaped c ≡ true
unescaped c high quote backslash = rw (le-leb 32 c high, differs c 34 quote, differs c 92 backslash) refl

identity_high : (c : ℕ) → is_identity_byte c ≡ true → 32 ≤ c
identity_high c e = grind (arith, nat_tests)

identity_is_not : (c d : ℕ) → is_identity_byte d ≡ false → is_identity_byte c ≡ true → c ≢ d
identity_is_not c d other e is = let both = sym other ∙ ap is_identity_byte (sym is) ∙ e in cc

identity_plain : (c : ℕ) → is_identity_byte c ≡ true → is_unescaped c ≡ true
identity_plain c e = unescaped c (identity_high c e) (identity_is_not c 34 refl e) (identity_is_not c 92 refl e)

one_of_high : (c : ℕ) → (is_ascii_alphanumeric c || ((c == 45) || ((c == 95) || ((c == 46) || false)))) ≡ true → 32 ≤ c
one_of_high c e = grind (arith, nat_tests)

letter_high : (c : ℕ) → is_token_letter c ≡ true → 32 ≤ c
letter_high c e = one_of_high c e

letter_is_not : (c d : ℕ) → is_token_letter d ≡ false → is_token_letter c ≡ true → c ≢ d
letter_is_not c d other e is = let both = sym other ∙ ap is_token_letter (sym is) ∙ e in cc

letter_plain : (c : ℕ) → is_token_letter c ≡ true → is_unescaped c ≡ true
letter_plain c e = unescaped c (letter_high c e) (letter_is_not c 34 refl e) (letter_is_not c 92 refl e)

all_plain : (test : ℕ → Bool) → ((c : ℕ) → test c ≡ true → is_unescaped c ≡ true) → (text : List ℕ) → list_all test text ≡ true → list_all is_unescaped text ≡ true
all_plain test plain [] e = refl
all_plain test plain (c ∷ rest) e =
    let p = and_parts (test c) (list_all test rest) e in
    rw (plain c p.0, all_plain test plain rest p.1) refl

-- an identity, which is not escaped
pub identity_size : (text : List ℕ) → is_identity text ≡ true → length (canon (Str text)) ≤ MAX_IDENTITY + 2
identity_size text e =
    let p = and_parts (nat_le 1 (length text) && nat_le (length text) MAX_IDENTITY) (list_all is_identity_byte text) e in
    let short : length text ≤ MAX_IDENTITY = leb-true (length text) MAX_IDENTITY (and_parts (nat_le 1 (length text)) (nat_le (length text) MAX_IDENTITY) p.0).1 in
    omega (arith, short, plain_length text (all_plain is_identity_byte identity_plain text p.1))

-- a digest is bytes
byte_below : (k n : ℕ) → byte_at k n < 256
byte_below zero n = omega arith
byte_below (suc k) n = omega arith

high_first_bytes : (k n : ℕ) → IsBytes (bytes_high_first k n)
high_first_bytes zero n i = omega arith
high_first_bytes (suc k) n zero = byte_below k n
high_first_bytes (suc k) n (suc i) = high_first_bytes k n i

joined_bytes : (a b : List ℕ) → IsBytes a → IsBytes b → IsBytes (a ++ b)
joined_bytes [] b h k i = k i
joined_bytes (x ∷ a) b h k zero = h 0
joined_bytes (x ∷ a) b h k (suc i) = joined_bytes a b (λ n. h (suc n)) k i

digest_are_bytes : (h : List ℕ) (n : ℕ) → IsBytes (digest_bytes h n)
unfolding digest_bytes
digest_are_bytes h zero = λ i. omega arith
digest_are_bytes h (suc n) = joined_bytes (digest_bytes h n) (to_be_bytes w32 (slice_index h n)) (digest_are_bytes h n) (high_first_bytes 4 (slice_index h n))

sha256_bytes : (m : List ℕ) → IsBytes (sha256 m)
unfolding sha256
sha256_bytes m = digest_are_bytes (final_hash initial_hash_256 m) 8

no_bytes : IsBytes []
no_bytes i = omega arith

-- base64url has letters of tokens, since it can stand in one
digest_token : (m : List ℕ) → IsToken (compact (sha256 m) [] [])
digest_token m = (
  omega (arith, length-append (b64u (sha256 m)) (46 ∷ (b64u [] ++ 46 ∷ b64u [])), length-append (b64u []) (46 ∷ b64u []), length-b64u (sha256 m), length-b64u [], length-sha256 m),
  record { header = sha256 m; payload = []; signature = []; bytes = (sha256_bytes m, no_bytes, no_bytes); spelled = refl },
)

digest_letters : (m : List ℕ) → list_all is_token_letter (b64u (sha256 m)) ≡ true
digest_letters m =
    let rest = 46 ∷ (b64u [] ++ 46 ∷ b64u []) in
    (and_parts (list_all is_token_letter (b64u (sha256 m))) (list_all is_token_letter rest)
    (sym (list_all-append is_token_letter (b64u (sha256 m)) rest) ∙ token_letters (compact (sha256 m) [] []) (digest_token m))).0

segment_plain : (uri : List ℕ) → list_all is_unescaped (codes "hash:" ++ segment_of uri) ≡ true
unfolding segment_of
segment_plain uri = all_plain is_token_letter letter_plain (b64u (sha256 uri)) (digest_letters uri)

-- the container of one content
pub container_size : (uri : List ℕ) → length (canon (Str (codes "hash:" ++ segment_of uri))) ≤ 58
container_size uri =
    omega (arith, plain_length (codes "hash:" ++ segment_of uri) (segment_plain uri), length-append (codes "hash:") (segment_of uri), length-segment uri)

pub number_short : (n : ℕ) → n ≤ MAX_NUMBER → length (canon (Num (decimal n))) ≤ 16
number_short n le = number_size n le

-- ---- how long a token is

pub token_short : (kid payload token : ℕ) → kid ≤ MAX_KID → payload ≤ MAX_CHANGED → token ≡ sealed_len kid payload → token ≤ MAX_TOKEN
token_short kid payload token named short is = omega (arith, named, short, is)
