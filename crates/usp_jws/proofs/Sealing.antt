-- What sealing makes is read again.
use Rattle.std.proofs.Common.{◌≡◌, ◌≢◌, ℕ, zero, suc, ◌<◌, ◌≤◌, Bool, true, false, ◌&&◌, List, [], ◌∷◌, ◌++◌, length, Some, None, refl, sym, ap, subst, ◌∙◌, arith, append_assoc, append-nil, length-append}
use Rattle.std.specs.Prelude.{codes, slice_index, nat_lt, nat_le}
use Rattle.std.specs.Int.{byte_at, bytes_high_first, to_be_bytes, w32}
use Rattle.std.specs.List.{list_all}
use Rattle.std.proofs.lemmas.Bool.{and_parts}
use Rattle.std.proofs.lemmas.Bool.Decides.{nat_tests}
use Rattle.std.proofs.lemmas.Str.{encode_ascii}
use lib.Utf8.{low_scalar}
use Rattle.base64.specs.GeneralPurpose.{IsBytes}
use Rattle.sha2.specs.Sha256.{sha256, digest_bytes, final_hash, initial_hash_256}
use Rattle.sha2.proofs.Facts256.{length-sha256}
use Rattle.usp_json.specs.declared.value.Json.TheVariants.{Str, outs-Str}
use Rattle.usp_json.specs.declared.value.Members.{Members}
use Rattle.usp_json.specs.Entries.{members_of}
use Rattle.usp_json.specs.Grammar.{SpellsChar, plain, SpellsChars, none, more, SpellsText}
use Rattle.usp_json.specs.Spells.{given, string, padded, SpellsMember, member, last_member, more_members, members, IsReading}
use Rattle.usp_jws.specs.Base64url.{b64u}
use Rattle.usp_jws.specs.Compact.{dots, IsToken}
use Rattle.usp_jws.specs.Headers.{IsHeader, kid_of, header_fault}
use Rattle.usp_jws.specs.Hmac.{hmac}
use Rattle.usp_jws.specs.Keys.{KeyValue}
use Rattle.usp_jws.specs.Letters.{is_kid_letter, is_kid}
use Rattle.usp_jws.specs.Parts.{PartsValue, text_of}
use Rattle.usp_jws.specs.Sealed.{header_text, signed_text, sealed, sealed_len}
use Rattle.usp_jws.specs.declared.limits.TheConstants.{MAX_TOKEN}
use Rattle.usp_jws.proofs.Tokens.{dots_compact, parts_of_compact, length-compact}

-- ---- a text of a name's letters, in its quotes

abbrev are_letters : List ℕ → Bool
are_letters text = list_all is_kid_letter text

letter_low : (c : ℕ) → is_kid_letter c ≡ true → c < 128
letter_low c e = grind (arith, nat_tests)

letter_high : (c : ℕ) → is_kid_letter c ≡ true → 45 ≤ c
letter_high c e = grind (arith, nat_tests)

letter_is_not : (c d : ℕ) → is_kid_letter d ≡ false → is_kid_letter c ≡ true → c ≢ d
letter_is_not c d other e is = let both = sym other ∙ ap is_kid_letter (sym is) ∙ e in cc

letter_char : (c : ℕ) → is_kid_letter c ≡ true → SpellsChar c (c ∷ [])
letter_char c e =
    let low = letter_low c e in
    let high = letter_high c e in
    plain (low_scalar c (omega arith)) (omega arith) (letter_is_not c 34 refl e) (letter_is_not c 92 refl e) (sym (encode_ascii c low))

letter_chars : (text : List ℕ) → are_letters text ≡ true → SpellsChars text text
letter_chars [] e = none
letter_chars (c ∷ rest) e =
    let first = and_parts (is_kid_letter c) (are_letters rest) e in
    more c rest (c ∷ []) rest (c ∷ rest) (c ∷ rest) (letter_char c first.0) (letter_chars rest first.1) (ap (λ (l : List ℕ). l ++ rest) (sym (encode_ascii c (letter_low c first.0)))) refl

abbrev quoted : List ℕ → List ℕ
quoted text = 34 ∷ (text ++ 34 ∷ [])

quoted_text : (text : List ℕ) → are_letters text ≡ true → SpellsText text (quoted text)
quoted_text text e = (text, refl, letter_chars text e)

text_member : (name text : List ℕ) → are_letters name ≡ true → are_letters text ≡ true → SpellsMember given 15 name (Str text) (quoted name ++ 58 ∷ quoted text)
text_member name text n t =
    member 15 name (Str text) [] (quoted name) [] (quoted text) (quoted name ++ 58 ∷ quoted text) tt (quoted_text name n) tt
    (padded 15 (Str text) [] (quoted text) [] (quoted text) tt (string 15 (Str text) (quoted text) text refl (quoted_text text t)) tt (sym (append-nil (quoted text)))) refl

-- ---- the header

abbrev header_members : List ℕ → Members
header_members kid = members_of (codes "alg" ∷ codes "kid" ∷ []) (Str (codes "HS256") ∷ Str kid ∷ [])

abbrev both_members : List ℕ → List ℕ
both_members kid = (quoted (codes "alg") ++ 58 ∷ quoted (codes "HS256")) ++ 44 ∷ (quoted (codes "kid") ++ 58 ∷ quoted kid)

header_whole : (kid : List ℕ) → header_text kid ≡ 123 ∷ (both_members kid ++ 125 ∷ [])
header_whole kid = ap (λ (l : List ℕ). codes "{\"alg\":\"HS256\",\"kid\":\"" ++ l) (sym (append_assoc kid (34 ∷ []) (125 ∷ [])))

header_reads : (kid : List ℕ) → are_letters kid ≡ true → IsReading (header_text kid) (header_members kid)
header_reads kid e =
    record {
      before = [];
      inner = header_text kid;
      after = [];
      begins = tt;
      names = codes "alg" ∷ codes "kid" ∷ [];
      values = Str (codes "HS256") ∷ Str kid ∷ [];
      is = refl;
      spells = members 15 (codes "alg" ∷ codes "kid" ∷ []) (Str (codes "HS256") ∷ Str kid ∷ []) (both_members kid) (header_text kid)
          (more_members 15 (codes "alg") (Str (codes "HS256")) (codes "kid" ∷ []) (Str kid ∷ []) (quoted (codes "alg") ++ 58 ∷ quoted (codes "HS256")) (quoted (codes "kid") ++ 58 ∷ quoted kid) (both_members kid)
          (text_member (codes "alg") (codes "HS256") refl refl) (last_member 15 (codes "kid") (Str kid) (quoted (codes "kid") ++ 58 ∷ quoted kid) (text_member (codes "kid") kid refl e)) refl)
          (refl, (refl, tt)) (omega arith) (header_whole kid);
      ends = tt;
      whole = sym (append-nil (header_text kid));
    }

header_good : (kid : List ℕ) → header_fault (header_members kid) ≡ None
header_good kid = rw (outs-Str (codes "HS256"), outs-Str kid) refl

header_kid : (kid : List ℕ) → Some kid ≡ kid_of (header_members kid)
header_kid kid = rw (outs-Str kid) refl

-- ---- bytes

joined_bytes : (a b : List ℕ) → IsBytes a → IsBytes b → IsBytes (a ++ b)
joined_bytes [] b h k i = k i
joined_bytes (x ∷ a) b h k zero = h 0
joined_bytes (x ∷ a) b h k (suc i) = joined_bytes a b (λ n. h (suc n)) k i

tested_bytes : (text : List ℕ) → list_all (λ c. nat_lt c 256) text ≡ true → IsBytes text
tested_bytes [] e i = omega arith
tested_bytes (c ∷ rest) e zero = below c (and_parts (nat_lt c 256) (list_all (λ c. nat_lt c 256) rest) e).0
  where
    below : (c : ℕ) → nat_lt c 256 ≡ true → c < 256
    below c e = grind (arith, nat_tests)
tested_bytes (c ∷ rest) e (suc i) = tested_bytes rest (and_parts (nat_lt c 256) (list_all (λ c. nat_lt c 256) rest) e).1 i

letter_bytes : (text : List ℕ) → are_letters text ≡ true → IsBytes text
letter_bytes [] e i = omega arith
letter_bytes (c ∷ rest) e zero = let low = letter_low c (and_parts (is_kid_letter c) (are_letters rest) e).0 in omega arith
letter_bytes (c ∷ rest) e (suc i) = letter_bytes rest (and_parts (is_kid_letter c) (are_letters rest) e).1 i

header_bytes : (kid : List ℕ) → are_letters kid ≡ true → IsBytes (header_text kid)
header_bytes kid e = joined_bytes (codes "{\"alg\":\"HS256\",\"kid\":\"") (kid ++ codes "\"}") (tested_bytes (codes "{\"alg\":\"HS256\",\"kid\":\"") refl) (joined_bytes kid (codes "\"}") (letter_bytes kid e) (tested_bytes (codes "\"}") refl))

byte_below : (k n : ℕ) → byte_at k n < 256
byte_below zero n = omega arith
byte_below (suc k) n = omega arith

high_first_bytes : (k n : ℕ) → IsBytes (bytes_high_first k n)
high_first_bytes zero n i = omega arith
high_first_bytes (suc k) n zero = byte_below k n
high_first_bytes (suc k) n (suc i) = high_first_bytes k n i

digest_are_bytes : (h : List ℕ) (n : ℕ) → IsBytes (digest_bytes h n)
unfolding digest_bytes
digest_are_bytes h zero = λ i. omega arith
digest_are_bytes h (suc n) = joined_bytes (digest_bytes h n) (to_be_bytes w32 (slice_index h n)) (digest_are_bytes h n) (high_first_bytes 4 (slice_index h n))

sha256_bytes : (m : List ℕ) → IsBytes (sha256 m)
unfolding sha256
sha256_bytes m = digest_are_bytes (final_hash initial_hash_256 m) 8

pub hmac_bytes : (key text : List ℕ) → IsBytes (hmac key text)
unfolding hmac
hmac_bytes key text = sha256_bytes _

length-hmac : (key text : List ℕ) → length (hmac key text) ≡ 32
unfolding hmac
length-hmac key text = length-sha256 _

-- ---- the token

kid_letters : (kid : List ℕ) → is_kid kid ≡ true → are_letters kid ≡ true
kid_letters kid e =
    (and_parts (nat_le 1 (length kid) && nat_le (length kid) 64) (are_letters kid) e).1

header_named : (kid : List ℕ) → is_kid kid ≡ true → IsHeader (b64u (header_text kid)) (Some kid)
header_named kid e =
    let letters = kid_letters kid e in (
      header_members kid,
      record { bytes = header_text kid; are_bytes = header_bytes kid letters; encoded = refl; reads = header_reads kid letters },
      header_good kid,
      header_kid kid,
    )

sealed_first : (key : KeyValue) (payload : List ℕ) (parts : PartsValue) → text_of parts ≡ sealed key payload → (parts.header ≡ b64u (header_text key.kid)) × (parts.payload ≡ b64u payload)
unfolding sealed
sealed_first key payload parts is =
    let mac : List ℕ = hmac key.secret (signed_text key.kid payload) in
    let two = ap dots is ∙ dots_compact (header_text key.kid) payload mac in
    let p = parts_of_compact parts.header parts.payload parts.signature (header_text key.kid) payload mac (text_of parts) refl two is in
    (p.0, p.1)

-- The first part of a sealed token is a header that names the key.
pub sealed_header : (key : KeyValue) (payload : List ℕ) (parts : PartsValue) → is_kid key.kid ≡ true → text_of parts ≡ sealed key payload → IsHeader parts.header (Some key.kid)
sealed_header key payload parts named is = subst (λ (t : List ℕ). IsHeader t (Some key.kid)) (sym (sealed_first key payload parts is).0) (header_named key.kid named)

-- The second is the payload.
pub sealed_payload : (key : KeyValue) (payload : List ℕ) (parts : PartsValue) → text_of parts ≡ sealed key payload → parts.payload ≡ b64u payload
sealed_payload key payload parts is = (sealed_first key payload parts is).1

-- It has such parts.
pub sealed_has_parts : (key : KeyValue) (payload : List ℕ) → (parts : PartsValue) × (text_of parts ≡ sealed key payload)
unfolding sealed
sealed_has_parts key payload = (record { header = b64u (header_text key.kid); payload = b64u payload; signature = b64u (hmac key.secret (signed_text key.kid payload)) }, refl)

-- It is a token where it is short enough.
pub sealed_token : (key : KeyValue) (payload : List ℕ) → is_kid key.kid ≡ true → IsBytes payload → length (sealed key payload) ≤ MAX_TOKEN → IsToken (sealed key payload)
unfolding sealed
sealed_token key payload named bytes short = (
  short,
  record {
    header = header_text key.kid;
    payload = payload;
    signature = hmac key.secret (signed_text key.kid payload);
    bytes = (header_bytes key.kid (kid_letters key.kid named), bytes, hmac_bytes key.secret (signed_text key.kid payload));
    spelled = refl;
  },
)

-- how long it is
pub length-sealed : (key : KeyValue) (payload : List ℕ) → length (sealed key payload) ≡ sealed_len (length key.kid) (length payload)
unfolding sealed
length-sealed key payload =
    let header = length-append key.kid (codes "\"}") in
    length-compact (header_text key.kid) payload (hmac key.secret (signed_text key.kid payload)) _ (length key.kid) (omega (arith, header)) (length-hmac key.secret (signed_text key.kid payload)) refl
