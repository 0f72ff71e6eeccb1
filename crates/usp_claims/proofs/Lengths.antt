-- How long the canonical text is with one claim changed.
use Rattle.std.proofs.Common.{◌≡◌, ℕ, ◌+◌, ◌*◌, ◌-◌, ◌<◌, ◌≤◌, List, [], ◌∷◌, ◌++◌, length, map, Option, Some, None, inl, inr, refl, sym, ap, ◌∙◌, arith}
use Rattle.std.specs.Fmt.{decimal}
use Rattle.std.specs.List.{zip}
use Rattle.std.specs.Str.{bytes_eq}
use Rattle.std.proofs.lemmas.Fmt.{length-decimal-le}
use Rattle.std.proofs.lemmas.List.{length-append}
use Rattle.usp_json.specs.declared.value.Json.{Json}
use Rattle.usp_json.specs.declared.value.Json.TheVariants.{Num, Str as Text}
use Rattle.usp_json.specs.declared.value.Members.{Members}
use Rattle.usp_json.specs.Canon.{behind, canon, canon_members, canon_text, commas, escape_of, escaped_text, member_of}
use Rattle.usp_json.specs.Entries.{entries, value_of}
use Rattle.usp_claims.specs.Table.{claim, name_of}
use Rattle.usp_claims.specs.Changes.{with_entry, of_entries, with_claim}
use Rattle.usp_claims.specs.declared.table.ClaimName.{ClaimName}
use Rattle.usp_claims.specs.declared.table.ClaimName.TheVariants.{Iss, Sub, Aud, Exp, Nbf, Iat, Jti, Version, Crit, Ip, Uc, Ets, Stt, Std}
use Rattle.usp_claims.proofs.Changed.{whole}
use Rattle.usp_claims.proofs.Rows.{tells}
use Rattle.usp_json.proofs.Sizes.{quoted, bracketed, behind_size, member_size}
use Rattle.usp_claims.proofs.Shorter.{escape_size}
use Rattle.usp_json.proofs.CanonLaws.{canon_number, canon_string, canon_of}
use Rattle.usp_claims.specs.declared.limits.TheConstants.{MAX_NUMBER}

abbrev spelled : List ℕ × Json → List ℕ
spelled entry = member_of (entry.0, canon entry.1)

-- how long the members are with a comma before each
abbrev size : List (List ℕ × Json) → ℕ
size es = length (behind (map spelled es))

zip_spelled : (names : List (List ℕ)) (values : List Json) → map member_of (zip names (map canon values)) ≡ map spelled (zip names values)
zip_spelled [] values = refl
zip_spelled (n ∷ names) [] = refl
zip_spelled (n ∷ names) (v ∷ values) = ap (λ l. member_of (n, canon v) ∷ l) (zip_spelled names values)

commas_length : (texts : List (List ℕ)) → length (commas texts) ≡ length (behind texts) - 1
commas_length [] = refl
commas_length (text ∷ texts) = omega arith

canon_size : (m : Members) → length (canon_members m) ≡ size (entries m) - 1 + 2
canon_size m =
    let texts = map spelled (entries m) in
    let e : canon_members m ≡ 123 ∷ (commas texts ++ 125 ∷ []) = ap canon_members (sym (whole m)) ∙ canon_of m.names m.values ∙ ap (λ l. 123 ∷ (commas l ++ 125 ∷ [])) (zip_spelled m.names m.values) in
    let f = bracketed 123 125 (commas texts) in
    let g = commas_length texts in
    rw e (omega arith)

pub entries_back : (es : List (List ℕ × Json)) → entries (of_entries es) ≡ es
entries_back [] = refl
entries_back (e ∷ es) = ap (λ l. e ∷ l) (entries_back es)

size_cons : (e : List ℕ × Json) (es : List (List ℕ × Json)) → size (e ∷ es) ≡ 1 + length (canon_text e.0) + 1 + length (canon e.1) + size es
size_cons e es =
    let h = behind_size (spelled e) (map spelled es) in
    let k = member_size e.0 (canon e.1) in
    omega arith

record IsReplaced (name : List ℕ) (value earlier : Json) (es : List (List ℕ × Json)) : Type 0 where
  less : length (canon earlier) < size es
  same : size (with_entry name value es) + length (canon earlier) ≡ size es + length (canon value)

replaced : (name : List ℕ) (value earlier : Json) (es : List (List ℕ × Json)) → value_of name es ≡ Some earlier → IsReplaced name value earlier es
replaced name value earlier [] h = cc h
replaced name value earlier (e ∷ es) h = elim (tells (bytes_eq e.0 name)) [
  | inl hit ↦
      let g = rw hit at h in
      let is : e.1 ≡ earlier = cc in
      let a = size_cons e es in
      let b = size_cons (e.0, value) es in
      let c : length (canon e.1) ≡ length (canon earlier) = ap (λ v. length (canon v)) is in
      record { less = omega arith; same = rw hit (omega arith) }
  | inr miss ↦
      let g = rw miss at h in
      let r = replaced name value earlier es g in
      let a = size_cons e es in
      let b = size_cons e (with_entry name value es) in
      let l = r.less in
      let s = r.same in
      record { less = omega arith; same = rw miss (omega arith) }
]

added : (name : List ℕ) (value : Json) (es : List (List ℕ × Json)) → value_of name es ≡ None → size (with_entry name value es) ≡ size es + 1 + length (canon_text name) + 1 + length (canon value)
added name value [] h = let a = size_cons (name, value) [] in omega arith
added name value (e ∷ es) h = elim (tells (bytes_eq e.0 name)) [
  | inl hit ↦ let g = rw hit at h in cc g
  | inr miss ↦
      let g = rw miss at h in
      let r = added name value es g in
      let a = size_cons e es in
      let b = size_cons e (with_entry name value es) in
      rw miss (omega arith)
]

name_size : (name : ClaimName) → length (canon_text (name_of name)) ≡ length (name_of name) + 2
name_size Iss = refl
name_size Sub = refl
name_size Aud = refl
name_size Exp = refl
name_size Nbf = refl
name_size Iat = refl
name_size Jti = refl
name_size Version = refl
name_size Crit = refl
name_size Ip = refl
name_size Uc = refl
name_size Ets = refl
name_size Stt = refl
name_size Std = refl

with_size : (name : ClaimName) (value : Json) (m : Members) → length (canon_members (with_claim name value m)) ≡ size (with_entry (name_of name) value (entries m)) - 1 + 2
with_size name value m = canon_size (with_claim name value m) ∙ ap (λ l. size l - 1 + 2) (entries_back (with_entry (name_of name) value (entries m)))

-- with a claim that was there
record IsExchanged (name : ClaimName) (value earlier : Json) (m : Members) : Type 0 where
  less : length (canon earlier) ≤ length (canon_members m)
  same : length (canon_members (with_claim name value m)) ≡ length (canon_members m) - length (canon earlier) + length (canon value)

exchanged : (name : ClaimName) (value earlier : Json) (m : Members) → claim (name_of name) m ≡ Some earlier → IsExchanged name value earlier m
exchanged name value earlier m h =
    let r = replaced (name_of name) value earlier (entries m) h in
    let a = canon_size m in
    let b = with_size name value m in
    let l = r.less in
    let s = r.same in
    record { less = omega arith; same = omega arith }

grows_by : (name : ClaimName) (value : Json) (m : Members) (o : Option Json) → claim (name_of name) m ≡ o
    → length (canon_members (with_claim name value m)) ≤ length (canon_members m) + length (name_of name) + 4 + length (canon value)
grows_by name value m (Some earlier) h =
    let e = (exchanged name value earlier m h).same in
    let l = (exchanged name value earlier m h).less in
    omega arith
grows_by name value m None h =
    let r = added (name_of name) value (entries m) h in
    let a = canon_size m in
    let b = with_size name value m in
    let n = name_size name in
    omega arith

-- by how much it grows at most
pub grows : (name : ClaimName) (value : Json) (m : Members) → length (canon_members (with_claim name value m)) ≤ length (canon_members m) + length (name_of name) + 4 + length (canon value)
grows name value m = grows_by name value m (claim (name_of name) m) refl

-- how long the values are that are made
pub number_size : (n : ℕ) → n ≤ MAX_NUMBER → length (canon (Num (decimal n))) ≤ 16
number_size n le = rw (canon_number (decimal n)) (length-decimal-le 16 n (omega arith) (omega arith) (omega arith))

escaped_size : (bytes : List ℕ) → length (escaped_text bytes) ≤ 6 * length bytes
escaped_size [] = omega arith
escaped_size (b ∷ bytes) =
    let h = escape_size b in
    let k = escaped_size bytes in
    let e = length-append (escape_of b) (escaped_text bytes) in
    omega arith

pub text_size : (bytes : List ℕ) → length (canon (Text bytes)) ≤ 6 * length bytes + 2
text_size bytes =
    let h = escaped_size bytes in
    let e = quoted (escaped_text bytes) in
    rw (canon_string bytes) (omega arith)
