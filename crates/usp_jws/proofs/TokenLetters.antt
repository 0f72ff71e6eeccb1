-- The letters of a token.
use Rattle.std.proofs.Common.{◌≡◌, ℕ, zero, suc, ◌+◌, ◌*◌, ◌/◌, ◌%◌, ◌<◌, true, List, [], ◌∷◌, ◌++◌, length, refl, ap, ◌∙◌, arith, append-nil, length-append}
use Rattle.std.specs.Prelude.{slice_index}
use Rattle.std.specs.List.{list_all}
use Rattle.std.proofs.lemmas.Bool.{and_parts}
use Rattle.std.proofs.lemmas.List.Folds.{list_all-append}
use Rattle.base64.specs.Rfc4648.{encode_symbols}
use Rattle.base64.specs.GeneralPurpose.{IsBytes}
use Rattle.base64.specs.Engines.{url_safe_no_pad}
use Rattle.usp_jws.specs.Base64url.{b64u}
use Rattle.usp_jws.specs.Compact.{compact, IsToken}
use Rattle.usp_jws.specs.Letters.{is_token_letter}

-- the entries of a table of 64 symbols
abbrev AreLetters : List ℕ → Type 0
AreLetters t = (k : ℕ) → k < length t → is_token_letter (slice_index t k) ≡ true

table_letters : (t : List ℕ) → list_all is_token_letter t ≡ true → AreLetters t
table_letters [] e k below = absurd (omega arith)
table_letters (x ∷ t) e zero below = (and_parts (is_token_letter x) (list_all is_token_letter t) e).0
table_letters (x ∷ t) e (suc k) below = table_letters t (and_parts (is_token_letter x) (list_all is_token_letter t) e).1 k (omega arith)

-- As a record, so that antt finds the text.
record HasLetters (text : List ℕ) : Type 0 where
  all : list_all is_token_letter text ≡ true

no_more : HasLetters []
no_more = record { all = refl }

one_more : (x : ℕ) (xs : List ℕ) → is_token_letter x ≡ true → HasLetters xs → HasLetters (x ∷ xs)
one_more x xs e f = record { all = rw (e, f.all) refl }

symbols_letters : (t m : List ℕ) → length t ≡ 64 → AreLetters t → IsBytes m → HasLetters (encode_symbols t m)
unfolding encode_symbols
symbols_letters t [] size h bytes = no_more
symbols_letters t (a ∷ []) size h bytes =
    let x : a < 256 = bytes 0 in
    one_more _ _ (h (a / 4) (omega arith)) (one_more _ _ (h (a % 4 * 16) (omega arith)) no_more)
symbols_letters t (a ∷ b ∷ []) size h bytes =
    let x : a < 256 = bytes 0 in
    let y : b < 256 = bytes 1 in
    one_more _ _ (h (a / 4) (omega arith)) (one_more _ _ (h (a % 4 * 16 + b / 16) (omega arith)) (one_more _ _ (h (b % 16 * 4) (omega arith)) no_more))
symbols_letters t (a ∷ b ∷ c ∷ rest) size h bytes =
    let x : a < 256 = bytes 0 in
    let y : b < 256 = bytes 1 in
    let z : c < 256 = bytes 2 in
    one_more _ _ (h (a / 4) (omega arith))
    (one_more _ _ (h (a % 4 * 16 + b / 16) (omega arith))
    (one_more _ _ (h (b % 16 * 4 + c / 64) (omega arith)) (one_more _ _ (h (c % 64) (omega arith)) (symbols_letters t rest size h (λ i. bytes (suc (suc (suc i))))))))

b64u_letters : (m : List ℕ) → IsBytes m → list_all is_token_letter (b64u m) ≡ true
unfolding b64u
b64u_letters m bytes =
    ap (list_all is_token_letter) (append-nil (encode_symbols url_safe_no_pad.encode_table m))
    ∙ (symbols_letters url_safe_no_pad.encode_table m refl (table_letters url_safe_no_pad.encode_table refl) bytes).all

joined_letters : (a b : List ℕ) → list_all is_token_letter a ≡ true → list_all is_token_letter b ≡ true → list_all is_token_letter (a ++ 46 ∷ b) ≡ true
joined_letters a b e f = list_all-append is_token_letter a (46 ∷ b) ∙ rw (e, f) refl

compact_letters : (h p s : List ℕ) → IsBytes h → IsBytes p → IsBytes s → list_all is_token_letter (compact h p s) ≡ true
compact_letters h p s bh bp bs = joined_letters (b64u h) (b64u p ++ 46 ∷ b64u s) (b64u_letters h bh) (joined_letters (b64u p) (b64u s) (b64u_letters p bp) (b64u_letters s bs))

-- A token has such letters alone.
pub token_letters : (text : List ℕ) → IsToken text → list_all is_token_letter text ≡ true
token_letters text token =
    let t = token.1 in
    ap (list_all is_token_letter) t.spelled ∙ compact_letters t.header t.payload t.signature t.bytes.0 t.bytes.1 t.bytes.2

-- It has its two dots at least.
pub token_some : (text : List ℕ) → IsToken text → 0 < length text
token_some text token =
    let t = token.1 in
    omega (arith, ap length t.spelled, length-append (b64u t.header) (46 ∷ (b64u t.payload ++ 46 ∷ b64u t.signature)))
