-- Names are ASCII, and so are texts.
use Rattle.std.proofs.Common.{◌≡◌, ℕ, zero, suc, ◌<◌, Bool, true, List, [], ◌∷◌, arith}
use Rattle.std.specs.Prelude.{slice_index, nat_le, length, ◌&&◌, IsUtf8}
use Rattle.std.specs.List.{list_all}
use Rattle.std.proofs.lemmas.Bool.{and_parts}
use Rattle.std.proofs.lemmas.Bool.Decides.{nat_tests}
use Rattle.std.proofs.lemmas.Str.{IsUtf8-from_ascii}
use Rattle.usp_jws.specs.Letters.{is_kid_letter, is_kid, is_identity_byte, is_identity}
use Rattle.usp_jws.specs.declared.limits.TheConstants.{MAX_IDENTITY, MAX_KID}

ascii : (test : ℕ → Bool) → ((c : ℕ) → test c ≡ true → c < 128) → (text : List ℕ) → list_all test text ≡ true → (i : ℕ) → slice_index text i < 128
ascii test below [] e i = omega arith
ascii test below (c ∷ rest) e zero = below c (and_parts (test c) (list_all test rest) e).0
ascii test below (c ∷ rest) e (suc i) = ascii test below rest (and_parts (test c) (list_all test rest) e).1 i

letter_below : (c : ℕ) → is_kid_letter c ≡ true → c < 128
letter_below c e = grind (arith, nat_tests)

byte_below : (c : ℕ) → is_identity_byte c ≡ true → c < 128
byte_below c e = grind (arith, nat_tests)

pub kid_text : (kid : List ℕ) → is_kid kid ≡ true → IsUtf8 kid
kid_text kid e = IsUtf8-from_ascii kid (ascii is_kid_letter letter_below kid (and_parts (nat_le 1 (length kid) && nat_le (length kid) MAX_KID) (list_all is_kid_letter kid) e).1)

pub identity_text : (text : List ℕ) → is_identity text ≡ true → IsUtf8 text
identity_text text e = IsUtf8-from_ascii text (ascii is_identity_byte byte_below text (and_parts (nat_le 1 (length text) && nat_le (length text) MAX_IDENTITY) (list_all is_identity_byte text) e).1)
