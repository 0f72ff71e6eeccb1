-- Segments are ASCII.
use Rattle.std.proofs.Common.{◌≡◌, ℕ, ◌<◌, true, List, [], ◌∷◌, ◌++◌, length, codes, refl, arith, length-append}
use Rattle.std.specs.Prelude.{nat_lt}
use Rattle.std.specs.List.{list_all}
use Rattle.std.specs.Str.{IsAscii, IsUtf8}
use Rattle.std.proofs.lemmas.Bool.{and_parts}
use Rattle.std.proofs.lemmas.Bool.Decides.{nat_tests}
use Rattle.std.proofs.lemmas.Str.{IsAscii-append, IsUtf8-from_ascii}
use Rattle.std.proofs.lemmas.Str.Ascii.{IsAscii-nil, IsAscii-cons}
use Rattle.base64.proofs.Encoding.{IsAscii-encode_symbols}
use Rattle.base64.specs.Engines.{url_safe_no_pad}
use Rattle.base64.specs.Rfc4648.{encode_symbols}
use Rattle.sha2.specs.Sha256.{sha256}
use Rattle.sha2.proofs.Facts256.{length-sha256}
use Rattle.usp_jws.proofs.Tokens.{length-b64u}
use Rattle.usp_jws.specs.Base64url.{b64u}
use Rattle.usp_rules.specs.Segment.{segment_of}
use Rattle.usp_rules.specs.declared.limits.TheConstants.{SEGMENT_LEN}

below_128 : (c : ℕ) → nat_lt c 128 ≡ true → c < 128
below_128 c e = grind (arith, nat_tests)

tested : (text : List ℕ) → list_all (λ c. nat_lt c 128) text ≡ true → IsAscii text
tested [] e = IsAscii-nil
tested (c ∷ rest) e =
    let first = and_parts (nat_lt c 128) (list_all (λ c. nat_lt c 128) rest) e in
    IsAscii-cons c rest (below_128 c first.0) (tested rest first.1)

pub b64u_ascii : (bytes : List ℕ) → IsAscii (b64u bytes)
unfolding b64u
b64u_ascii bytes =
    IsAscii-append (encode_symbols url_safe_no_pad.encode_table bytes) []
    (IsAscii-encode_symbols url_safe_no_pad.encode_table bytes (tested url_safe_no_pad.encode_table refl)) IsAscii-nil

pub segment_ascii : (text : List ℕ) → IsAscii (segment_of text)
unfolding segment_of
segment_ascii text = IsAscii-append (codes "sha-256;") (b64u (sha256 text)) (tested (codes "sha-256;") refl) (b64u_ascii (sha256 text))

pub segment_text : (text : List ℕ) → IsUtf8 (segment_of text)
segment_text text = IsUtf8-from_ascii (segment_of text) (segment_ascii text)

pub length-segment : (text : List ℕ) → length (segment_of text) ≡ SEGMENT_LEN
unfolding segment_of
length-segment text = omega (arith, length-append (codes "sha-256;") (b64u (sha256 text)), length-b64u (sha256 text), length-sha256 text)
