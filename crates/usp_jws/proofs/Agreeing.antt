-- A key agrees exactly where the decoded signature is its MAC.
use Rattle.std.proofs.Common.{◌≡◌, ◌↔◌, ℕ, true, List, Option, Some, Ok, Err, Result, refl, sym, ap}
use Rattle.std.specs.Result.{result_ok}
use Rattle.std.specs.Str.{bytes_eq}
use Rattle.std.proofs.lemmas.Bool.{and_parts}
use Rattle.std.proofs.lemmas.Slice.Eq.{bytes_eq-Decides}
use Rattle.base64.specs.GeneralPurpose.{IsBytes, decode_of}
use Rattle.base64.specs.Engines.{url_safe_no_pad}
use Rattle.base64.specs.declared.decode.DecodeError.{DecodeError}
use Rattle.base64.proofs.EngineFacts.{decode_of_iff, decode_of-encode_of}
use Rattle.usp_jws.specs.Base64url.{b64u, b64u_bytes}
use Rattle.usp_jws.specs.Hmac.{hmac}
use Rattle.usp_jws.specs.Keys.{KeyValue, agrees, names}
use Rattle.usp_jws.proofs.Decoded.{strict}
use Rattle.usp_jws.proofs.Once.{b64u_once}
use Rattle.usp_jws.proofs.Sealing.{hmac_bytes}
use Rattle.usp_jws.proofs.Tokens.{same_bytes}

was_ok : (r : Result (List ℕ) DecodeError) (bytes : List ℕ) → result_ok r ≡ Some bytes → r ≡ Ok bytes
was_ok (Ok x) bytes e = let h : x ≡ bytes = cc in ap Ok h
was_ok (Err f) bytes e = cc

-- What is read of a text in base64url.
pub reads : (text bytes : List ℕ) → IsBytes text → IsBytes bytes → b64u_bytes text ≡ Some bytes ↔ text ≡ b64u bytes
unfolding b64u
reads text bytes sb bb =
    let iff = decode_of_iff url_safe_no_pad text bytes strict sb bb in
    (λ read. iff.0 (was_ok (decode_of url_safe_no_pad text) bytes read), λ is. ap result_ok (iff.1 is))

pub reads_back : (bytes : List ℕ) → IsBytes bytes → b64u_bytes (b64u bytes) ≡ Some bytes
unfolding b64u
reads_back bytes bb = ap result_ok (decode_of-encode_of url_safe_no_pad bytes refl bb)

-- The texts are compared, and that is comparing the bytes.
agrees_parts : (kid : Option (List ℕ)) (signed signature : List ℕ) (key : KeyValue)
    → agrees kid signed signature key ≡ true ↔ (names kid key ≡ true) × (b64u (hmac key.secret signed) ≡ signature)
agrees_parts kid signed signature key =
    let mac = b64u (hmac key.secret signed) in (
      λ agreed. let both = and_parts (names kid key) (bytes_eq mac signature) agreed in (both.0, (bytes_eq-Decides mac signature).0 both.1),
      λ is. rw (is.0, same_bytes mac signature is.1) refl,
    )

pub agrees_decoded : (kid : Option (List ℕ)) (signed bytes : List ℕ) (key : KeyValue) → IsBytes bytes
    → agrees kid signed (b64u bytes) key ≡ true ↔ (names kid key ≡ true) × (bytes ≡ hmac key.secret signed)
agrees_decoded kid signed bytes key bb =
    let parts = agrees_parts kid signed (b64u bytes) key in (
      λ agreed. let p = parts.0 agreed in (p.0, sym (b64u_once (hmac key.secret signed) bytes (hmac_bytes key.secret signed) bb p.1)),
      λ is. parts.1 (is.0, sym (ap b64u is.1)),
    )

pub agrees_text : (kid : Option (List ℕ)) (signed signature : List ℕ) (key : KeyValue) → IsBytes signature
    → agrees kid signed signature key ≡ true ↔ (names kid key ≡ true) × (b64u_bytes signature ≡ Some (hmac key.secret signed))
agrees_text kid signed signature key sb =
    let parts = agrees_parts kid signed signature key in
    let read = reads signature (hmac key.secret signed) sb (hmac_bytes key.secret signed) in (
      λ agreed. let p = parts.0 agreed in (p.0, read.1 (sym p.1)),
      λ is. parts.1 (is.0, sym (read.0 is.1)),
    )
