-- Tokens, their refusals, and what sealing makes.
use Rattle.std.proofs.Common.{◌≡◌, ℕ, ◌+◌, ◌*◌, ◌/◌, ◌≤◌, inl, inr, true, List, ◌∷◌, ◌++◌, length, Some, None, refl, sym, ap, ◌∙◌, arith, rules, length-append, append-nil}
use Rattle.std.specs.Str.{bytes_eq}
use Rattle.std.proofs.lemmas.Slice.Eq.{bytes_eq-Decides}
use Rattle.base64.specs.GeneralPurpose.{IsBytes}
use Rattle.base64.specs.Rfc4648.{encode_symbols}
use Rattle.base64.specs.Engines.{url_safe_no_pad}
use Rattle.base64.proofs.RoundTrip.{length-encode_symbols}
use Rattle.usp_jws.specs.Base64url.{b64u, IsB64u}
use Rattle.usp_jws.specs.Compact.{compact, dots, IsCut, IsToken, IsFirstBad, Refuses}
use Rattle.usp_jws.specs.Dotted.{dotted}
use Rattle.usp_jws.specs.Hmac.{hmac}
use Rattle.usp_jws.specs.Keys.{KeyValue, agrees}
use Rattle.usp_jws.specs.Parts.{PartsValue, signed_of, text_of}
use Rattle.usp_jws.specs.Sealed.{header_text, signed_text, sealed, sealed_len}
use Rattle.usp_jws.specs.declared.limits.TheConstants.{MAX_PAYLOAD}
use Rattle.usp_jws.specs.declared.parts.TokenFault.{TokenFault}
use Rattle.usp_jws.specs.declared.parts.TokenFault.TheVariants.{TooLong, NotThree, NotB64}
use Rattle.usp_jws.proofs.Dots.{dots_cut}
use Rattle.usp_jws.proofs.Once.{b64u_plain, dotted_once}

-- the dots of three texts with dots between them
pub dots_dotted : (h p s : List ℕ) → dots (dotted h p s) ≡ dots h + (1 + (dots p + (1 + dots s)))
dots_dotted h p s = dots_cut h (p ++ 46 ∷ s) ∙ ap (λ n. dots h + (1 + n)) (dots_cut p s)

-- a compact form has two dots
pub dots_compact : (h p s : List ℕ) → dots (compact h p s) ≡ 2
dots_compact h p s = omega (arith, dots_dotted (b64u h) (b64u p) (b64u s), b64u_plain h, b64u_plain p, b64u_plain s)

-- Parts with two dots in all are found again in the compact form that they make.
pub parts_of_compact : (h p s x y z text : List ℕ) → text ≡ dotted h p s → dots text ≡ 2 → text ≡ compact x y z
    → (h ≡ b64u x) × (p ≡ b64u y) × (s ≡ b64u z)
parts_of_compact h p s x y z text whole two is =
    let count : dots h + (1 + (dots p + (1 + dots s))) ≡ 2 = sym (dots_dotted h p s) ∙ (sym (ap dots whole) ∙ two) in
    dotted_once h p s (b64u x) (b64u y) (b64u z) (omega arith) (omega arith) (b64u_plain x) (b64u_plain y) (sym whole ∙ is)

some_bad : (part : ℕ) (h p s x y z : List ℕ) → IsBytes x → IsBytes y → IsBytes z → (h ≡ b64u x) × (p ≡ b64u y) × (s ≡ b64u z)
    → IsFirstBad part h p s → ⊥
some_bad part h p s x y z bx by bz is (inl bad) = bad.1 (x, bx, is.0)
some_bad part h p s x y z bx by bz is (inr (inl bad)) = bad.2 (y, by, is.1)
some_bad part h p s x y z bx by bz is (inr (inr bad)) = bad.3 (z, bz, is.2)

-- what is refused is no token
pub no_token : (fault : TokenFault) (text : List ℕ) → Refuses fault text → IsToken text → ⊥
no_token TooLong text refused token = omega (arith, refused, token.0)
no_token NotThree text refused token =
    let t = token.1 in refused.1 (ap dots t.spelled ∙ dots_compact t.header t.payload t.signature)
no_token (NotB64 part) text refused token =
    let t = token.1 in
    some_bad part refused.1 refused.2 refused.3 t.header t.payload t.signature t.bytes.0 t.bytes.1 t.bytes.2
    (parts_of_compact refused.1 refused.2 refused.3 t.header t.payload t.signature text refused.4 refused.5 t.spelled) refused.6

-- The parts of a token are base64url.
cut_token : (text h p s : List ℕ) → IsCut text h p s → IsToken text → IsB64u h × IsB64u p × IsB64u s
cut_token text h p s cut token =
    let t = token.1 in
    let is = parts_of_compact h p s t.header t.payload t.signature text cut.whole cut.two t.spelled in
    ((t.header, t.bytes.0, is.0), (t.payload, t.bytes.1, is.1), (t.signature, t.bytes.2, is.2))

pub bad_header : (text h p s : List ℕ) → IsCut text h p s → (IsB64u h → ⊥) → IsToken text → ⊥
bad_header text h p s cut bad token = bad (cut_token text h p s cut token).0

pub bad_payload : (text h p s : List ℕ) → IsCut text h p s → (IsB64u p → ⊥) → IsToken text → ⊥
bad_payload text h p s cut bad token = bad (cut_token text h p s cut token).1

pub bad_signature : (text h p s : List ℕ) → IsCut text h p s → (IsB64u s → ⊥) → IsToken text → ⊥
bad_signature text h p s cut bad token = bad (cut_token text h p s cut token).2

first_once : (a b : ℕ) (h p s : List ℕ) → IsFirstBad a h p s → IsFirstBad b h p s → a ≡ b
first_once a b h p s (inl x) (inl y) = x.0 ∙ sym y.0
first_once a b h p s (inl x) (inr (inl y)) = absurd (x.1 y.1)
first_once a b h p s (inl x) (inr (inr y)) = absurd (x.1 y.1)
first_once a b h p s (inr (inl x)) (inl y) = absurd (y.1 x.1)
first_once a b h p s (inr (inl x)) (inr (inl y)) = x.0 ∙ sym y.0
first_once a b h p s (inr (inl x)) (inr (inr y)) = absurd (x.2 y.2)
first_once a b h p s (inr (inr x)) (inl y) = absurd (y.1 x.1)
first_once a b h p s (inr (inr x)) (inr (inl y)) = absurd (y.2 x.2)
first_once a b h p s (inr (inr x)) (inr (inr y)) = x.0 ∙ sym y.0

first_at : (a b : ℕ) (h p s h' p' s' : List ℕ) → (h ≡ h') × (p ≡ p') × (s ≡ s') → IsFirstBad a h p s → IsFirstBad b h' p' s' → a ≡ b
first_at a b h p s h' p' s' is x y = first_once a b h p s x (rw (is.0, is.1, is.2) y)

no_dots : (h p s text : List ℕ) → text ≡ dotted h p s → dots text ≡ 2 → (dots h ≡ 0) × (dots p ≡ 0)
no_dots h p s text whole two =
    let count : dots h + (1 + (dots p + (1 + dots s))) ≡ 2 = sym (dots_dotted h p s) ∙ (sym (ap dots whole) ∙ two) in
    (omega arith, omega arith)

-- a text is refused for one reason
pub one_reason : (fault other : TokenFault) (text : List ℕ) → Refuses fault text → Refuses other text → fault ≡ other
one_reason TooLong TooLong text x y = refl
one_reason TooLong NotThree text x y = absurd (omega (arith, x, y.0))
one_reason TooLong (NotB64 b) text x y = absurd (omega (arith, x, y.0))
one_reason NotThree TooLong text x y = absurd (omega (arith, y, x.0))
one_reason NotThree NotThree text x y = refl
one_reason NotThree (NotB64 b) text x y = absurd (x.1 y.5)
one_reason (NotB64 a) TooLong text x y = absurd (omega (arith, y, x.0))
one_reason (NotB64 a) NotThree text x y = absurd (y.1 x.5)
one_reason (NotB64 a) (NotB64 b) text x y =
    let n = no_dots x.1 x.2 x.3 text x.4 x.5 in
    let m = no_dots y.1 y.2 y.3 text y.4 y.5 in
    ap NotB64 (first_at a b x.1 x.2 x.3 y.1 y.2 y.3 (dotted_once x.1 x.2 x.3 y.1 y.2 y.3 n.0 n.1 m.0 m.1 (sym x.4 ∙ y.4)) x.6 y.6)

-- the length of a text in base64url
pub length-b64u : (bytes : List ℕ) → length (b64u bytes) ≡ (4 * length bytes + 2) / 3
unfolding b64u
length-b64u bytes = rw (append-nil (encode_symbols url_safe_no_pad.encode_table bytes)) (length-encode_symbols url_safe_no_pad.encode_table bytes)

-- What is sealed over at most `MAX_PAYLOAD` bytes is a token.
pub is_token : (header payload digest text : List ℕ) → IsBytes header → IsBytes payload → IsBytes digest → length header ≤ 88
    → length payload ≤ MAX_PAYLOAD → length digest ≡ 32 → text ≡ compact header payload digest → IsToken text
is_token header payload digest text bh bp bd lh lp ld is = (
  omega (
    arith,
    ap length is,
    length-append (b64u header) (46 ∷ (b64u payload ++ 46 ∷ b64u digest)),
    length-append (b64u payload) (46 ∷ b64u digest),
    length-b64u header,
    length-b64u payload,
    length-b64u digest,
  ),
  record { header = header; payload = payload; signature = digest; bytes = (bh, bp, bd); spelled = is },
)

-- how long what is sealed is
pub length-compact : (header payload digest text : List ℕ) (kid : ℕ) → length header ≡ kid + 24 → length digest ≡ 32 → text ≡ compact header payload digest → length text ≡ sealed_len kid (length payload)
length-compact header payload digest text kid lh ld is =
    omega (
      arith,
      ap length is,
      length-append (b64u header) (46 ∷ (b64u payload ++ 46 ∷ b64u digest)),
      length-append (b64u payload) (46 ∷ b64u digest),
      length-b64u header,
      length-b64u payload,
      length-b64u digest,
    )

pub same_bytes : (xs ys : List ℕ) → xs ≡ ys → bytes_eq xs ys ≡ true
same_bytes xs ys e = search (rules, bytes_eq-Decides xs ys, e)

-- The key that sealed a token agrees with its parts.
pub sealed_agrees : (key : KeyValue) (payload : List ℕ) (parts : PartsValue) → text_of parts ≡ sealed key payload
    → (agrees None (signed_of parts) parts.signature key ≡ true) × (agrees (Some key.kid) (signed_of parts) parts.signature key ≡ true)
unfolding sealed
sealed_agrees key payload parts is =
    let mac : List ℕ = hmac key.secret (signed_text key.kid payload) in
    let two : dots (text_of parts) ≡ 2 = ap dots is ∙ dots_compact (header_text key.kid) payload mac in
    let p = parts_of_compact parts.header parts.payload parts.signature (header_text key.kid) payload mac (text_of parts) refl two is in
    let signed : signed_of parts ≡ signed_text key.kid payload = rw (p.0, p.1) refl in
    let same : bytes_eq (b64u (hmac key.secret (signed_of parts))) parts.signature ≡ true =
    same_bytes _ _ (ap (λ t. b64u (hmac key.secret t)) signed ∙ sym p.2) in
    (same, rw (same_bytes key.kid key.kid refl) same)
