-- The letters of what the lines of a lab are made of.
use Rattle.std.proofs.Common.{◌≡◌, ℕ, zero, suc, ◌+◌, ◌-◌, ◌/◌, ◌%◌, ◌^◌, ◌<◌, ◌≤◌, Bool, true, false, not, cond, ◌&&◌, ◌==◌, nat_lt, nat_le, List, [], ◌∷◌, ◌++◌, length, codes, Option, Some, None, refl, sym, ap, ◌∙◌, subst, arith, le-leb}
use Rattle.std.specs.Fmt.{decimal, digit_glyph, digits, digits_onto}
use Rattle.std.specs.List.{list_all, slice_get}
use Rattle.std.proofs.lemmas.Bool.{and_parts, leb-true, lt-ltb}
use Rattle.std.proofs.lemmas.Fmt.{decimal_injective}
use Rattle.std.proofs.lemmas.Option.{slice_get_within}
use Rattle.usp_base.specs.Numbers.{is_digit}
use Rattle.usp_edge.specs.declared.note.Verdict.{Verdict}
use Rattle.usp_edge.specs.declared.note.Verdict.TheVariants.{Admitted, Denied}
use Rattle.usp_json.proofs.CharLemmas.{differs}
use Rattle.usp_json.specs.declared.value.Members.{Members}
use Rattle.usp_jws.specs.Letters.{is_identity, is_identity_byte}
use Rattle.usp_jws.specs.declared.limits.TheConstants.{MAX_IDENTITY}
use Rattle.std.specs.Char.{is_ascii_graphic}
use Rattle.usp_nonce.specs.declared.answer.Turned.{Turned}
use Rattle.usp_rules.specs.Names.{name_of, number_of}
use Rattle.usp_rules.specs.declared.rule.Rule.{Rule}
use Rattle.usp_rules.specs.declared.rule.Rule.TheVariants as rule
use Rattle.usp_script.specs.Reading.{label_text}
use Rattle.usp_script.specs.declared.ask.Label.{Label}
use Rattle.usp_script.specs.declared.ask.Label.TheVariants.{Granted, Issued, Outside}
use Rattle.usp_lab.proofs.Cuts.{Each, each_both, each_wider, ends, is_clear, parted, passed}
use Rattle.usp_lab.proofs.Lists.{same_some}
use Rattle.usp_lab.specs.LabText.{bound_text, turn_text, verdict_text, window_text}
use Rattle.usp_claims.specs.Table.{number_claim}

-- ---- decimals

glyph_by : (t : Bool) (d : ℕ) → t ≡ true → d < 10 → is_digit (cond t (48 + d) (87 + d)) ≡ true
glyph_by true d e small = passed (nat_le 48 (48 + d)) (nat_le (48 + d) 57) (le-leb 48 (48 + d) (omega arith)) (le-leb (48 + d) 57 (omega arith))
glyph_by false d e small = cc

glyph_digit : (d : ℕ) → d < 10 → is_digit (digit_glyph false d) ≡ true
glyph_digit d small = glyph_by (nat_lt d 10) d (lt-ltb d 10 small) small

either : (t : Bool) (x y : List ℕ) → Each is_digit x → Each is_digit y → Each is_digit (cond t x y)
either true x y e f = e
either false x y e f = f

onto_digits : (k n : ℕ) (acc : List ℕ) → Each is_digit acc → Each is_digit (digits_onto k 10 false n acc)
onto_digits zero n acc e = e
onto_digits (suc k) n acc e =
    let digit = digit_glyph false (n % 10) in
    let more : Each is_digit (digit ∷ acc) = passed (is_digit digit) (list_all is_digit acc) (glyph_digit (n % 10) (omega arith)) e in
    either (n / 10 == 0) (digit ∷ acc) (digits_onto k 10 false (n / 10) (digit ∷ acc)) more (onto_digits k (n / 10) (digit ∷ acc) more)

spelled_onto : (n : ℕ) → digits_onto 64 10 false n [] ≡ decimal n
unfolding digits
spelled_onto n = refl

pub decimal_digits : (n : ℕ) → Each is_digit (decimal n)
decimal_digits n = subst (Each is_digit) (spelled_onto n) (onto_digits 64 n [] refl)

-- a number, and what stands behind it, are one at one place
pub one_number : (n m : ℕ) (r s : List ℕ) → n < 2 ^ 64 → m < 2 ^ 64 → ends is_digit r ≡ true → ends is_digit s ≡ true
    → decimal n ++ r ≡ decimal m ++ s → (n ≡ m) × (r ≡ s)
one_number n m r s small less er es e =
    let both = parted is_digit (decimal n) (decimal m) r s (decimal_digits n) (decimal_digits m) er es e in
    (decimal_injective n m small less both.0, both.1)

-- ---- bytes

record IsDigit (b : ℕ) : Type 0 where
  least : 48 ≤ b
  most : b ≤ 57

bounds : (b : ℕ) → is_digit b ≡ true → IsDigit b
bounds b e =
    let parts = and_parts (nat_le 48 b) (nat_le b 57) e in
    record { least = leb-true 48 b parts.0; most = leb-true b 57 parts.1 }

digit_clear : (b : ℕ) → is_digit b ≡ true → is_clear b ≡ true
digit_clear b e = let within = bounds b e in le-leb 32 b (omega (arith, within.least))

identity_clear : (b : ℕ) → is_identity_byte b ≡ true → is_clear b ≡ true
identity_clear b e =
    let graphic = (and_parts (is_ascii_graphic b) (not (b == 34)) (and_parts (is_ascii_graphic b && not (b == 34)) (not (b == 92)) e).0).0 in
    let least = leb-true 33 b (and_parts (nat_le 33 b) (nat_le b 126) graphic).0 in
    le-leb 32 b (omega (arith, least))

-- a byte of a label, behind which stands `[`
abbrev pub is_label_byte : ℕ → Bool
is_label_byte b = not (b == 91)

-- a byte of a link, behind which stands `>`
abbrev pub is_link_byte : ℕ → Bool
is_link_byte b = not (b == 62)

digit_label : (b : ℕ) → is_digit b ≡ true → is_label_byte b ≡ true
digit_label b e = let within = bounds b e in ap not (differs b 91 (λ is. omega (arith, is, within.most)))

digit_link : (b : ℕ) → is_digit b ≡ true → is_link_byte b ≡ true
digit_link b e = let within = bounds b e in ap not (differs b 62 (λ is. omega (arith, is, within.most)))

pub decimal_clear : (n : ℕ) → Each is_clear (decimal n)
decimal_clear n = each_wider is_digit is_clear digit_clear (decimal n) (decimal_digits n)

decimal_label : (n : ℕ) → Each is_label_byte (decimal n)
decimal_label n = each_wider is_digit is_label_byte digit_label (decimal n) (decimal_digits n)

decimal_link : (n : ℕ) → Each is_link_byte (decimal n)
decimal_link n = each_wider is_digit is_link_byte digit_link (decimal n) (decimal_digits n)

-- ---- names

pub identity_bytes : (text : List ℕ) → is_identity text ≡ true → Each is_identity_byte text
identity_bytes text e = (and_parts (nat_le 1 (length text) && nat_le (length text) MAX_IDENTITY) (list_all is_identity_byte text) e).1

pub identity_is_clear : (text : List ℕ) → is_identity text ≡ true → Each is_clear text
identity_is_clear text e = each_wider is_identity_byte is_clear identity_clear text (identity_bytes text e)

name_clear : (r : Rule) → Each is_clear (name_of r)
name_clear rule.Uri = refl
name_clear rule.Missing = refl
name_clear rule.Package = refl
name_clear rule.Header = refl
name_clear rule.Signature = refl
name_clear rule.Claims = refl
name_clear rule.Version = refl
name_clear rule.Critical = refl
name_clear rule.Encrypted = refl
name_clear rule.Issuer = refl
name_clear rule.Audience = refl
name_clear rule.NotBefore = refl
name_clear rule.Expired = refl
name_clear rule.Renewal = refl
name_clear rule.Container = refl
name_clear rule.Late = refl
name_clear rule.Seen = refl
name_clear rule.Room = refl

-- all rules, in the order of their numbers
abbrev all_rules : List Rule
all_rules =
    rule.Uri ∷ rule.Missing ∷ rule.Package ∷ rule.Header ∷ rule.Signature ∷ rule.Claims ∷ rule.Version ∷ rule.Critical
    ∷ rule.Encrypted ∷ rule.Issuer ∷ rule.Audience ∷ rule.NotBefore ∷ rule.Expired ∷ rule.Renewal ∷ rule.Container
    ∷ rule.Late ∷ rule.Seen ∷ rule.Room ∷ []

numbered : (r : Rule) → slice_get all_rules (number_of r - 1) ≡ Some r
numbered rule.Uri = refl
numbered rule.Missing = refl
numbered rule.Package = refl
numbered rule.Header = refl
numbered rule.Signature = refl
numbered rule.Claims = refl
numbered rule.Version = refl
numbered rule.Critical = refl
numbered rule.Encrypted = refl
numbered rule.Issuer = refl
numbered rule.Audience = refl
numbered rule.NotBefore = refl
numbered rule.Expired = refl
numbered rule.Renewal = refl
numbered rule.Container = refl
numbered rule.Late = refl
numbered rule.Seen = refl
numbered rule.Room = refl

pub one_rule : (a b : Rule) → number_of a ≡ number_of b → a ≡ b
one_rule a b e = same_some a b (sym (numbered a) ∙ (ap (λ (n : ℕ). slice_get all_rules (n - 1)) e ∙ numbered b))

pub rule_small : (r : Rule) → number_of r < 2 ^ 64
rule_small r = let within : number_of r - 1 < 18 = slice_get_within all_rules (number_of r - 1) r (numbered r) in omega (arith, within)

-- ---- the parts of a line

pub verdict_clear : (status : ℕ) (verdict : Verdict) → Each is_clear (verdict_text status verdict)
verdict_clear status Admitted = decimal_clear status
verdict_clear status (Denied broken) = each_both is_clear (decimal (number_of broken)) (32 ∷ name_of broken) (decimal_clear (number_of broken)) (name_clear broken)

pub turn_clear : (call : Option Turned) → Each is_clear (turn_text call)
turn_clear None = refl
turn_clear (Some turned) = each_both is_clear (decimal turned.place) (codes " at " ++ decimal turned.moment) (decimal_clear turned.place) (decimal_clear turned.moment)

bound_clear : (bound : Option ℕ) → Each is_clear (bound_text bound)
bound_clear None = refl
bound_clear (Some moment) = decimal_clear moment

bound_link : (bound : Option ℕ) → Each is_link_byte (bound_text bound)
bound_link None = refl
bound_link (Some moment) = decimal_link moment

pub window_clear : (members : Members) → Each is_clear (window_text members)
window_clear members =
    let from = number_claim (codes "nbf") members in
    let until = number_claim (codes "exp") members in
    each_both is_clear (bound_text from) (45 ∷ (bound_text until ++ codes "]")) (bound_clear from)
    (each_both is_clear (bound_text until) (codes "]") (bound_clear until) refl)

pub window_link : (members : Members) → Each is_link_byte (window_text members)
window_link members =
    let from = number_claim (codes "nbf") members in
    let until = number_claim (codes "exp") members in
    each_both is_link_byte (bound_text from) (45 ∷ (bound_text until ++ codes "]")) (bound_link from)
    (each_both is_link_byte (bound_text until) (codes "]") (bound_link until) refl)

pub label_clear : (label : Label) → Each is_clear (label_text label)
label_clear (Granted number) = decimal_clear number
label_clear (Outside number) = decimal_clear number
label_clear (Issued number) = decimal_clear number

pub label_letters : (label : Label) → Each is_label_byte (label_text label)
label_letters (Granted number) = decimal_label number
label_letters (Outside number) = decimal_label number
label_letters (Issued number) = decimal_label number

pub label_link : (label : Label) → Each is_link_byte (label_text label)
label_link (Granted number) = decimal_link number
label_link (Outside number) = decimal_link number
label_link (Issued number) = decimal_link number
