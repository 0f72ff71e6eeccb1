-- Texts without controls, and the lines that they make.
use Rattle.std.proofs.Common.{◌≡◌, ◌<◌, ◌==◌, ◌/◌, ◌%◌, ◌||◌, refl, sym, ap, ◌∙◌, subst, ℕ, zero, suc, Bool, true, false, nat_lt, ◌-◌, ◌+◌, cond, if◌then◌else◌, List, [], ◌∷◌, ◌++◌, append_assoc, length, drop, take, codes, Option, Some, None, Result, Ok, Err, arith}
use Rattle.std.specs.Char.{to_ascii_lowercase}
use Rattle.std.specs.Fmt.{decimal, digit_glyph, digits, digits_onto}
use Rattle.std.specs.List.{list_all, onto_first, slice_split}
use Rattle.std.specs.Option.{option_and_then, option_map}
use Rattle.std.specs.Result.{result_ok}
use Rattle.std.specs.Str.{bytes_eq, str_eq_ignore_ascii_case, str_to_ascii_lowercase}
use Rattle.std.proofs.lemmas.Bool.{false_from_ne_true}
use Rattle.std.proofs.lemmas.Bool.Decides.{nat_tests}
use Rattle.std.proofs.lemmas.List.Folds.{list_all-append}
use Rattle.std.proofs.lemmas.List.Splits.{length-slice_split}
use Rattle.std.proofs.lemmas.Option.{same_Some}
use Rattle.std.proofs.lemmas.Slice.Eq.{bytes_eq-Decides}
use Rattle.usp_base.specs.Cuts.{without_end}
use Rattle.usp_base.specs.Lines.{lines_in, lines_of}
use Rattle.usp_json.specs.declared.value.Members.{Members}
use Rattle.usp_lab.proofs.Targets.{AreVisible, authority_parts, authority_visible, has_parts, is_visible, target_parts, target_visible}
use Rattle.usp_package.specs.Package.{Package, content_of, package_of}
use Rattle.usp_rules.specs.Asks.{AskValue, Presented, content_in}
use Rattle.usp_rules.specs.Judging.{Judges, PassesWith}
use Rattle.usp_rules.specs.Names.{name_of}
use Rattle.usp_rules.specs.declared.judged.Judged.TheVariants.{Passed}
use Rattle.usp_rules.specs.declared.profile.Profile.{Profile}
use Rattle.usp_rules.specs.declared.rule.Rule.{Rule}
use Rattle.usp_rules.specs.declared.rule.Rule.TheVariants as rule
use Rattle.usp_uri.proofs.ComponentLaws.{both}
use Rattle.usp_uri.proofs.NormalLaws.{normal_again}
use Rattle.usp_uri.specs.Components.{authority_of, target_of}
use Rattle.usp_uri.specs.Faults.{normal_of}
use Rattle.usp_uri.specs.Grammar.{is_scheme}

-- ---- no controls

abbrev pub is_printed : ℕ → Bool
is_printed c = nat_lt 31 c

-- As a record, so that antt finds the text.
pub record ArePrinted (text : List ℕ) : Type 0 where
  pub all : list_all is_printed text ≡ true

pub printed_none : ArePrinted []
printed_none = record { all = refl }

pub printed_one : (c : ℕ) (text : List ℕ) → is_printed c ≡ true → ArePrinted text → ArePrinted (c ∷ text)
printed_one c text first rest = record { all = rw (first, rest.all) refl }

pub printed_both : (a b : List ℕ) → ArePrinted a → ArePrinted b → ArePrinted (a ++ b)
printed_both a b first second = record { all = list_all-append is_printed a b ∙ rw (first.all, second.all) refl }

printed_rest : (c : ℕ) (text : List ℕ) → ArePrinted (c ∷ text) → ArePrinted text
printed_rest c text are = record { all = (both (is_printed c) (list_all is_printed text) are.all).1 }

printed_first : (c : ℕ) (text : List ℕ) → ArePrinted (c ∷ text) → is_printed c ≡ true
printed_first c text are = (both (is_printed c) (list_all is_printed text) are.all).0

printed_drop : (n : ℕ) (text : List ℕ) → ArePrinted text → ArePrinted (drop n text)
printed_drop zero text are = are
printed_drop (suc n) [] are = are
printed_drop (suc n) (c ∷ text) are = printed_drop n text (printed_rest c text are)

visible_printed : (c : ℕ) → is_visible c ≡ true → is_printed c ≡ true
visible_printed c e = grind (arith, nat_tests)

printed_of : (text : List ℕ) → AreVisible text → ArePrinted text
printed_of [] are = printed_none
printed_of (c ∷ text) are =
    let parts = both (is_visible c) (list_all is_visible text) are.all in
    printed_one c text (visible_printed c parts.0) (printed_of text (record { all = parts.1 }))

-- ---- numbers and names

glyph_by : (b : Bool) (d : ℕ) → is_printed (if b then 48 + d else (if false then 55 + d else 87 + d)) ≡ true
glyph_by true d = grind (arith, nat_tests)
glyph_by false d = grind (arith, nat_tests)

onto_by : (b : Bool) (x : ℕ) (acc more : List ℕ) → ArePrinted (x ∷ acc) → ArePrinted more
    → ArePrinted (if b then x ∷ acc else more)
onto_by true x acc more here there = here
onto_by false x acc more here there = there

onto_printed : (k n : ℕ) (acc : List ℕ) → ArePrinted acc → ArePrinted (digits_onto k 10 false n acc)
onto_printed zero n acc are = are
onto_printed (suc k) n acc are =
    let glyph = digit_glyph false (n % 10) in
    let here : ArePrinted (glyph ∷ acc) = printed_one glyph acc (glyph_by (nat_lt (n % 10) 10) (n % 10)) are in
    onto_by (n / 10 == 0) glyph acc (digits_onto k 10 false (n / 10) (glyph ∷ acc)) here
    (onto_printed k (n / 10) (glyph ∷ acc) here)

pub decimal_printed : (n : ℕ) → ArePrinted (decimal n)
unfolding digits
decimal_printed n = onto_printed 64 n [] printed_none

pub name_printed : (of : Rule) → ArePrinted (name_of of)
name_printed rule.Uri = record { all = refl }
name_printed rule.Missing = record { all = refl }
name_printed rule.Package = record { all = refl }
name_printed rule.Header = record { all = refl }
name_printed rule.Signature = record { all = refl }
name_printed rule.Claims = record { all = refl }
name_printed rule.Version = record { all = refl }
name_printed rule.Critical = record { all = refl }
name_printed rule.Encrypted = record { all = refl }
name_printed rule.Issuer = record { all = refl }
name_printed rule.Audience = record { all = refl }
name_printed rule.NotBefore = record { all = refl }
name_printed rule.Expired = record { all = refl }
name_printed rule.Renewal = record { all = refl }
name_printed rule.Container = record { all = refl }
name_printed rule.Late = record { all = refl }
name_printed rule.Seen = record { all = refl }
name_printed rule.Room = record { all = refl }

-- ---- contents

lower_printed : (c : ℕ) → is_printed (to_ascii_lowercase c) ≡ true → is_printed c ≡ true
lower_printed c e = grind (arith, nat_tests)

lowered_printed : (text : List ℕ) → ArePrinted (str_to_ascii_lowercase text) → ArePrinted text
lowered_printed [] are = printed_none
lowered_printed (c ∷ text) are =
    let rest = str_to_ascii_lowercase text in
    printed_one c text (lower_printed c (printed_first (to_ascii_lowercase c) rest are))
    (lowered_printed text (printed_rest (to_ascii_lowercase c) rest are))

scheme_by : (scheme name : List ℕ) → ArePrinted (str_to_ascii_lowercase name) → str_eq_ignore_ascii_case scheme name ≡ true
    → ArePrinted scheme
scheme_by scheme name are e =
    lowered_printed scheme
    (subst ArePrinted (sym ((bytes_eq-Decides (str_to_ascii_lowercase scheme) (str_to_ascii_lowercase name)).0 e)) are)

either : (a b : Bool) (P : Type 0) → (a || b) ≡ true → (a ≡ true → P) → (b ≡ true → P) → P
either true b P e first second = first refl
either false b P e first second = second e

scheme_printed : (scheme : List ℕ) → is_scheme scheme ≡ true → ArePrinted scheme
scheme_printed scheme e =
    either (str_eq_ignore_ascii_case scheme (codes "http")) (str_eq_ignore_ascii_case scheme (codes "https"))
    (ArePrinted scheme) e
    (λ is. scheme_by scheme (codes "http") (record { all = refl }) is)
    (λ is. scheme_by scheme (codes "https") (record { all = refl }) is)

normal_printed : (uri : List ℕ) → normal_of uri ≡ Ok uri → ArePrinted uri
normal_printed uri normal =
    let of = has_parts uri normal in
    let p = of.parts in
    let authority = subst AreVisible (authority_parts uri of) (authority_visible uri of) in
    let target = subst AreVisible (target_parts uri of) (target_visible uri of) in
    subst ArePrinted (sym of.whole)
    (printed_both p.scheme (codes "://" ++ (authority_of p ++ target_of p)) (scheme_printed p.scheme of.is.scheme)
    (printed_both (codes "://") (authority_of p ++ target_of p) (record { all = refl })
    (printed_both (authority_of p) (target_of p) (printed_of (authority_of p) authority)
    (printed_of (target_of p) target))))

is_ok : {E : Type 0} (r : Result (List ℕ) E) (x : List ℕ) → result_ok r ≡ Some x → r ≡ Ok x
is_ok (Ok y) x e = ap Ok (same_Some y x e)
is_ok (Err fault) x e = cc

normal_text : (o : Option (List ℕ)) (content : List ℕ)
    → option_and_then (λ text. result_ok (normal_of text)) o ≡ Some content → ArePrinted content
normal_text None content e = cc
normal_text (Some text) content e =
    normal_printed content (normal_again text content (is_ok (normal_of text) content e))

shown_content : (ask : AskValue) (pack : Package) (token : Option (List ℕ)) (shown : Presented)
    → option_map (λ (token : List ℕ). record { token = token; content = content_in ask.uri pack; moment = ask.moment }) token
    ≡ Some shown → shown.content ≡ content_in ask.uri pack
shown_content ask pack None shown e = cc
shown_content ask pack (Some token) shown e = sym (ap (λ (s : Presented). s.content) (same_Some _ shown e))

-- a content that passes is printed
pub content_printed : (profile : Profile) (ask : AskValue) (content token : List ℕ) (members : Members) (key : ℕ)
    → Judges profile ask (Passed content token members key) → ArePrinted content
content_printed profile ask content token members key judges =
    let pack = package_of profile.attribute ask.uri in
    let with : PassesWith profile ask pack content token members key = judges.1 in
    normal_text (content_of ask.uri pack) content
    (sym (shown_content ask pack _ with.shown with.presents) ∙ with.tells.uri)

-- ---- lines

-- Such a text, and a line feed.
pub record IsLine (text : List ℕ) : Type 0 where
  pub front : List ℕ
  pub printed : ArePrinted front
  pub is : front ++ 10 ∷ [] ≡ text

no_feed : (c : ℕ) → is_printed c ≡ true → (c == 10) ≡ false
no_feed c e = grind (arith, nat_tests)

split_by : (b : Bool) (c : ℕ) (front : List ℕ) (cut parts rest : List (List ℕ)) → b ≡ false → parts ≡ front ∷ rest
    → cond b cut (onto_first c parts) ≡ (c ∷ front) ∷ rest
split_by true c front cut parts rest b e = cc
split_by false c front cut parts rest b e = ap (onto_first c) e

split_front : (front more : List ℕ) → ArePrinted front
    → slice_split (λ b. b == 10) (front ++ 10 ∷ more) ≡ front ∷ slice_split (λ b. b == 10) more
split_front [] more are = refl
split_front (c ∷ front) more are =
    split_by (c == 10) c front _ (slice_split (λ b. b == 10) (front ++ 10 ∷ more)) (slice_split (λ b. b == 10) more)
    (no_feed c (printed_first c front are)) (split_front front more (printed_rest c front are))

lines_more : (a : List ℕ) (parts : List (List ℕ)) → 0 < length parts → lines_in (a ∷ parts) ≡ without_end 13 a ∷ lines_in parts
lines_more a [] lt = absurd (omega (arith, lt))
lines_more a (part ∷ parts) lt = refl

not_printed : ArePrinted (13 ∷ []) → ⊥
not_printed are = let e : false ≡ true = are.all in cc e

no_end : (front : List ℕ) → ArePrinted front → bytes_eq (drop (length front - 1) front) (13 ∷ []) ≡ false
no_end front are =
    false_from_ne_true (bytes_eq (drop (length front - 1) front) (13 ∷ []))
    (λ e. not_printed (subst ArePrinted ((bytes_eq-Decides (drop (length front - 1) front) (13 ∷ [])).0 e)
    (printed_drop (length front - 1) front are)))

end_by : (b : Bool) (x y : List ℕ) → b ≡ false → (if b then x else y) ≡ y
end_by true x y e = cc
end_by false x y e = refl

-- a text that begins with a line has it as its first
pub lines_first : (text more : List ℕ) (line : IsLine text) → lines_of (text ++ more) ≡ line.front ∷ lines_of more
lines_first text more line =
    let front = line.front in
    let parts = slice_split (λ b. b == 10) more in
    ap (λ (t : List ℕ). lines_of (t ++ more)) (sym line.is)
    ∙ ap lines_of (append_assoc front (10 ∷ []) more)
    ∙ ap lines_in (split_front front more line.printed)
    ∙ lines_more front parts (omega (arith, length-slice_split (λ b. b == 10) more))
    ∙ ap (λ (l : List ℕ). l ∷ lines_in parts) (end_by _ (take (length front - 1) front) front (no_end front line.printed))

three : (a b c feed : List ℕ) → (a ++ (b ++ c)) ++ feed ≡ a ++ (b ++ (c ++ feed))
three a b c feed = simp append_assoc

pub admitted_line : (number : ℕ) (content : List ℕ) → ArePrinted content
    → IsLine (decimal number ++ (codes " admitted " ++ (content ++ 10 ∷ [])))
admitted_line number content are = record {
  front = decimal number ++ (codes " admitted " ++ content);
  printed = printed_both (decimal number) (codes " admitted " ++ content) (decimal_printed number)
      (printed_both (codes " admitted ") content (record { all = refl }) are);
  is = three (decimal number) (codes " admitted ") content (10 ∷ []);
}

five : (a b c space d feed : List ℕ)
    → (a ++ (b ++ (c ++ (space ++ d)))) ++ feed ≡ a ++ (b ++ (c ++ (space ++ (d ++ feed))))
five a b c space d feed = simp append_assoc

pub denied_line : (number rank : ℕ) (of : Rule)
    → IsLine (decimal number ++ (codes " denied " ++ (decimal rank ++ (32 ∷ (name_of of ++ 10 ∷ [])))))
denied_line number rank of = record {
  front = decimal number ++ (codes " denied " ++ (decimal rank ++ (32 ∷ name_of of)));
  printed = printed_both (decimal number) (codes " denied " ++ (decimal rank ++ (32 ∷ name_of of))) (decimal_printed number)
      (printed_both (codes " denied ") (decimal rank ++ (32 ∷ name_of of)) (record { all = refl })
      (printed_both (decimal rank) (32 ∷ name_of of) (decimal_printed rank)
      (printed_one 32 (name_of of) refl (name_printed of))));
  is = five (decimal number) (codes " denied ") (decimal rank) (32 ∷ []) (name_of of) (10 ∷ []);
}
