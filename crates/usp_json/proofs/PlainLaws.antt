-- A text whose bytes stand for themselves is its own canonical spelling, in quotes.
use Rattle.std.proofs.Common.{◌≡◌, ◌≢◌, ℕ, ◌+◌, ◌≤◌, true, List, [], ◌∷◌, ◌++◌, length, refl, ap, ◌∙◌, arith, length-append}
use Rattle.std.specs.List.{list_all}
use Rattle.std.proofs.lemmas.Bool.{and_parts}
use Rattle.std.proofs.lemmas.Bool.Decides.{nat_tests}
use Rattle.usp_json.specs.declared.value.Json.TheVariants.{Str}
use Rattle.usp_json.specs.Canon.{canon, escaped_text}
use Rattle.usp_json.specs.Grammar.{is_unescaped}
use Rattle.usp_json.proofs.CanonLaws.{canon_string, own_byte}

high : (b : ℕ) → is_unescaped b ≡ true → 32 ≤ b
high b e = grind (arith, nat_tests)

no_quote : (b : ℕ) → is_unescaped b ≡ true → b ≢ 34
no_quote b e is = grind (arith, nat_tests)

no_backslash : (b : ℕ) → is_unescaped b ≡ true → b ≢ 92
no_backslash b e is = grind (arith, nat_tests)

own_text : (bytes : List ℕ) → list_all is_unescaped bytes ≡ true → escaped_text bytes ≡ bytes
own_text [] e = refl
own_text (b ∷ bytes) e =
    let p = and_parts (is_unescaped b) (list_all is_unescaped bytes) e in
    rw (own_byte b (high b p.0) (no_quote b p.0) (no_backslash b p.0), own_text bytes p.1) refl

pub plain_text : (bytes : List ℕ) → list_all is_unescaped bytes ≡ true → canon (Str bytes) ≡ 34 ∷ (bytes ++ 34 ∷ [])
plain_text bytes e = canon_string bytes ∙ ap (λ l. 34 ∷ (l ++ 34 ∷ [])) (own_text bytes e)

pub plain_length : (bytes : List ℕ) → list_all is_unescaped bytes ≡ true → length (canon (Str bytes)) ≡ length bytes + 2
plain_length bytes e = rw (plain_text bytes e) (omega (arith, length-append bytes (34 ∷ [])))
