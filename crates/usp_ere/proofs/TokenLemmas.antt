-- The set behind `[^` stands two places on.
use Rattle.std.proofs.Common.{◌≡◌, ℕ, ◌+◌, List, true, false, Result, Ok, Err, IfOk, if◌then◌else◌, sym, ap, ◌∙◌, arith, codes, drop}
use Rattle.std.proofs.lemmas.List.{drop-drop}
use Rattle.usp_ere.specs.SetText.{begins, elements_at}
use Rattle.usp_ere.specs.Tokens.{Token, set_token, set_at}

pub negated_set : (at : ℕ) (text : List ℕ) → begins (drop (at + 1) text) (codes "^") ≡ true → set_token at true (elements_at (at + 2) (drop (at + 2) text)) ≡ set_at at (drop (at + 1) text)
negated_set at text caret =
    let two : at + 1 + 1 ≡ at + 2 = omega arith in
    let t = drop (at + 1) text in
    ap (λ z. set_token at true (elements_at (at + 2) z)) (sym (drop-drop 1 (at + 1) text ∙ ap (λ n. drop n text) two))
    ∙ sym (ap (λ b. if b then set_token at true (elements_at (at + 2) (drop 1 t)) else set_token at false (elements_at (at + 1) t)) caret)

-- an equation of what an answer holds goes on
pub ok_on : {A E : Type 0} (r : Result A E) (f : A → Token) (x y : Token) → x ≡ y → IfOk r (λ a. f a ≡ x) → IfOk r (λ a. f a ≡ y)
ok_on (Ok a) f x y same h = h ∙ same
ok_on (Err e) f x y same h = h
