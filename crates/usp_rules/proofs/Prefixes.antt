-- Texts behind a prefix.
use Rattle.std.proofs.Common.{◌≡◌, ℕ, Bool, true, false, List, ◌++◌, length, take, drop, cond, Some, None, refl, sym, ap, ◌∙◌, rules}
use Rattle.std.specs.Str.{bytes_eq}
use Rattle.std.proofs.lemmas.List.{take_at, drop_at, take-append-drop}
use Rattle.std.proofs.lemmas.Slice.Eq.{bytes_eq-Decides}
use Rattle.usp_base.specs.Cuts.{after_prefix}

same_bytes : (xs ys : List ℕ) → xs ≡ ys → bytes_eq xs ys ≡ true
same_bytes xs ys e = search (rules, bytes_eq-Decides xs ys, e)

equal_bytes : (xs ys : List ℕ) → bytes_eq xs ys ≡ true → xs ≡ ys
equal_bytes xs ys e = search (rules, bytes_eq-Decides xs ys, e)

-- what stands behind a prefix is found
pub after_prefix-append : (prefix rest text : List ℕ) → text ≡ prefix ++ rest → after_prefix prefix text ≡ Some rest
after_prefix-append prefix rest text is =
    rw (is, same_bytes (take (length prefix) (prefix ++ rest)) prefix (take_at prefix rest (length prefix) refl)) (ap (λ r. Some r) (drop_at prefix rest (length prefix) refl))

some_if : (b : Bool) (x y : List ℕ) → cond b (Some x) None ≡ Some y → (b ≡ true) × (x ≡ y)
some_if true x y e = (refl, cc)
some_if false x y e = cc

-- and only that
pub after_prefix-some : (prefix rest text : List ℕ) → Some rest ≡ after_prefix prefix text → text ≡ prefix ++ rest
after_prefix-some prefix rest text is =
    let s = some_if (bytes_eq (take (length prefix) text) prefix) (drop (length prefix) text) rest (sym is) in
    let front : take (length prefix) text ≡ prefix = equal_bytes _ _ s.0 in
    sym (take-append-drop (length prefix) text) ∙ (ap (λ f. f ++ drop (length prefix) text) front ∙ ap (λ r. prefix ++ r) s.1)

-- where nothing is found the text does not begin with the prefix
pub after_prefix-none : (prefix rest text : List ℕ) → None ≡ after_prefix prefix text → text ≡ prefix ++ rest → ⊥
after_prefix-none prefix rest text is begins =
    let both : None ≡ Some rest = is ∙ after_prefix-append prefix rest text begins in cc
