-- Beginnings of lists.
use Rattle.std.proofs.Common.{◌≡◌, ◌≤◌, List, [], ◌++◌, length, take, drop, append-nil, length-append, sym, ap, ◌∙◌, arith}
use Rattle.std.proofs.Math.Seq.{take-append_seam}
use Rattle.std.proofs.lemmas.List.{take-append-drop, take-take, nil_from_length}
use mathlib.Core.List.{IsPrefix, append_assoc}

module _ {X : Type 0} where
  pub prefix_self : (xs : List X) → IsPrefix xs xs
  prefix_self xs = ([], append-nil xs)

  pub prefix_trans : (xs ys zs : List X) → IsPrefix xs ys → IsPrefix ys zs → IsPrefix xs zs
  prefix_trans xs ys zs p q = (p.0 ++ q.0, sym (append_assoc xs p.0 q.0) ∙ (ap (λ (l : List X). l ++ q.0) p.1 ∙ q.1))

  pub prefix_length : (xs ys : List X) → IsPrefix xs ys → length xs ≤ length ys
  prefix_length xs ys p = let long : length (xs ++ p.0) ≡ length ys = ap length p.1 in omega (arith, long, length-append xs p.0)

  -- a beginning is what is taken of the whole
  prefix_take : (xs zs : List X) → IsPrefix xs zs → take (length xs) zs ≡ xs
  prefix_take xs zs p = ap (take (length xs)) (sym p.1) ∙ take-append_seam xs p.0

  -- of two beginnings of one list the shorter begins the longer
  pub prefix_both : (xs ys zs : List X) → IsPrefix xs zs → IsPrefix ys zs → length xs ≤ length ys → IsPrefix xs ys
  prefix_both xs ys zs p q le =
      let same : take (length xs) ys ≡ xs =
      ap (take (length xs)) (sym (prefix_take ys zs q)) ∙ (take-take (length xs) (length ys) zs le ∙ prefix_take xs zs p) in
      (drop (length xs) ys, ap (λ (l : List X). l ++ drop (length xs) ys) (sym same) ∙ take-append-drop (length xs) ys)

  -- a beginning that is as long as the list is the list
  pub prefix_whole : (xs ys : List X) → IsPrefix xs ys → length ys ≤ length xs → xs ≡ ys
  prefix_whole xs ys p le =
      let long : length (xs ++ p.0) ≡ length ys = ap length p.1 in
      let none : p.0 ≡ [] = nil_from_length p.0 (omega (arith, long, le, length-append xs p.0)) in
      sym (append-nil xs) ∙ (ap (λ (l : List X). xs ++ l) (sym none) ∙ p.1)
