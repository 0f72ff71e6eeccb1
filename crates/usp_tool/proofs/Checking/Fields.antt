-- The fields of a line of `check`, as they are cut.
use Rattle.std.proofs.Common.{◌≡◌, ℕ, ◌<◌, ◌==◌, List, [], ◌∷◌, length, Some, None, refl, ap, ◌∙◌, arith}
use Rattle.std.specs.List.{slice_split}
use Rattle.std.proofs.lemmas.List.Splits.{length-slice_split}
use Rattle.usp_base.specs.Cuts.{cut_at}
use Rattle.usp_base.proofs.Cutting.{split_cut, split_uncut}
use Rattle.usp_tool.specs.Check.Line.{ask_from, ask_of, space}

pub ask_uncut : (line : List ℕ) → cut_at space line ≡ None → ask_of line ≡ None
ask_uncut line e = ap ask_from (split_uncut space line e)

pub ask_two : (line moment rest : List ℕ) → cut_at space line ≡ Some (moment, rest) → cut_at space rest ≡ None → ask_of line ≡ ask_from (moment ∷ rest ∷ [])
ask_two line moment rest e f = ap ask_from (split_cut space line moment rest e ∙ ap (λ l. moment ∷ l) (split_uncut space rest f))

pub ask_three : (line moment rest uri token : List ℕ) → cut_at space line ≡ Some (moment, rest) → cut_at space rest ≡ Some (uri, token) → cut_at space token ≡ None
    → ask_of line ≡ ask_from (moment ∷ uri ∷ token ∷ [])
ask_three line moment rest uri token e f g =
    ap ask_from (split_cut space line moment rest e ∙ ap (λ l. moment ∷ l) (split_cut space rest uri token f ∙ ap (λ l. uri ∷ l) (split_uncut space token g)))

many : (a b c : List ℕ) (parts : List (List ℕ)) → 0 < length parts → ask_from (a ∷ b ∷ c ∷ parts) ≡ None
many a b c [] lt = absurd (omega arith)
many a b c (part ∷ parts) lt = refl

pub ask_more : (line moment rest uri token next more : List ℕ) → cut_at space line ≡ Some (moment, rest) → cut_at space rest ≡ Some (uri, token) → cut_at space token ≡ Some (next, more)
    → ask_of line ≡ None
ask_more line moment rest uri token next more e f g =
    ap ask_from (split_cut space line moment rest e ∙ ap (λ l. moment ∷ l) (split_cut space rest uri token f ∙ ap (λ l. uri ∷ l) (split_cut space token next more g)))
    ∙ many moment uri next (slice_split (λ b. b == space) more) (omega (arith, length-slice_split (λ b. b == space) more))
