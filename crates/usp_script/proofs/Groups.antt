-- The rounds of the groups, one after another.
use Rattle.std.proofs.Common.{◌≡◌, ℕ, suc, ◌+◌, ◌-◌, ◌<◌, List, [], ◌∷◌, ◌++◌, ap, sym, ◌∙◌, arith, append_assoc}
use Rattle.usp_script.specs.Generator.{ask_round, groups_from, rounds_of}
use Rattle.usp_script.specs.declared.ask.Carried.{Carried}
use Rattle.usp_script.specs.declared.ask.Round.{Round}

-- ---- ten rounds

ten_behind : {X : Type 0} (xs : List X) (a b c d e f g h i j : X)
    → (((((((((xs ++ a ∷ []) ++ b ∷ []) ++ c ∷ []) ++ d ∷ []) ++ e ∷ []) ++ f ∷ []) ++ g ∷ []) ++ h ∷ []) ++ i ∷ []) ++ j ∷ []
    ≡ xs ++ (a ∷ b ∷ c ∷ d ∷ e ∷ f ∷ g ∷ h ∷ i ∷ j ∷ [])
ten_behind xs a b c d e f g h i j = simp append_assoc

-- Ten values that were put behind a list one by one stand there in their order.
pub ten_more : {X : Type 0} (xs one two three four five six seven eight nine ten : List X) (a b c d e f g h i j aa bb cc dd ee ff gg hh ii jj : X)
    → one ≡ xs ++ a ∷ []
    → two ≡ one ++ b ∷ []
    → three ≡ two ++ c ∷ []
    → four ≡ three ++ d ∷ []
    → five ≡ four ++ e ∷ []
    → six ≡ five ++ f ∷ []
    → seven ≡ six ++ g ∷ []
    → eight ≡ seven ++ h ∷ []
    → nine ≡ eight ++ i ∷ []
    → ten ≡ nine ++ j ∷ []
    → a ≡ aa
    → b ≡ bb
    → c ≡ cc
    → d ≡ dd
    → e ≡ ee
    → f ≡ ff
    → g ≡ gg
    → h ≡ hh
    → i ≡ ii
    → j ≡ jj
    → ten ≡ xs ++ (aa ∷ bb ∷ cc ∷ dd ∷ ee ∷ ff ∷ gg ∷ hh ∷ ii ∷ jj ∷ [])
ten_more xs one two three four five six seven eight nine ten a b c d e f g h i j aa bb cc dd ee ff gg hh ii jj p1 p2 p3 p4 p5 p6 p7 p8 p9 p10 q1 q2 q3 q4 q5 q6 q7 q8 q9 q10 =
    rw (p10, p9, p8, p7, p6, p5, p4, p3, p2, p1, q1, q2, q3, q4, q5, q6, q7, q8, q9, q10) (ten_behind xs aa bb cc dd ee ff gg hh ii jj)

-- a round whose URI is known
pub asks_for : (round : Round) (grants : List (List ℕ)) (edge moment : ℕ) (uri known : List ℕ) (carried : Carried)
    → round ≡ ask_round grants edge moment uri carried → uri ≡ known → round ≡ ask_round grants edge moment known carried
asks_for round grants edge moment uri known carried is same = is ∙ ap (λ (u : List ℕ). ask_round grants edge moment u carried) same

-- ---- groups

next_group : (group groups : ℕ) → group < groups
    → groups_from group (groups - group) ≡ rounds_of group ++ groups_from (group + 1) (groups - (group + 1))
next_group group groups more =
    let one : groups - group ≡ suc (groups - (group + 1)) = omega arith in
    ap (groups_from group) one

-- What was made of a script, and what is left of it, are the whole, also behind one group more.
pub group_more : (group groups : ℕ) (old new : List Round) → group < groups → new ≡ old ++ rounds_of group
    → old ++ groups_from group (groups - group) ≡ groups_from 0 groups
    → new ++ groups_from (group + 1) (groups - (group + 1)) ≡ groups_from 0 groups
group_more group groups old new more grown whole =
    ap (λ (l : List Round). l ++ groups_from (group + 1) (groups - (group + 1))) grown
    ∙ append_assoc old (rounds_of group) (groups_from (group + 1) (groups - (group + 1)))
    ∙ ap (λ (l : List Round). old ++ l) (sym (next_group group groups more)) ∙ whole
