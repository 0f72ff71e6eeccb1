-- A Cookie field, pair by pair.
use Rattle.std.specs.Prelude.{ℕ, List, [], ◌∷◌, ◌++◌, codes}
use Rattle.usp_cookie.specs.Jars.{pair_text}
use Rattle.usp_cookie.specs.declared.cookie.Cookie.{Cookie}

-- a text that a pair may follow: behind another, it wants `; `
abbrev pub opened : List ℕ → List ℕ
opened [] = []
opened (c ∷ text) = (c ∷ text) ++ codes "; "

-- a text and one more pair
abbrev pub joined : (text pair : List ℕ) → List ℕ
joined text pair = opened text ++ pair

-- a text and the pairs of more cookies
abbrev pub joined_all : List ℕ → List Cookie → List ℕ
joined_all text [] = text
joined_all text (cookie ∷ cookies) = joined_all (joined text (pair_text cookie)) cookies
