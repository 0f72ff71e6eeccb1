-- Texts without the spaces and tabs at their ends.
use Rattle.std.specs.Prelude.{ℕ, Bool, ◌||◌, ◌==◌, List, [], ◌∷◌, reverse, if◌then◌else◌}

abbrev pub space : ℕ
space = 32

abbrev pub tab : ℕ
tab = 9

abbrev pub is_blank : ℕ → Bool
is_blank b = b == space || b == tab

-- the text without the blanks at its start
abbrev pub trim_start : List ℕ → List ℕ
trim_start [] = []
trim_start (b ∷ rest) = if is_blank b then trim_start rest else b ∷ rest

-- the text without the blanks at its end
abbrev pub trim_end : List ℕ → List ℕ
trim_end text = reverse (trim_start (reverse text))

-- the text without the blanks at both ends
abbrev pub trim_blanks : List ℕ → List ℕ
trim_blanks text = trim_end (trim_start text)
