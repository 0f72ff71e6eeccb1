-- Texts cut into lines.
use Rattle.std.specs.Prelude.{ℕ, ◌==◌, List, [], ◌∷◌}
use Rattle.std.specs.List.{slice_split}
use Rattle.usp_base.specs.Cuts.{without_end}

abbrev pub line_feed : ℕ
line_feed = 10

abbrev pub carriage_return : ℕ
carriage_return = 13

-- what stands behind the last line feed is a line where it is not empty
abbrev pub last_line : List ℕ → List (List ℕ)
last_line [] = []
last_line (b ∷ text) = (b ∷ text) ∷ []

-- the lines, of the parts between the line feeds: one carriage return before a line feed goes with it
abbrev pub lines_in : List (List ℕ) → List (List ℕ)
lines_in [] = []
lines_in (last ∷ []) = last_line last
lines_in (part ∷ next ∷ parts) = without_end carriage_return part ∷ lines_in (next ∷ parts)

abbrev pub lines_of : List ℕ → List (List ℕ)
lines_of text = lines_in (slice_split (λ b. b == line_feed) text)
