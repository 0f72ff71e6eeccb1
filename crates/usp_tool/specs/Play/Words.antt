-- The words of `play`.
use Rattle.std.specs.Prelude.{ℕ, List, [], ◌∷◌, codes, Option, Some, None, if◌then◌else◌}
use Rattle.std.specs.Str.{bytes_eq}
use Rattle.usp_tool.specs.declared.play.words.PlayWords.{PlayWords as Words}

-- `play URI MAP`
pub record PlayWords : Type 0 where
  pub uri : List ℕ
  pub map : List ℕ

abbrev pub play_of : List (List ℕ) → Option PlayWords
play_of (word ∷ uri ∷ map ∷ []) =
    if bytes_eq word (codes "play") then Some (record { uri = uri; map = map }) else None
play_of other = None

-- the words of the code, as bytes
abbrev pub words_value : Words → PlayWords
words_value words = record { uri = words.uri.now; map = words.map.now }
