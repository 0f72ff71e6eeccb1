-- The two schemes.
use Rattle.std.specs.Prelude.{ℕ, Bool, ◌||◌, List, codes}
use Rattle.std.specs.Str.{bytes_eq}

abbrev pub is_scheme : List ℕ → Bool
is_scheme text = bytes_eq text (codes "http") || bytes_eq text (codes "https")
