-- The segments of a URI's path (RFC 3986 section 3.3).
use Rattle.std.specs.Prelude.{ℕ, List}
use Rattle.usp_uri.specs.Components.{path_in}
use Rattle.usp_uri.specs.Normal.{segments_of}

-- what stands behind the path's first '/', parted by '/'. The path "/" has one segment, which is empty.
abbrev pub segments_in : List ℕ → List (List ℕ)
segments_in text = segments_of (path_in text)
