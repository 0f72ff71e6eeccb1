-- Removing dot segments as RFC 3986 section 5.2.4 tells it, with an input buffer and an output buffer, by its steps
-- A to E. The fifth is taken only where no other fits.
use Rattle.std.specs.Prelude.{◌≡◌, ℕ, Bool, true, false, not, ◌||◌, List, [], ◌∷◌, ◌++◌, codes, nat_eq}
use Rattle.std.specs.List.{list_all, starts_with}
use Rattle.std.specs.Str.{bytes_eq}
use Rattle.usp_uri.specs.Letters.{is_slash}

abbrev pub has_no_slash : List ℕ → Bool
has_no_slash text = list_all (λ c. not (is_slash c)) text

-- a buffer, and what is left of it without its last segment and the '/' before that, if any
pub data IsWithoutLast : List ℕ → List ℕ → Type 0 where
  segment : (before last : List ℕ) → has_no_slash last ≡ true → IsWithoutLast (before ++ (codes "/" ++ last)) before
  whole : (last : List ℕ) → has_no_slash last ≡ true → IsWithoutLast last []

-- nothing, or a text that begins with '/'
abbrev pub is_at_slash : List ℕ → Bool
is_at_slash [] = true
is_at_slash (c ∷ rest) = is_slash c

-- a first segment, with its '/' if it has one, and what follows it
pub data IsFirstSegment : List ℕ → List ℕ → Type 0 where
  behind_slash : (segment rest : List ℕ) → has_no_slash segment ≡ true → is_at_slash rest ≡ true
      → IsFirstSegment (codes "/" ++ segment) rest
  bare : (segment rest : List ℕ) → has_no_slash segment ≡ true → is_at_slash rest ≡ true
      → IsFirstSegment segment rest

-- one of the steps A to D fits
abbrev pub begins_with_dots : List ℕ → Bool
begins_with_dots input =
    starts_with nat_eq input (codes "../") || starts_with nat_eq input (codes "./")
    || starts_with nat_eq input (codes "/./") || bytes_eq input (codes "/.")
    || starts_with nat_eq input (codes "/../") || bytes_eq input (codes "/..")
    || bytes_eq input (codes ".") || bytes_eq input (codes "..")

-- from this input and this output the steps lead to this result
pub data RemovesDots : (input output result : List ℕ) → Type 0 where
  a_parent : (rest output result : List ℕ) → RemovesDots rest output result
      → RemovesDots (codes "../" ++ rest) output result
  a_self : (rest output result : List ℕ) → RemovesDots rest output result
      → RemovesDots (codes "./" ++ rest) output result
  b_self : (rest output result : List ℕ) → RemovesDots (codes "/" ++ rest) output result
      → RemovesDots (codes "/./" ++ rest) output result
  b_end : (output result : List ℕ) → RemovesDots (codes "/") output result
      → RemovesDots (codes "/.") output result
  c_parent : (rest output less result : List ℕ) → IsWithoutLast output less
      → RemovesDots (codes "/" ++ rest) less result → RemovesDots (codes "/../" ++ rest) output result
  c_end : (output less result : List ℕ) → IsWithoutLast output less
      → RemovesDots (codes "/") less result → RemovesDots (codes "/..") output result
  d_self : (output result : List ℕ) → RemovesDots [] output result → RemovesDots (codes ".") output result
  d_parent : (output result : List ℕ) → RemovesDots [] output result → RemovesDots (codes "..") output result
  e_segment : (first rest output result : List ℕ) → begins_with_dots (first ++ rest) ≡ false
      → IsFirstSegment first rest → RemovesDots rest (output ++ first) result
      → RemovesDots (first ++ rest) output result
  done : (output : List ℕ) → RemovesDots [] output output
