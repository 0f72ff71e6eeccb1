-- How a set is read, from the left, behind its `[` and, where it is negated, its `^`.
use Rattle.std.specs.Prelude.{ℕ, zero, suc, ◌+◌, ◌-◌, List, [], ◌∷◌, Bool, true, false, nat_eq, nat_lt, ◌&&◌, ◌||◌, not, if◌then◌else◌, Option, Some, None, Result, Ok, Err, codes, length, drop}
use Rattle.std.specs.List.{starts_with, find}
use Rattle.usp_ere.specs.Letters.{hyphen, left_square_bracket, right_square_bracket}
use Rattle.usp_ere.specs.declared.class.Class.{Class}
use Rattle.usp_ere.specs.declared.class.Class.TheVariants.{Alpha, Digit, Alnum, Upper, Lower, Space, Blank, Punct, Print, Graph, Cntrl, Xdigit}
use Rattle.usp_ere.specs.declared.class.Element.{Element}
use Rattle.usp_ere.specs.declared.class.Element.TheVariants.{One, Range, Named}
use Rattle.usp_ere.specs.declared.fault.EreFault.{EreFault}
use Rattle.usp_ere.specs.declared.fault.EreFault.TheVariants.{Syntax, Undefined}

-- whether the text begins with this one
abbrev pub begins : List ℕ → List ℕ → Bool
begins text front = starts_with nat_eq text front

-- how a class is written in a set
abbrev pub text_of : Class → List ℕ
text_of Alpha = codes "[:alpha:]"
text_of Digit = codes "[:digit:]"
text_of Alnum = codes "[:alnum:]"
text_of Upper = codes "[:upper:]"
text_of Lower = codes "[:lower:]"
text_of Space = codes "[:space:]"
text_of Blank = codes "[:blank:]"
text_of Punct = codes "[:punct:]"
text_of Print = codes "[:print:]"
text_of Graph = codes "[:graph:]"
text_of Cntrl = codes "[:cntrl:]"
text_of Xdigit = codes "[:xdigit:]"

abbrev pub classes : List Class
classes = Alpha ∷ Digit ∷ Alnum ∷ Upper ∷ Lower ∷ Space ∷ Blank ∷ Punct ∷ Print ∷ Graph ∷ Cntrl ∷ Xdigit ∷ []

-- the class that is written at the front of a text
abbrev pub class_at : List ℕ → Option Class
class_at text = find (λ class. begins text (text_of class)) classes

-- What stands at a place in a set: its end, an element of so many bytes, or a fault.
pub data InSet : Type 0 where
  ending : InSet
  element : (e : Element) (bytes : ℕ) → InSet
  wrong : (f : EreFault) → InSet

-- whether a `-` stands here that makes a range: it is not last in the set, and something is behind it
abbrev pub makes_range : List ℕ → Bool
makes_range t = begins t (codes "-") && (not (begins t (codes "-]")) && nat_lt 1 (length t))

-- whether a `[` with t behind it begins a collating symbol or an equivalence class
abbrev pub is_collating : List ℕ → Bool
is_collating t = begins t (codes ".") || begins t (codes "=")

-- a range from c, at a place, to what stands behind the `-`
abbrev pub range_at : (at c : ℕ) → List ℕ → InSet
range_at at c [] = wrong (Syntax at)
range_at at c (d ∷ t) =
    if nat_eq d left_square_bracket && is_collating t then wrong (Undefined (at + 2)) else
    if nat_eq d left_square_bracket && begins t (codes ":") then wrong (Syntax at) else
    if nat_lt d c then wrong (Syntax at) else element (Range c d) 3

-- a class at a place, at the front of t: no range begins with it
abbrev pub named_at : (at : ℕ) → Option Class → List ℕ → InSet
named_at at None t = wrong (Syntax at)
named_at at (Some class) t =
    if makes_range (drop (length (text_of class)) t) then wrong (Syntax at)
    else element (Named class) (length (text_of class))

-- what stands at a place in a set, c with t behind it: whether it is the first place, and whether a range
-- stands before it
abbrev pub in_set : (first ranged : Bool) → (at c : ℕ) → List ℕ → InSet
in_set first ranged at c t =
    if nat_eq c right_square_bracket && not first then ending else
    if nat_eq c hyphen && (ranged && not (begins t (codes "]"))) then wrong (Undefined at) else
    if nat_eq c left_square_bracket && is_collating t then wrong (Undefined at) else
    if nat_eq c left_square_bracket && begins t (codes ":") then named_at at (class_at (c ∷ t)) (c ∷ t) else
    if makes_range t then range_at at c (drop 1 t) else element (One c) 1

abbrev pub is_range : Element → Bool
is_range (One c) = false
is_range (Range a b) = true
is_range (Named k) = false

-- the elements of a set, and the place behind its `]`
abbrev pub Elements : Type 0
Elements = Result (List Element × ℕ) EreFault

abbrev pub with_front : Element → Elements → Elements
with_front e (Ok (es, end)) = Ok (e ∷ es, end)
with_front e (Err f) = Err f

-- goes on behind an element
abbrev pub behind : InSet → ℕ → (Element → ℕ → Elements) → Elements
behind ending at more = Ok ([], at + 1)
behind (wrong f) at more = Err f
behind (element e bytes) at more = with_front e (more e bytes)

-- The elements from a place on. The first `skip` bytes are still of the element before.
abbrev pub elements_from : (skip : ℕ) → (first ranged : Bool) → (at : ℕ) → List ℕ → Elements
elements_from skip first ranged at [] = Err (Syntax at)
elements_from (suc skip) first ranged at (c ∷ t) = elements_from skip first ranged (at + 1) t
elements_from zero first ranged at (c ∷ t) =
    behind (in_set first ranged at c t) at (λ e bytes. elements_from (bytes - 1) false (is_range e) (at + 1) t)

-- the elements of a set whose text stands at a place
abbrev pub elements_at : ℕ → List ℕ → Elements
elements_at at text = elements_from 0 true false at text
