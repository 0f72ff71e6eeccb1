-- The faults of a text have places, and come where no expression is spelled.
use Rattle.std.proofs.Common.{◌≡◌, ℕ, zero, suc, ◌+◌, ◌-◌, List, [], ◌∷◌, Bool, true, false, ◌&&◌, not, nat_eq, nat_lt, if◌then◌else◌, codes, Option, Some, None, Result, Ok, Err, refl, sym, ap, ◌∙◌, subst, length, drop, map}
use Rattle.usp_ere.specs.declared.class.Class.{Class}
use Rattle.usp_ere.specs.declared.class.Element.{Element}
use Rattle.usp_ere.specs.declared.class.Element.TheVariants.{One, Range, Named}
use Rattle.usp_ere.specs.declared.fault.EreFault.{EreFault}
use Rattle.usp_ere.specs.declared.fault.EreFault.TheVariants.{Syntax, Undefined, Repeat, TooLarge, NoMemory}
use Rattle.usp_ere.specs.Expression.{Expr, byte, any, at_begin, at_end}
use Rattle.usp_ere.specs.SetText.{begins, text_of, is_collating, makes_range, InSet, ending, element, wrong, class_at, range_at, named_at, in_set, is_range, Elements, with_front, behind, elements_from, elements_at}
use Rattle.usp_ere.specs.CountText.{Counted, counts_at}
use Rattle.usp_ere.specs.Tokens.{Token, atom, anchor, times, brace, opening, closing, bar, bad, set_token, set_at, is_letter_or_digit, escaped, counted, single, token_at, bytes_of, tokens_from, tokens_of}
use Rattle.usp_ere.specs.Faults.{Before, nothing, repeatable, settled, Standing, are_counts, behind_counts, behind_token, fault_at_end, or_behind, fault_in, fault_of, first_of_both, first_odd}
use Rattle.usp_ere.specs.Grammar.{Spells}
use Rattle.usp_ere.specs.Reading.{fresh}
use Rattle.usp_ere.specs.Marks.{IsReading}
use Rattle.usp_ere.proofs.Agree.{Agree, agrees}
use Rattle.usp_ere.proofs.Sound.{spelled_of}

-- a fault with a place
abbrev pub IsPlaced : EreFault → Type 0
IsPlaced (Syntax at) = Unit {0}
IsPlaced (Undefined at) = Unit {0}
IsPlaced (Repeat at) = Unit {0}
IsPlaced TooLarge = ⊥
IsPlaced NoMemory = ⊥

abbrev IsPlacedPart : InSet → Type 0
IsPlacedPart ending = Unit {0}
IsPlacedPart (element e bytes) = Unit {0}
IsPlacedPart (wrong f) = IsPlaced f

abbrev IsPlacedErr : {A : Type 0} → Result A EreFault → Type 0
IsPlacedErr (Ok a) = Unit {0}
IsPlacedErr (Err f) = IsPlaced f

abbrev IsPlacedToken : Token → Type 0
IsPlacedToken (bad f) = IsPlaced f
IsPlacedToken other = Unit {0}

abbrev IsPlacedOption : Option EreFault → Type 0
IsPlacedOption None = Unit {0}
IsPlacedOption (Some f) = IsPlaced f

-- each test of a chain, whatever it tests
range_by : (a b c : Bool) (at first last : ℕ) → IsPlacedPart (if a then wrong (Undefined (at + 2)) else if b then wrong (Syntax at) else if c then wrong (Syntax at) else element (Range first last) 3)
range_by true b c at first last = tt
range_by false true c at first last = tt
range_by false false true at first last = tt
range_by false false false at first last = tt

range_placed : (at c : ℕ) (t : List ℕ) → IsPlacedPart (range_at at c t)
range_placed at c [] = tt
range_placed at c (d ∷ t) =
    range_by (nat_eq d 91 && is_collating t) (nat_eq d 91 && begins t (codes ":")) (nat_lt d c) at c d

named_by : (a : Bool) (at bytes : ℕ) (class : Class) → IsPlacedPart (if a then wrong (Syntax at) else element (Named class) bytes)
named_by true at bytes class = tt
named_by false at bytes class = tt

named_placed : (at : ℕ) (class : Option Class) (t : List ℕ) → IsPlacedPart (named_at at class t)
named_placed at None t = tt
named_placed at (Some class) t = named_by (makes_range (drop (length (text_of class)) t)) at (length (text_of class)) class

part_by : (a b c d e : Bool) (at x : ℕ) (named range : InSet) → IsPlacedPart named → IsPlacedPart range → IsPlacedPart (if a then ending else if b then wrong (Undefined at) else if c then wrong (Undefined at) else if d then named else if e then range else element (One x) 1)
part_by true b c d e at x named range h k = tt
part_by false true c d e at x named range h k = tt
part_by false false true d e at x named range h k = tt
part_by false false false true e at x named range h k = h
part_by false false false false true at x named range h k = k
part_by false false false false false at x named range h k = tt

part_placed : (first ranged : Bool) (at c : ℕ) (t : List ℕ) → IsPlacedPart (in_set first ranged at c t)
part_placed first ranged at c t =
    part_by (nat_eq c 93 && not first) (nat_eq c 45 && (ranged && not (begins t (codes "]")))) (nat_eq c 91 && is_collating t) (nat_eq c 91 && begins t (codes ":")) (makes_range t) at c (named_at at (class_at (c ∷ t)) (c ∷ t)) (range_at at c (drop 1 t))
    (named_placed at (class_at (c ∷ t)) (c ∷ t)) (range_placed at c (drop 1 t))

front_placed : (e : Element) (r : Elements) → IsPlacedErr r → IsPlacedErr (with_front e r)
front_placed e (Ok (es, n)) h = tt
front_placed e (Err f) h = h

behind_placed : (p : InSet) (at : ℕ) (more : Element → ℕ → Elements) → IsPlacedPart p → ((e : Element) (bytes : ℕ) → IsPlacedErr (more e bytes)) → IsPlacedErr (behind p at more)
behind_placed ending at more h k = tt
behind_placed (wrong f) at more h k = h
behind_placed (element e bytes) at more h k = front_placed e (more e bytes) (k e bytes)

elements_placed : (skip : ℕ) (first ranged : Bool) (at : ℕ) (t : List ℕ) → IsPlacedErr (elements_from skip first ranged at t)
elements_placed zero first ranged at [] = tt
elements_placed (suc skip) first ranged at [] = tt
elements_placed (suc skip) first ranged at (c ∷ t) = elements_placed skip first ranged (at + 1) t
elements_placed zero first ranged at (c ∷ t) =
    behind_placed (in_set first ranged at c t) at (λ e bytes. elements_from (bytes - 1) false (is_range e) (at + 1) t) (part_placed first ranged at c t)
    (λ e bytes. elements_placed (bytes - 1) false (is_range e) (at + 1) t)

set_placed : (at : ℕ) (negated : Bool) (r : Elements) → IsPlacedErr r → IsPlacedToken (set_token at negated r)
set_placed at negated (Ok (es, end)) h = tt
set_placed at negated (Err f) h = h

either_token : (a : Bool) (x y : Token) → IsPlacedToken x → IsPlacedToken y → IsPlacedToken (if a then x else y)
either_token true x y h k = h
either_token false x y h k = k

set_at_placed : (at : ℕ) (t : List ℕ) → IsPlacedToken (set_at at t)
set_at_placed at t =
    either_token (begins t (codes "^")) (set_token at true (elements_at (at + 2) (drop 1 t))) (set_token at false (elements_at (at + 1) t))
    (set_placed at true (elements_at (at + 2) (drop 1 t)) (elements_placed 0 true false (at + 2) (drop 1 t)))
    (set_placed at false (elements_at (at + 1) t) (elements_placed 0 true false (at + 1) t))

escaped_placed : (at : ℕ) (t : List ℕ) → IsPlacedToken (escaped at t)
escaped_placed at [] = tt
escaped_placed at (c ∷ t) = either_token (is_letter_or_digit c) (bad (Undefined at)) (atom (byte c) 2) tt tt

counted_placed : (left : ℕ) (c : Counted) → IsPlacedToken (counted left c)
counted_placed left None = tt
counted_placed left (Some (least, most, rest)) = tt

single_by : (a b c d e f g h i : Bool) (x : ℕ) → IsPlacedToken (if a then times 0 None 1 else if b then times 1 None 1 else if c then times 0 (Some 1) 1 else if d then opening else if e then closing else if f then bar else if g then anchor at_begin else if h then anchor at_end else if i then atom any 1 else atom (byte x) 1)
single_by true b c d e f g h i x = tt
single_by false true c d e f g h i x = tt
single_by false false true d e f g h i x = tt
single_by false false false true e f g h i x = tt
single_by false false false false true f g h i x = tt
single_by false false false false false true g h i x = tt
single_by false false false false false false true h i x = tt
single_by false false false false false false false true i x = tt
single_by false false false false false false false false true x = tt
single_by false false false false false false false false false x = tt

single_placed : (c : ℕ) → IsPlacedToken (single c)
single_placed c =
    single_by (nat_eq c 42) (nat_eq c 43) (nat_eq c 63) (nat_eq c 40) (nat_eq c 41) (nat_eq c 124) (nat_eq c 94) (nat_eq c 36) (nat_eq c 46) c

token_by : (a b c : Bool) (x y z w : Token) → IsPlacedToken x → IsPlacedToken y → IsPlacedToken z → IsPlacedToken w → IsPlacedToken (if a then x else if b then y else if c then z else w)
token_by true b c x y z w h k l m = h
token_by false true c x y z w h k l m = k
token_by false false true x y z w h k l m = l
token_by false false false x y z w h k l m = m

token_placed : (at c : ℕ) (t : List ℕ) → IsPlacedToken (token_at at c t)
token_placed at c t =
    token_by (nat_eq c 92) (nat_eq c 91) (nat_eq c 123) (escaped at t) (set_at at t) (counted (length t) (counts_at t)) (single c)
    (escaped_placed at t) (set_at_placed at t) (counted_placed (length t) (counts_at t)) (single_placed c)

counts_placed : (at : ℕ) (b : Bool) (groups : ℕ) → IsPlacedErr (behind_counts at b groups)
counts_placed at true groups = tt
counts_placed at false groups = tt

behind_token_placed : (at : ℕ) (before : Before) (groups : ℕ) (t : Token) → IsPlacedToken t → IsPlacedErr (behind_token at before groups t)
behind_token_placed at before groups (atom e bytes) h = tt
behind_token_placed at before groups (anchor e) h = tt
behind_token_placed at before groups opening h = tt
behind_token_placed at before groups (bad f) h = h
behind_token_placed at repeatable groups (times least most bytes) h = counts_placed at (are_counts least most) groups
behind_token_placed at nothing groups (times least most bytes) h = tt
behind_token_placed at settled groups (times least most bytes) h = tt
behind_token_placed at repeatable groups brace h = tt
behind_token_placed at nothing groups brace h = tt
behind_token_placed at settled groups brace h = tt
behind_token_placed at nothing groups bar h = tt
behind_token_placed at repeatable groups bar h = tt
behind_token_placed at settled groups bar h = tt
behind_token_placed at nothing zero closing h = tt
behind_token_placed at repeatable zero closing h = tt
behind_token_placed at settled zero closing h = tt
behind_token_placed at nothing (suc groups) closing h = tt
behind_token_placed at repeatable (suc groups) closing h = tt
behind_token_placed at settled (suc groups) closing h = tt

end_placed : (before : Before) (groups end : ℕ) → IsPlacedOption (fault_at_end before groups end)
end_placed nothing zero end = tt
end_placed repeatable zero end = tt
end_placed settled zero end = tt
end_placed before (suc groups) end = tt

or_placed : (r : Result Standing EreFault) (more : Before → ℕ → Option EreFault) → IsPlacedErr r → ((b : Before) (g : ℕ) → IsPlacedOption (more b g)) → IsPlacedOption (or_behind r more)
or_placed (Ok (before, groups)) more h k = k before groups
or_placed (Err f) more h k = h

tokens_placed : (skip at end : ℕ) (t : List ℕ) (before : Before) (groups : ℕ) → IsPlacedOption (fault_in before groups end (tokens_from skip at t))
tokens_placed zero at end [] before groups = end_placed before groups end
tokens_placed (suc skip) at end [] before groups = end_placed before groups end
tokens_placed (suc skip) at end (c ∷ t) before groups = tokens_placed skip (at + 1) end t before groups
tokens_placed zero at end (c ∷ t) before groups =
    or_placed (behind_token at before groups (token_at at c t)) (λ b g. fault_in b g end (tokens_from (bytes_of (token_at at c t) - 1) (at + 1) t)) (behind_token_placed at before groups (token_at at c t) (token_placed at c t))
    (λ b g. tokens_placed (bytes_of (token_at at c t) - 1) (at + 1) end t b g)

-- the fault of the tokens has a place
pub placed_fault : (text : List ℕ) (f : EreFault) → fault_in nothing 0 (length text) (tokens_of text) ≡ Some f → IsPlaced f
placed_fault text f is = subst IsPlacedOption is (tokens_placed 0 0 (length text) text nothing 0)

no_fault : (o : Option EreFault) (r : Option Expr) (e : Expr) → Agree o r → r ≡ Some e → o ≡ None
no_fault None (Some x) e h is = refl
no_fault (Some f) None e h is = cc
no_fault None None e h is = absurd h
no_fault (Some f) (Some x) e h is = absurd h

-- where an expression is read, the tokens have no fault
pub read_without_fault : (text : List ℕ) (e : Expr) → IsReading text e → fault_in nothing 0 (length text) (tokens_of text) ≡ None
read_without_fault text e is = no_fault _ _ e (agrees (tokens_of text) (length text) (fresh None) []) is

-- what is read of a text in which each byte is right is spelled by it
pub spelled_read : (text : List ℕ) (e : Expr) → IsReading text e → first_odd text ≡ None → Spells e text
spelled_read text e is right =
    (ap (λ o. first_of_both o (first_odd text)) (read_without_fault text e is) ∙ ap (first_of_both None) right, spelled_of e (map (λ p. p.token) (tokens_of text)) is)

-- a byte out of range is the fault where the tokens have none
pub odd_fault : (text : List ℕ) (e : Expr) (at : ℕ) → IsReading text e → first_odd text ≡ Some at → fault_of text ≡ Some (Undefined at)
odd_fault text e at is odd =
    ap (λ o. first_of_both o (first_odd text)) (read_without_fault text e is) ∙ ap (first_of_both None) odd

-- the earlier one of a fault of the tokens and a byte out of range
pub fault_of_both : (text : List ℕ) (f : EreFault) (r : Option EreFault) → fault_in nothing 0 (length text) (tokens_of text) ≡ Some f → r ≡ first_of_both (Some f) (first_odd text) → fault_of text ≡ r
fault_of_both text f r is both = ap (λ o. first_of_both o (first_odd text)) is ∙ sym both
