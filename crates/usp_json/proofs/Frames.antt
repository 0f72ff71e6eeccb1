-- Frames in the order of the code.
use Rattle.std.proofs.Common.{◌≡◌, ◌≢◌, ℕ, ◌+◌, ◌<◌, ◌==◌, true, false, List, [], ◌∷◌, length, drop, reverse, Some, inl, inr, refl, arith}
use Rattle.std.proofs.lemmas.List.{length-reverse}
use Rattle.std.proofs.lemmas.Bool.Decides.{eqb_tells}
use Rattle.usp_json.specs.declared.value.Json.{Json}
use Rattle.usp_json.specs.declared.frame.Frame.{Frame}
use Rattle.usp_json.specs.declared.frame.Frame.TheVariants.{Object as OpenObject}
use Rattle.usp_json.specs.declared.states.Piece.{Piece}
use Rattle.usp_json.specs.declared.states.Piece.TheVariants.{Start, Last, LastButOne, LastButTwo, Letter, First, Second, Third, Fourth, Backslash, U}
use Rattle.usp_json.specs.Entries.{object_of}
use Rattle.std.specs.List.{slice_get}
use Rattle.usp_json.proofs.Pairs.{next_entry}
use Rattle.std.specs.Str.{bytes_eq}
use Rattle.usp_json.specs.Spells.{has_name}
use Rattle.usp_json.specs.Machine.{after_value, object_end, is_closing}

pub same_len : (frames : List Frame) → length (reverse frames) ≡ length frames
same_len frames = length-reverse frames

pub empty : (frames : List Frame) → length frames ≡ 0 → reverse frames ≡ []
empty [] h = refl
empty (f ∷ fs) h = absurd (omega arith)

pub inner_end : (names : List (List ℕ)) (values : List Json) (frames : List Frame) → 0 < length frames → object_end (OpenObject names values ∷ frames) ≡ Some (after_value (object_of names values) frames)
inner_end names values [] h = absurd (omega arith)
inner_end names values (f ∷ fs) h = refl

-- only a quote closes a text
pub closing_quote : (piece : Piece) (b : ℕ) → is_closing piece b ≡ true → is_closing piece 34 ≡ true
closing_quote Start b h = refl
closing_quote Last b h = cc
closing_quote (LastButOne least most) b h = cc
closing_quote (LastButTwo least most) b h = cc
closing_quote Letter b h = cc
closing_quote (First high) b h = cc
closing_quote (Second high value) b h = cc
closing_quote (Third high value) b h = cc
closing_quote (Fourth high value) b h = cc
closing_quote (Backslash high) b h = cc
closing_quote (U high) b h = cc

pub no_letter : (a b : ℕ) → a ≢ b → (a == b) ≡ false
no_letter a b h = elim (eqb_tells a b) [ inl e ↦ absurd (h e.1) | inr n ↦ n.0 ]

pub name_here : (name n : List ℕ) (names : List (List ℕ)) (i : ℕ) → slice_get names i ≡ Some n → has_name name (drop i names) ≡ has_name name names → bytes_eq n name ≡ true → true ≡ has_name name names
name_here name n names i here same hit = let e = rw (next_entry names i n here, hit) at same in e

pub name_passed : (name n : List ℕ) (names : List (List ℕ)) (i : ℕ) → slice_get names i ≡ Some n → has_name name (drop i names) ≡ has_name name names → bytes_eq n name ≡ false
    → has_name name (drop (i + 1) names) ≡ has_name name names
name_passed name n names i here same miss = let e = rw (next_entry names i n here, miss) at same in e
