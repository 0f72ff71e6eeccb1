-- Tests of lists, from place to place.
use Rattle.std.proofs.Common.{◌≡◌, ℕ, ◌+◌, Bool, true, false, List, drop, Some, sym}
use Rattle.std.specs.List.{list_all, list_any, slice_get}
use Rattle.usp_json.proofs.Pairs.{next_entry}

pub all_stops : {X : Type 0} (p : X → Bool) (xs : List X) (i : ℕ) (x : X) → slice_get xs i ≡ Some x → list_all p xs ≡ list_all p (drop i xs) → p x ≡ false → false ≡ list_all p xs
all_stops p xs i x h e misses = let f = rw (next_entry xs i x h, misses) at e in sym f

pub all_goes : {X : Type 0} (p : X → Bool) (xs : List X) (i : ℕ) (x : X) → slice_get xs i ≡ Some x → list_all p xs ≡ list_all p (drop i xs) → p x ≡ true → list_all p xs ≡ list_all p (drop (i + 1) xs)
all_goes p xs i x h e has = let f = rw (next_entry xs i x h, has) at e in f

pub any_stops : {X : Type 0} (p : X → Bool) (xs : List X) (i : ℕ) (x : X) → slice_get xs i ≡ Some x → list_any p xs ≡ list_any p (drop i xs) → p x ≡ true → true ≡ list_any p xs
any_stops p xs i x h e has = let f = rw (next_entry xs i x h, has) at e in sym f

pub any_goes : {X : Type 0} (p : X → Bool) (xs : List X) (i : ℕ) (x : X) → slice_get xs i ≡ Some x → list_any p xs ≡ list_any p (drop i xs) → p x ≡ false → list_any p xs ≡ list_any p (drop (i + 1) xs)
any_goes p xs i x h e misses = let f = rw (next_entry xs i x h, misses) at e in f
