-- Lists, one behind the other.
use Rattle.std.proofs.Common.{◌≡◌, ◌⊎◌, ℕ, zero, suc, ◌+◌, List, [], ◌∷◌, ◌++◌, length, map, Option, Some, None, inl, inr, refl, sym, ap, ◌∙◌, subst, arith, append_assoc, append-nil}
use Rattle.std.specs.List.{slice_get}
use Rattle.std.specs.Option.{option_map}
use Rattle.std.proofs.lemmas.List.{map-append}
use Rattle.usp_trace.specs.declared.issue.Issue.{Issue}
use Rattle.usp_lab.specs.Entries.{Entry, ledger_of}
use Rattle.usp_lab.specs.Rounds.{all_of}

pub same_some : {X : Type 0} (a b : X) → Some a ≡ Some b → a ≡ b
same_some a b e = cc

-- ---- what stands at a place

-- what stands in two lists, one behind the other, stands in the one or in the other
pub get_split : {X : Type 0} (xs ys : List X) (i : ℕ) (x : X) → slice_get (xs ++ ys) i ≡ Some x
    → (slice_get xs i ≡ Some x) ⊎ ((k : ℕ) × (i ≡ length xs + k) × (slice_get ys k ≡ Some x))
get_split [] ys i x e = inr (i, omega arith, e)
get_split (a ∷ xs) ys zero x e = inl e
get_split (a ∷ xs) ys (suc i) x e = elim (get_split xs ys i x e) [
  | inl front ↦ inl front
  | inr later ↦ inr (later.0, omega (arith, later.1), later.2)
]

get_behind : {X : Type 0} (xs ys : List X) (k : ℕ) (x : X) → slice_get ys k ≡ Some x → slice_get (xs ++ ys) (k + length xs) ≡ Some x
get_behind [] ys k x e = let n : k ≡ k + 0 = omega arith in subst (λ i. slice_get ys i ≡ Some x) n e
get_behind (a ∷ xs) ys k x e =
    let n : suc (k + length xs) ≡ k + suc (length xs) = omega arith in
    subst (λ i. slice_get (a ∷ (xs ++ ys)) i ≡ Some x) n (get_behind xs ys k x e)

pub get_later : {X : Type 0} (xs ys : List X) (k : ℕ) (x : X) → slice_get ys k ≡ Some x → slice_get (xs ++ ys) (length xs + k) ≡ Some x
get_later xs ys k x e = subst (λ n. slice_get (xs ++ ys) n ≡ Some x) (omega arith) (get_behind xs ys k x e)

-- ---- entries

pub ledger_append : (xs ys : List Entry) → ledger_of (xs ++ ys) ≡ ledger_of xs ++ ledger_of ys
ledger_append xs ys = map-append (λ (entry : Entry). entry.issue) xs ys

-- an issue of the ledger is that of an entry
pub entry_at : (entries : List Entry) (place : ℕ) (issue : Issue) → slice_get (ledger_of entries) place ≡ Some issue
    → (entry : Entry) × (slice_get entries place ≡ Some entry) × (entry.issue ≡ issue)
entry_at [] place issue e = cc
entry_at (entry ∷ entries) zero issue e = (entry, refl, same_some entry.issue issue e)
entry_at (entry ∷ entries) (suc place) issue e = entry_at entries place issue e

-- ---- rounds

pub all_one_more : {X : Type 0} (rounds : List (List X)) (round : List X) → all_of (rounds ++ round ∷ []) ≡ all_of rounds ++ round
all_one_more [] round = append-nil round
all_one_more (first ∷ rounds) round = ap (λ l. first ++ l) (all_one_more rounds round) ∙ sym (append_assoc first (all_of rounds) round)
