-- How the work at a door goes on.
use Rattle.std.proofs.Common.{◌≡◌, ap, subst, ℕ, ◌+◌, ◌-◌, ◌*◌, ◌≤◌, ◌<◌, ⊎_elim, eq-or-lt_of_le, List, ◌++◌, length, length-append, Option, Some, IfSome, arith}
use Rattle.usp_conf.specs.Values.{ConfValue}
use Rattle.usp_edge.specs.Calls.{Placed}
use Rattle.usp_edge.specs.Serving.{Line, Met, Served}
use Rattle.usp_edge.specs.declared.end.End.{End}
use Rattle.usp_edge.specs.declared.note.Note.{Note}
use Rattle.usp_tool.proofs.Serving.Summing.{sum_served}

notes_fit : (old new notes : List Note) → new ≡ old ++ notes → length old ≤ length new
notes_fit old new notes is =
    let long : length new ≡ length (old ++ notes) = ap length is in omega (arith, long, length-append old notes)

left_more : (before after calls most served : ℕ) → after + calls ≡ before → calls ≤ 100 → served < most
    → 100 * (most - served) ≤ before → 100 * (most - (served + 1)) ≤ after
left_more before after calls most served fell few lt many = omega (arith, fell, few, lt, many)

-- what is said of a value that there is
pub if_some : {A : Type 0} (P : A → Type 0) (o : Option A) (a : A) → o ≡ Some a → IfSome o P → P a
if_some P o a is says = subst (λ s. IfSome s P) is says

pub counted_on : (a b x y : ℕ) → x ≡ a → y ≡ b → a ≤ b → a + (y - x) ≡ b
counted_on a b x y first second le = omega (arith, first, second, le)

pub less : (a b : ℕ) → (a ≡ b → ⊥) → a ≤ b → a < b
less a b apart le = ⊎_elim (λ same. absurd (apart same)) (λ lt. lt) (eq-or-lt_of_le le)

module _ {N : Type 0} (gains : N → N → List Placed → Type 0) (conf : ConfValue) where
  -- the journal does not grow shorter
  pub journal_grows : (line : Line) (old new : Met N) (ends : End) → Served gains conf line old new ends
      → length old.journal ≤ length new.journal
  journal_grows line old new ends served =
      let sum = sum_served gains conf line old new ends served in
      notes_fit old.journal new.journal sum.notes sum.did.noted

  -- as many calls as a connection may make are left for each connection to come
  pub left_on : (left : N → ℕ) → ((a b : N) (x : List Placed) → gains a b x → left b + length x ≡ left a)
      → (line : Line) (old new : Met N) (ends : End) → Served gains conf line old new ends
      → (most served : ℕ) → served < most → 100 * (most - served) ≤ left old.supplies.nonces
      → 100 * (most - (served + 1)) ≤ left new.supplies.nonces
  left_on left falls line old new ends served most count lt many =
      let sum = sum_served gains conf line old new ends served in
      left_more (left old.supplies.nonces) (left new.supplies.nonces) (length sum.calls) most count
      (falls old.supplies.nonces new.supplies.nonces sum.calls sum.did.draws.gained) sum.show.few lt many
