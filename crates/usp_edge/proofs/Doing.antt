-- What the work on heads does outside, one head after the other.
use Rattle.std.proofs.Common.{◌≡◌, refl, sym, ap, ◌∙◌, subst, ℕ, ◌+◌, ◌≤◌, min, List, [], ◌∷◌, ◌++◌, append_assoc, append-nil, Option, Some, None, arith}
use Rattle.std.specs.Io.KnownBytes.{append_known}
use Rattle.usp_base.specs.Outside.{last_count}
use Rattle.usp_edge.specs.Calls.{Placed}
use Rattle.usp_edge.specs.Outcomes.{Find}
use Rattle.usp_edge.specs.Serving.{AreFound, Draws, Did, Met, Objects, Supplies, ReadsObjects, failures}
use Rattle.usp_edge.specs.declared.note.Note.{Note}

pub appended_none : (o : Option (List ℕ)) → o ≡ append_known o []
appended_none None = refl
appended_none (Some xs) = ap Some (sym (append-nil xs))

pub appended_both : (o o2 o3 : Option (List ℕ)) (a b : List ℕ) → o2 ≡ append_known o a → o3 ≡ append_known o2 b
    → o3 ≡ append_known o (a ++ b)
appended_both None o2 o3 a b first second = second ∙ ap (λ k. append_known k b) first
appended_both (Some xs) o2 o3 a b first second =
    second ∙ (ap (λ k. append_known k b) first ∙ ap Some (append_assoc xs a b))

found_both : (objects : Objects) (x y : List Find) → AreFound objects x → AreFound objects y → AreFound objects (x ++ y)
found_both objects [] y first second = second
found_both objects (find ∷ x) y (here, first) second = (here, found_both objects x y first second)

failures_both : (x y : List Find) → failures (x ++ y) ≡ failures x + failures y
failures_both [] y = omega arith
failures_both (find ∷ x) y = omega (arith, failures_both x y)

most_both : (a b c x y xy : ℕ) → xy ≡ x + y → min (a + x) last_count ≤ b → min (b + y) last_count ≤ c
    → min (a + xy) last_count ≤ c
most_both a b c x y xy is first second = omega (arith, is, first, second)

pub reads_none : (objects : Objects) (faults : ℕ) → ReadsObjects objects objects faults faults []
reads_none objects faults = record { found = tt; same = refl; later = omega arith; failed_most = omega arith }

reads_both : (o o2 o3 : Objects) (f f2 f3 : ℕ) (x y : List Find) → ReadsObjects o o2 f f2 x → ReadsObjects o2 o3 f2 f3 y
    → ReadsObjects o o3 f f3 (x ++ y)
reads_both o o2 o3 f f2 f3 x y first second = record {
  found = found_both o x y first.found (subst (λ k. AreFound k y) first.same second.found);
  same = second.same ∙ first.same;
  later = omega (arith, first.later, second.later);
  failed_most = most_both f f2 f3 (failures x) (failures y) (failures (x ++ y)) (failures_both x y) first.failed_most second.failed_most;
}

module _ {N : Type 0} (gains : N → N → List Placed → Type 0) where
  pub asks_none : (old : Supplies N) → gains old.nonces old.nonces [] → Draws gains old old [] []
  asks_none old free = record { gained = free; reads = reads_none old.objects old.faults }

  pub did_none : (old : Met N) → gains old.supplies.nonces old.supplies.nonces [] → Did gains old old [] [] [] []
  did_none old free = record {
    given = appended_none old.given;
    draws = asks_none old.supplies free;
    noted = sym (append-nil old.journal);
  }

  pub did_both : ((a b c : N) (x y : List Placed) → gains a b x → gains b c y → gains a c (x ++ y)) → (old mid new : Met N)
      (m m2 : List ℕ) (c c2 : List Placed) (f f2 : List Find) (n n2 : List Note)
      → Did gains old mid m c f n → Did gains mid new m2 c2 f2 n2
      → Did gains old new (m ++ m2) (c ++ c2) (f ++ f2) (n ++ n2)
  did_both both old mid new m m2 c c2 f f2 n n2 first second = record {
    given = appended_both old.given mid.given new.given m m2 first.given second.given;
    draws = record {
      gained = both old.supplies.nonces mid.supplies.nonces new.supplies.nonces c c2 first.draws.gained second.draws.gained;
      reads = reads_both old.supplies.objects mid.supplies.objects new.supplies.objects old.supplies.faults mid.supplies.faults
          new.supplies.faults f f2 first.draws.reads second.draws.reads;
    };
    noted = second.noted ∙ (ap (λ k. k ++ n2) first.noted ∙ append_assoc old.journal n n2);
  }
