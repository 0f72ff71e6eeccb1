-- Places at which no walk starts.
use Rattle.std.proofs.Common.{◌≡◌, ◌≢◌, ℕ, ◌+◌, ◌<◌, ◌≤◌, inl, inr, refl, sym, ap, ◌∙◌, subst, arith, List, Bool, true, false, ne_eqb, length, Option, Some, None}
use Rattle.std.specs.Prelude.{slice_get, slice_index}
use Rattle.std.proofs.lemmas.Bool.{cases_eq, cases_lt}
use Rattle.std.proofs.lemmas.Option.{slice_get_past, slice_get-get_or}
use Rattle.usp_ere.specs.declared.bytes.ByteSet.{ByteSet}
use Rattle.usp_ere.specs.declared.course.Places.{Places}
use Rattle.usp_ere.specs.declared.course.Places.TheVariants.{At, Before, Anywhere}
use Rattle.usp_ere.specs.Bytes.{holds}
use Rattle.usp_ere.specs.Starts.{starts_at, IsPassedOver}

pub passed_none : (places : Places) (u : List ℕ) (from : ℕ) → IsPassedOver places u from from
passed_none places u from = record { by = λ at low high le. absurd (omega arith) }

pub passed_before : (u : List ℕ) (place from to : ℕ) → to ≤ place → IsPassedOver (At place) u from to
passed_before u place from to le = record { by = λ at low high within. ne_eqb at place (λ same. omega arith) }

pub passed_behind : (u : List ℕ) (place from to : ℕ) → place < from → IsPassedOver (At place) u from to
passed_behind u place from to lt = record { by = λ at low high within. ne_eqb at place (λ same. omega arith) }

pub passed_more : (s : ByteSet) (u : List ℕ) (from at : ℕ) → at < length u → holds s (slice_index u at) ≡ false → IsPassedOver (Before s) u from at → IsPassedOver (Before s) u from (at + 1)
passed_more s u from at lt never over = record {
  by = λ k low high within. elim (cases_eq k at) [
    | inl same ↦ subst (λ n. starts_at (Before s) n (slice_get u n) ≡ false) (sym same) (ap (starts_at (Before s) at) (slice_get-get_or u at 0 lt) ∙ never)
    | inr other ↦ over.by k low (omega arith) within
  ];
}

pub passed_end : (s : ByteSet) (u : List ℕ) (from at : ℕ) → length u ≤ at → IsPassedOver (Before s) u from at → IsPassedOver (Before s) u from (length u + 1)
passed_end s u from at past over = record {
  by = λ k low high within. elim (cases_lt k at) [
    | inl lt ↦ over.by k low lt within
    | inr le ↦ ap (starts_at (Before s) k) (slice_get_past u k (omega arith))
  ];
}

pub ruleset before_rules = (passed_none, passed_more, passed_end)

pub ruleset start_rules = (passed_none, passed_before, passed_behind)
