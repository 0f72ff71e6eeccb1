-- What clearing the shifts leaves known of the workers.
use Rattle.std.proofs.Common.{◌≡◌, refl, ℕ, zero, suc, List, [], ◌∷◌, map, Option, arith}
use Rattle.std.specs.Prelude.{All}
use Rattle.usp_base.specs.Doors.{Coming, Gone}
use Rattle.usp_edge.specs.Serving.{Objects}
use Rattle.usp_tool.specs.Edge.Desks.{Desk, IsEmpty, cleared, desk_by, outside_of}
use Rattle.usp_tool.specs.declared.edge.worker.Worker.{Worker}

module _ {D C O : Type 0} (coming : D → Coming) (back : D → Option (List Gone)) (lines_out door_faults : D → ℕ) (given : C → Option (List ℕ)) (objects : O → Objects)
    (object_faults : O → ℕ) where
  abbrev desk : Worker D C O → Desk
  desk w = desk_by coming back lines_out door_faults given objects object_faults w

  cleared_one : (n o : Worker D C O) → outside_of n ≡ outside_of o → IsEmpty n.shift → desk n ≡ cleared (desk o)
  cleared_one n o same is = λ j. record {
    coming = coming (same j).0;
    back = back (same j).0;
    lines_out = lines_out (same j).0;
    door_faults = door_faults (same j).0;
    given = given (same j).1.0;
    objects = objects (same j).1.1;
    object_faults = object_faults (same j).1.1;
    notes = is.notes j;
    visits = is.visits j;
    ends = is.ends j;
  }

  pub cleared_all : (ns os : List (Worker D C O)) → map outside_of ns ≡ map outside_of os → All (λ w. IsEmpty w.shift) ns → map desk ns ≡ map cleared (map desk os)
  cleared_all [] [] same all = refl
  cleared_all [] (o ∷ os) same all = absurd (cc)
  cleared_all (n ∷ ns) [] same all = absurd (cc)
  cleared_all (n ∷ ns) (o ∷ os) same all =
      let head : outside_of n ≡ outside_of o = cc in
      let tail : map outside_of ns ≡ map outside_of os = cc in
      let first = cleared_one n o head (all zero n (omega arith)) in
      let rest = cleared_all ns os tail (λ k d lt. all (suc k) d (omega (arith, lt))) in
      λ j. first j ∷ rest j
