-- An ask that was served with a part of a seat.
use Rattle.std.proofs.Common.{◌≡◌, refl, sym, ap, ◌∙◌, subst, ℕ, ◌+◌, ◌≤◌, List, [], ◌++◌, Option}
use mathlib.Core.List.{IsPrefix}
use Rattle.usp_edge.specs.Calls.{Placed}
use Rattle.usp_edge.specs.Seats.{SeatGains}
use Rattle.usp_edge.specs.declared.note.Note.{Note}
use Rattle.usp_script.specs.Script.{ScriptValue}
use Rattle.usp_script.specs.declared.ask.LabAsk.{LabAsk}
use Rattle.usp_shared.specs.Histories.{longer_of}
use Rattle.usp_shared.specs.Seats.{Seated}
use Rattle.usp_lab.specs.Asking.{HasServed}
use Rattle.usp_lab.specs.Tables.{Gets, kept_of, part_of}
use Rattle.usp_lab.proofs.Rounds.Joining.{gains_by_part}

-- the same, by what the calls are to another
pub carried_over : {N M : Type 0} (gains : N → N → List Placed → Type 0) (others : M → M → List Placed → Type 0) (old new : N) (first last : M)
    (script : ScriptValue) (issued : List (Option (List ℕ))) (known : ℕ) (ask : LabAsk) (note : Note) (rest text : Option (List ℕ))
    → ((calls : List Placed) → gains old new calls → others first last calls)
    → HasServed gains old new script issued known ask note rest text → HasServed others first last script issued known ask note rest text
carried_over gains others old new first last script issued known ask note rest text f has = record {
  served = has.served;
  is = has.is;
  noted = has.noted;
  gained = f has.served.calls has.gained;
  left = has.left;
  told = has.told;
}

-- what a join makes of two seats
abbrev pub joined : Seated → Seated → Seated
joined seat other = record {
  table = seat.table;
  seen = longer_of seat.seen other.seen;
  places = seat.places ++ other.places;
  left = seat.left + other.left;
}

got_by : (seat other new : Seated) → new ≡ joined seat other → IsPrefix seat.seen new.seen → IsPrefix other.seen new.seen → Gets seat other new
got_by seat other new is more seen = record {
  table = ap (λ (s : Seated). s.table) is;
  places = ap (λ (s : Seated). s.places) is;
  left = ap (λ (s : Seated). s.left) is;
  more = more;
  seen = seen;
}

-- A seat gave a part, which made these calls and was taken back.
pub gains_over : (old kept given first last other new : Seated) (part : ℕ) (calls : List Placed) → part ≤ old.left → kept ≡ kept_of part old → given ≡ part_of part old
    → first ≡ given → other ≡ last → new ≡ joined kept other → IsPrefix kept.seen new.seen → IsPrefix other.seen new.seen
    → SeatGains first last calls → SeatGains old new calls
gains_over old kept given first last other new part calls le kept_is given_is first_is other_is new_is more seen gains =
    gains_by_part old kept other new part calls kept_is le
    (subst (λ s. SeatGains (part_of part old) s calls) (sym other_is) (subst (λ s. SeatGains s last calls) (first_is ∙ given_is) gains))
    (got_by kept other new new_is more seen)
