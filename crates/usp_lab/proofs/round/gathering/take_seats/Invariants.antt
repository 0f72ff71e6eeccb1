use Rattle.std.proofs.Common.{◌≡◌, ◌++◌, ◌≤◌, List, length, map}
use Rattle.usp_shared.specs.Seats.{Seated}
use Rattle.usp_lab.specs.Tables.{shared_of}
use Rattle.usp_lab.proofs.Rounds.Taking.{IsTaken}
use Rattle.usp_lab.proofs.round.gathering.take_seats.Given as goal

-- the seats from a place on were taken
abbrev pub invariant-loop-seat : goal.invariant-loop-seat
invariant-loop-seat l = record {
  more : (more : List Seated) × (l.fn.seats.items ≡ l.seats.items ++ more);
  shared : map shared_of l.tables ≡ map shared_of l.fn.tables;
  taken : IsTaken l.fn.tables l.tables l.fn.seats.items (length l.seats.items);
}

abbrev pub decreases-loop-seat : goal.decreases-loop-seat
decreases-loop-seat l = length l.seats.items
