-- The numbers by which a program ends.
use Rattle.std.specs.Prelude.{ℕ}
use Rattle.usp_base.specs.declared.fault.Status.{Status}
use Rattle.usp_base.specs.declared.fault.Status.TheVariants.{Done, Denials, Words, Refused, Outside, Memory}

abbrev pub status_number : Status → ℕ
status_number Done = 0
status_number Denials = 1
status_number Words = 2
status_number Refused = 3
status_number Outside = 4
status_number Memory = 5
