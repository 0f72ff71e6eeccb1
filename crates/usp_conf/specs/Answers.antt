-- What a call answers, beside what is defined: want of memory alone is free.
use Rattle.std.specs.Prelude.{◌≡◌, Result, Ok, Err}
use Rattle.usp_conf.specs.declared.fault.ConfFault.{ConfFault}
use Rattle.usp_conf.specs.declared.fault.ConfFault.TheVariants as fault

abbrev pub Refuses : {A : Type 0} → ConfFault → Result A ConfFault → Type 0
Refuses fault.NoMemory defined = Unit {0}
Refuses found defined = defined ≡ Err found

-- the result is the defined one, unless memory ran out
abbrev pub Gives : {A : Type 0} → Result A ConfFault → Result A ConfFault → Type 0
Gives (Ok value) defined = defined ≡ Ok value
Gives (Err found) defined = Refuses found defined

-- the next row is tried where this one is right
abbrev pub and_then : {A B : Type 0} → Result A ConfFault → (A → Result B ConfFault)
    → Result B ConfFault
and_then (Ok value) next = next value
and_then (Err found) next = Err found
