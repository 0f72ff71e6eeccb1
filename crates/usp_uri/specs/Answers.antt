-- What a call answers, beside what is defined: want of memory alone is free.
use Rattle.std.specs.Prelude.{◌≡◌, Result, Ok, Err}
use Rattle.usp_uri.specs.declared.fault.UriFault.{UriFault}
use Rattle.usp_uri.specs.declared.fault.UriFault.TheVariants as fault

abbrev pub Refuses : {A : Type 0} → UriFault → Result A UriFault → Type 0
Refuses fault.NoMemory defined = Unit {0}
Refuses found defined = defined ≡ Err found

-- the result is the defined one, unless memory ran out
abbrev pub Gives : {A : Type 0} → Result A UriFault → Result A UriFault → Type 0
Gives (Ok value) defined = defined ≡ Ok value
Gives (Err found) defined = Refuses found defined
