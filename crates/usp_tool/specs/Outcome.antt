-- What is written, and how it ends.
use Rattle.std.specs.Prelude.{◌≡◌, ℕ, List, [], ◌∷◌, ◌++◌, codes, Option, Some, None}
use Rattle.std.specs.Fmt.{decimal}
use Rattle.usp_base.specs.Lines.{line_feed}
use Rattle.usp_base.specs.declared.fault.Status.{Status}
use Rattle.usp_base.specs.declared.fault.Status.TheVariants.{Done, Denials, Refused}
use Rattle.usp_conf.specs.Members as members
use Rattle.usp_conf.specs.declared.fault.ConfFault.{ConfFault}
use Rattle.usp_conf.specs.declared.fault.ConfFault.TheVariants as fault

-- a text, and the status behind it
pub record Outcome : Type 0 where
  pub text : List ℕ
  pub status : Status

-- of no lines
abbrev pub empty : Outcome
empty = record { text = []; status = Done }

abbrev pub refusal : List ℕ → Outcome
refusal what = record { text = codes "refused " ++ (what ++ line_feed ∷ []); status = Refused }

-- of a line of the input, by its number
abbrev pub line_refusal : ℕ → Outcome
line_refusal number = refusal (codes "line " ++ decimal number)

-- what is named of a configuration that is refused; want of memory refuses none
abbrev pub fault_name : ConfFault → Option (List ℕ)
fault_name fault.Json = Some (codes "json")
fault_name (fault.Missing member) = Some (members.name_of member)
fault_name (fault.Kind member) = Some (members.name_of member)
fault_name (fault.Range member) = Some (members.name_of member)
fault_name (fault.ShortKey kid) = Some kid
fault_name (fault.Repeat member) = Some (members.name_of member)
fault_name fault.NoMemory = None

abbrev pub IsConfRefusal : ConfFault → Outcome → Type 0
IsConfRefusal found outcome =
    (name : List ℕ) × (fault_name found ≡ Some name) × (outcome ≡ refusal (codes "conf " ++ name))

-- the status is one that an outcome has
abbrev pub IsOwn : Status → Type 0
IsOwn Done = Unit {0}
IsOwn Denials = Unit {0}
IsOwn Refused = Unit {0}
IsOwn other = ⊥
