-- Members that are lists.
use Rattle.std.specs.Prelude.{ℕ, Bool, suc, ◌&&◌, nat_le, List, [], ◌∷◌, Result, Ok, Err, if◌then◌else◌}
use Rattle.std.specs.Option.{option_map_or}
use Rattle.serde_json.specs.Data.{Data, Items, no_items, item}
use Rattle.serde_json.specs.Find.{as_array, as_object}
use Rattle.usp_conf.specs.Answers.{and_then}
use Rattle.usp_conf.specs.Texts.{optional, identity_of}
use Rattle.usp_conf.specs.declared.limits.TheConstants.{MAX_IDENTITIES}
use Rattle.usp_conf.specs.declared.fault.ConfFault.{ConfFault}
use Rattle.usp_conf.specs.declared.fault.ConfFault.TheVariants as fault
use Rattle.usp_conf.specs.declared.member.Member.{Member}

-- the elements, one whole element after the other
abbrev pub each : {A : Type 0} → (Data → Result A ConfFault) → Items → Result (List A) ConfFault
each read no_items = Ok []
each read (item value values) =
    and_then (read value) (λ first.
    and_then (each read values) (λ others. Ok (first ∷ others)))

abbrev pub count : Items → ℕ
count no_items = 0
count (item value values) = suc (count values)

abbrev pub has_length : ℕ → ℕ → Items → Bool
has_length least most items = nat_le least (count items) && nat_le (count items) most

-- a list of so many elements; its length is tried before its elements
abbrev pub rows_of : {A : Type 0} → Member → ℕ → ℕ → (Data → Result A ConfFault) → Data
    → Result (List A) ConfFault
rows_of of least most read value =
    option_map_or
    (λ items. if has_length least most items then each read items else Err (fault.Range of))
    (as_array value) (Err (fault.Kind of))

-- an element that must be an object
abbrev pub object_of : {A : Type 0} → Member → (Data → Result A ConfFault) → Data
    → Result A ConfFault
object_of list read value =
    option_map_or (λ members. read value) (as_object value) (Err (fault.Kind list))

abbrev pub identities_of : Member → Data → Result (List (List ℕ)) ConfFault
identities_of of = optional of [] (rows_of of 0 MAX_IDENTITIES (identity_of of))
