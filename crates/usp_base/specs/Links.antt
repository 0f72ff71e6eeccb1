-- What the asks of a link are told.
use Rattle.std.specs.Prelude.{ℕ, List, [], ◌++◌, ◌∷◌, Option, Some, None, Result, Ok, Err}
use Rattle.std.specs.Option.{option_map}
use Rattle.usp_base.specs.declared.fault.LoadFault.{LoadFault}
use Rattle.usp_base.specs.declared.fault.LoadFault.TheVariants.{Failed, NoMemory}
use Rattle.usp_base.specs.declared.link.Asked.{Asked}

abbrev pub asked_with : List ℕ → List ℕ → Option (List ℕ) → Asked
asked_with address head answer = record { address = address; head = head; answer = answer }

-- a known list of asks with one more
abbrev pub grown : Option (List Asked) → Asked → Option (List Asked)
grown asks asked = option_map (λ all. all ++ asked ∷ []) asks

-- the asks after one: one more, with the bytes that came or none where it failed; after want of memory the same
abbrev pub asks_after : {T : Type 0} → (T → List ℕ) → Option (List Asked) → (address head : List ℕ) → Result T LoadFault
    → Option (List Asked)
asks_after view asks address head (Ok bytes) = grown asks (asked_with address head (Some (view bytes)))
asks_after view asks address head (Err Failed) = grown asks (asked_with address head None)
asks_after view asks address head (Err NoMemory) = asks
