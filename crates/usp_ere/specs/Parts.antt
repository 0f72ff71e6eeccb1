-- What the reader of a set answers.
use Rattle.std.specs.Prelude.{◌≡◌, Err}
use Rattle.usp_ere.specs.declared.elements.SetPart.{SetPart}
use Rattle.usp_ere.specs.declared.elements.SetPart.TheVariants.{Ending, Member, Wrong}
use Rattle.usp_ere.specs.declared.fault.EreFault.{EreFault}
use Rattle.usp_ere.specs.declared.fault.EreFault.TheVariants.{NoMemory}
use Rattle.usp_ere.specs.SetText.{InSet, ending, element, wrong, Elements}

abbrev pub part_of : SetPart → InSet
part_of Ending = ending
part_of (Member e bytes) = element e bytes
part_of (Wrong f) = wrong f

-- the set has this fault, but for want of memory
abbrev pub IsSetFault : Elements → EreFault → Type 0
IsSetFault elements NoMemory = Unit {0}
IsSetFault elements f = elements ≡ Err f
