-- How the fault of a playlist is told.
use Rattle.std.specs.Prelude.{◌≡◌, ◌⊎◌}
use Rattle.usp_player.specs.declared.fault.ListFault.{ListFault}
use Rattle.usp_player.specs.declared.fault.ListFault.TheVariants as list
use Rattle.usp_player.specs.declared.fault.PlayFault.{PlayFault}
use Rattle.usp_player.specs.declared.fault.PlayFault.TheVariants as play

-- Want of memory stays want of memory.
abbrev pub IsListFault : ListFault → PlayFault → Type 0
IsListFault fault told =
    ((fault ≡ list.NoMemory) × (told ≡ play.NoMemory))
    ⊎ ((fault ≡ list.NoMemory → ⊥) × (told ≡ play.List fault))
