-- Why a script has none, where a file was not loaded.
use Rattle.usp_base.specs.declared.fault.LoadFault.{LoadFault}
use Rattle.usp_base.specs.declared.fault.LoadFault.TheVariants as load
use Rattle.usp_script.specs.declared.fault.ScriptFault.{ScriptFault}
use Rattle.usp_script.specs.declared.fault.ScriptFault.TheVariants.{NoMemory, Unloaded}

abbrev pub fault_of : LoadFault → ScriptFault
fault_of load.Failed = Unloaded
fault_of load.NoMemory = NoMemory
