-- The reading of a text by `serde_json`, and what a fault says of the text.
use Rattle.std.specs.Prelude.{◌≡◌, ℕ, List, IsUtf8, Some, None, Ok, Err}
use Rattle.serde_json.specs.Data.{Data}
use Rattle.serde_json.specs.Read.{read}
use Rattle.usp_conf.specs.Conf.{conf_of}
use Rattle.usp_conf.specs.Values.{ConfValue}
use Rattle.usp_conf.specs.declared.fault.ConfFault.{ConfFault}
use Rattle.usp_conf.specs.declared.fault.ConfFault.TheVariants as fault

-- the text is a configuration of that value
pub record Configures (text : List ℕ) (value : ConfValue) : Type 0 where
  pub utf8 : IsUtf8 text
  pub json : Data
  pub reading : read text ≡ Some json
  pub defined : conf_of json ≡ Ok value

-- the text is read, and the first row that fails has that fault
pub record Fails (text : List ℕ) (found : ConfFault) : Type 0 where
  pub utf8 : IsUtf8 text
  pub json : Data
  pub reading : read text ≡ Some json
  pub defined : conf_of json ≡ Err found

-- why a text has no reading; want of memory is free
abbrev pub RefusesText : ConfFault → List ℕ → Type 0
RefusesText fault.Json text = IsUtf8 text → read text ≡ None
RefusesText fault.NoMemory text = Unit {0}
RefusesText found text = ⊥

-- what a fault says of a text; want of memory is free
abbrev pub RefusesConf : ConfFault → List ℕ → Type 0
RefusesConf fault.Json text = IsUtf8 text → read text ≡ None
RefusesConf fault.NoMemory text = Unit {0}
RefusesConf found text = Fails text found
