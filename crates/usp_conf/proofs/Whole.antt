-- What the rows of a reading say of the text.
use Rattle.std.proofs.Common.{◌≡◌, ℕ, List, Some, Ok, Err}
use Rattle.std.specs.Prelude.{IsUtf8}
use Rattle.serde_json.specs.Data.{Data}
use Rattle.serde_json.specs.Read.{read}
use Rattle.usp_conf.proofs.Named.{never_json}
use Rattle.usp_conf.specs.Answers.{Refuses}
use Rattle.usp_conf.specs.Conf.{conf_of}
use Rattle.usp_conf.specs.Values.{ConfValue}
use Rattle.usp_conf.specs.Readings.{Configures, Fails, RefusesConf, RefusesText}
use Rattle.usp_conf.specs.declared.fault.ConfFault.{ConfFault}
use Rattle.usp_conf.specs.declared.fault.ConfFault.TheVariants as fault

pub no_reading : (found : ConfFault) (text : List ℕ) → RefusesText found text → RefusesConf found text
no_reading fault.Json text h = h
no_reading fault.NoMemory text h = tt
no_reading (fault.Missing of) text h = absurd h
no_reading (fault.Kind of) text h = absurd h
no_reading (fault.Range of) text h = absurd h
no_reading (fault.ShortKey kid) text h = absurd h
no_reading (fault.Repeat of) text h = absurd h

failed : (text : List ℕ) (json : Data) (found : ConfFault) → IsUtf8 text → read text ≡ Some json → conf_of json ≡ Err found → Fails text found
failed text json found utf8 reading defined = record { utf8 = utf8; json = json; reading = reading; defined = defined }

pub failing : (found : ConfFault) (text : List ℕ) (json : Data) → IsUtf8 text → read text ≡ Some json → Refuses found (conf_of json) → RefusesConf found text
failing fault.Json text json utf8 reading h = absurd (never_json json h)
failing fault.NoMemory text json utf8 reading h = tt
failing (fault.Missing of) text json utf8 reading h = failed text json (fault.Missing of) utf8 reading h
failing (fault.Kind of) text json utf8 reading h = failed text json (fault.Kind of) utf8 reading h
failing (fault.Range of) text json utf8 reading h = failed text json (fault.Range of) utf8 reading h
failing (fault.ShortKey kid) text json utf8 reading h = failed text json (fault.ShortKey kid) utf8 reading h
failing (fault.Repeat of) text json utf8 reading h = failed text json (fault.Repeat of) utf8 reading h

pub reads : (text : List ℕ) (json : Data) (value : ConfValue) → IsUtf8 text → read text ≡ Some json → conf_of json ≡ Ok value → Configures text value
reads text json value utf8 reading defined = record { utf8 = utf8; json = json; reading = reading; defined = defined }
