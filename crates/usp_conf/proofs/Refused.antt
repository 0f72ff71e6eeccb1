-- A text is a configuration or refused, and not both.
use Rattle.std.proofs.Common.{◌≡◌, ◌≢◌, ℕ, List, Result, Ok, Err, refl, sym, ◌∙◌, arith}
use Rattle.serde_json.specs.Read.{read}
use Rattle.usp_base.proofs.Facts.{never_both, one_some, same_ok}
use Rattle.usp_conf.specs.Conf.{conf_of}
use Rattle.usp_conf.specs.Readings.{Configures, Fails, RefusesConf}
use Rattle.usp_conf.specs.Values.{ConfValue}
use Rattle.usp_conf.specs.declared.fault.ConfFault.{ConfFault}
use Rattle.usp_conf.specs.declared.fault.ConfFault.TheVariants as fault

ok_err : {A : Type 0} (r : Result A ConfFault) (a : A) (e : ConfFault) → r ≡ Err e → r ≡ Ok a → ⊥
ok_err r a e p q = grind arith

fails : (found : ConfFault) (text : List ℕ) (value : ConfValue) → Fails text found → Configures text value → ⊥
fails found text value one other =
    let same = one_some (read text) one.json other.json one.reading other.reading in
    ok_err (conf_of other.json) value found (rw same at one.defined) other.defined

pub refused : (found : ConfFault) (text : List ℕ) (value : ConfValue) → RefusesConf found text → found ≢ fault.NoMemory → Configures text value → ⊥
refused fault.Json text value none is_not is = never_both (read text) is.json (none is.utf8) is.reading
refused fault.NoMemory text value none is_not is = is_not refl
refused (fault.Missing of) text value one is_not is = fails (fault.Missing of) text value one is
refused (fault.Kind of) text value one is_not is = fails (fault.Kind of) text value one is
refused (fault.Range of) text value one is_not is = fails (fault.Range of) text value one is
refused (fault.ShortKey kid) text value one is_not is = fails (fault.ShortKey kid) text value one is
refused (fault.Repeat of) text value one is_not is = fails (fault.Repeat of) text value one is

pub only : (text : List ℕ) (one other : ConfValue) → Configures text one → Configures text other → one ≡ other
only text one other first second =
    let same = one_some (read text) first.json second.json first.reading second.reading in
    let defined : conf_of second.json ≡ Ok one = rw same at first.defined in
    same_ok one other (sym defined ∙ second.defined)
