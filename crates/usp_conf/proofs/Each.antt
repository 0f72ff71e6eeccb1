-- Elements that are read one after the other.
use Rattle.std.proofs.Common.{◌≡◌, suc, List, [], ◌∷◌, ◌++◌, length, Result, Ok, Err, refl, ap}
use Rattle.serde_json.specs.View.{items_view}
use Rattle.serde_json.specs.declared.value.Value.{Value}
use Rattle.usp_conf.specs.Lists.{count}
use Rattle.usp_conf.specs.declared.fault.ConfFault.{ConfFault}

-- what is read goes behind those rows
abbrev pub behind : {A : Type 0} → List A → Result (List A) ConfFault → Result (List A) ConfFault
behind rows (Ok more) = Ok (rows ++ more)
behind rows (Err found) = Err found

pub count_is : (values : List Value) → count (items_view values) ≡ length values
count_is [] = refl
count_is (value ∷ values) = ap suc (count_is values)
