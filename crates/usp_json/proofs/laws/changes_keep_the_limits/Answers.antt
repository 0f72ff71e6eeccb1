use Rattle.std.proofs.Common.{refl}
use Rattle.usp_json.specs.declared.value.Json.TheVariants.{Num, Str}
use Rattle.usp_json.specs.Kept.{number, string}
use Rattle.usp_json.proofs.KeepLaws.{set_keeps, push_keeps}
use Rattle.usp_json.proofs.laws.changes_keep_the_limits.Goals as goal

pub returns-clause-set : goal.returns-clause-set
returns-clause-set c names values place v k h = set_keeps names values place v k h

pub returns-clause-pushed : goal.returns-clause-pushed
returns-clause-pushed c names values name v k h utf8 fresh room = push_keeps names values name v k h utf8 fresh room

pub returns-clause-text : goal.returns-clause-text
returns-clause-text c levels bytes u = string levels (Str bytes) bytes refl u

pub returns-clause-number : goal.returns-clause-number
returns-clause-number c levels spelled k = number levels (Num spelled) spelled refl k
