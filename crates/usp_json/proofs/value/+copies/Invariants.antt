use Rattle.std.proofs.Common.{◌≡◌, take}
use Rattle.usp_json.proofs.value.+copies.Given as goal

abbrev pub invariant-Json::copy-values : goal.invariant-Json::copy-values
invariant-Json::copy-values l = l.values ≡ take l.value-index l.value-items

abbrev pub invariant-Members::copy-names : goal.invariant-Members::copy-names
invariant-Members::copy-names l = l.names ≡ take l.name-index l.name-items

abbrev pub invariant-Members::copy-members : goal.invariant-Members::copy-members
invariant-Members::copy-members l = l.values ≡ take l.value-index l.value-items
