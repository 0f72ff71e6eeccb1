use Rattle.std.proofs.Common.{◌≡◌, drop}
use Rattle.std.specs.List.{list_any}
use Rattle.usp_json.specs.Values.{is_this}
use Rattle.usp_json.proofs.value.Items.has_text.Given as goal

-- no value so far is the text
abbrev pub invariant-loop-place : goal.invariant-loop-place
invariant-loop-place l = list_any (is_this l.text) l.self.values ≡ list_any (is_this l.text) (drop l.place l.self.values)
