use Rattle.std.proofs.Common.{◌≡◌, drop}
use Rattle.std.specs.List.{list_all}
use Rattle.usp_json.specs.Values.{is_text}
use Rattle.usp_json.proofs.value.Items.are_texts.Given as goal

-- the values so far are texts
abbrev pub invariant-loop-place : goal.invariant-loop-place
invariant-loop-place l = list_all is_text l.self.values ≡ list_all is_text (drop l.place l.self.values)
