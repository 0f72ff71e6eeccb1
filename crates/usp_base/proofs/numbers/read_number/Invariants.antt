use Rattle.std.proofs.Common.{◌≡◌, ◌≤◌, ◌+◌, ◌*◌, drop}
use Rattle.usp_base.specs.Numbers.{value_of, value_from}
use Rattle.usp_base.proofs.numbers.read_number.Given as goal

abbrev pub invariant-loop-digit : goal.invariant-loop-digit
invariant-loop-digit l = record {
  value : value_of l.text ≡ value_from l.value (drop l.digit-index l.text);
  small : l.value ≤ l.most * 10 + 255;
}
