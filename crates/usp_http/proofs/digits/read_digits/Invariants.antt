use Rattle.std.proofs.Common.{◌≡◌, ◌≤◌, ◌+◌, ◌*◌, drop}
use Rattle.usp_base.specs.Numbers.{value_from, value_of}
use Rattle.usp_http.proofs.digits.read_digits.Given as goal

-- the number so far, and the digits behind
abbrev pub invariant-loop-digit : goal.invariant-loop-digit
invariant-loop-digit l = record {
  value : value_of l.text ≡ value_from l.value (drop l.digit-index l.text);
  small : l.value ≤ l.most * 10 + 255;
}
