use Rattle.std.proofs.Common.{◌≡◌, ◌≤◌, ◌+◌, ◌-◌, ◌*◌, drop, fold, min}
use Rattle.usp_ere.specs.CountText.{value_of}
use Rattle.usp_ere.proofs.counts.value.Given as goal

-- the value so far goes on to that of all digits
abbrev pub invariant-loop-digit : goal.invariant-loop-digit
invariant-loop-digit l = record {
  small : l.value ≤ 256;
  rest : fold (λ v d. min 256 (10 * v + (d - 48))) l.value (drop l.digit-index l.digits) ≡ value_of l.digits;
}
