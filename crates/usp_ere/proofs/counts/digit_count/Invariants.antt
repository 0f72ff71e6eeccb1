use Rattle.std.proofs.Common.{◌≡◌, ◌+◌, drop}
use Rattle.std.specs.List.{prefix_len}
use Rattle.usp_base.specs.Numbers.{is_digit}
use Rattle.usp_ere.proofs.counts.digit_count.Given as goal

-- the digits so far, and those at the front of the rest
abbrev pub invariant-loop-i : goal.invariant-loop-i
invariant-loop-i l = l.i + prefix_len is_digit (drop l.i l.text) ≡ prefix_len is_digit l.text
