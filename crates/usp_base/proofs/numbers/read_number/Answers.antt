use Rattle.std.proofs.Common.{arith, drop}
use Rattle.usp_base.proofs.Digits.{number_of-past}
use Rattle.usp_base.proofs.numbers.read_number.Goals as goal

pub returns-then-value-most : goal.returns-then-value-most
returns-then-value-most c = number_of-past c.args.most c.loop-digit.value c.args.text.now (drop c.loop-digit.digit-index c.args.text.now) c.loop-digit.invariant.value (omega arith)
