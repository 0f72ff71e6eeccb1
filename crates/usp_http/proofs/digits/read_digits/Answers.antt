use Rattle.std.proofs.Common.{arith, drop, sym, ◌∙◌}
use Rattle.usp_http.proofs.Spelling.{spelled_above}
use Rattle.usp_http.proofs.digits.read_digits.Goals as goal

pub returns-then-value-most : goal.returns-then-value-most
returns-then-value-most c =
    sym (spelled_above c.args.most c.loop-digit.value c.args.text.now (drop c.loop-digit.digit-index c.args.text.now) (sym c.are_digits.ensures ∙ c.if-not-are_digits.false) c.loop-digit.invariant.value (omega arith))
