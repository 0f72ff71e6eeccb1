use Rattle.std.proofs.Common.{refl, arith}
use Rattle.usp_script.proofs.Uris.{segment_at}
use Rattle.usp_script.proofs.generator.uris.segment_text.Goals as goal

pub returns-in-1 : goal.returns-in-1
returns-in-1 c = segment_at c.args.number 1 _ c.in-1.is (omega arith) refl

pub returns-in-2 : goal.returns-in-2
returns-in-2 c = segment_at c.args.number 2 _ c.in-2.is (omega arith) refl

pub returns-in-3 : goal.returns-in-3
returns-in-3 c = segment_at c.args.number 3 _ c.in-3.is (omega arith) refl

pub returns-in-4 : goal.returns-in-4
returns-in-4 c = segment_at c.args.number 4 _ c.in-4.is (omega arith) refl

pub returns-in_default : goal.returns-in_default
returns-in_default c = segment_at c.args.number 5 _ (omega arith) (omega arith) refl
