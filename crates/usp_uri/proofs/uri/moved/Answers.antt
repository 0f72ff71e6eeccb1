use Rattle.std.proofs.Common.{arith, rules}
use Rattle.usp_uri.proofs.PlaceLaws.{moved_normal}
use Rattle.usp_uri.proofs.uri.moved.Goals as goal

pub invariant_of-result : goal.invariant_of-result
invariant_of-result c = moved_normal c.args.place.now c.args.uri.now c.extend_from_slice.new.self.items c.scheme.ensures.place c.text.ensures.normal (search rules) (omega arith)
