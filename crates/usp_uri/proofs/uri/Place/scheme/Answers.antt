use Rattle.std.proofs.Common.{rules}
use Rattle.usp_uri.proofs.PlaceLaws.{root_place}
use Rattle.usp_uri.proofs.uri.Place.scheme.Goals as goal

pub returns-clause-place : goal.returns-clause-place
returns-clause-place c = root_place c.self.inside.root c.args.self.now c.text.ensures.normal c.self.invariant (search rules) (search rules)
