use Rattle.usp_json.proofs.Pairs.{zip_snoc}
use Rattle.usp_json.proofs.value.Members.push.Goals as goal

pub returns-in-Ok-clause-member : goal.returns-in-Ok-clause-member
returns-in-Ok-clause-member c paired =
    rw (c.in_ok-push.ensures.ok, c.in-Ok.ensures.ok) (zip_snoc c.args.self.now.names c.args.self.now.values c.args.name c.args.value paired)
