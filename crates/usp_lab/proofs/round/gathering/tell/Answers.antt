use Rattle.usp_lab.proofs.round.gathering.tell.Goals as goal

pub returns : goal.returns
returns g c = g.met.L.Calm.tells c.args.line.now
