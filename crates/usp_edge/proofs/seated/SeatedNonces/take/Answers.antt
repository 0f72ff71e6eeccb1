use Rattle.usp_nonce.specs.Stands.{call_of}
use Rattle.usp_edge.proofs.Taking.{gains_one}
use Rattle.usp_edge.proofs.seated.SeatedNonces.take.Goals as goal

pub returns : goal.returns
returns g c =
    gains_one c.args.self.now.seat c.take.new.seat (call_of c.args.key c.args.now c.args.until c.take.result) c.take.result.place
    c.take.ensures.entered c.take.ensures.places c.take.ensures.left c.take.ensures.table
