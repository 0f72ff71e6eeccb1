use Rattle.usp_edge.proofs.Requested.{gives_body, gives_method, gives_request}
use Rattle.usp_edge.proofs.work.work_on.Goals as goal

pub returns-then-request : goal.returns-then-request
returns-then-request g c =
    gives_body g.N.Nonces.gains c.args.request.now.conf.now c.args.request.now.last c.args.request.now.head.now _ _ (g.met.N.Nonces.gains_none c.args.nonces.now) c.if-request.true c.body_text.ensures

pub returns-in-Other : goal.returns-in-Other
returns-in-Other g c =
    gives_method g.N.Nonces.gains c.args.request.now.conf.now c.args.request.now.last c.args.request.now.head.now _ _ (g.met.N.Nonces.gains_none c.args.nonces.now)
    c.if-request.false c.in-Other.is c.method_text.ensures

pub returns-in_default : goal.returns-in_default
returns-in_default g c =
    gives_request g.N.Nonces.gains c.args.request.now.conf.now c.args.request.now.last c.args.request.now.head.now _ _ _ c.if-request.false c.in_default.not-Other
    c.work_request.ensures
