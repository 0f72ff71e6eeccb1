use Rattle.usp_trace.proofs.Chained as chained
use Rattle.usp_trace.proofs.Said as said
use Rattle.usp_trace.proofs.laws.has_one_chain.Goals as goal

pub returns-clause-some : goal.returns-clause-some
returns-clause-some c ledger place ordered within = chained.has_chain ledger place ordered within

pub returns-clause-one : goal.returns-clause-one
returns-clause-one c ledger place places others token grant links behind h k =
    let rest = chained.one_grant ledger place places others token grant links behind h k in
    (chained.one_chain ledger place places others token grant links behind h k, rest.0, rest.1)

pub returns-clause-grant : goal.returns-clause-grant
returns-clause-grant c = said.begins_with_grant
