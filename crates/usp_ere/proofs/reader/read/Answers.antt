use Rattle.std.proofs.lemmas.Result.{err_from_is_err_and}
use Rattle.usp_ere.proofs.ReaderLemmas.{stands_behind, handed_on, token_fault, end_faults}
use Rattle.usp_ere.proofs.reader.read.Goals as goal

pub loop-at-preserved : goal.loop-at-preserved
loop-at-preserved c =
    stands_behind c.args.text.now c.loop-at.state _ c.in_ok-mark.mark c.loop-at.at _ _ c.loop-at.invariant c.loop-at-test.true
    c.in_ok-mark.ensures c.bytes.ensures c.place_behind-next.ensures c.in_ok-state.ensures.next

pub returns-in_err-state-clause-fault : goal.returns-in_err-state-clause-fault
returns-in_err-state-clause-fault c =
    let p = err_from_is_err_and c.from_residual-in_err-state.result c.from_residual-in_err-state.ensures.1 in
    handed_on c.from_residual-in_err-state.result c.args.text.now c.in_err-state.field-0.0 p.0 p.1 p.2
    (token_fault c.args.text.now c.loop-at.state c.in_ok-mark.mark c.loop-at.at c.in_err-state.field-0.0 c.loop-at.invariant c.loop-at-test.true c.in_ok-mark.ensures c.in_err-state.ensures.fault)

pub returns-clause-fault : goal.returns-clause-fault
returns-clause-fault c = end_faults c.finish.result c.args.text.now c.loop-at.state c.loop-at.at c.loop-at.invariant c.loop-at-test.false c.finish.ensures.fault
