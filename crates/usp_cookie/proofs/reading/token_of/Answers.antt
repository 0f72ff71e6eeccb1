use Rattle.std.proofs.Common.{sym, ◌∙◌}
use Rattle.usp_cookie.proofs.Pairs.{token_found, token_last, token_passed}
use Rattle.usp_cookie.proofs.reading.token_of.Goals as goal

pub returns-in-Some-value_under : goal.returns-in-Some-value_under
returns-in-Some-value_under c =
    sym (token_found c.text-name.result.now c.loop-piece.rest.now c.in-Some.piece.now c.in-Some.more.now c.in-Some-value_under.found.now (sym c.in-Some.ensures) (sym c.in-Some-value_under.ensures))
    ∙ c.loop-piece.invariant

pub loop-piece-preserved : goal.loop-piece-preserved
loop-piece-preserved c =
    sym (token_passed c.text-name.result.now c.loop-piece.rest.now c.in-Some.piece.now c.in-Some.more.now (sym c.in-Some.ensures) (sym c.in_default-value_under.ensures))
    ∙ c.loop-piece.invariant

pub returns : goal.returns
returns c =
    c.value_under-2.ensures ∙ sym (token_last c.text-name.result.now c.loop-piece.rest.now (sym c.in_default.ensures)) ∙ c.loop-piece.invariant
