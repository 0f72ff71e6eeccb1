use Rattle.std.proofs.Common.{◌≡◌, codes, Some, None, sym}
use Rattle.usp_base.specs.Cuts.{cut_at}
use Rattle.usp_script.specs.Reading.{space}
use Rattle.usp_script.proofs.Asking.{says_cookie, says_none, says_nothing_uncut, says_nothing_unlabelled, says_nothing_unworded, says_query}
use Rattle.usp_script.proofs.Words.{other_text, same_text}
use Rattle.usp_script.proofs.reading.ask.carried_in.Goals as goal

pub returns-then-eq : goal.returns-then-eq
returns-then-eq c =
    says_none c.args.draft.now c.args.last.now (same_text c.eq.result c.args.last.now c.as_slice.result.now (codes "none") c.eq.ensures c.as_slice.ensures c.if-eq.true)

pub returns-in_err-word : goal.returns-in_err-word
returns-in_err-word c =
    let other = other_text c.eq.result c.args.last.now c.as_slice.result.now (codes "none") c.eq.ensures c.as_slice.ensures c.if-eq.false in
    let uncut : cut_at space c.args.last.now ≡ None = sym c.in_err-word.ensures in
    rw c.from_residual.ensures (says_nothing_uncut c.args.draft.now c.args.last.now other uncut)

pub returns-in_err-label_in : goal.returns-in_err-label_in
returns-in_err-label_in c =
    let other = other_text c.eq.result c.args.last.now c.as_slice.result.now (codes "none") c.eq.ensures c.as_slice.ensures c.if-eq.false in
    let cut : cut_at space c.args.last.now ≡ Some (c.in_ok-word.word.now, c.in_ok-word.text.now) = sym c.in_ok-word.ensures in
    rw c.from_residual-in_err-label_in.ensures (says_nothing_unlabelled c.args.draft.now c.args.last.now other c.in_ok-word.word.now c.in_ok-word.text.now cut c.in_err-label_in.ensures)

pub returns-then-eq-2 : goal.returns-then-eq-2
returns-then-eq-2 c =
    let cut : cut_at space c.args.last.now ≡ Some (c.in_ok-word.word.now, c.in_ok-word.text.now) = sym c.in_ok-word.ensures in
    let is = same_text c.eq-2.result c.in_ok-word.word.now c.as_slice-2.result.now (codes "query") c.eq-2.ensures c.as_slice-2.ensures c.if-eq-2.true in
    says_query c.args.draft.now c.args.last.now c.in_ok-word.word.now c.in_ok-word.text.now c.in_ok-label_in.field-0 cut is c.in_ok-label_in.ensures

pub returns-in_err-label_in-2 : goal.returns-in_err-label_in-2
returns-in_err-label_in-2 c =
    let other = other_text c.eq.result c.args.last.now c.as_slice.result.now (codes "none") c.eq.ensures c.as_slice.ensures c.if-eq.false in
    let cut : cut_at space c.args.last.now ≡ Some (c.in_ok-word.word.now, c.in_ok-word.text.now) = sym c.in_ok-word.ensures in
    rw c.from_residual-in_err-label_in-2.ensures (says_nothing_unlabelled c.args.draft.now c.args.last.now other c.in_ok-word.word.now c.in_ok-word.text.now cut c.in_err-label_in-2.ensures)

pub returns-then-eq-3 : goal.returns-then-eq-3
returns-then-eq-3 c =
    let cut : cut_at space c.args.last.now ≡ Some (c.in_ok-word.word.now, c.in_ok-word.text.now) = sym c.in_ok-word.ensures in
    let is = same_text c.eq-3.result c.in_ok-word.word.now c.as_slice-3.result.now (codes "cookie") c.eq-3.ensures c.as_slice-3.ensures c.if-eq-3.true in
    says_cookie c.args.draft.now c.args.last.now c.in_ok-word.word.now c.in_ok-word.text.now c.in_ok-label_in-2.field-0 cut is c.in_ok-label_in-2.ensures

pub returns : goal.returns
returns c =
    let other = other_text c.eq.result c.args.last.now c.as_slice.result.now (codes "none") c.eq.ensures c.as_slice.ensures c.if-eq.false in
    let cut : cut_at space c.args.last.now ≡ Some (c.in_ok-word.word.now, c.in_ok-word.text.now) = sym c.in_ok-word.ensures in
    let query = other_text c.eq-2.result c.in_ok-word.word.now c.as_slice-2.result.now (codes "query") c.eq-2.ensures c.as_slice-2.ensures c.if-eq-2.false in
    let cookie = other_text c.eq-3.result c.in_ok-word.word.now c.as_slice-3.result.now (codes "cookie") c.eq-3.ensures c.as_slice-3.ensures c.if-eq-3.false in
    says_nothing_unworded c.args.draft.now c.args.last.now other c.in_ok-word.word.now c.in_ok-word.text.now cut query cookie
