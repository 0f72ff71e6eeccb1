use Rattle.std.proofs.Common.{◌∙◌, sym, ap, subst}
use Rattle.usp_tool.specs.Check.{IsChecked}
use Rattle.usp_base.specs.Lines.{lines_of}
use Rattle.usp_tool.specs.Outcome.{IsOwn}
use Rattle.usp_tool.proofs.Checking.Lines.{empty_is, empty_legal, loop_done, loop_first, loop_more, loop_own, loop_refused}
use Rattle.usp_tool.proofs.check.check.Goals as goal

pub loop-profile-init : goal.loop-profile-init
loop-profile-init g c = (
  c.profile-profile.ensures ∙ ap (λ s. s.profile) c.site.ensures,
  loop_first c.args.conf.now c.args.input.now c.in_ok-table.table c.new-text.result.items c.in_ok-table.ensures.empty (c.in_ok-table.ensures.room ∙ c.room.ensures.value)
      c.new-text.ensures.items c.in_ok-table.ensures.empty.calls (empty_legal c.args.conf.now.room),
)

pub returns-in_default-clause-checked : goal.returns-in_default-clause-checked
returns-in_default-clause-checked g c =
    subst (IsChecked c.args.conf.now (lines_of c.args.input.now)) (sym c.new.ensures)
    (loop_refused c.args.conf.now c.args.input.now c.loop-profile.table c.loop-profile.number c.loop-profile.text.items c.push_line_refusal.new.text.items
    c.loop-profile.status c.loop-profile.rest.now c.first_line.result.0.now c.first_line.result.1.now c.loop-profile.invariant.1 c.first_line.ensures.lines
    (sym c.in_default.ensures) c.in_ok-push_line_refusal.ensures)

pub loop-profile-preserved : goal.loop-profile-preserved
loop-profile-preserved g c = (
  c.loop-profile.invariant.0,
  loop_more c.args.conf.now c.profile-profile.result.now c.args.input.now c.loop-profile.table c.decide.new.table c.loop-profile.number c.loop-profile.text.items
      c.push_verdict.new.text.items c.loop-profile.status c.status_with-status.result c.loop-profile.rest.now c.first_line.result.0.now c.first_line.result.1.now
      c.in-Some.ask c.in_ok-verdict.verdict c.loop-profile.invariant.1 c.first_line.ensures.lines c.first_line.ensures.shorter (sym c.in-Some.ensures)
      c.loop-profile.invariant.0 c.in_ok-verdict.ensures.decided c.in_ok-verdict.ensures.room c.in_ok-verdict.ensures.calls c.in_ok-push_verdict.ensures
      c.status_with-status.ensures,
)

pub loop-profile-preserved-in_ok-push_verdict : goal.loop-profile-preserved-in_ok-push_verdict
loop-profile-preserved-in_ok-push_verdict g c = (
  c.loop-profile.invariant.0,
  loop_more c.args.conf.now c.profile-profile.result.now c.args.input.now c.loop-profile.table c.decide.new.table c.loop-profile.number c.loop-profile.text.items
      c.push_verdict.new.text.items c.loop-profile.status c.status_with-status.result c.loop-profile.rest.now c.first_line.result.0.now c.first_line.result.1.now
      c.in-Some.ask c.in_ok-verdict.verdict c.loop-profile.invariant.1 c.first_line.ensures.lines c.first_line.ensures.shorter (sym c.in-Some.ensures)
      c.loop-profile.invariant.0 c.in_ok-verdict.ensures.decided c.in_ok-verdict.ensures.room c.in_ok-verdict.ensures.calls c.in_ok-push_verdict.ensures
      c.status_with-status.ensures,
)

pub returns-clause-checked : goal.returns-clause-checked
returns-clause-checked g c =
    subst (IsChecked c.args.conf.now (lines_of c.args.input.now)) (sym c.new-2.ensures)
    (loop_done c.args.conf.now c.args.input.now c.loop-profile.table c.loop-profile.number c.loop-profile.text.items c.loop-profile.status c.loop-profile.rest.now
    c.loop-profile.invariant.1 (empty_is _ (sym c.is_empty.ensures ∙ c.loop-profile-test.false)))

pub returns-clause-own : goal.returns-clause-own
returns-clause-own g c =
    subst IsOwn (sym (ap (λ o. o.status) c.new-2.ensures))
    (loop_own c.args.conf.now c.args.input.now c.loop-profile.table c.loop-profile.number c.loop-profile.text.items c.loop-profile.status c.loop-profile.rest.now c.loop-profile.invariant.1)
