use Rattle.std.proofs.Common.{sym}
use Rattle.usp_tool.proofs.Running.{accepted, answers_read, work_whole}
use Rattle.usp_tool.specs.Answers.{no_conf, no_key}
use Rattle.usp_tool.specs.Job.{job_value}
use Rattle.usp_tool.specs.Words.{in_bytes}
use Rattle.usp_tool.proofs.run.outcome_under.Goals as goal

pub returns-in-Err-clause-answers : goal.returns-in-Err-clause-answers
returns-in-Err-clause-answers g c = no_conf c.in-Err.fault c.in-Err.ensures.refused c.in_ok-conf_refusal-in-Err.ensures

pub returns-in_default-clause-answers : goal.returns-in_default-clause-answers
returns-in_default-clause-answers g c =
    no_key c.in-Ok.conf c.in-Ok.ensures.ok (sym c.in_default.ensures) c.in_ok-refusal.ensures

pub returns-clause-answers : goal.returns-clause-answers
returns-clause-answers g c =
    answers_read (in_bytes c.args.command.now) c.args.text.now c.in-Ok.conf (job_value c.in-Some.job) c.deref.result.now (g.S.Source.left c.args.input.now)
    (g.S.Source.left c.read_up_to.new.source) c.in_ok-work.field-0 c.in-Ok.ensures.ok (sym c.in-Some.ensures) (rw c.deref.ensures.value c.in_ok-bytes.ensures.taken)
    (λ short. (c.in_ok-bytes.ensures.over (rw (← c.deref.ensures.value) short)).1) c.in_ok-work.ensures.works

pub returns-clause-whole : goal.returns-clause-whole
returns-clause-whole g c =
    work_whole (job_value c.in-Some.job) c.deref.result.now c.in_ok-work.field-0 (g.S.Source.ended c.read_up_to.new.source)
    (λ short. (c.in_ok-bytes.ensures.over (rw (← c.deref.ensures.value) short)).0) c.in_ok-work.ensures.own c.in_ok-work.ensures.works

pub returns-clause-unread : goal.returns-clause-unread
returns-clause-unread g c = λ unread.
    absurd (accepted (in_bytes c.args.command.now) c.args.text.now c.in-Ok.conf (job_value c.in-Some.job) c.in-Ok.ensures.ok (sym c.in-Some.ensures) unread)
