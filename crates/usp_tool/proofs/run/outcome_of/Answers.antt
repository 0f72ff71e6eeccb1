use Rattle.std.proofs.Common.{subst, sym}
use Rattle.usp_tool.proofs.Running.{if_answered, same_file}
use Rattle.usp_tool.specs.Answers.{IsRefusedUnread}
use Rattle.usp_tool.specs.Words.{conf_name, in_bytes}
use Rattle.usp_tool.proofs.run.outcome_of.Goals as goal

pub returns-clause-answered : goal.returns-clause-answered
returns-clause-answered g c =
    if_answered (in_bytes c.args.command.now) (g.F.Files.files c.args.files.now) (g.S.Source.left c.args.input.now) c.deref.result.now c.outcome_under.result
    (rw (c.deref.ensures.value, ← c.conf.ensures) c.in_ok-text.ensures.found) c.outcome_under.ensures.answers

pub returns-clause-unread : goal.returns-clause-unread
returns-clause-unread g c = λ all conf told there unread.
    c.outcome_under.ensures.unread (subst (IsRefusedUnread (in_bytes c.args.command.now))
    (sym (same_file (g.F.Files.files c.args.files.now) all (conf_name (in_bytes c.args.command.now)) conf c.deref.result.now told there
    (rw (c.deref.ensures.value, ← c.conf.ensures) c.in_ok-text.ensures.found))) unread)
