use Rattle.std.proofs.Common.{◌∙◌, sym}
use Rattle.usp_tool.proofs.Checking.Fields.{ask_more, ask_three, ask_two, ask_uncut}
use Rattle.usp_tool.proofs.check.line.ask_of.Goals as goal

pub returns-in-None : goal.returns-in-None
returns-in-None c = sym (ask_uncut c.args.line.now (sym c.in-None.ensures))

pub returns-in-None-cut_at : goal.returns-in-None-cut_at
returns-in-None-cut_at c =
    c.ask_at.ensures ∙ sym (ask_two c.args.line.now c.in-Some.moment.now c.in-Some.rest.now (sym c.in-Some.ensures) (sym c.in-None-cut_at.ensures))

pub returns-in-None-cut_at-2 : goal.returns-in-None-cut_at-2
returns-in-None-cut_at-2 c =
    c.ask_with.ensures ∙ sym (ask_three c.args.line.now c.in-Some.moment.now c.in-Some.rest.now c.in-Some-cut_at.uri.now c.in-Some-cut_at.token.now
    (sym c.in-Some.ensures) (sym c.in-Some-cut_at.ensures) (sym c.in-None-cut_at-2.ensures))

pub returns-in-Some-cut_at-2 : goal.returns-in-Some-cut_at-2
returns-in-Some-cut_at-2 c =
    sym (ask_more c.args.line.now c.in-Some.moment.now c.in-Some.rest.now c.in-Some-cut_at.uri.now c.in-Some-cut_at.token.now
    c.in-Some-cut_at-2.field-0.0.now c.in-Some-cut_at-2.field-0.1.now (sym c.in-Some.ensures) (sym c.in-Some-cut_at.ensures) (sym c.in-Some-cut_at-2.ensures))
