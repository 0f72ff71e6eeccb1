use Rattle.std.proofs.Common.{◌∙◌, [], inl, refl, sym}
use Rattle.usp_tool.proofs.Labs.{asks_none, if_answered, is_answered, stops_read}
use Rattle.usp_tool.specs.Lab.Run.{too_long}
use Rattle.usp_tool.proofs.lab.command.outcome_for.Goals as goal

pub returns-in_err-bytes-clause-asked : goal.returns-in_err-bytes-clause-asked
returns-in_err-bytes-clause-asked g c = asks_none (g.S.Source.left c.args.input.now) (g.F.Files.asked c.args.files.now)

pub returns-in_err-refusal-clause-asked : goal.returns-in_err-refusal-clause-asked
returns-in_err-refusal-clause-asked g c = asks_none (g.S.Source.left c.args.input.now) (g.F.Files.asked c.args.files.now)

pub returns-then-is_long_input-clause-asked : goal.returns-then-is_long_input-clause-asked
returns-then-is_long_input-clause-asked g c = asks_none (g.S.Source.left c.args.input.now) (g.F.Files.asked c.args.files.now)

pub returns-then-is_long_input-clause-answered : goal.returns-then-is_long_input-clause-answered
returns-then-is_long_input-clause-answered g c =
    is_answered c.args.lab.now.workers (g.F.Files.files c.args.files.now) c.deref.result.now (g.S.Source.left c.args.input.now)
    (g.S.Source.left c.read_up_to.new.source) [] (g.B.Bench.given_back c.args.bench.now) (g.B.Bench.given_back c.args.bench.now)
    c.in_ok-refusal.field-0 (rw c.deref.ensures.value c.in_ok-bytes.ensures.taken)
    (λ short. (c.in_ok-bytes.ensures.over (rw (← c.deref.ensures.value) short)).1) tt
    (too_long (sym c.is_long_input.ensures ∙ c.if-is_long_input.true) refl c.in_ok-refusal.ensures refl)

pub returns-clause-answered : goal.returns-clause-answered
returns-clause-answered g c =
    if_answered c.args.lab.now.workers (g.F.Files.files c.args.files.now) c.deref-2.result.now (g.S.Source.left c.args.input.now)
    (g.S.Source.left c.read_up_to.new.source) (g.B.Bench.given_back c.args.bench.now) (g.B.Bench.given_back c.outcome_under.new.bench)
    c.outcome_under.result (rw c.deref-2.ensures.value c.in_ok-bytes.ensures.taken)
    (λ short. (c.in_ok-bytes.ensures.over (rw (← c.deref-2.ensures.value) short)).1) c.outcome_under.ensures.has

pub returns-clause-stopped : goal.returns-clause-stopped
returns-clause-stopped g c = λ e.
    inl (stops_read (g.F.Files.files c.args.files.now) c.deref-2.result.now (g.S.Source.left c.args.input.now)
    (g.S.Source.left c.read_up_to.new.source) (g.F.Files.asked c.args.files.now) (g.F.Files.asked c.outcome_under.new.files)
    (rw c.deref-2.ensures.value c.in_ok-bytes.ensures.taken)
    (λ short. (c.in_ok-bytes.ensures.over (rw (← c.deref-2.ensures.value) short)).1)
    (rw c.deref-2.ensures.value (rw (← c.deref.ensures.value) (sym c.is_long_input.ensures ∙ c.if-is_long_input.false)))
    (c.outcome_under.ensures.stopped e))
