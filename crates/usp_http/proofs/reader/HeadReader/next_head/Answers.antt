use Rattle.std.proofs.Common.{◌≤◌, ◌<◌, length, subst, ◌∙◌, arith}
use Rattle.usp_http.specs.Finding.{Held, Stops}
use Rattle.usp_http.specs.Pauses.{stop_of}
use Rattle.usp_http.proofs.Reading.{answered_cut, answered_fault, answered_long, held_both, none_held, not_empty, runs_both, stops_all}
use Rattle.usp_http.proofs.reader.HeadReader.next_head.Goals as goal

pub returns-then-held-ge-MAX_HEAD-clause-answers :
    goal.returns-then-held-ge-MAX_HEAD-clause-answers
returns-then-held-ge-MAX_HEAD-clause-answers g c = λ _.
    answered_long _ c.looking.self.held _ _ _ c.looking.invariant.read c.in-Unfinished.ensures.short c.in-Unfinished.ensures.front
    (subst (λ b. 16384 ≤ length b) (c.held.ensures.value ∙ c.look.ensures.held) c.if-held-ge-MAX_HEAD.true)
    c.halt-then-held-ge-MAX_HEAD.ensures.result (c.halt-then-held-ge-MAX_HEAD.ensures.held ∙ c.look.ensures.held)

pub returns-in-Over-clause-answers : goal.returns-in-Over-clause-answers
returns-in-Over-clause-answers g c = λ _.
    answered_cut _ c.looking.self.held _ _ _ c.looking.invariant.read c.in-Unfinished.ensures.front
    (subst (λ b. length b < 16384) (c.held.ensures.value ∙ c.look.ensures.held) c.if-held-ge-MAX_HEAD.false)
    (subst (λ b. 0 < length b) (c.held-in-Over.ensures.value ∙ c.look.ensures.held) (not_empty c.held-in-Over.result.now c.if-is_empty.ensures))
    (subst (λ p. Stops (stop_of p) (g.S.Source.ended c.looking.source) (g.S.Source.left c.looking.source) (g.S.Source.read_count c.args.source.now) (g.S.Source.read_count c.looking.source)) c.in-Over.is c.looking.invariant.stops)
    c.halt-in-Over.ensures.result (c.halt-in-Over.ensures.held ∙ c.look.ensures.held)

pub returns-in-Broken-clause-answers : goal.returns-in-Broken-clause-answers
returns-in-Broken-clause-answers g c = λ _.
    answered_fault _ c.looking.self.held _ _ c.looking.invariant.read c.in-Unfinished.ensures.front
    (subst (λ b. length b < 16384) (c.held.ensures.value ∙ c.look.ensures.held) c.if-held-ge-MAX_HEAD.false)
    (subst (λ p. Stops (stop_of p) (g.S.Source.ended c.looking.source) (g.S.Source.left c.looking.source) (g.S.Source.read_count c.args.source.now) (g.S.Source.read_count c.looking.source)) c.in-Broken.is c.looking.invariant.stops)
    c.look.ensures.held

pub looking-preserved : goal.looking-preserved
looking-preserved g c = record {
  fault = c.read_on-pause.ensures.fault ∙ (c.look.ensures.fault ∙ c.looking.invariant.fault);
  read = held_both _ c.looking.self.held _ _ (g.S.Source.left c.looking.source) _ c.looking.invariant.read
      (subst (λ h. Held h c.read_on-pause.new.self.held (g.S.Source.left c.looking.source) (g.S.Source.left c.read_on-pause.new.source)) c.look.ensures.held c.read_on-pause.ensures.read);
  stops = stops_all c.read_on-pause.result _ _ _ (g.S.Source.read_count c.looking.source) _ c.looking.invariant.later c.read_on-pause.ensures.stops;
  unread = λ holds. absurd (none_held _ _ _ _ c.looking.invariant.read c.in-Unfinished.ensures.front holds);
  later = omega (arith, c.looking.invariant.later, c.read_on-pause.ensures.later);
  steps = runs_both _ _ c.looking.source _ c.looking.invariant.steps c.read_on-pause.ensures.steps;
}
