use Rattle.std.proofs.Common.{subst}
use Rattle.usp_edge.specs.Asks.{ask_of}
use Rattle.usp_edge.specs.Requests.{ComesOfRequest, IsPassedOrDenied}
use Rattle.usp_edge.specs.Serving.{StarvesAt}
use Rattle.usp_edge.proofs.Answering.{answers_judged, out}
use Rattle.usp_edge.proofs.Requested.{gives_answer, met, short_passed, starves_first, starves_timed}
use Rattle.usp_edge.proofs.work.work_request.Goals as goal

pub returns-in-Err : goal.returns-in-Err
returns-in-Err g c =
    let r = c.args.request.now in
    starves_first g.N.Nonces.gains r.conf.now r.last r.head.now _ (g.met.N.Nonces.gains_none c.args.nonces.now)

pub returns-in-Err-make_room : goal.returns-in-Err-make_room
returns-in-Err-make_room g c =
    let r = c.args.request.now in
    let supplies = out c.args.nonces.now (g.O.Objects.objects c.args.objects.now) (g.O.Objects.object_count c.args.objects.now) in
    subst (λ j. StarvesAt g.N.Nonces.gains r.conf.now r.head.now (met (g.C.Clock.given c.args.clock.now) supplies j)
    (met (g.C.Clock.given c.args.clock.now) supplies c.make_room.new.journal.items))
    c.make_room.ensures.same (starves_first g.N.Nonces.gains r.conf.now r.last r.head.now _ (g.met.N.Nonces.gains_none c.args.nonces.now))

pub returns-in-Err-judge_request : goal.returns-in-Err-judge_request
returns-in-Err-judge_request g c =
    let r = c.args.request.now in
    let supplies = out c.args.nonces.now (g.O.Objects.objects c.args.objects.now) (g.O.Objects.object_count c.args.objects.now) in
    subst (λ j. StarvesAt g.N.Nonces.gains r.conf.now r.head.now (met (g.C.Clock.given c.args.clock.now) supplies j)
    (met (g.C.Clock.given c.now-moment.new.self) supplies c.make_room.new.journal.items))
    c.make_room.ensures.same
    (starves_timed g.N.Nonces.gains r.conf.now r.last r.head.now _ _ _ _ c.now-moment.result (g.met.N.Nonces.gains_none c.args.nonces.now) c.now-moment.ensures.given)

pub answer_passed-answer-requires-clause-short : goal.answer_passed-answer-requires-clause-short
answer_passed-answer-requires-clause-short g c =
    let r = c.args.request.now in
    let judged = subst (IsPassedOrDenied r.conf.now (ask_of r.conf.now r.head.now c.now-moment.result)) c.in-Ok-passed.is c.in-Ok-judge_request.ensures.passed in
    short_passed r.conf.now _ c.in-Ok-passed.passed judged

pub returns-in-Ok-passed : goal.returns-in-Ok-passed
returns-in-Ok-passed g c =
    let r = c.args.request.now in
    let supplies = out c.args.nonces.now (g.O.Objects.objects c.args.objects.now) (g.O.Objects.object_count c.args.objects.now) in
    let after = out c.answer_passed-answer.new.nonces (g.O.Objects.objects c.answer_passed-answer.new.objects) (g.O.Objects.object_count c.answer_passed-answer.new.objects) in
    let ask = ask_of r.conf.now r.head.now c.now-moment.result in
    let judged = subst (IsPassedOrDenied r.conf.now ask) c.in-Ok-passed.is c.in-Ok-judge_request.ensures.passed in
    subst (λ j. ComesOfRequest g.N.Nonces.gains r.conf.now r.last r.head.now (met (g.C.Clock.given c.args.clock.now) supplies j)
    (met (g.C.Clock.given c.now-moment.new.self) after c.note_answer.new.journal.items) c.note_answer.result)
    c.make_room.ensures.same
    (gives_answer g.N.Nonces.gains r.conf.now r.last r.head.now _ _ supplies after _ _ c.now-moment.result _ c.answer_passed-answer.result _ c.now-moment.ensures.given
    (λ i. record { uri = c.in-Ok.ensures i; token = c.in-Ok-judge_request.ensures.token i; moment = c.now-moment.result })
    (c.answer_passed-answer.ensures ask judged) c.note_answer.ensures.text c.note_answer.ensures.noted)

pub returns-in-Err-passed : goal.returns-in-Err-passed
returns-in-Err-passed g c =
    let r = c.args.request.now in
    let supplies = out c.args.nonces.now (g.O.Objects.objects c.args.objects.now) (g.O.Objects.object_count c.args.objects.now) in
    let ask = ask_of r.conf.now r.head.now c.now-moment.result in
    let judged = subst (IsPassedOrDenied r.conf.now ask) c.in-Err-passed.is c.in-Ok-judge_request.ensures.passed in
    subst (λ j. ComesOfRequest g.N.Nonces.gains r.conf.now r.last r.head.now (met (g.C.Clock.given c.args.clock.now) supplies j)
    (met (g.C.Clock.given c.now-moment.new.self) supplies c.note_answer-in-Err-passed.new.journal.items) c.note_answer-in-Err-passed.result)
    c.make_room.ensures.same
    (gives_answer g.N.Nonces.gains r.conf.now r.last r.head.now _ _ supplies supplies _ _ c.now-moment.result _ c.deny.result _ c.now-moment.ensures.given
    (λ i. record { uri = c.in-Ok.ensures i; token = c.in-Ok-judge_request.ensures.token i; moment = c.now-moment.result })
    (answers_judged g.N.Nonces.gains r.conf.now r.head.now r.last ask supplies c.in-Err-passed.rule _ _ _ (g.met.N.Nonces.gains_none c.args.nonces.now) judged
    c.deny.ensures.verdict c.deny.ensures.call c.deny.ensures.reply)
    c.note_answer-in-Err-passed.ensures.text c.note_answer-in-Err-passed.ensures.noted)
