use Rattle.std.proofs.Common.{[], ◌∙◌, subst, sym}
use Rattle.usp_edge.proofs.Answering.{answers_denied, answers_served, answers_uncalled}
use Rattle.usp_edge.proofs.Doing.{reads_none}
use Rattle.usp_edge.proofs.answer.answer_passed.Goals as goal

pub returns-in-Err : goal.returns-in-Err
returns-in-Err g c = λ ask is.
    let r = c.args.request.now in
    answers_uncalled g.N.Nonces.gains r.conf.now r.head.now r.last ask _ _ _ c.give_up.ensures.reply.0
    (record { gained = g.met.N.Nonces.gains_none c.args.nonces.now; reads = reads_none _ _ }) c.give_up.ensures.call c.give_up.ensures.reply.1

pub returns-in-Err-take_nonce : goal.returns-in-Err-take_nonce
returns-in-Err-take_nonce g c = λ ask is.
    let r = c.args.request.now in
    let give_up = c.give_up-in-Err-take_nonce.ensures in
    answers_uncalled g.N.Nonces.gains r.conf.now r.head.now r.last ask _ _ _ give_up.reply.0
    (record {
      gained = subst (λ n. g.N.Nonces.gains c.args.nonces.now n []) (sym c.in-Err-take_nonce.ensures.not) (g.met.N.Nonces.gains_none c.args.nonces.now);
      reads = reads_none _ _;
    }) give_up.call give_up.reply.1

pub returns-in-Denied : goal.returns-in-Denied
returns-in-Denied g c = λ ask is.
    let r = c.args.request.now in
    let taken = c.in-Ok-take_nonce.ensures.taken in
    answers_denied g.N.Nonces.gains r.conf.now r.head.now r.last ask _ _ _ _ c.args.passed.now taken.0 c.in-Ok-take_nonce.call c.in-Denied.rule _ is
    taken.1 taken.2 taken.3 (sym c.verdict_by.ensures ∙ c.in-Denied.is) c.denial.ensures

pub returns-in-Admitted : goal.returns-in-Admitted
returns-in-Admitted g c = λ ask is.
    let r = c.args.request.now in
    let taken = c.in-Ok-take_nonce.ensures.taken in
    answers_served g.N.Nonces.gains r.conf.now r.head.now r.last ask _ _ _ _ _ _ c.args.passed.now taken.0 c.in-Ok-take_nonce.call c.in-Ok.prepared _ is
    taken.1 taken.2 taken.3 (sym c.verdict_by.ensures ∙ c.in-Admitted.is) c.in-Ok.ensures c.serve.ensures
