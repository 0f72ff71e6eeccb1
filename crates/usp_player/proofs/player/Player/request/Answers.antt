use Rattle.std.proofs.Common.{◌∙◌, sym, refl}
use Rattle.usp_player.proofs.Following.{requests_halts}
use Rattle.usp_player.proofs.Going.{heard_kept, heard_lost, lacks_none, unheard}
use Rattle.usp_player.specs.declared.fault.PlayFault.TheVariants as fault
use Rattle.usp_player.proofs.player.Player.request.Goals as goal

pub returns-in_err-authority-clause-way : goal.returns-in_err-authority-clause-way
returns-in_err-authority-clause-way g c = λ start told n aim way.
    requests_halts _ _ _ _ _ _ _ _ _ c.from_residual.result fault.NoMemory c.from_residual.ensures.1
    (lacks_none _ _ _ _ _ _ way)

pub returns-in_err-head-clause-way : goal.returns-in_err-head-clause-way
returns-in_err-head-clause-way g c = λ start told n aim way.
    requests_halts _ _ _ _ _ _ _ _ _ c.from_residual-in_err-head.result fault.NoMemory
    c.from_residual-in_err-head.ensures.1 (lacks_none _ _ _ _ _ _ way)

pub returns-in_err-reply-clause-way : goal.returns-in_err-reply-clause-way
returns-in_err-reply-clause-way g c = λ start told n aim way.
    requests_halts _ _ _ _ _ _ _ _ _ c.from_residual-in_err-reply.result c.in_err-reply.field-0.0
    c.from_residual-in_err-reply.ensures.1
    (unheard _ _ _ _ _ _ _ n _ aim c.in-Some.address.now c.deref-3.result.now c.in_err-reply.field-0.0 way
    (record {
      web = sym c.if-not-is_web.ensures;
      at = sym c.in-Some.ensures;
      sends = c.deref-3.ensures.value ∙ c.in_ok-head.ensures;
    })
    c.in_err-reply.ensures.told)

pub returns-in_err-note_reply-clause-way : goal.returns-in_err-note_reply-clause-way
returns-in_err-note_reply-clause-way g c = λ start told n aim way.
    requests_halts _ _ _ _ _ _ _ _ _ c.from_residual-in_err-note_reply.result fault.NoMemory
    c.from_residual-in_err-note_reply.ensures.1
    (heard_lost _ _ _ _ _ _ _ _ n _ aim c.in-Some.address.now c.deref-3.result.now c.in_ok-reply.reply
    fault.NoMemory way
    (record {
      web = sym c.if-not-is_web.ensures;
      at = sym c.in-Some.ensures;
      sends = c.deref-3.ensures.value ∙ c.in_ok-head.ensures;
    })
    c.in_ok-reply.ensures.told c.in_err-note_reply.ensures.same refl)

pub returns-clause-way : goal.returns-clause-way
returns-clause-way g c = λ start told n aim way.
    heard_kept _ _ _ _ _ _ _ _ n _ _ aim c.in-Some.address.now c.deref-3.result.now c.in_ok-reply.reply way
    (record {
      web = sym c.if-not-is_web.ensures;
      at = sym c.in-Some.ensures;
      sends = c.deref-3.ensures.value ∙ c.in_ok-head.ensures;
    })
    c.in_ok-reply.ensures.told c.in_ok-note_reply.ensures.jar c.in_ok-note_reply.ensures.step
