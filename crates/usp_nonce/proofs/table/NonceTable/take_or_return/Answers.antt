-- The steps of one call, joined.
use Rattle.std.proofs.Common.{◌≡◌, ℕ, ◌∙◌, ◌+◌, List, ap}
use Rattle.usp_nonce.proofs.Kept.{after_calls, after_room, turned_next, turned_stands}
use Rattle.usp_nonce.proofs.Legal.{legal_more}
use Rattle.usp_nonce.specs.History.{Call, IsNext}
use Rattle.usp_nonce.specs.Stands.{StandsFor, call_of}
use Rattle.usp_nonce.specs.Table.{Table}
use Rattle.usp_nonce.specs.declared.answer.Turned.{Turned}
use Rattle.usp_nonce.proofs.table.NonceTable.take_or_return.Goals as goal

pub returns-clause-answered : goal.returns-clause-answered
returns-clause-answered c =
    let turned : Turned = record { place = c.calls-place.result; moment = c.moment-moment.result; answer = c.admit-answer.result.0 } in
    let next : (history : List Call) → StandsFor c.args.self.now history
    → IsNext c.args.self.now.room history (call_of c.args.key c.args.now c.args.until turned) =
    λ history before. turned_next _ _ history _ _ _ _ _
    c.advance.ensures c.moment-moment.ensures c.admit-answer.ensures.answer before in
    record {
      next = next;
      legal = λ history before legal. legal_more _ history _ legal (next history before);
      stands = λ history before. turned_stands _ _ _ history _ _ _ _ _
          c.advance.ensures c.moment-moment.ensures c.admit-answer.ensures.answer c.admit-answer.ensures.held before;
      place = c.calls-place.ensures;
      calls = ap (λ (t : Table). t.calls) c.admit-answer.ensures.held ∙ after_calls _ _ _ _ ∙ ap (λ (t : Table). t.calls) c.advance.ensures;
      room = ap (λ (t : Table). t.room) c.admit-answer.ensures.held ∙ after_room _ _ _ _ ∙ ap (λ (t : Table). t.room) c.advance.ensures;
    }
