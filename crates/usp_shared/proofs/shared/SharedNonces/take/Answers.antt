use Rattle.std.proofs.Common.{◌≡◌, ℕ, List, [], ◌∷◌, ◌∙◌, ◌+◌, length, subst, sym, arith, ap, length-append}
use Rattle.usp_nonce.specs.Stands.{call_of}
use Rattle.usp_shared.specs.Places.{AreDistinctBelow}
use Rattle.usp_shared.proofs.Entered.{entered_apart}
use Rattle.usp_shared.proofs.shared.SharedNonces.take.Goals as goal

pub returns-clause-apart : goal.returns-clause-apart
returns-clause-apart g c =
    let me = c.seat.inside.token.me.0 in
    let me' = c.take-turned.new.token.me.0 in
    let turned = c.take-turned.result in
    let called = c.take-turned.ensures.call in
    subst (λ (ps : List ℕ). AreDistinctBelow (length me'.seen) ps) (sym called.mine)
    (entered_apart me.seen me'.seen (call_of c.args.ask.key c.args.ask.now c.args.ask.until turned) turned.place me.places called.entered c.seat.invariant.apart)

pub invariant_of-seat : goal.invariant_of-seat
invariant_of-seat g c =
    let me = c.seat.inside.token.me.0 in
    let me' = c.take-turned.new.token.me.0 in
    let turned = c.take-turned.result in
    let called = c.take-turned.ensures.call in
    let was = c.seat.invariant in
    let more : length me'.places ≡ length me.places + 1 = ap length called.mine ∙ length-append me.places (turned.place ∷ []) in
    record {
      idle = called.idle;
      left = omega (arith, called.left, was.left);
      used = omega (arith, more, was.used);
      small = omega (arith, was.small, called.left, was.left);
      apart = subst (λ (ps : List ℕ). AreDistinctBelow (length me'.seen) ps) (sym called.mine)
          (entered_apart me.seen me'.seen (call_of c.args.ask.key c.args.ask.now c.args.ask.until turned) turned.place me.places called.entered was.apart);
    }
