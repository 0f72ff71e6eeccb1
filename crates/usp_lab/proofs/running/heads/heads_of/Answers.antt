use Rattle.std.proofs.Common.{◌≡◌, sym, ap, ◌∙◌, subst, ℕ, List, [], ◌∷◌, map, take}
use Rattle.std.proofs.lemmas.List.{map-append}
use Rattle.usp_lab.specs.Asked.{AreHeads, nothing}
use Rattle.usp_lab.proofs.Heading.{heads_next}
use Rattle.usp_lab.proofs.running.heads.heads_of.Goals as goal

pub asks-init : goal.asks-init
asks-init c =
    subst (λ (heads : List _). AreHeads c.args.named.now.script.now c.args.named.now.issued.now [] (map (λ head. head.items) heads))
    (sym c.new-heads.ensures.items) nothing

pub asks-preserved : goal.asks-preserved
asks-preserved c =
    heads_next c.args.named.now.script.now c.args.named.now.issued.now c.args.asks.now c.asks.ask-index c.ask-item.result
    (map (λ head. head.items) c.asks.heads.items) (map (λ head. head.items) c.push.new.self.items)
    c.in_ok-head_at.field-0.items c.asks-test.true c.ask-item.is c.asks.invariant c.in_ok-head_at.ensures
    (ap (map (λ head. head.items)) c.in_ok-push.ensures.items
    ∙ map-append (λ head. head.items) c.asks.heads.items (c.in_ok-head_at.field-0 ∷ []))
