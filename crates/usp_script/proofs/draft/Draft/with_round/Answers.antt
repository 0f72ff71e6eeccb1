use Rattle.std.proofs.Common.{◌≡◌, sym, subst}
use Rattle.usp_script.specs.Drafts.{Draft, rounds_of}
use Rattle.usp_script.specs.Script.{asks_in}
use Rattle.usp_script.proofs.Adding.{round_ended}
use Rattle.usp_script.proofs.draft.Draft.with_round.Goals as goal

pub invariant_of-result : goal.invariant_of-result
invariant_of-result c =
    let i = c.self.inside in
    let is = subst (λ (d : Draft). c.asked-issued.result ≡ asks_in (rounds_of d)) (sym c.self.view_is) c.asked-issued.ensures.asks in
    round_ended i.edges.items i.objects.items i.keys.items i.outsides.items i.rounds.items (record { grants = i.grants.items; asks = i.asks.items }) i.has_begun i.granted i.issued c.self.invariant
    c.asked-issued.result c.push.new.self.items c.new.result.items c.of.result c.new-2.result.items c.of-2.result is c.in_ok-push.ensures.items c.of.ensures c.of-2.ensures c.new.ensures.items c.new-2.ensures.items
