use Rattle.usp_lab.proofs.AskLines.{next_told, none_told}
use Rattle.usp_lab.proofs.text.lines.push_asks.Goals as goal

pub asks-init : goal.asks-init
asks-init c = none_told c.args.page.now.edges.now c.args.page.now.trail.ledger.now c.args.page.now.trail.links.now c.args.text.now.items

pub asks-preserved : goal.asks-preserved
asks-preserved c =
    let page = c.args.page.now in
    next_told page.edges.now page.trail.ledger.now page.trail.links.now c.args.asks.now c.asks.i _ c.args.text.now.items c.asks.text.items c.push_ask.new.text.items c.asks-test.true
    c.asks.invariant c.in_ok-push_ask.ensures
