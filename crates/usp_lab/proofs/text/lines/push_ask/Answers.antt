use Rattle.std.proofs.Common.{◌≡◌, get_or}
use Rattle.std.proofs.lemmas.Option.{slice_get-get_or}
use Rattle.usp_conf.specs.Values.{ConfValue}
use Rattle.usp_lab.proofs.AskLines.{ask_told}
use Rattle.usp_lab.proofs.text.lines.push_ask.Goals as goal

pub returns : goal.returns
returns c =
    let page = c.args.page.now in
    let edge : ConfValue = get_or page.edges.now c.args.ask.now.edge c.index-page-ask.result in
    let named : c.as_bytes.result.now ≡ edge.edge = cc in
    ask_told page.edges.now page.trail.ledger.now page.trail.links.now c.args.number c.args.ask.now edge c.as_bytes.result.now c.args.text.now.items c.push_front.new.text.items
    c.push_chain_of.new.text.items c.push.new.self.items (slice_get-get_or page.edges.now c.args.ask.now.edge c.index-page-ask.result c.requires.among.edge) named c.in_ok-push_front.ensures
    c.in_ok-push_chain_of.ensures c.in_ok-push.ensures.items
