use Rattle.usp_lab.proofs.Linking.{chain_within}
use Rattle.usp_lab.proofs.text.chains.push_chain.Goals as goal

pub push_links-requires : goal.push_links-requires
push_links-requires c =
    chain_within c.args.trail.now.ledger.now c.args.trail.now.links.now c.args.place c.in_ok-places.places.items c.deref.result.now c.in_ok-places.ensures c.requires.links c.deref.ensures.value
