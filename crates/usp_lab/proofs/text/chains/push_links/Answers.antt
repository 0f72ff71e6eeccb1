use Rattle.usp_lab.proofs.Linking.{links_from, rest_within}
use Rattle.usp_lab.proofs.text.chains.push_links.Goals as goal

pub places-init : goal.places-init
places-init c =
    links_from c.args.links.now c.args.places.now c.in-Some.rest.now c.in-Some.first.now c.args.text.now.items c.push_link.new.text.items c.in-Some.ensures.cases.0 c.in_ok-push_link.ensures

pub push_link-requires-in-places : goal.push_link-requires-in-places
push_link-requires-in-places c = rest_within _ c.args.places.now c.in-Some.rest.now c.in-Some.first.now c.places.place-index c.requires c.in-Some.ensures.cases.0 c.places-test.true
