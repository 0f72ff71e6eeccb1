use Rattle.std.proofs.Common.{◌≡◌, ◌++◌, drop}
use Rattle.usp_lab.specs.Links.{further_links, links_text}
use Rattle.usp_lab.proofs.text.chains.push_links.Given as goal

-- the text so far, and the links that are left, are the whole
abbrev pub invariant-places : goal.invariant-places
invariant-places l = l.text.items ++ further_links l.links (drop l.place-index l.rest) ≡ l.fn.text.items ++ links_text l.links l.places
