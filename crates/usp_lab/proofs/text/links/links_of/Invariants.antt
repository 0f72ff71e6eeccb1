use Rattle.std.proofs.Common.{◌≡◌, length}
use Rattle.usp_lab.specs.Links.{AreLinksOf}
use Rattle.usp_lab.proofs.text.links.links_of.Given as goal

-- the links so far are those of the places so far
abbrev pub invariant-places : goal.invariant-places
invariant-places l = (length l.links.items ≡ l.place) × AreLinksOf l.report.labels l.report.ledger l.links.items
