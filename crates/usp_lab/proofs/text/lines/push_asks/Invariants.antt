use Rattle.std.proofs.Common.{take}
use Rattle.usp_lab.specs.Telling.{Grows, TellsAsks}
use Rattle.usp_lab.proofs.text.lines.push_asks.Given as goal

-- the text grew by the lines of the asks so far
abbrev pub invariant-asks : goal.invariant-asks
invariant-asks l =
    Grows l.fn.text.items l.text.items (TellsAsks l.page.edges.now l.page.trail.ledger.now l.page.trail.links.now 1 (take l.i l.asks))
