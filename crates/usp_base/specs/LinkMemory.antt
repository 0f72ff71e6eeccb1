-- What the links in memory tell.
use Rattle.std.specs.Prelude.{ℕ, List, drop}
use Rattle.usp_base.specs.Failing.{FailingCalls}
use Rattle.usp_base.specs.declared.link.Asked.{Asked}
use Rattle.usp_base.specs.declared.link.ListedLink.{ListedLink}
use Rattle.usp_base.specs.declared.link.SteadyLink.{SteadyLink}

-- the answers to come
abbrev pub listed_answers : ListedLink → List (List ℕ)
listed_answers l = drop l.at l.answers.items

abbrev pub listed_asks : ListedLink → List Asked
listed_asks l = l.asks.items

-- which asks fail
abbrev pub listed_ask_failures : ListedLink → FailingCalls
listed_ask_failures l = l.failures

abbrev pub listed_ask_faults : ListedLink → ℕ
listed_ask_faults l = l.failures.faults

-- the answers to come
abbrev pub steady_answers : SteadyLink → List (List ℕ)
steady_answers l = drop l.at l.answers.items

abbrev pub steady_asks : SteadyLink → List Asked
steady_asks l = l.asks.items
