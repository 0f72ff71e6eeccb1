-- What the clock and the objects of an ask tell.
use Rattle.std.specs.Prelude.{ℕ, List, map, Option}
use Rattle.usp_script.specs.Script.{object_at}
use Rattle.usp_lab.specs.declared.clock.AskClock.{AskClock}
use Rattle.usp_lab.specs.declared.objects.ScriptObjects.{ScriptObjects}

-- the moments that the clock tells
abbrev pub clock_given : AskClock → List ℕ
clock_given clock = map (λ pair. pair.0) clock.log.items

-- the object of each content URI at the edge
abbrev pub objects_of : ScriptObjects → List ℕ → Option (List ℕ)
objects_of objects uri = object_at objects.objects.now objects.edge uri
