use Rattle.std.proofs.Common.{◌≡◌, ◌++◌, map, drop}
use Rattle.usp_script.specs.Script.{grants_in}
use Rattle.usp_lab.proofs.running.tokens.grants_in.Given as goal

abbrev pub invariant-rounds : goal.invariant-rounds
invariant-rounds l = map (λ token. token.now) l.grants.items ++ grants_in (drop l.round-index l.rounds) ≡ grants_in l.rounds
