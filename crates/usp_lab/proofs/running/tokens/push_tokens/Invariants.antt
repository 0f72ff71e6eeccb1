use Rattle.std.proofs.Common.{◌≡◌, ◌++◌, map, take}
use Rattle.usp_lab.proofs.running.tokens.push_tokens.Given as goal

abbrev pub invariant-tokens : goal.invariant-tokens
invariant-tokens l =
    map (λ token. token.now) l.all.items ≡ map (λ token. token.now) l.fn.all.items ++ take l.token-index l.tokens
