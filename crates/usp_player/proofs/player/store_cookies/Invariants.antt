use Rattle.std.proofs.Common.{◌≡◌, drop}
use Rattle.usp_player.specs.Playing.{jar_with}
use Rattle.usp_player.proofs.player.store_cookies.Given as goal

-- the jar so far, and the cookies behind
abbrev pub invariant-loop-value : goal.invariant-loop-value
invariant-loop-value l =
    jar_with l.authority l.path (drop l.value-index l.values) l.jar ≡ jar_with l.authority l.path l.values l.fn.jar
