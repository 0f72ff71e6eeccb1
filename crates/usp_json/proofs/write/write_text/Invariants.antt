use Rattle.std.proofs.Common.{◌≡◌, ◌++◌, ◌∷◌, drop}
use Rattle.usp_json.specs.Canon.{escaped_text}
use Rattle.usp_json.proofs.write.write_text.Given as goal

-- what is written and what is left are the whole
abbrev pub invariant-bytes : goal.invariant-bytes
invariant-bytes l = l.out.items ++ escaped_text (drop l.b-index l.bytes) ≡ l.fn.out.items ++ 34 ∷ escaped_text l.bytes
