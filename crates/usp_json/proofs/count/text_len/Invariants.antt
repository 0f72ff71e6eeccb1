use Rattle.std.proofs.Common.{◌≡◌, ◌+◌, length, drop}
use Rattle.usp_json.specs.Canon.{escaped_text}
use Rattle.usp_json.proofs.count.text_len.Given as goal

-- what is counted and what is left are the whole
abbrev pub invariant-bytes : goal.invariant-bytes
invariant-bytes l = l.len + length (escaped_text (drop l.b-index l.bytes)) ≡ length (escaped_text l.bytes) + 2
