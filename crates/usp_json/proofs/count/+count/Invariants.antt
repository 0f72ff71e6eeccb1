use Rattle.std.proofs.Common.{◌≡◌, ◌+◌, length, map, drop}
use Rattle.std.specs.List.{zip}
use Rattle.usp_json.specs.Canon.{behind, canon, commas, member_of}
use Rattle.usp_json.proofs.Sizes.{pairs_size}
use Rattle.usp_json.proofs.count.+count.Given as goal

-- what is counted and what is left are the whole
abbrev pub invariant-values_len-values : goal.invariant-values_len-values
invariant-values_len-values l = l.len + length (behind (map canon (drop l.value-index l.rest))) ≡ length (commas (map canon l.values))

abbrev pub invariant-pairs_len-pairs : goal.invariant-pairs_len-pairs
invariant-pairs_len-pairs l = l.len + pairs_size (drop l.i l.more_names) (drop l.i l.more_values) ≡ length (commas (map member_of (zip l.names (map canon l.values))))
