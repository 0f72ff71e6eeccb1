use Rattle.std.proofs.Common.{◌≡◌, ◌++◌, map, drop}
use Rattle.std.specs.List.{zip}
use Rattle.usp_json.specs.Canon.{canon, commas, behind, member_of}
use Rattle.usp_json.proofs.write.+write.Given as goal

-- what is written and what is left are the whole
abbrev pub invariant-write_values-values : goal.invariant-write_values-values
invariant-write_values-values l = l.out.items ++ behind (map canon (drop l.value-index l.rest)) ≡ l.fn.out.items ++ commas (map canon l.values)

abbrev pub invariant-write_pairs-pairs : goal.invariant-write_pairs-pairs
invariant-write_pairs-pairs l =
    l.out.items ++ behind (map member_of (zip (drop l.i l.more_names) (map canon (drop l.i l.more_values)))) ≡ l.fn.out.items ++ commas (map member_of (zip l.names (map canon l.values)))
