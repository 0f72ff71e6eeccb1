-- What is written at the end of a loop.
use Rattle.std.proofs.Common.{◌≡◌, ℕ, ◌≤◌, List, [], ◌++◌, length, drop, map, append-nil, sym, ◌∙◌}
use Rattle.std.specs.List.{zip}
use Rattle.std.proofs.lemmas.List.{drop_all}
use Rattle.usp_json.specs.declared.value.Json.{Json}
use Rattle.usp_json.specs.Canon.{canon, behind, member_of}
use Rattle.usp_json.proofs.Pairs.{zip_nil}

-- no values are left
pub pairs_end : (out all : List ℕ) (ns : List (List ℕ)) (vs : List Json) (i : ℕ) → length vs ≤ i
    → out ++ behind (map member_of (zip ns (map canon (drop i vs)))) ≡ all → out ≡ all
pairs_end out all ns vs i h e =
    let none : zip ns (map canon (drop i vs)) ≡ [] = rw (drop_all i vs h) (zip_nil ns) in
    let r = rw none at e in
    sym (append-nil out) ∙ r
