-- Lines that were given back.
use Rattle.std.proofs.Common.{◌≡◌, ℕ, List, [], ◌∷◌, ◌++◌, map, Some, ap, ◌∙◌}
use Rattle.std.proofs.lemmas.List.{map-append}
use Rattle.usp_base.specs.Memory.{steady_left, steady_told}
use Rattle.usp_base.specs.declared.wire.SteadyWire.{SteadyWire}
use Rattle.usp_lab.specs.BenchMemory.{used_of}
use Rattle.usp_lab.specs.Benches.{IsUsed, Used, append_used}

some_one : (a b : List ℕ) → Some a ≡ Some b → a ≡ b
some_one a b e = cc

same_used : (a b : List ℕ) (used : Used) → IsUsed (Some a) (Some b) used → record { left = a; put = b } ≡ used
same_used a b used is = λ i. record { left = some_one a used.left is.left i; put = some_one b used.put is.put i }

-- a line more is told as it was used
pub one_back : (old new : List SteadyWire) (line : SteadyWire) (used : Used) → new ≡ old ++ line ∷ []
    → IsUsed (Some (steady_left line.source)) (Some (steady_told line.sink)) used
    → Some (map used_of new) ≡ append_used (Some (map used_of old)) (used ∷ [])
one_back old new line used more is =
    ap Some
    (ap (map used_of) more ∙ map-append used_of old (line ∷ [])
    ∙ ap (λ u. map used_of old ++ u ∷ []) (same_used (steady_left line.source) (steady_told line.sink) used is))
