-- Cutting a text behind its first ':'.
use Rattle.std.proofs.Common.{◌≡◌, ℕ, ◌+◌, ◌≤◌, List, length, drop, min, ap, ◌∙◌, arith}
use Rattle.std.proofs.lemmas.List.{drop_min}
use Rattle.usp_uri.proofs.CutLemmas.{take-until, drop-from_first, within}

pub ruleset cut_rules = (take-until, drop-from_first, within)

-- three more bytes, or what there is
pub drop_within : (n : ℕ) (text : List ℕ) → length text ≤ 18446744073709551615
    → drop (min (min (n + 3) 18446744073709551615) (length text)) text ≡ drop (n + 3) text
drop_within n text small =
    let same : min (min (n + 3) 18446744073709551615) (length text) ≡ min (n + 3) (length text) = omega arith in
    ap (λ (m : ℕ). drop m text) same ∙ drop_min (n + 3) text

pub ruleset after_rules = (drop_within)
