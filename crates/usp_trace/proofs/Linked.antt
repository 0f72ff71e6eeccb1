-- The places of a chain, and its links.
use Rattle.std.proofs.Common.{◌≡◌, ℕ, ◌+◌, List, [], ◌∷◌, ◌++◌, length, Some, None, inl, inr, sym, ap, ◌∙◌, subst, arith}
use Rattle.std.specs.List.{slice_get}
use Rattle.std.proofs.lemmas.List.{length-append}
use Rattle.usp_trace.specs.declared.issue.Issue.{Issue}
use Rattle.usp_trace.specs.Chains.{Chain, granted, linked}
use Rattle.usp_trace.specs.Issues.{parent_of}
use Rattle.usp_trace.proofs.Ordered.{get_cases, get_front, get_last}

pub chain_long : (ledger : List Issue) (place : ℕ) (places token : List ℕ) (links : List Issue) → Chain ledger place places token links → length places ≡ length links + 1
chain_long ledger _ _ _ _ (granted place places token links at p l) =
    let long = ap (λ (ps : List ℕ). length ps) p in
    let none = ap (λ (ls : List Issue). length ls) l in
    omega (arith, long, none)
chain_long ledger _ _ _ _ (linked place parent places front token links before link at is chain p l) =
    let long = ap (λ (ps : List ℕ). length ps) p in
    let many = ap (λ (ls : List Issue). length ls) l in
    let rest = chain_long ledger parent front token before chain in
    omega (arith, long, many, rest, length-append front (place ∷ []), length-append before (link ∷ []))

-- what stands last in a list, by its length
at_last : (front : List ℕ) (place n : ℕ) → length front ≡ n → slice_get (front ++ place ∷ []) n ≡ Some place
at_last front place n e = subst (λ (k : ℕ). slice_get (front ++ place ∷ []) k ≡ Some place) e (get_last front place)

pub chain_last : (ledger : List Issue) (place : ℕ) (places token : List ℕ) (links : List Issue) → Chain ledger place places token links → slice_get places (length links) ≡ Some place
chain_last ledger _ _ _ _ (granted place places token links at p l) =
    ap (λ (ps : List ℕ). slice_get ps (length links)) p ∙ ap (λ (ls : List Issue). slice_get (place ∷ []) (length ls)) l
chain_last ledger _ _ _ _ (linked place parent places front token links before link at is chain p l) =
    let many = ap (λ (ls : List Issue). length ls) l in
    let rest = chain_long ledger parent front token before chain in
    let same : length front ≡ length links = omega (arith, many, rest, length-append before (link ∷ [])) in
    ap (λ (ps : List ℕ). slice_get ps (length links)) p ∙ at_last front place (length links) same

pub chain_link : (ledger : List Issue) (place : ℕ) (places token : List ℕ) (links : List Issue) (number : ℕ) (link : Issue) → Chain ledger place places token links → slice_get links number ≡ Some link
    → (at : ℕ) × (slice_get places (number + 1) ≡ Some at) × (slice_get ledger at ≡ Some link)
chain_link ledger _ _ _ _ number link (granted place places token links at p l) there =
    let none : None ≡ Some link = sym (ap (λ (ls : List Issue). slice_get ls number) l) ∙ there in cc none
chain_link ledger _ _ _ _ number link (linked place parent places front token links before own at is chain p l) there =
    let moved = ap (λ (ps : List ℕ). slice_get ps (number + 1)) p in
    elim (get_cases before own number link (sym (ap (λ (ls : List Issue). slice_get ls number) l) ∙ there)) [
      | inl earlier ↦
          let rest = chain_link ledger parent front token before number link chain earlier in
          (rest.0, moved ∙ get_front front (place ∷ []) (number + 1) rest.0 rest.1, rest.2)
      | inr last ↦
          let long = chain_long ledger parent front token before chain in
          let same : length front ≡ number + 1 = omega (arith, long, last.0) in
          (place, moved ∙ at_last front place (number + 1) same, at ∙ ap Some last.1)
    ]

pub chain_parent : (ledger : List Issue) (place : ℕ) (places token : List ℕ) (links : List Issue) (number : ℕ) (link : Issue) → Chain ledger place places token links → slice_get links number ≡ Some link
    → (parent : ℕ) × (slice_get places number ≡ Some parent) × (parent_of link ≡ Some parent)
chain_parent ledger _ _ _ _ number link (granted place places token links at p l) there =
    let none : None ≡ Some link = sym (ap (λ (ls : List Issue). slice_get ls number) l) ∙ there in cc none
chain_parent ledger _ _ _ _ number link (linked place parent places front token links before own at is chain p l) there =
    let moved = ap (λ (ps : List ℕ). slice_get ps number) p in
    elim (get_cases before own number link (sym (ap (λ (ls : List Issue). slice_get ls number) l) ∙ there)) [
      | inl earlier ↦
          let rest = chain_parent ledger parent front token before number link chain earlier in
          (rest.0, moved ∙ get_front front (place ∷ []) number rest.0 rest.1, rest.2)
      | inr last ↦
          let own_place : slice_get front number ≡ Some parent
          = subst (λ (k : ℕ). slice_get front k ≡ Some parent) (sym last.0) (chain_last ledger parent front token before chain) in
          (parent, moved ∙ get_front front (place ∷ []) number parent own_place, ap parent_of (sym last.1) ∙ is)
    ]
