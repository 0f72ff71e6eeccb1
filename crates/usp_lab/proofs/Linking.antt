-- The links of a ledger, one after the other.
use Rattle.std.proofs.Common.{◌≡◌, ℕ, ◌+◌, ◌<◌, List, [], ◌∷◌, ◌++◌, length, get_or, Option, Some, inl, inr, sym, ap, ◌∙◌, subst, append_assoc, length-append}
use Rattle.std.specs.List.{All, slice_get}
use Rattle.std.proofs.lemmas.List.Elements.{All-append, All-cons, All-nil, All-tail}
use Rattle.std.proofs.lemmas.Option.{slice_get-get_or, slice_get_within}
use Rattle.std.specs.Option.{option_map_or}
use Rattle.usp_script.specs.Reading.{label_text}
use Rattle.usp_script.specs.declared.ask.Label.{Label}
use Rattle.usp_trace.proofs.Ordered.{get_cases}
use Rattle.usp_trace.specs.Chains.{Chain, IsChain, granted, linked}
use Rattle.usp_trace.specs.Issues.{token_of}
use Rattle.usp_trace.specs.declared.issue.Issue.{Issue}
use Rattle.usp_trace.specs.declared.issue.Issue.TheVariants.{Grant}
use Rattle.usp_lab.specs.Links.{AreLinksOf, IsWindow, further_links, link_at, link_text, links_text, span_text}
use Rattle.usp_lab.specs.declared.text.links.Link.{Link}

pub no_links : (labels : List Label) (ledger : List Issue) → AreLinksOf labels ledger []
no_links labels ledger = record {
  label = λ place label link named at. cc;
  window = λ place issue link issued at. cc;
}

-- A link is that of a place.
pub record IsLinkAt (labels : List Label) (ledger : List Issue) (place : ℕ) (link : Link) : Type 0 where
  pub label : slice_get labels place ≡ Some link.label
  pub issue : Issue
  pub issued : slice_get ledger place ≡ Some issue
  pub window : IsWindow (token_of issue) link.window

same_label : (a b : Label) → Some a ≡ Some b → a ≡ b
same_label a b e = cc

same_issue : (a b : Issue) → Some a ≡ Some b → a ≡ b
same_issue a b e = cc

label_at : (labels : List Label) (ledger : List Issue) (place other : ℕ) (next link : Link) (label : Label) → IsLinkAt labels ledger other next
    → slice_get labels place ≡ Some label → place ≡ other → next ≡ link → link.label ≡ label
label_at labels ledger place other next link label h named at is =
    sym (ap (λ (l : Link). l.label) is) ∙ same_label next.label label (sym h.label ∙ (ap (slice_get labels) (sym at) ∙ named))

window_at : (labels : List Label) (ledger : List Issue) (place other : ℕ) (next link : Link) (issue : Issue) → IsLinkAt labels ledger other next
    → slice_get ledger place ≡ Some issue → place ≡ other → next ≡ link → IsWindow (token_of issue) link.window
window_at labels ledger place other next link issue h issued at is =
    let same : h.issue ≡ issue = same_issue h.issue issue (sym h.issued ∙ (ap (slice_get ledger) (sym at) ∙ issued)) in
    subst (λ (l : Link). IsWindow (token_of issue) l.window) is (subst (λ (i : Issue). IsWindow (token_of i) next.window) same h.window)

-- one link more
pub more_links : (labels : List Label) (ledger : List Issue) (links : List Link) (next : Link) → AreLinksOf labels ledger links → IsLinkAt labels ledger (length links) next
    → AreLinksOf labels ledger (links ++ next ∷ [])
more_links labels ledger links next are is = record {
  label = λ place label link named at. elim (get_cases links next place link at) [
    | inl before ↦ are.label place label link named before
    | inr last ↦ label_at labels ledger place (length links) next link label is named last.0 last.1
  ];
  window = λ place issue link issued at. elim (get_cases links next place link at) [
    | inl before ↦ are.window place issue link issued before
    | inr last ↦ window_at labels ledger place (length links) next link issue is issued last.0 last.1
  ];
}

-- the link of the place behind the first so many
pub next_link : (labels : List Label) (ledger : List Issue) (links : List Link) (place : ℕ) (next : Link) (issue : Issue) → length links ≡ place → AreLinksOf labels ledger links
    → slice_get labels place ≡ Some next.label → slice_get ledger place ≡ Some issue → IsWindow (token_of issue) next.window
    → (length (links ++ next ∷ []) ≡ place + 1) × AreLinksOf labels ledger (links ++ next ∷ [])
next_link labels ledger links place next issue many are named issued window = (
  length-append links (next ∷ []) ∙ ap (λ (n : ℕ). n + 1) many,
  more_links labels ledger links next are (record {
    label = ap (slice_get labels) many ∙ named;
    issue = issue;
    issued = ap (slice_get ledger) many ∙ issued;
    window = window;
  }),
)

-- ---- the links of a chain

-- the label of a link, and its window
pub link_put : (links : List Link) (place : ℕ) (other : Link) (old between new : List ℕ) → place < length links → between ≡ old ++ label_text (get_or links place other).label
    → new ≡ between ++ span_text (get_or links place other).window → new ≡ old ++ link_at links place
link_put links place other old between new lt labelled is =
    let link : Link = get_or links place other in
    is
    ∙ (ap (λ (text : List ℕ). text ++ span_text link.window) labelled
    ∙ (append_assoc old (label_text link.label) (span_text link.window)
    ∙ ap (λ (o : Option Link). old ++ option_map_or link_text o []) (sym (slice_get-get_or links place other lt))))

-- the first link, and those that are left
pub links_from : (links : List Link) (places rest : List ℕ) (first : ℕ) (old new : List ℕ) → places ≡ first ∷ rest → new ≡ old ++ link_at links first
    → new ++ further_links links rest ≡ old ++ links_text links places
links_from links places rest first old new is grown =
    ap (λ (text : List ℕ). text ++ further_links links rest) grown
    ∙ (append_assoc old (link_at links first) (further_links links rest) ∙ ap (λ (l : List ℕ). old ++ links_text links l) (sym is))

-- what holds of all places holds of those behind the first
pub rest_within : (bound : ℕ) (places rest : List ℕ) (first place : ℕ) → All (λ p. p < bound) places → places ≡ first ∷ rest → place < length rest → get_or rest place 0 < bound
rest_within bound places rest first place all is lt =
    All-tail (λ p. p < bound) first rest (subst (λ (l : List ℕ). All (λ p. p < bound) l) is all) place 0 lt

-- each place of a chain is one of the ledger
places_within : (ledger : List Issue) (place : ℕ) (places token : List ℕ) (links : List Issue) → Chain ledger place places token links → All (λ p. p < length ledger) places
places_within ledger _ _ _ _ (granted place places token links at is none) =
    subst (λ (l : List ℕ). All (λ p. p < length ledger) l) (sym is) (All-cons (λ p. p < length ledger) place [] (slice_get_within ledger place (Grant token) at) (All-nil (λ p. p < length ledger)))
places_within ledger _ _ _ _ (linked place parent places front token links behind link at of chain is more) =
    subst (λ (l : List ℕ). All (λ p. p < length ledger) l) (sym is)
    (All-append (λ p. p < length ledger) front (place ∷ []) (places_within ledger parent front token behind chain)
    (All-cons (λ p. p < length ledger) place [] (slice_get_within ledger place link at) (All-nil (λ p. p < length ledger))))

pub chain_within : (ledger : List Issue) (links : List Link) (place : ℕ) (places others : List ℕ) → IsChain ledger place places → length links ≡ length ledger → others ≡ places
    → All (λ p. p < length links) others
chain_within ledger links place places others chain many same =
    subst (λ (l : List ℕ). All (λ p. p < length links) l) (sym same)
    (subst (λ (n : ℕ). All (λ p. p < n) places) (sym many) (places_within ledger place places chain.token chain.links chain.chain))
