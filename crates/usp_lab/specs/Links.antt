-- What a text shows of each token of a ledger.
use Rattle.std.specs.Prelude.{◌≡◌, ℕ, List, [], ◌∷◌, ◌++◌, codes, Some, slice_get}
use Rattle.std.specs.Option.{option_map_or}
use Rattle.usp_claims.specs.Table.{number_claim}
use Rattle.usp_json.specs.declared.value.Members.{Members}
use Rattle.usp_rules.specs.Tokens.{CarriesClaims}
use Rattle.usp_script.specs.Reading.{label_text}
use Rattle.usp_script.specs.declared.ask.Label.{Label}
use Rattle.usp_trace.specs.Issues.{token_of}
use Rattle.usp_trace.specs.declared.issue.Issue.{Issue}
use Rattle.usp_lab.specs.LabText.{bound_text}
use Rattle.usp_lab.specs.declared.text.links.Link.{Link}
use Rattle.usp_lab.specs.declared.text.window.Window.{Window}

-- The bounds are those of the token's claims, where it has claims.
pub record IsWindow (token : List ℕ) (window : Window) : Type 0 where
  pub from : (members : Members) → CarriesClaims token members → window.from ≡ number_claim (codes "nbf") members
  pub until : (members : Members) → CarriesClaims token members → window.until ≡ number_claim (codes "exp") members

-- Each link has the label and the window of the token of its place.
pub record AreLinksOf (labels : List Label) (ledger : List Issue) (links : List Link) : Type 0 where
  pub label : (place : ℕ) (label : Label) (link : Link) → slice_get labels place ≡ Some label
      → slice_get links place ≡ Some link → link.label ≡ label
  pub window : (place : ℕ) (issue : Issue) (link : Link) → slice_get ledger place ≡ Some issue
      → slice_get links place ≡ Some link → IsWindow (token_of issue) link.window

abbrev pub span_text : Window → List ℕ
span_text window =
    codes "[" ++ (bound_text window.from ++ (codes "-" ++ (bound_text window.until ++ codes "]")))

abbrev pub link_text : Link → List ℕ
link_text link = label_text link.label ++ span_text link.window

abbrev pub link_at : List Link → (place : ℕ) → List ℕ
link_at links place = option_map_or link_text (slice_get links place) []

-- the links at places, each behind `>`
abbrev pub further_links : List Link → (places : List ℕ) → List ℕ
further_links links [] = []
further_links links (place ∷ places) = codes ">" ++ (link_at links place ++ further_links links places)

-- the links at places, with `>` between them
abbrev pub links_text : List Link → (places : List ℕ) → List ℕ
links_text links [] = []
links_text links (place ∷ places) = link_at links place ++ further_links links places
