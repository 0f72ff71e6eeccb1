-- What a text tells of a report.
use Rattle.std.specs.Prelude.{◌≡◌, ℕ, ◌+◌, ◌<◌, All, List, [], ◌∷◌, ◌++◌, codes, length, Option, Some, None, slice_get, slice_index}
use Rattle.std.specs.Fmt.{decimal}
use Rattle.std.specs.Option.{ForSome}
use Rattle.usp_base.specs.Lines.{line_feed}
use Rattle.usp_conf.specs.Values.{ConfValue}
use Rattle.usp_edge.specs.declared.note.Verdict.{Verdict}
use Rattle.usp_edge.specs.declared.note.Verdict.TheVariants.{Admitted, Denied}
use Rattle.usp_trace.specs.Chains.{IsChain}
use Rattle.usp_trace.specs.declared.issue.Issue.{Issue}
use Rattle.usp_lab.specs.LabText.{turn_text, verdict_text}
use Rattle.usp_lab.specs.Links.{AreLinksOf, links_text}
use Rattle.usp_lab.specs.declared.report.AskReport.{AskReport}
use Rattle.usp_lab.specs.declared.report.Report.{Report}
use Rattle.usp_lab.specs.declared.text.links.Link.{Link}

-- A text grew by one that tells this.
pub record Grows (old new : List ℕ) (Tells : List ℕ → Type 0) : Type 0 where
  pub more : List ℕ
  pub tells : Tells more
  pub is : new ≡ old ++ more

-- ---- chains

-- the chain of a place of the ledger, by the links of its places
pub record TellsChain (ledger : List Issue) (links : List Link) (place : ℕ) (text : List ℕ) : Type 0 where
  pub places : List ℕ
  pub chain : IsChain ledger place places
  pub is : text ≡ codes " chain " ++ links_text links places

abbrev pub TellsPlace : List Issue → List Link → Option ℕ → (text : List ℕ) → Type 0
TellsPlace ledger links None text = text ≡ codes " chain untraced"
TellsPlace ledger links (Some place) text = TellsChain ledger links place text

abbrev pub TellsOrigin : List Issue → List Link → Verdict → Option ℕ → (text : List ℕ) → Type 0
TellsOrigin ledger links Admitted origin text = TellsPlace ledger links origin text
TellsOrigin ledger links (Denied rule) origin text = text ≡ []

-- ---- asks

-- the line of an ask up to its chain
abbrev pub ask_front : (name : List ℕ) → (number : ℕ) → AskReport → List ℕ
ask_front name number ask =
    decimal number ++ (codes " " ++ (name ++ (verdict_text ask.status ask.verdict ++ turn_text ask.call)))

-- the line of an ask at one of these edges
pub record TellsAsk (edges : List ConfValue) (ledger : List Issue) (links : List Link) (number : ℕ) (ask : AskReport)
    (text : List ℕ) : Type 0 where
  pub edge : ConfValue
  pub at : slice_get edges ask.edge ≡ Some edge
  pub origin : List ℕ
  pub tells : TellsOrigin ledger links ask.verdict ask.origin origin
  pub is : text ≡ ask_front edge.edge number ask ++ (origin ++ line_feed ∷ [])

-- the lines of asks, the first of which has this number
pub data TellsAsks (edges : List ConfValue) (ledger : List Issue) (links : List Link)
    : (number : ℕ) → List AskReport → (text : List ℕ) → Type 0 where
  nothing : (number : ℕ) (text : List ℕ) → text ≡ [] → TellsAsks edges ledger links number [] text
  another : (number : ℕ) (ask : AskReport) (asks : List AskReport) (line lines text : List ℕ)
      → TellsAsk edges ledger links number ask line → TellsAsks edges ledger links (number + 1) asks lines
      → text ≡ line ++ lines → TellsAsks edges ledger links number (ask ∷ asks) text

-- The ask is of one of so many edges, and the token that it brought is one of so many, if it is in the ledger.
pub record IsAmong (edges tokens : ℕ) (ask : AskReport) : Type 0 where
  pub edge : ask.edge < edges
  pub origin : ForSome ask.origin (λ place. place < tokens)

-- ---- edges

-- the lines of edges, the first of which is at this place, by the numbers of calls at all edges
abbrev pub calls_lines : (calls : List ℕ) → (place : ℕ) → List ConfValue → List ℕ
calls_lines calls place [] = []
calls_lines calls place (edge ∷ edges) =
    codes "edge " ++ (edge.edge ++ (codes " calls "
    ++ (decimal (slice_index calls place) ++ (line_feed ∷ calls_lines calls (place + 1) edges))))

-- ---- the text

-- the text of a report over these edges
pub record TellsReport (edges : List ConfValue) (report : Report) (text : List ℕ) : Type 0 where
  pub links : List Link
  pub many : length links ≡ length report.ledger
  pub each : AreLinksOf report.labels report.ledger links
  pub asks : List ℕ
  pub tells : TellsAsks edges report.ledger links 1 report.asks asks
  pub is : text ≡ asks ++ calls_lines report.calls 0 edges

-- what each report of a run over so many edges keeps
pub record IsWhole (edges : ℕ) (report : Report) : Type 0 where
  pub asks : All (IsAmong edges (length report.ledger)) report.asks
  pub labels : length report.labels ≡ length report.ledger
  pub calls : length report.calls ≡ edges
