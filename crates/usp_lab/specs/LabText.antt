-- What a lab prints of a run.
use Rattle.std.specs.Prelude.{◌≡◌, ℕ, ◌+◌, List, [], ◌∷◌, ◌++◌, Bool, true, false, length, codes, Option, Some, None, slice_get}
use Rattle.std.specs.Fmt.{decimal}
use Rattle.std.specs.List.{list_any}
use Rattle.std.specs.Option.{option_and_then}
use Rattle.usp_base.specs.Lines.{line_feed}
use Rattle.usp_claims.specs.Table.{number_claim}
use Rattle.usp_conf.specs.Values.{ConfValue}
use Rattle.usp_edge.specs.declared.note.Verdict.{Verdict}
use Rattle.usp_edge.specs.declared.note.Verdict.TheVariants.{Admitted, Denied}
use Rattle.usp_json.specs.declared.value.Members.{Members}
use Rattle.usp_nonce.specs.declared.answer.Turned.{Turned}
use Rattle.usp_rules.specs.Names.{name_of, number_of}
use Rattle.usp_rules.specs.Tokens.{CarriesClaims}
use Rattle.usp_script.specs.Reading.{label_text}
use Rattle.usp_trace.specs.Chains.{IsChain, first_place}
use Rattle.usp_trace.specs.Issues.{token_of}
use Rattle.usp_lab.specs.Entries.{Entry, Run, ledger_of, served_in}
use Rattle.usp_lab.specs.Provenance.{ledger_before}
use Rattle.usp_lab.specs.Rounds.{Served, calls_at}

-- ---- chains

-- a bound of a window, and `*` for none
abbrev pub bound_text : Option ℕ → List ℕ
bound_text None = codes "*"
bound_text (Some moment) = decimal moment

abbrev pub window_text : Members → List ℕ
window_text members =
    codes "[" ++ (bound_text (number_claim (codes "nbf") members)
    ++ (codes "-" ++ (bound_text (number_claim (codes "exp") members) ++ codes "]")))

-- a token of the ledger: its label, and the window of its claims
pub record IsLink (entries : List Entry) (place : ℕ) (text : List ℕ) : Type 0 where
  pub entry : Entry
  pub members : Members
  pub at : slice_get entries place ≡ Some entry
  pub claims : CarriesClaims (token_of entry.issue) members
  pub is : text ≡ label_text entry.label ++ window_text members

-- those at places, with `>` between them
pub data AreLinks (entries : List Entry) : (places text : List ℕ) → Type 0 where
  last : (place : ℕ) (text : List ℕ) → IsLink entries place text → AreLinks entries (place ∷ []) text
  before : (place next : ℕ) (places link links text : List ℕ) → IsLink entries place link
      → AreLinks entries (next ∷ places) links → text ≡ link ++ (codes ">" ++ links)
      → AreLinks entries (place ∷ next ∷ places) text

-- the chain from the grant to the token, or that there is none
pub data ShowsChain (entries : List Entry) : Option ℕ → (text : List ℕ) → Type 0 where
  untraced : (text : List ℕ) → text ≡ codes " chain untraced" → ShowsChain entries None text
  traced : (place : ℕ) (places links text : List ℕ) → IsChain (ledger_of entries) place places
      → AreLinks entries places links → text ≡ codes " chain " ++ links → ShowsChain entries (Some place) text

-- ---- asks

-- the first place of the token that a request brought, in the ledger as its round began
abbrev pub origin_of : Run → Served → Option ℕ
origin_of run served =
    option_and_then (λ token. first_place token (ledger_before run served)) served.note.token

-- the chain of that place, where the request was admitted
abbrev pub ShowsOrigin : Run → Served → Verdict → (text : List ℕ) → Type 0
ShowsOrigin run served Admitted text = ShowsChain run.entries (origin_of run served) text
ShowsOrigin run served (Denied rule) text = text ≡ []

abbrev pub verdict_text : (status : ℕ) → Verdict → List ℕ
verdict_text status Admitted = codes " admitted " ++ decimal status
verdict_text status (Denied rule) = codes " denied " ++ (decimal (number_of rule) ++ (codes " " ++ name_of rule))

-- the nonce call, where there was one
abbrev pub turn_text : Option Turned → List ℕ
turn_text None = []
turn_text (Some turned) = codes " nonce " ++ (decimal turned.place ++ (codes " at " ++ decimal turned.moment))

-- the line of an ask by its number
pub record ShowsAsk (run : Run) (number : ℕ) (served : Served) (text : List ℕ) : Type 0 where
  pub origin : List ℕ
  pub shows : ShowsOrigin run served served.note.verdict origin
  pub is : text ≡ decimal number ++ (codes " " ++ (served.edge.edge
      ++ (verdict_text served.note.status served.note.verdict
      ++ (turn_text served.note.call ++ (origin ++ line_feed ∷ [])))))

-- the lines of asks, the first of which has this number
pub data ShowsAsks (run : Run) : (number : ℕ) → List Served → (text : List ℕ) → Type 0 where
  nothing : (number : ℕ) (text : List ℕ) → text ≡ [] → ShowsAsks run number [] text
  another : (number : ℕ) (served : Served) (all : List Served) (line lines text : List ℕ)
      → ShowsAsk run number served line → ShowsAsks run (number + 1) all lines → text ≡ line ++ lines
      → ShowsAsks run number (served ∷ all) text

-- ---- edges

-- the lines of edges, the first of which is at this place: how many nonce calls were made at each
abbrev pub edge_lines : Run → (place : ℕ) → List ConfValue → List ℕ
edge_lines run place [] = []
edge_lines run place (edge ∷ edges) =
    codes "edge " ++ (edge.edge ++ (codes " calls "
    ++ (decimal (length (calls_at place (served_in run))) ++ (line_feed ∷ edge_lines run (place + 1) edges))))

-- ---- the text

-- What is printed of a run over these edges: a line for each ask, and one for each edge.
pub record IsLabText (edges : List ConfValue) (run : Run) (text : List ℕ) : Type 0 where
  pub asks : List ℕ
  pub shows : ShowsAsks run 1 (served_in run) asks
  pub is : text ≡ asks ++ edge_lines run 0 edges

abbrev pub is_denial : Verdict → Bool
is_denial Admitted = false
is_denial (Denied rule) = true

-- some ask was denied
abbrev pub has_denial : Run → Bool
has_denial run = list_any (λ served. is_denial served.note.verdict) (served_in run)
