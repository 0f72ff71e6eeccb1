-- What a report tells is what its run shows.
use Rattle.std.proofs.Common.{◌≡◌, ℕ, ◌+◌, ◌<◌, List, [], ◌∷◌, ◌++◌, codes, length, map, take, Option, Some, None, IfOk, Result, Ok, Err, inl, inr, refl, sym, ap, ◌∙◌, subst, arith, append_assoc, append-nil, get_or, length-append}
use Rattle.std.specs.List.{All, slice_get, slice_index}
use Rattle.std.specs.Option.{option_and_then, option_map, option_map_or}
use Rattle.std.proofs.lemmas.List.{length-map, length-take}
use Rattle.std.proofs.lemmas.List.Elements.{All-head, All-map, All-tail}
use Rattle.std.proofs.lemmas.Option.{slice_get-get_or, slice_get-map, slice_get_cases, slice_get_within, get_or_from_slice_get}
use Rattle.std.specs.Fmt.{decimal}
use Rattle.usp_base.specs.Lines.{line_feed}
use Rattle.usp_claims.specs.Table.{number_claim}
use Rattle.usp_conf.specs.Values.{ConfValue}
use Rattle.usp_edge.specs.declared.note.Verdict.{Verdict}
use Rattle.usp_edge.specs.declared.note.Verdict.TheVariants.{Admitted, Denied}
use Rattle.usp_json.specs.declared.value.Members.{Members}
use Rattle.usp_rules.specs.Tokens.{CarriesClaims}
use Rattle.usp_script.specs.Reading.{label_text}
use Rattle.usp_script.specs.Script.{IsScript, ScriptValue}
use Rattle.usp_script.specs.declared.ask.Label.{Label}
use Rattle.usp_trace.proofs.Ordered.{found_within}
use Rattle.usp_trace.specs.Chains.{Chain, IsChain, first_place, granted, linked}
use Rattle.usp_trace.specs.Issues.{token_of}
use Rattle.usp_trace.specs.declared.issue.Issue.{Issue}
use Rattle.usp_lab.proofs.Chains.{keeps_claims}
use Rattle.usp_lab.proofs.Tracing.{each_told}
use Rattle.usp_lab.specs.Entries.{Entry, Run, Runs, ledger_of, served_in}
use Rattle.usp_lab.specs.LabText.{AreLinks, IsLabText, IsLink, ShowsAsk, ShowsAsks, ShowsChain, ShowsOrigin, another, before, bound_text, edge_lines, last, nothing, origin_of, traced, turn_text, untraced, verdict_text}
use Rattle.usp_lab.specs.Links.{AreLinksOf, IsWindow, link_at, link_text, links_text}
use Rattle.usp_lab.specs.Provenance.{HasClaimsAt}
use Rattle.usp_lab.specs.Reports.{IsReport, report_of}
use Rattle.usp_lab.specs.Rounds.{Served, calls_at}
use Rattle.usp_lab.specs.Telling.{IsAmong, IsWhole, TellsAsk, TellsAsks, TellsOrigin, TellsPlace, TellsReport, another as told_another, ask_front, calls_lines, nothing as told_nothing}
use Rattle.usp_lab.specs.Turns.{IsRun}
use Rattle.usp_lab.specs.declared.report.AskReport.{AskReport}
use Rattle.usp_lab.specs.declared.report.Report.{Report}
use Rattle.usp_lab.specs.declared.text.links.Link.{Link}

all_from : {X : Type 0} (P : X → Type 0) (xs : List X) → ((k : ℕ) (x : X) → slice_get xs k ≡ Some x → P x) → All P xs
all_from P xs h = λ k d lt. h k (get_or xs k d) (slice_get-get_or xs k d lt)

-- ---- links

-- The links of the entries of a run.
pub record AreLinksFor (entries : List Entry) (links : List Link) : Type 0 where
  pub many : length links ≡ length entries
  pub label : (place : ℕ) (entry : Entry) (link : Link) → slice_get entries place ≡ Some entry → slice_get links place ≡ Some link → link.label ≡ entry.label
  pub window : (place : ℕ) (entry : Entry) (link : Link) → slice_get entries place ≡ Some entry → slice_get links place ≡ Some link → IsWindow (token_of entry.issue) link.window

links_for : (edges : ℕ) (run : Run) (report : Report) (links : List Link) → IsReport edges run report → length links ≡ length report.ledger → AreLinksOf report.labels report.ledger links
    → AreLinksFor run.entries links
links_for edges run report links is many each = record {
  many = many ∙ (ap length is.ledger ∙ length-map run.entries (λ (entry : Entry). entry.issue));
  label = λ place entry link at there.
      each.label place entry.label link (ap (λ (l : List Label). slice_get l place) is.labels ∙ (slice_get-map (λ (e : Entry). e.label) run.entries place ∙ ap (option_map (λ (e : Entry). e.label)) at)) there;
  window = λ place entry link at there.
      each.window place entry.issue link (ap (λ (l : List Issue). slice_get l place) is.ledger ∙ (slice_get-map (λ (e : Entry). e.issue) run.entries place ∙ ap (option_map (λ (e : Entry). e.issue)) at)) there;
}

link_by : (label other : Label) (from nbf until exp : Option ℕ) → label ≡ other → from ≡ nbf → until ≡ exp
    → label_text label ++ (codes "[" ++ (bound_text from ++ (codes "-" ++ (bound_text until ++ codes "]"))))
    ≡ label_text other ++ (codes "[" ++ (bound_text nbf ++ (codes "-" ++ (bound_text exp ++ codes "]"))))
link_by label other from nbf until exp a b c = cc

-- the text of a link
link_shown : (entries : List Entry) (links : List Link) (place : ℕ) (entry : Entry) (members : Members) (link : Link) → AreLinksFor entries links → slice_get entries place ≡ Some entry
    → CarriesClaims (token_of entry.issue) members → slice_get links place ≡ Some link → IsLink entries place (link_at links place)
link_shown entries links place entry members link are at claims there =
    let w = are.window place entry link at there in
    record {
      entry = entry;
      members = members;
      at = at;
      claims = claims;
      is = ap (λ (o : Option Link). option_map_or link_text o []) there
          ∙ link_by link.label entry.label link.window.from (number_claim (codes "nbf") members) link.window.until (number_claim (codes "exp") members)
          (are.label place entry link at there) (w.from members claims) (w.until members claims);
    }

one_link : (entries : List Entry) (links : List Link) (place : ℕ) → AreLinksFor entries links → HasClaimsAt entries place → IsLink entries place (link_at links place)
one_link entries links place are h = elim (slice_get_cases links place).1 [
  | inl at ↦ link_shown entries links place h.entry h.members at.0 are h.at h.claims at.2
  | inr past ↦ absurd (omega (arith, past.0, are.many, slice_get_within entries place h.entry h.at))
]

-- the links of a chain
links_shown : (entries : List Entry) (links : List Link) (place : ℕ) (places : List ℕ) → AreLinksFor entries links → All (HasClaimsAt entries) (place ∷ places)
    → AreLinks entries (place ∷ places) (links_text links (place ∷ places))
links_shown entries links place [] are all =
    last place (links_text links (place ∷ [])) (subst (IsLink entries place) (sym (append-nil (link_at links place))) (one_link entries links place are (All-head (HasClaimsAt entries) place [] all)))
links_shown entries links place (next ∷ places) are all =
    before place next places (link_at links place) (links_text links (next ∷ places)) (links_text links (place ∷ next ∷ places)) (one_link entries links place are (All-head (HasClaimsAt entries) place (next ∷ places) all))
    (links_shown entries links next places are (All-tail (HasClaimsAt entries) place (next ∷ places) all)) refl

-- ---- chains

no_chain : (ledger : List Issue) (place : ℕ) (places token : List ℕ) (links : List Issue) → Chain ledger place places token links → places ≡ [] → ⊥
no_chain ledger _ _ _ _ (granted place places token links at is l) none = let e : place ∷ [] ≡ [] = sym is ∙ none in cc e
no_chain ledger _ _ _ _ (linked place parent places front token links behind link at of chain is l) none =
    let e : front ++ place ∷ [] ≡ [] = sym is ∙ none in
    absurd (omega (arith, length-append front (place ∷ []), ap length e))

chain_shown : (entries : List Entry) (links : List Link) (place : ℕ) (places text : List ℕ) → AreLinksFor entries links → IsChain (ledger_of entries) place places
    → All (HasClaimsAt entries) places → text ≡ codes " chain " ++ links_text links places → ShowsChain entries (Some place) text
chain_shown entries links place [] text are chain all is = absurd (no_chain (ledger_of entries) place [] chain.token chain.links chain.chain refl)
chain_shown entries links place (first ∷ places) text are chain all is =
    traced place (first ∷ places) (links_text links (first ∷ places)) text chain (links_shown entries links first places are all) is

-- What is known of an ask of a run.
pub record IsKnown (edges : List ConfValue) (run : Run) (served : Served) : Type 0 where
  pub at : slice_get edges served.ask.edge ≡ Some served.edge
  pub claims : (place : ℕ) (places : List ℕ) → served.note.verdict ≡ Admitted → origin_of run served ≡ Some place → IsChain (ledger_of run.entries) place places
      → All (HasClaimsAt run.entries) places

place_shown : (run : Run) (links : List Link) (origin : Option ℕ) (text : List ℕ) → AreLinksFor run.entries links
    → ((place : ℕ) (places : List ℕ) → origin ≡ Some place → IsChain (ledger_of run.entries) place places → All (HasClaimsAt run.entries) places)
    → TellsPlace (ledger_of run.entries) links origin text → ShowsChain run.entries origin text
place_shown run links None text are claims is = untraced text is
place_shown run links (Some place) text are claims tells =
    chain_shown run.entries links place tells.places text are tells.chain (claims place tells.places refl tells.chain) tells.is

origin_shown : (run : Run) (served : Served) (links : List Link) (verdict : Verdict) (text : List ℕ) → AreLinksFor run.entries links
    → ((place : ℕ) (places : List ℕ) → verdict ≡ Admitted → origin_of run served ≡ Some place → IsChain (ledger_of run.entries) place places → All (HasClaimsAt run.entries) places)
    → TellsOrigin (ledger_of run.entries) links verdict (origin_of run served) text → ShowsOrigin run served verdict text
origin_shown run served links Admitted text are claims tells = place_shown run links (origin_of run served) text are (λ place places. claims place places refl) tells
origin_shown run served links (Denied rule) text are claims tells = tells

-- ---- asks

same_edge : (a b : ConfValue) → Some a ≡ Some b → a ≡ b
same_edge a b e = cc

line_shown : (number name verdict turn origin feed : List ℕ)
    → (number ++ (codes " " ++ (name ++ (verdict ++ turn)))) ++ (origin ++ feed) ≡ number ++ (codes " " ++ (name ++ (verdict ++ (turn ++ (origin ++ feed)))))
line_shown number name verdict turn origin feed = simp append_assoc

ask_shown : (edges : List ConfValue) (run : Run) (links : List Link) (number : ℕ) (served : Served) (text : List ℕ) → AreLinksFor run.entries links → IsKnown edges run served
    → TellsAsk edges (ledger_of run.entries) links number (report_of run served) text → ShowsAsk run number served text
ask_shown edges run links number served text are known tells =
    let edge : tells.edge ≡ served.edge = same_edge tells.edge served.edge (sym tells.at ∙ known.at) in
    record {
      origin = tells.origin;
      shows = origin_shown run served links served.note.verdict tells.origin are known.claims tells.tells;
      is = tells.is ∙ (ap (λ (e : ConfValue). ask_front e.edge number (report_of run served) ++ (tells.origin ++ line_feed ∷ [])) edge
          ∙ line_shown (decimal number) served.edge.edge (verdict_text served.note.status served.note.verdict) (turn_text served.note.call) tells.origin (line_feed ∷ []));
    }

same_first : (a b : AskReport) (more others : List AskReport) → a ∷ more ≡ b ∷ others → a ≡ b
same_first a b more others e = cc

same_rest : (a b : AskReport) (more others : List AskReport) → a ∷ more ≡ b ∷ others → more ≡ others
same_rest a b more others e = cc

asks_shown : (edges : List ConfValue) (run : Run) (links : List Link) (number : ℕ) (all : List Served) (asks : List AskReport) (text : List ℕ) → AreLinksFor run.entries links
    → All (IsKnown edges run) all → asks ≡ map (report_of run) all → TellsAsks edges (ledger_of run.entries) links number asks text → ShowsAsks run number all text
asks_shown edges run links _ [] _ _ are known is (told_nothing number text none) = nothing number text none
asks_shown edges run links _ (served ∷ all) _ _ are known is (told_nothing number text none) = let e : [] ≡ report_of run served ∷ map (report_of run) all = is in cc e
asks_shown edges run links _ [] _ _ are known is (told_another number ask asks line lines text one more whole) = let e : ask ∷ asks ≡ [] = is in cc e
asks_shown edges run links _ (served ∷ all) _ _ are known is (told_another number ask asks line lines text one more whole) =
    let first : ask ≡ report_of run served = same_first ask (report_of run served) asks (map (report_of run) all) is in
    let rest : asks ≡ map (report_of run) all = same_rest ask (report_of run served) asks (map (report_of run) all) is in
    another number served all line lines text
    (ask_shown edges run links number served line are (All-head (IsKnown edges run) served all known) (subst (λ (a : AskReport). TellsAsk edges (ledger_of run.entries) links number a line) first one))
    (asks_shown edges run links (number + 1) all asks lines are (All-tail (IsKnown edges run) served all known) rest more) whole

-- ---- edges

edges_shown : (run : Run) (calls : List ℕ) (place : ℕ) (edges : List ConfValue)
    → ((at : ℕ) → at < place + length edges → slice_index calls at ≡ length (calls_at at (served_in run))) → calls_lines calls place edges ≡ edge_lines run place edges
edges_shown run calls place [] counts = refl
edges_shown run calls place (edge ∷ edges) counts =
    ap (λ (n : ℕ). codes "edge " ++ (edge.edge ++ (codes " calls " ++ (decimal n ++ (line_feed ∷ calls_lines calls (place + 1) edges))))) (counts place (omega arith))
    ∙ ap (λ (rest : List ℕ). codes "edge " ++ (edge.edge ++ (codes " calls " ++ (decimal (length (calls_at place (served_in run))) ++ (line_feed ∷ rest)))))
    (edges_shown run calls (place + 1) edges (λ at lt. counts at (omega arith)))

-- ---- the text

known_of : (script : ScriptValue) (run : Run) → IsScript script → Runs script run → (number : ℕ) (served : Served) → slice_get (served_in run) number ≡ Some served → IsKnown script.edges run served
known_of script run is ran number served at = record {
  at = (each_told script run is ran number served at).at;
  claims = λ place places admitted from chain. keeps_claims script run is ran number place served places at admitted from chain;
}

all_known : (script : ScriptValue) (run : Run) → IsScript script → Runs script run → All (IsKnown script.edges run) (served_in run)
all_known script run is ran = all_from (IsKnown script.edges run) (served_in run) (λ number served at. known_of script run is ran number served at)

pub report_shown : (script : ScriptValue) (run : Run) (workers : ℕ) (report : Report) (text : List ℕ) → IsScript script → IsRun script workers run → IsReport (length script.edges) run report
    → TellsReport script.edges report text → IsLabText script.edges run text
report_shown script run workers report text is ran reports tells =
    let are : AreLinksFor run.entries tells.links = links_for (length script.edges) run report tells.links reports tells.many tells.each in
    record {
      asks = tells.asks;
      shows = asks_shown script.edges run tells.links 1 (served_in run) report.asks tells.asks are (all_known script run is ran.runs) reports.asks
          (subst (λ (ledger : List Issue). TellsAsks script.edges ledger tells.links 1 report.asks tells.asks) reports.ledger tells.tells);
      is = tells.is ∙ ap (λ (lines : List ℕ). tells.asks ++ lines) (edges_shown run report.calls 0 script.edges (λ at lt. get_or_from_slice_get report.calls at _ 0 (reports.calls at (omega arith))));
    }

-- of each run that the report tells
pub all_shown : {T E : Type 0} (items : T → List ℕ) (result : Result T E) (script : ScriptValue) (report : Report) (edges : List ConfValue) → edges ≡ script.edges → IsScript script
    → IfOk result (λ text. TellsReport edges report (items text))
    → IfOk result (λ text. (workers : ℕ) (run : Run) → IsRun script workers run → IsReport (length script.edges) run report → IsLabText script.edges run (items text))
all_shown items (Ok text) script report edges same is tells =
    λ workers run ran reports. report_shown script run workers report (items text) is ran reports (subst (λ (l : List ConfValue). TellsReport l report (items text)) same tells)
all_shown items (Err fault) script report edges same is tells = tells

-- ---- what a report of a run keeps

origin_within : (ledger : List Issue) (token : Option (List ℕ)) (known place : ℕ) → option_and_then (λ token. first_place token (take known ledger)) token ≡ Some place → place < length ledger
origin_within ledger None known place e = let none : None ≡ Some place = e in cc none
origin_within ledger (Some token) known place e = omega (arith, (found_within _ (take known ledger) place e).1, length-take known ledger)

among : (script : ScriptValue) (run : Run) (report : Report) (served : Served) → IsReport (length script.edges) run report → slice_get script.edges served.ask.edge ≡ Some served.edge
    → IsAmong (length script.edges) (length report.ledger) (report_of run served)
among script run report served reports at = record {
  edge = slice_get_within script.edges served.ask.edge served.edge at;
  origin = λ place from. rw reports.ledger (origin_within (ledger_of run.entries) served.note.token served.known place from);
}

all_among : (script : ScriptValue) (run : Run) (report : Report) → IsScript script → Runs script run → IsReport (length script.edges) run report
    → All (IsAmong (length script.edges) (length report.ledger)) report.asks
all_among script run report is ran reports = rw reports.asks (All-map (IsAmong (length script.edges) (length report.ledger)) (report_of run) (served_in run)
    (all_from (λ (served : Served). IsAmong (length script.edges) (length report.ledger) (report_of run served)) (served_in run) (λ number served at. among script run report served reports ((each_told script run is ran number served at).at))))

pub report_whole : (script : ScriptValue) (run : Run) (workers : ℕ) (report : Report) → IsScript script → IsRun script workers run → IsReport (length script.edges) run report
    → IsWhole (length script.edges) report
report_whole script run workers report is ran reports = record {
  asks = all_among script run report is ran.runs reports;
  labels = ap length reports.labels ∙ (length-map run.entries (λ (e : Entry). e.label) ∙ (sym (length-map run.entries (λ (e : Entry). e.issue)) ∙ ap length (sym reports.ledger)));
  calls = reports.many;
}
