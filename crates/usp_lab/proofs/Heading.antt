-- Lists that grow by one at their end.
use Rattle.std.proofs.Common.{◌≡◌, refl, sym, ap, ◌∙◌, subst, ℕ, zero, suc, ◌+◌, ◌≤◌, ◌<◌, List, [], ◌∷◌, ◌++◌, length, length-append, append_assoc, add-one, map, take, drop, Option, Some, None, arith}
use Rattle.std.specs.Prelude.{All, IfSome, slice_get, slice_index_or}
use Rattle.std.specs.List.{AllZip}
use Rattle.std.specs.Option.{option_and_then}
use Rattle.std.proofs.Math.Seq.{drop-cons, take-append_seam}
use Rattle.std.proofs.lemmas.List.{map-append, take-append-le, take_all, take_more}
use Rattle.std.proofs.lemmas.List.Elements.{All-push}
use Rattle.usp_conf.specs.Values.{ConfValue}
use Rattle.usp_edge.specs.declared.note.Note.{Note}
use Rattle.usp_script.specs.Script.{IsAsk, ScriptValue}
use Rattle.usp_script.specs.declared.ask.LabAsk.{LabAsk}
use Rattle.usp_trace.specs.declared.issue.Issue.{Issue}
use Rattle.usp_lab.specs.Books.{issue_at, noted_entries, noted_reports, origin_in, report_at}
use Rattle.usp_lab.specs.Entries.{Entry, entry_for, grant_entries, ledger_of}
use Rattle.usp_lab.specs.Asked.{AreHeads, IsHeadOf, another, nothing}
use Rattle.usp_lab.specs.Tables.{IsFresh, TableValue}
use Rattle.usp_lab.specs.UnderWay.{AreFresh, table_share}
use Rattle.usp_lab.specs.declared.report.AskReport.{AskReport}

-- what is left begins with the next
pub drop_next : {X : Type 0} (xs : List X) (i : ℕ) (x : X) → i < length xs → x ≡ slice_index_or xs i x
    → drop i xs ≡ x ∷ drop (i + 1) xs
drop_next xs i x below is =
    drop-cons xs i x below
    ∙ (ap (λ y. y ∷ drop (suc i) xs) (sym is) ∙ ap (λ n. x ∷ drop n xs) (let e : suc i ≡ i + 1 = omega arith in e))

-- one more has it
pub all_next : {X : Type 0} (P : X → Type 0) (xs : List X) (i : ℕ) (x : X) → i < length xs
    → x ≡ slice_index_or xs i x → All P (take i xs) → P x → All P (take (i + 1) xs)
all_next P xs i x below is all here =
    subst (All P) (sym (take_more xs i x below ∙ ap (λ y. take i xs ++ y ∷ []) (sym is)))
    (All-push P (take i xs) x all here)

pub all_whole : {X : Type 0} (P : X → Type 0) (xs : List X) (i : ℕ) → length xs ≤ i → All P (take i xs) → All P xs
all_whole P xs i past all = subst (All P) (take_all i xs past) all

-- what was written back of a list that was lent whole
pub restored : {X : Type 0} (n : ℕ) (new rest : List X) → n ≡ length new → take n (new ++ rest) ≡ new
restored n new rest is = ap (λ k. take k (new ++ rest)) is ∙ take-append_seam new rest

-- ---- heads

module _ (script : ScriptValue) (issued : List (Option (List ℕ))) where
  pub heads_push : (asks : List LabAsk) (heads : List (List ℕ)) (ask : LabAsk) (head : List ℕ)
      → AreHeads script issued asks heads → IsHeadOf script issued ask head
      → AreHeads script issued (asks ++ ask ∷ []) (heads ++ head ∷ [])
  heads_push _ _ ask head nothing is = another ask [] head [] is nothing
  heads_push _ _ ask head (another first asks one heads here so) is =
      another first (asks ++ ask ∷ []) one (heads ++ head ∷ []) here (heads_push asks heads ask head so is)

  -- one more ask has its head
  pub heads_next : (asks : List LabAsk) (i : ℕ) (ask : LabAsk) (heads now : List (List ℕ)) (head : List ℕ)
      → i < length asks → ask ≡ slice_index_or asks i ask → AreHeads script issued (take i asks) heads
      → IsHeadOf script issued ask head → now ≡ heads ++ head ∷ []
      → AreHeads script issued (take (i + 1) asks) now
  heads_next asks i ask heads now head below is so one grown =
      let cut : take (i + 1) asks ≡ take i asks ++ ask ∷ [] =
      take_more asks i ask below ∙ ap (λ (a : LabAsk). take i asks ++ a ∷ []) (sym is) in
      subst (λ (l : List LabAsk). AreHeads script issued l now) (sym cut)
      (subst (AreHeads script issued (take i asks ++ ask ∷ [])) (sym grown) (heads_push (take i asks) heads ask head so one))

-- ---- tables

fresh_push : (edges : List ConfValue) (tables : List TableValue) (edge : ConfValue) (table : TableValue)
    → AreFresh edges tables → IsFresh edge.room table_share table → AreFresh (edges ++ edge ∷ []) (tables ++ table ∷ [])
fresh_push [] [] edge table fresh is = (is, tt)
fresh_push [] (first ∷ tables) edge table fresh is = absurd fresh
fresh_push (one ∷ edges) [] edge table fresh is = absurd fresh
fresh_push (one ∷ edges) (first ∷ tables) edge table (here, fresh) is =
    (here, fresh_push edges tables edge table fresh is)

-- one edge more has its table
pub fresh_next : (edges : List ConfValue) (i : ℕ) (edge : ConfValue) (tables now : List TableValue)
    (table : TableValue) → i < length edges → edge ≡ slice_index_or edges i edge
    → AreFresh (take i edges) tables → IsFresh edge.room table_share table → now ≡ tables ++ table ∷ []
    → AreFresh (take (i + 1) edges) now
fresh_next edges i edge tables now table below is fresh one grown =
    let cut : take (i + 1) edges ≡ take i edges ++ edge ∷ [] =
    take_more edges i edge below ∙ ap (λ (e : ConfValue). take i edges ++ e ∷ []) (sym is) in
    subst (λ (es : List ConfValue). AreFresh es now) (sym cut)
    (subst (AreFresh (take i edges ++ edge ∷ [])) (sym grown) (fresh_push (take i edges) tables edge table fresh one))

-- ---- grants

pub granted_next : (before now all : List Entry) (grants after i : ℕ) (tokens : List (List ℕ)) (token : List ℕ)
    → i < length tokens → token ≡ slice_index_or tokens i token → after ≡ grants + 1
    → now ≡ before ++ grant_entries (grants + 1) (token ∷ [])
    → before ++ grant_entries (grants + 1) (drop i tokens) ≡ all
    → now ++ grant_entries (after + 1) (drop (i + 1) tokens) ≡ all
granted_next before now all grants after i tokens token below is one grown so =
    let rest = drop (i + 1) tokens in
    ap (λ entries. entries ++ grant_entries (after + 1) rest) grown
    ∙ (ap (λ n. (before ++ grant_entries (grants + 1) (token ∷ [])) ++ grant_entries (n + 1) rest) one
    ∙ (append_assoc before (grant_entries (grants + 1) (token ∷ [])) (grant_entries (grants + 1 + 1) rest)
    ∙ (ap (λ tokens. before ++ grant_entries (grants + 1) tokens) (sym (drop_next tokens i token below is)) ∙ so)))

-- ---- notes

-- what is known of the next ask of a round
pub record IsNext (edges : List ConfValue) (asks : List LabAsk) (notes : List Note) (i : ℕ) (ask : LabAsk)
    (edge : ConfValue) (note : Note) : Type 0 where
  pub asks_below : i < length asks
  pub notes_below : i < length notes
  pub ask_is : ask ≡ slice_index_or asks i ask
  pub note_is : note ≡ slice_index_or notes i note
  pub edge_is : slice_get edges ask.edge ≡ Some edge

module _ (edges : List ConfValue) (asks : List LabAsk) (notes : List Note) (i : ℕ) (ask : LabAsk) (edge : ConfValue)
    (note : Note) (here : IsNext edges asks notes i ask edge note) where
  pub entries_step : (before now all : List Entry) (ledger : List Issue) (number : ℕ)
      → now ≡ before ++ entry_for number (issue_at (origin_in ledger note) ask.edge edge note)
      → before ++ noted_entries number ledger edges (drop i asks) (drop i notes) ≡ all
      → now ++ noted_entries (number + 1) ledger edges (drop (i + 1) asks) (drop (i + 1) notes) ≡ all
  entries_step before now all ledger number grown so =
      let rest = noted_entries (number + 1) ledger edges (drop (i + 1) asks) (drop (i + 1) notes) in
      let one = issue_at (origin_in ledger note) ask.edge edge note in
      let split : before ++ noted_entries number ledger edges (ask ∷ drop (i + 1) asks) (note ∷ drop (i + 1) notes) ≡ all =
      ap (λ asked. before ++ noted_entries number ledger edges asked (note ∷ drop (i + 1) notes)) (sym (drop_next asks i ask here.asks_below here.ask_is))
      ∙ (ap (λ ns. before ++ noted_entries number ledger edges (drop i asks) ns) (sym (drop_next notes i note here.notes_below here.note_is)) ∙ so) in
      ap (λ entries. entries ++ rest) grown
      ∙ (append_assoc before (entry_for number one) rest
      ∙ (ap (λ (o : Option ConfValue). before ++ (entry_for number (option_and_then (λ e. issue_at (origin_in ledger note) ask.edge e note) o) ++ rest)) (sym here.edge_is)
      ∙ split))

  -- the same with the number of the next ask
  pub entries_next : (before now all : List Entry) (ledger : List Issue) (number next : ℕ) → next ≡ number
      → now ≡ before ++ entry_for number (issue_at (origin_in ledger note) ask.edge edge note)
      → before ++ noted_entries number ledger edges (drop i asks) (drop i notes) ≡ all
      → now ++ noted_entries (next + 1) ledger edges (drop (i + 1) asks) (drop (i + 1) notes) ≡ all
  entries_next before now all ledger number next same grown so =
      ap (λ n. now ++ noted_entries (n + 1) ledger edges (drop (i + 1) asks) (drop (i + 1) notes)) same
      ∙ entries_step before now all ledger number grown so

  pub reports_step : (before now all : List AskReport) (ledger : List Issue)
      → now ≡ before ++ report_at (origin_in ledger note) ask.edge note ∷ []
      → before ++ noted_reports ledger (drop i asks) (drop i notes) ≡ all
      → now ++ noted_reports ledger (drop (i + 1) asks) (drop (i + 1) notes) ≡ all
  reports_step before now all ledger grown so =
      let rest = noted_reports ledger (drop (i + 1) asks) (drop (i + 1) notes) in
      ap (λ reports. reports ++ rest) grown
      ∙ (append_assoc before (report_at (origin_in ledger note) ask.edge note ∷ []) rest
      ∙ (ap (λ asked. before ++ noted_reports ledger asked (note ∷ drop (i + 1) notes)) (sym (drop_next asks i ask here.asks_below here.ask_is))
      ∙ (ap (λ ns. before ++ noted_reports ledger (drop i asks) ns) (sym (drop_next notes i note here.notes_below here.note_is)) ∙ so)))

  pub issued_step : (before now all : List (Option (List ℕ))) → now ≡ before ++ note.issued ∷ []
      → before ++ map (λ note. note.issued) (drop i notes) ≡ all
      → now ++ map (λ note. note.issued) (drop (i + 1) notes) ≡ all
  issued_step before now all grown so =
      let rest = map (λ (note : Note). note.issued) (drop (i + 1) notes) in
      ap (λ issued. issued ++ rest) grown
      ∙ (append_assoc before (note.issued ∷ []) rest
      ∙ (ap (λ ns. before ++ map (λ (note : Note). note.issued) ns) (sym (drop_next notes i note here.notes_below here.note_is)) ∙ so))

-- an ask of a round is of one of the edges
pub asked_within : (edges : List ConfValue) (asks : List LabAsk) (i : ℕ) (ask : LabAsk) → All (IsAsk edges) asks
    → i < length asks → ask ≡ slice_index_or asks i ask → ask.edge < length edges
asked_within edges asks i ask all below is = (subst (IsAsk edges) (sym is) (all i ask below)).edge

-- the front of a ledger that grows
pub front_stays : (known : ℕ) (before now more : List Entry) (ledger : List Issue) → known ≤ length before
    → now ≡ before ++ more → take known (ledger_of before) ≡ ledger → take known (ledger_of now) ≡ ledger
front_stays known before now more ledger below grown is =
    ap (λ entries. take known (ledger_of entries)) grown
    ∙ (ap (take known) (map-append (λ (entry : Entry). entry.issue) before more)
    ∙ (take-append-le known (ledger_of before) (ledger_of more) (let l = ledger_long before in omega (arith, below, l)) ∙ is))
  where
    ledger_long : (entries : List Entry) → length (ledger_of entries) ≡ length entries
    ledger_long [] = refl
    ledger_long (entry ∷ entries) = ap suc (ledger_long entries)
