-- What is counted of a report is what is counted of its run.
use Rattle.std.proofs.Common.{◌≡◌, ℕ, suc, ◌+◌, ◌<◌, Bool, true, false, not, cond, ◌||◌, List, [], ◌∷◌, length, map, refl, ap, ◌∙◌, arith}
use Rattle.std.specs.List.{filter, list_any, slice_index}
use Rattle.std.proofs.lemmas.List.{length-map}
use Rattle.std.proofs.lemmas.Option.{get_or_from_slice_get}
use Rattle.usp_lab.specs.Entries.{Entry, Run, served_in}
use Rattle.usp_lab.specs.LabText.{has_denial, is_denial}
use Rattle.usp_lab.specs.Reports.{IsReport, report_of}
use Rattle.usp_lab.specs.Rounds.{calls_at}
use Rattle.usp_lab.specs.Summary.{admitted_in, counts_of, denied_in}
use Rattle.usp_lab.specs.declared.report.AskReport.{AskReport}
use Rattle.usp_lab.specs.declared.report.Report.{Report}
use Rattle.usp_lab.specs.declared.summary.Counts.{Counts}

-- ---- lists

length_cond : {X Y : Type 0} (b : Bool) (x : X) (y : Y) (xs : List X) (ys : List Y) → length xs ≡ length ys → length (cond b (x ∷ xs) xs) ≡ length (cond b (y ∷ ys) ys)
length_cond true x y xs ys e = ap suc e
length_cond false x y xs ys e = e

length_filter_map : {X Y : Type 0} (p : Y → Bool) (f : X → Y) (xs : List X) → length (filter p (map f xs)) ≡ length (filter (λ x. p (f x)) xs)
length_filter_map p f [] = refl
length_filter_map p f (x ∷ xs) = length_cond (p (f x)) (f x) x (filter p (map f xs)) (filter (λ y. p (f y)) xs) (length_filter_map p f xs)

any_map : {X Y : Type 0} (p : Y → Bool) (f : X → Y) (xs : List X) → list_any p (map f xs) ≡ list_any (λ x. p (f x)) xs
any_map p f [] = refl
any_map p f (x ∷ xs) = ap (λ rest. p (f x) || rest) (any_map p f xs)

-- ---- reports

pub told_denial : (edges : ℕ) (run : Run) (report : Report) → IsReport edges run report → list_any (λ (ask : AskReport). is_denial ask.verdict) report.asks ≡ has_denial run
told_denial edges run report h =
    ap (list_any (λ (ask : AskReport). is_denial ask.verdict)) h.asks ∙ any_map (λ (ask : AskReport). is_denial ask.verdict) (report_of run) (served_in run)

pub told_asks : (edges : ℕ) (run : Run) (report : Report) → IsReport edges run report → length report.asks ≡ length (served_in run)
told_asks edges run report h = ap length h.asks ∙ length-map (served_in run) (report_of run)

pub told_admitted : (edges : ℕ) (run : Run) (report : Report) → IsReport edges run report
    → length (filter (λ (ask : AskReport). not (is_denial ask.verdict)) report.asks) ≡ length (admitted_in (served_in run))
told_admitted edges run report h =
    let test = λ (ask : AskReport). not (is_denial ask.verdict) in
    ap (λ asks. length (filter test asks)) h.asks ∙ length_filter_map test (report_of run) (served_in run)

pub told_denied : (edges : ℕ) (run : Run) (report : Report) → IsReport edges run report
    → length (filter (λ (ask : AskReport). is_denial ask.verdict) report.asks) ≡ length (denied_in (served_in run))
told_denied edges run report h =
    let test = λ (ask : AskReport). is_denial ask.verdict in
    ap (λ asks. length (filter test asks)) h.asks ∙ length_filter_map test (report_of run) (served_in run)

pub told_tokens : (edges : ℕ) (run : Run) (report : Report) → IsReport edges run report → length report.ledger ≡ length run.entries
told_tokens edges run report h = ap length h.ledger ∙ length-map run.entries (λ (entry : Entry). entry.issue)

pub told_calls : (edges : ℕ) (run : Run) (report : Report) (place : ℕ) → IsReport edges run report → place < edges → slice_index report.calls place ≡ length (calls_at place (served_in run))
told_calls edges run report place h lt = get_or_from_slice_get report.calls place _ 0 (h.calls place lt)

-- ---- the counts

abbrev counts : (groups asks admitted denied calls tokens : ℕ) → Counts
counts groups asks admitted denied calls tokens =
    record { groups = groups; asks = asks; admitted = admitted; denied = denied; calls = calls; tokens = tokens }

same_counts : (groups a b c d e v w x y z : ℕ) → a ≡ v → b ≡ w → c ≡ x → d ≡ y → e ≡ z → counts groups a b c d e ≡ counts groups v w x y z
same_counts groups a b c d e v w x y z p q r s t = cc

-- What is read off a report.
pub record IsReadOff (report : Report) (asks : List AskReport) (admitted denied first second tokens : ℕ) : Type 0 where
  pub rows : asks ≡ report.asks
  pub passed : admitted ≡ length (filter (λ (ask : AskReport). not (is_denial ask.verdict)) asks)
  pub refused : denied ≡ length (filter (λ (ask : AskReport). is_denial ask.verdict) asks)
  pub at_first : first ≡ slice_index report.calls 0
  pub at_second : second ≡ slice_index report.calls 1
  pub issued : tokens ≡ length report.ledger

pub told_counts : (groups : ℕ) (run : Run) (report : Report) (asks : List AskReport) (admitted denied first second tokens : ℕ) → IsReadOff report asks admitted denied first second tokens
    → IsReport 2 run report → counts groups (length asks) admitted denied (first + second) tokens ≡ counts_of groups run
told_counts groups run report asks admitted denied first second tokens off is =
    same_counts groups _ _ _ _ _ _ _ _ _ _ (ap length off.rows ∙ told_asks 2 run report is)
    (off.passed ∙ (ap (λ (l : List AskReport). length (filter (λ (ask : AskReport). not (is_denial ask.verdict)) l)) off.rows ∙ told_admitted 2 run report is))
    (off.refused ∙ (ap (λ (l : List AskReport). length (filter (λ (ask : AskReport). is_denial ask.verdict) l)) off.rows ∙ told_denied 2 run report is))
    (ap (λ (n : ℕ). n + second) (off.at_first ∙ told_calls 2 run report 0 is (omega arith)) ∙ ap (λ (n : ℕ). length (calls_at 0 (served_in run)) + n) (off.at_second ∙ told_calls 2 run report 1 is (omega arith)))
    (off.issued ∙ told_tokens 2 run report is)
