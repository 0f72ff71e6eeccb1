-- What a lab prints of a generated script.
use Rattle.std.specs.Prelude.{ℕ, ◌+◌, not, List, [], ◌∷◌, ◌++◌, length, filter, codes}
use Rattle.std.specs.Fmt.{decimal}
use Rattle.usp_base.specs.Lines.{line_feed}
use Rattle.usp_lab.specs.Entries.{Run, served_in}
use Rattle.usp_lab.specs.LabText.{is_denial}
use Rattle.usp_lab.specs.Rounds.{Served, calls_at}
use Rattle.usp_lab.specs.declared.summary.Counts.{Counts}

abbrev pub denied_in : List Served → List Served
denied_in all = filter (λ served. is_denial served.note.verdict) all

abbrev pub admitted_in : List Served → List Served
admitted_in all = filter (λ served. not (is_denial served.note.verdict)) all

-- The numbers of groups, of asks, of those admitted and those denied, of nonce calls at both edges, and of tokens in
-- the ledger.
abbrev pub counts_of : (groups : ℕ) → Run → Counts
counts_of groups run =
    let all = served_in run in
    record {
      groups = groups;
      asks = length all;
      admitted = length (admitted_in all);
      denied = length (denied_in all);
      calls = length (calls_at 0 all) + length (calls_at 1 all);
      tokens = length run.entries;
    }

abbrev pub asks_text : Counts → List ℕ
asks_text counts =
    codes "groups " ++ (decimal counts.groups ++ (codes " asks " ++ (decimal counts.asks
    ++ (codes " admitted " ++ (decimal counts.admitted ++ (codes " denied " ++ decimal counts.denied))))))

abbrev pub tokens_text : Counts → List ℕ
tokens_text counts =
    codes " calls " ++ (decimal counts.calls ++ (codes " ledger " ++ (decimal counts.tokens ++ line_feed ∷ [])))

-- one line
abbrev pub counts_text : Counts → List ℕ
counts_text counts = asks_text counts ++ tokens_text counts

abbrev pub summary_text : (groups : ℕ) → Run → List ℕ
summary_text groups run = counts_text (counts_of groups run)
