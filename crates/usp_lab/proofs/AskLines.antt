-- Lines that a text tells, one after the other.
use Rattle.std.proofs.Common.{◌≡◌, ℕ, ◌+◌, ◌<◌, List, [], ◌∷◌, ◌++◌, length, take, Some, get_or, refl, sym, ap, ◌∙◌, subst, arith, append_assoc, append-nil}
use Rattle.std.specs.List.{slice_get}
use Rattle.std.proofs.lemmas.List.{length-take-le, take_more}
use Rattle.usp_base.specs.Lines.{line_feed}
use Rattle.usp_conf.specs.Values.{ConfValue}
use Rattle.usp_trace.specs.declared.issue.Issue.{Issue}
use Rattle.usp_lab.specs.Telling.{Grows, TellsAsk, TellsAsks, TellsOrigin, another, ask_front, nothing}
use Rattle.usp_lab.specs.declared.report.AskReport.{AskReport}
use Rattle.usp_lab.specs.declared.text.links.Link.{Link}

-- ---- one ask

-- the front of an ask's line, its chain, and the end of the line
line_told : (edges : List ConfValue) (ledger : List Issue) (links : List Link) (number : ℕ) (ask : AskReport) (edge : ConfValue) (old front chained : List ℕ)
    → slice_get edges ask.edge ≡ Some edge → front ≡ old ++ ask_front edge.edge number ask → Grows front chained (TellsOrigin ledger links ask.verdict ask.origin)
    → Grows old (chained ++ line_feed ∷ []) (TellsAsk edges ledger links number ask)
line_told edges ledger links number ask edge old front chained at is grows = record {
  more = ask_front edge.edge number ask ++ (grows.more ++ line_feed ∷ []);
  tells = record { edge = edge; at = at; origin = grows.more; tells = grows.tells; is = refl };
  is = ap (λ (text : List ℕ). text ++ line_feed ∷ []) (grows.is ∙ ap (λ (text : List ℕ). text ++ grows.more) is)
      ∙ (append_assoc (old ++ ask_front edge.edge number ask) grows.more (line_feed ∷ []) ∙ append_assoc old (ask_front edge.edge number ask) (grows.more ++ line_feed ∷ []));
}

pub ask_told : (edges : List ConfValue) (ledger : List Issue) (links : List Link) (number : ℕ) (ask : AskReport) (edge : ConfValue) (name old front chained new : List ℕ)
    → slice_get edges ask.edge ≡ Some edge → name ≡ edge.edge → front ≡ old ++ ask_front name number ask
    → Grows front chained (TellsOrigin ledger links ask.verdict ask.origin) → new ≡ chained ++ line_feed ∷ [] → Grows old new (TellsAsk edges ledger links number ask)
ask_told edges ledger links number ask edge name old front chained new at named is grows whole =
    let fronts : front ≡ old ++ ask_front edge.edge number ask = is ∙ ap (λ (n : List ℕ). old ++ ask_front n number ask) named in
    subst (λ (text : List ℕ). Grows old text (TellsAsk edges ledger links number ask)) (sym whole) (line_told edges ledger links number ask edge old front chained at fronts grows)

-- ---- asks

-- one ask more
more_told : (edges : List ConfValue) (ledger : List Issue) (links : List Link) (number last : ℕ) (asks : List AskReport) (ask : AskReport) (lines line : List ℕ)
    → TellsAsks edges ledger links number asks lines → last ≡ number + length asks → TellsAsk edges ledger links last ask line
    → TellsAsks edges ledger links number (asks ++ ask ∷ []) (lines ++ line)
more_told edges ledger links _ last _ ask _ line (nothing number text is) at tells =
    let first : last ≡ number = omega (arith, at) in
    another number ask [] line [] (text ++ line) (subst (λ (n : ℕ). TellsAsk edges ledger links n ask line) first tells) (nothing (number + 1) [] refl)
    (ap (λ (t : List ℕ). t ++ line) is ∙ sym (append-nil line))
more_told edges ledger links _ last _ ask _ line (another number first asks front lines text tells_first tells_rest is) at tells =
    let later : last ≡ (number + 1) + length asks = omega (arith, at) in
    another number first (asks ++ ask ∷ []) front (lines ++ line) (text ++ line) tells_first (more_told edges ledger links (number + 1) last asks ask lines line tells_rest later tells)
    (ap (λ (t : List ℕ). t ++ line) is ∙ append_assoc front lines line)

pub none_told : (edges : List ConfValue) (ledger : List Issue) (links : List Link) (text : List ℕ) → Grows text text (TellsAsks edges ledger links 1 [])
none_told edges ledger links text = record { more = []; tells = nothing 1 [] refl; is = sym (append-nil text) }

pub asks_told : (edges : List ConfValue) (ledger : List Issue) (links : List Link) (last : ℕ) (asks : List AskReport) (ask : AskReport) (old between new : List ℕ)
    → Grows old between (TellsAsks edges ledger links 1 asks) → last ≡ 1 + length asks → Grows between new (TellsAsk edges ledger links last ask)
    → Grows old new (TellsAsks edges ledger links 1 (asks ++ ask ∷ []))
asks_told edges ledger links last asks ask old between new before at one = record {
  more = before.more ++ one.more;
  tells = more_told edges ledger links 1 last asks ask before.more one.more before.tells at one.tells;
  is = one.is ∙ (ap (λ (t : List ℕ). t ++ one.more) before.is ∙ append_assoc old before.more one.more);
}

-- the ask behind the first so many
pub next_told : (edges : List ConfValue) (ledger : List Issue) (links : List Link) (asks : List AskReport) (place : ℕ) (other : AskReport) (old between new : List ℕ) → place < length asks
    → Grows old between (TellsAsks edges ledger links 1 (take place asks)) → Grows between new (TellsAsk edges ledger links (place + 1) (get_or asks place other))
    → Grows old new (TellsAsks edges ledger links 1 (take (place + 1) asks))
next_told edges ledger links asks place other old between new lt before one =
    subst (λ (l : List AskReport). Grows old new (TellsAsks edges ledger links 1 l)) (sym (take_more asks place other lt))
    (asks_told edges ledger links (place + 1) (take place asks) (get_or asks place other) old between new before (omega (arith, length-take-le place asks (omega arith))) one)
