-- What the text of a run shows of its asks.
use Rattle.std.proofs.Common.{◌≡◌, ℕ, ◌+◌, ◌-◌, List, ◌++◌, length, codes, drop, get_or, Option, Some, None, refl, sym, ap, ◌∙◌, subst, arith, append_assoc}
use Rattle.std.specs.Prelude.{◌↔◌}
use Rattle.std.specs.List.{slice_get}
use Rattle.std.specs.Option.{option_and_then}
use Rattle.usp_edge.specs.declared.note.Verdict.{Verdict}
use Rattle.usp_edge.specs.declared.note.Verdict.TheVariants.{Admitted, Denied}
use Rattle.usp_script.specs.Reading.{label_text}
use Rattle.usp_script.specs.declared.ask.Label.{Label}
use Rattle.usp_script.specs.declared.ask.Label.TheVariants.{Granted, Issued, Outside}
use Rattle.usp_trace.proofs.Chained.{one_chain}
use Rattle.usp_trace.proofs.Linked.{chain_last, chain_long}
use Rattle.usp_trace.proofs.Ordered.{first_has, issued_found}
use Rattle.usp_trace.proofs.Said.{begins_with_grant}
use Rattle.usp_trace.specs.Chains.{IsChain, IsIssued, first_place, token_at}
use Rattle.usp_trace.specs.declared.issue.Issue.{Issue}
use Rattle.usp_lab.proofs.Chains.{comes_from}
use Rattle.usp_lab.proofs.Lists.{same_some}
use Rattle.usp_lab.specs.Entries.{Entry, Run, ledger_of}
use Rattle.usp_lab.specs.LabText.{AreLinks, ShowsChain, ShowsOrigin, before, last, origin_of, traced, untraced, window_text}
use Rattle.usp_lab.specs.Provenance.{ledger_before}
use Rattle.usp_lab.specs.Rounds.{Served}
use Rattle.usp_lab.specs.Shown.{NamesChain}

-- ---- chains

last_place : (ledger : List Issue) (place : ℕ) (places : List ℕ) → IsChain ledger place places → slice_get places (length places - 1) ≡ Some place
last_place ledger place places h =
    let long = chain_long ledger place places h.token h.links h.chain in
    subst (λ n. slice_get places n ≡ Some place) (omega (arith, long)) (chain_last ledger place places h.token h.links h.chain)

names : (entries : List Entry) (place : ℕ) (token text : List ℕ) (o : Option ℕ) → token_at (ledger_of entries) place ≡ Some token → o ≡ Some place → ShowsChain entries o text → NamesChain entries place token text
names entries place token _ _ has e (untraced text is) = cc
names entries place token _ _ has e (traced at places links text chain shown is) =
    let ledger = ledger_of entries in
    let here : IsChain ledger place places = subst (λ n. IsChain ledger n places) (same_some at place e) chain in
    record {
      places = places;
      links = links;
      chain = here;
      one = λ others other. one_chain ledger place others places other.token here.token other.links here.links other.chain here.chain;
      shown = shown;
      is = is;
      grant = begins_with_grant ledger place places here;
      last = last_place ledger place places here;
      has = has;
    }

chain_by : (run : Run) (served : Served) (verdict : Verdict) (text : List ℕ) → verdict ≡ Admitted → ShowsOrigin run served verdict text → ShowsChain run.entries (origin_of run served) text
chain_by run served Admitted text is h = h
chain_by run served (Denied rule) text is h = cc

-- the line of an admitted ask names the chain of its token
pub names_chain : (run : Run) (served : Served) (place : ℕ) (token text : List ℕ) → served.note.verdict ≡ Admitted → served.note.token ≡ Some token → origin_of run served ≡ Some place
    → ShowsOrigin run served served.note.verdict text → NamesChain run.entries place token text
names_chain run served place token text admitted brought origin h =
    let comes = comes_from run served place origin in
    let same : comes.token ≡ token = same_some comes.token token (sym comes.brought ∙ brought) in
    names run.entries place token text (origin_of run served) (comes.at ∙ ap Some same) origin (chain_by run served served.note.verdict text admitted h)

untraced_by : (entries : List Entry) (text : List ℕ) (o : Option ℕ) → o ≡ None → ShowsChain entries o text → text ≡ codes " chain untraced"
untraced_by entries _ _ e (untraced text is) = is
untraced_by entries _ _ e (traced at places links text chain shown is) = cc

-- a label begins with another letter
other_letter : (label : Label) (text rest : List ℕ) → text ≡ label_text label ++ rest → text ≡ codes "untraced" → ⊥
other_letter (Granted number) text rest is e = let letter : 103 ≡ 117 = ap (λ (l : List ℕ). get_or l 0 0) (sym is ∙ e) in absurd (omega (arith, letter))
other_letter (Outside number) text rest is e = let letter : 120 ≡ 117 = ap (λ (l : List ℕ). get_or l 0 0) (sym is ∙ e) in absurd (omega (arith, letter))
other_letter (Issued number) text rest is e = let letter : 105 ≡ 117 = ap (λ (l : List ℕ). get_or l 0 0) (sym is ∙ e) in absurd (omega (arith, letter))

links_named : (entries : List Entry) (places text : List ℕ) → AreLinks entries places text → (label : Label) × (rest : List ℕ) × (text ≡ label_text label ++ rest)
links_named entries _ _ (last place text link) = (link.entry.label, window_text link.members, link.is)
links_named entries _ _ (before place next places link links text shown behind is) =
    let window = window_text shown.members in
    let rest = codes ">" ++ links in (
      shown.entry.label,
      window ++ rest,
      is ∙ (ap (λ (l : List ℕ). l ++ rest) shown.is ∙ append_assoc (label_text shown.entry.label) window rest),
    )

behind_word : (links : List ℕ) → codes " chain " ++ links ≡ codes " chain untraced" → links ≡ codes "untraced"
behind_word links e = ap (λ (l : List ℕ). drop 7 l) e

only_untraced : (entries : List Entry) (text : List ℕ) (o : Option ℕ) → text ≡ codes " chain untraced" → ShowsChain entries o text → o ≡ None
only_untraced entries _ _ e (untraced text is) = refl
only_untraced entries _ _ e (traced at places links text chain shown is) =
    let named = links_named entries places links shown in
    absurd (other_letter named.0 links named.1 named.2 (behind_word links (sym is ∙ e)))

pub says_untraced : (run : Run) (served : Served) (text : List ℕ) → served.note.verdict ≡ Admitted → ShowsOrigin run served served.note.verdict text
    → (text ≡ codes " chain untraced") ↔ (origin_of run served ≡ None)
says_untraced run served text admitted h =
    let shown = chain_by run served served.note.verdict text admitted h in
    (λ e. only_untraced run.entries text (origin_of run served) e shown, λ none. untraced_by run.entries text (origin_of run served) none shown)

-- ---- where a token was issued

none_found : (ledger : List Issue) (token : List ℕ) (o : Option ℕ) → first_place token ledger ≡ o → (IsIssued ledger token → ⊥) → o ≡ None
none_found ledger token None e never = refl
none_found ledger token (Some place) e never = absurd (never (place, first_has ledger token place e))

pub untraced_exactly : (run : Run) (served : Served) (token : List ℕ) → served.note.token ≡ Some token → (origin_of run served ≡ None) ↔ (IsIssued (ledger_before run served) token → ⊥)
untraced_exactly run served token brought =
    let before = ledger_before run served in
    let is : origin_of run served ≡ first_place token before = ap (λ (o : Option (List ℕ)). option_and_then (λ t. first_place t before) o) brought in (
      (λ none issued.
          let found = issued_found before token issued in
          let clash : Some found.0 ≡ None = sym found.1 ∙ (sym is ∙ none) in absurd (cc clash)),
      (λ never. is ∙ none_found before token (first_place token before) refl never),
    )
