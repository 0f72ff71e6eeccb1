-- The text of a run has the line of each ask at its place.
use Rattle.std.proofs.Common.{◌≡◌, ℕ, zero, suc, ◌+◌, true, List, [], ◌∷◌, ◌++◌, Option, Some, refl, sym, ap, ◌∙◌, subst, arith, append_assoc}
use Rattle.std.specs.Prelude.{All}
use Rattle.std.specs.List.{slice_get}
use Rattle.std.proofs.lemmas.List.Elements.{All-head, All-tail}
use Rattle.std.specs.Fmt.{decimal}
use Rattle.usp_base.specs.Lines.{lines_of}
use Rattle.usp_conf.specs.Values.{ConfValue, IsConf}
use Rattle.usp_edge.specs.declared.note.Verdict.{Verdict}
use Rattle.usp_edge.specs.declared.note.Verdict.TheVariants.{Admitted, Denied}
use Rattle.usp_jws.specs.Letters.{is_identity}
use Rattle.usp_script.specs.Reading.{label_text}
use Rattle.usp_script.specs.Script.{IsScript, ScriptValue}
use Rattle.usp_lab.proofs.Cuts.{Each, each_both, first_is, is_clear}
use Rattle.usp_lab.proofs.Letters.{decimal_clear, identity_is_clear, label_clear, turn_clear, verdict_clear, window_clear}
use Rattle.usp_lab.proofs.Lists.{same_some}
use Rattle.usp_lab.proofs.Told.{OfEach}
use Rattle.usp_lab.proofs.Tracing.{each_told}
use Rattle.usp_lab.specs.Entries.{Entry, Run, Runs, served_in}
use Rattle.usp_lab.specs.LabText.{AreLinks, IsLabText, IsLink, ShowsAsk, ShowsAsks, ShowsChain, ShowsOrigin, another, before, edge_lines, last, nothing, origin_of, traced, turn_text, untraced, verdict_text, window_text}
use Rattle.usp_lab.specs.Rounds.{Served}

-- ---- the bytes of a line

link_clear : (entries : List Entry) (place : ℕ) (text : List ℕ) → IsLink entries place text → Each is_clear text
link_clear entries place text link =
    subst (Each is_clear) (sym link.is)
    (each_both is_clear (label_text link.entry.label) (window_text link.members) (label_clear link.entry.label) (window_clear link.members))

links_clear : (entries : List Entry) (places text : List ℕ) → AreLinks entries places text → Each is_clear text
links_clear entries _ _ (last place text link) = link_clear entries place text link
links_clear entries _ _ (before place next places link links text shown behind is) =
    subst (Each is_clear) (sym is)
    (each_both is_clear link (62 ∷ links) (link_clear entries place link shown) (links_clear entries (next ∷ places) links behind))

chain_clear : (entries : List Entry) (o : Option ℕ) (text : List ℕ) → ShowsChain entries o text → Each is_clear text
chain_clear entries _ _ (untraced text is) = subst (Each is_clear) (sym is) refl
chain_clear entries _ _ (traced place places links text chain shown is) =
    subst (Each is_clear) (sym is) (links_clear entries places links shown)

origin_clear : (run : Run) (served : Served) (verdict : Verdict) (text : List ℕ) → ShowsOrigin run served verdict text → Each is_clear text
origin_clear run served Admitted text shows = chain_clear run.entries (origin_of run served) text shows
origin_clear run served (Denied rule) text is = subst (Each is_clear) (sym is) refl

-- ---- one line

-- the line without its end
abbrev front_of : (number : ℕ) → Served → (origin : List ℕ) → List ℕ
front_of number served origin =
    decimal number ++ (32 ∷ (served.edge.edge
    ++ (verdict_text served.note.status served.note.verdict ++ (turn_text served.note.call ++ origin))))

end_apart : (a b v t o : List ℕ) → a ++ (32 ∷ (b ++ (v ++ (t ++ (o ++ 10 ∷ []))))) ≡ (a ++ (32 ∷ (b ++ (v ++ (t ++ o))))) ++ 10 ∷ []
end_apart a b v t o =
    sym (append_assoc a (32 ∷ (b ++ (v ++ (t ++ o)))) (10 ∷ [])
    ∙ ap (λ (l : List ℕ). a ++ (32 ∷ l)) (append_assoc b (v ++ (t ++ o)) (10 ∷ [])
    ∙ ap (λ (l : List ℕ). b ++ l) (append_assoc v (t ++ o) (10 ∷ [])
    ∙ ap (λ (l : List ℕ). v ++ l) (append_assoc t o (10 ∷ [])))))

front_is : (run : Run) (number : ℕ) (served : Served) (line : List ℕ) (shows : ShowsAsk run number served line)
    → line ≡ front_of number served shows.origin ++ 10 ∷ []
front_is run number served line shows =
    shows.is ∙ end_apart (decimal number) served.edge.edge (verdict_text served.note.status served.note.verdict)
    (turn_text served.note.call) shows.origin

front_clear : (run : Run) (number : ℕ) (served : Served) (origin : List ℕ) → is_identity served.edge.edge ≡ true
    → ShowsOrigin run served served.note.verdict origin → Each is_clear (front_of number served origin)
front_clear run number served origin named shows =
    let edge = served.edge.edge in
    let verdict = verdict_text served.note.status served.note.verdict in
    let turn = turn_text served.note.call in
    each_both is_clear (decimal number) (32 ∷ (edge ++ (verdict ++ (turn ++ origin)))) (decimal_clear number)
    (each_both is_clear edge (verdict ++ (turn ++ origin)) (identity_is_clear edge named)
    (each_both is_clear verdict (turn ++ origin) (verdict_clear served.note.status served.note.verdict)
    (each_both is_clear turn origin (turn_clear served.note.call)
    (origin_clear run served served.note.verdict origin shows))))

-- ---- all lines

-- the line at a place shows the ask of that number
record TellsAt (run : Run) (number place : ℕ) (served : Served) (text : List ℕ) : Type 0 where
  told : List ℕ
  at : slice_get (lines_of text) place ≡ Some told
  shows : ShowsAsk run number served (told ++ 10 ∷ [])

abbrev IsNamed : Served → Type 0
IsNamed served = is_identity served.edge.edge ≡ true

module _ (run : Run) where
  cut_first : (number : ℕ) (served : Served) (line lines text rest : List ℕ) → IsNamed served → (shows : ShowsAsk run number served line) → text ≡ line ++ lines
      → lines_of (text ++ rest) ≡ front_of number served shows.origin ∷ lines_of (lines ++ rest)
  cut_first number served line lines text rest named shows is =
      let front = front_of number served shows.origin in
      ap (λ (l : List ℕ). lines_of (l ++ rest)) (is ∙ ap (λ (l : List ℕ). l ++ lines) (front_is run number served line shows))
      ∙ (ap lines_of (append_assoc (front ++ 10 ∷ []) lines rest ∙ append_assoc front (10 ∷ []) (lines ++ rest))
      ∙ first_is front (lines ++ rest) (front_clear run number served shows.origin named shows.shows))

  told_at : (number : ℕ) (all : List Served) (text rest : List ℕ) → ShowsAsks run number all text → OfEach IsNamed all
      → (k : ℕ) (served : Served) → slice_get all k ≡ Some served → TellsAt run (number + k) k served (text ++ rest)
  told_at _ _ _ rest (nothing number text is) named k served e = cc
  told_at _ _ _ rest (another number first all line lines text shows more is) named zero served e =
      let front = front_of number first shows.origin in
      let own : ShowsAsk run number first (front ++ 10 ∷ []) = subst (ShowsAsk run number first) (front_is run number first line shows) shows in
      let at : number ≡ number + 0 = omega arith in
      record {
        told = front;
        at = ap (λ (l : List (List ℕ)). slice_get l 0) (cut_first number first line lines text rest (named 0 first refl) shows is);
        shows = subst (λ n. ShowsAsk run n served (front ++ 10 ∷ [])) at (subst (λ (s : Served). ShowsAsk run number s (front ++ 10 ∷ [])) (same_some first served e) own);
      }
  told_at _ _ _ rest (another number first all line lines text shows more is) named (suc k) served e =
      let h = told_at (number + 1) all lines rest more (λ i s at. named (suc i) s at) k served e in
      let at : (number + 1) + k ≡ number + suc k = omega arith in
      record {
        told = h.told;
        at = ap (λ (l : List (List ℕ)). slice_get l (suc k)) (cut_first number first line lines text rest (named 0 first refl) shows is) ∙ h.at;
        shows = subst (λ n. ShowsAsk run n served (h.told ++ 10 ∷ [])) at h.shows;
      }

-- ---- of a script

conf_at : (edges : List ConfValue) (place : ℕ) (edge : ConfValue) → All IsConf edges → slice_get edges place ≡ Some edge → IsConf edge
conf_at [] place edge all e = cc
conf_at (first ∷ edges) zero edge all e = subst IsConf (same_some first edge e) (All-head IsConf first edges all)
conf_at (first ∷ edges) (suc place) edge all e = conf_at edges place edge (All-tail IsConf first edges all) e

pub has_line : (script : ScriptValue) (run : Run) (text : List ℕ) → IsScript script → Runs script run → IsLabText script.edges run text
    → (number : ℕ) (served : Served) → slice_get (served_in run) number ≡ Some served
    → (told : List ℕ) × (slice_get (lines_of text) number ≡ Some told) × ShowsAsk run (number + 1) served (told ++ 10 ∷ [])
has_line script run text is_script run_is shown number served e =
    let named : OfEach IsNamed (served_in run) = λ k s at.
    (conf_at script.edges s.ask.edge s.edge is_script.confs (each_told script run is_script run_is k s at).at).edge in
    let h = told_at run 1 (served_in run) shown.asks (edge_lines run 0 script.edges) shown.shows named number served e in
    let at : 1 + number ≡ number + 1 = omega arith in (
      h.told,
      subst (λ (t : List ℕ). slice_get (lines_of t) number ≡ Some h.told) (sym shown.is) h.at,
      subst (λ n. ShowsAsk run n served (h.told ++ 10 ∷ [])) at h.shows,
    )
