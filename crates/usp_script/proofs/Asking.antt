-- The lines of asks.
use Rattle.std.proofs.Common.{◌≡◌, ℕ, zero, suc, ◌-◌, ◌<◌, ◌≤◌, List, [], ◌∷◌, codes, Option, Some, None, IfSome, Ok, refl, sym, ap, ◌∙◌, subst, arith}
use Rattle.std.specs.Prelude.{slice_get}
use Rattle.std.specs.Result.{result_ok}
use Rattle.std.proofs.lemmas.Option.{slice_get_within}
use Rattle.usp_base.specs.Cuts.{cut_at}
use Rattle.usp_base.specs.Numbers.{number_of}
use Rattle.usp_base.specs.declared.limits.TheConstants.{MOMENT_BOUND}
use Rattle.usp_conf.specs.Values.{ConfValue}
use Rattle.usp_package.specs.Package.{nothing, package_of}
use Rattle.usp_uri.specs.Faults.{normal_of}
use Rattle.usp_script.proofs.Numerals.{spelled}
use Rattle.usp_script.proofs.Words.{fields_more, fields_step, same_cut, some_field}
use Rattle.usp_script.specs.Drafts.{Draft, rounds_of}
use Rattle.usp_script.specs.Reading.{AddsAsk, AreFields, Carries, IsLabel, edge_at, fields, in_cookie, in_query, space, without}
use Rattle.usp_script.specs.Script.{IsAsk, IsBare, asks_in, attribute_of}
use Rattle.usp_script.specs.declared.ask.Carried.{Carried}
use Rattle.usp_script.specs.declared.ask.Carried.TheVariants.{InCookie, InQuery, Nothing}
use Rattle.usp_script.specs.declared.ask.Label.{Label}
use Rattle.usp_script.specs.declared.ask.LabAsk.{LabAsk}
use Rattle.usp_script.specs.declared.limits.TheConstants.{MAX_ASKS}

-- ---- the last fields

one_word : (n : ℕ) (line t : List ℕ) → fields n line ≡ Some (t ∷ []) → line ≡ t
one_word zero line t e = cc
one_word (suc n) line t e = let s = fields_step n line t [] e in absurd (some_field n s.0 s.2)

two_words : (n : ℕ) (line w t : List ℕ) → fields n line ≡ Some (w ∷ t ∷ []) → cut_at space line ≡ Some (w, t)
two_words zero line w t e = absurd cc
two_words (suc n) line w t e =
    let s = fields_step n line w (t ∷ []) e in s.1 ∙ ap (λ (rest : List ℕ). Some (w, rest)) (one_word n s.0 t s.2)

-- what the last fields of an ask say of them
data Says (draft : Draft) (last : List ℕ) (carried : Carried) : Type 0 where
  is_none : last ≡ codes "none" → carried ≡ Nothing → Says draft last carried
  is_query : (text : List ℕ) (label : Label) → IsLabel draft text label → cut_at space last ≡ Some (codes "query", text) → carried ≡ InQuery label → Says draft last carried
  is_cookie : (text : List ℕ) (label : Label) → IsLabel draft text label → cut_at space last ≡ Some (codes "cookie", text) → carried ≡ InCookie label → Says draft last carried

says : (draft : Draft) (last : List ℕ) (count : ℕ) (words : List (List ℕ)) (carried : Carried) → fields count last ≡ Some words → Carries draft words carried → Says draft last carried
says draft last count words carried is (in_query text label w c l e same) =
    is_query text label l (two_words count last (codes "query") text (is ∙ ap (λ (ws : List (List ℕ)). Some ws) e)) same
says draft last count words carried is (in_cookie text label w c l e same) =
    is_cookie text label l (two_words count last (codes "cookie") text (is ∙ ap (λ (ws : List (List ℕ)). Some ws) e)) same
says draft last count words carried is (without w c e same) = is_none (one_word count last (codes "none") (is ∙ ap (λ (ws : List (List ℕ)). Some ws) e)) same

-- the last fields say nothing
abbrev pub SaysNothing : (draft : Draft) (last : List ℕ) → Type 0
SaysNothing draft last = (count : ℕ) (words : List (List ℕ)) (carried : Carried) → fields count last ≡ Some words → Carries draft words carried → ⊥

module _ (draft : Draft) (last : List ℕ) (other : last ≡ codes "none" → ⊥) where
  uncut_by : cut_at space last ≡ None → (carried : Carried) → Says draft last carried → ⊥
  uncut_by uncut carried (is_none is same) = other is
  uncut_by uncut carried (is_query text label l cut same) = let clash : ◌≡◌ {A = Option (List ℕ × List ℕ)} None (Some (codes "query", text)) = sym uncut ∙ cut in cc
  uncut_by uncut carried (is_cookie text label l cut same) = let clash : ◌≡◌ {A = Option (List ℕ × List ℕ)} None (Some (codes "cookie", text)) = sym uncut ∙ cut in cc

  pub says_nothing_uncut : cut_at space last ≡ None → SaysNothing draft last
  says_nothing_uncut uncut count words carried is c = uncut_by uncut carried (says draft last count words carried is c)

  unlabelled_by : (word text : List ℕ) → cut_at space last ≡ Some (word, text) → ((label : Label) → IsLabel draft text label → ⊥) → (carried : Carried) → Says draft last carried → ⊥
  unlabelled_by word text cut never carried (is_none is same) = other is
  unlabelled_by word text cut never carried (is_query t label l is same) =
      never label (subst (λ (t : List ℕ). IsLabel draft t label) (same_cut (codes "query") t word text (sym is ∙ cut)).1 l)
  unlabelled_by word text cut never carried (is_cookie t label l is same) =
      never label (subst (λ (t : List ℕ). IsLabel draft t label) (same_cut (codes "cookie") t word text (sym is ∙ cut)).1 l)

  pub says_nothing_unlabelled : (word text : List ℕ) → cut_at space last ≡ Some (word, text) → ((label : Label) → IsLabel draft text label → ⊥) → SaysNothing draft last
  says_nothing_unlabelled word text cut never count words carried is c = unlabelled_by word text cut never carried (says draft last count words carried is c)

  unworded_by : (word text : List ℕ) → cut_at space last ≡ Some (word, text) → (word ≡ codes "query" → ⊥) → (word ≡ codes "cookie" → ⊥) → (carried : Carried) → Says draft last carried → ⊥
  unworded_by word text cut q c carried (is_none is same) = other is
  unworded_by word text cut q c carried (is_query t label l is same) = q (same_cut word text (codes "query") t (sym cut ∙ is)).0
  unworded_by word text cut q c carried (is_cookie t label l is same) = c (same_cut word text (codes "cookie") t (sym cut ∙ is)).0

  pub says_nothing_unworded : (word text : List ℕ) → cut_at space last ≡ Some (word, text) → (word ≡ codes "query" → ⊥) → (word ≡ codes "cookie" → ⊥) → SaysNothing draft last
  says_nothing_unworded word text cut q k count words carried is c = unworded_by word text cut q k carried (says draft last count words carried is c)

-- what the last fields say
abbrev pub SaysIt : (draft : Draft) (last : List ℕ) (carried : Carried) → Type 0
SaysIt draft last carried = (count : ℕ) × (words : List (List ℕ)) × (fields count last ≡ Some words) × Carries draft words carried

pub says_none : (draft : Draft) (last : List ℕ) → last ≡ codes "none" → SaysIt draft last Nothing
says_none draft last is = (0, last ∷ [], refl, without (last ∷ []) Nothing (ap (λ (l : List ℕ). l ∷ []) is) refl)

pub says_query : (draft : Draft) (last word text : List ℕ) (label : Label) → cut_at space last ≡ Some (word, text) → word ≡ codes "query" → IsLabel draft text label → SaysIt draft last (InQuery label)
says_query draft last word text label cut is l =
    (1, word ∷ text ∷ [], fields_more 0 last word text (text ∷ []) cut refl, in_query text label (word ∷ text ∷ []) (InQuery label) l (ap (λ (w : List ℕ). w ∷ text ∷ []) is) refl)

pub says_cookie : (draft : Draft) (last word text : List ℕ) (label : Label) → cut_at space last ≡ Some (word, text) → word ≡ codes "cookie" → IsLabel draft text label → SaysIt draft last (InCookie label)
says_cookie draft last word text label cut is l =
    (1, word ∷ text ∷ [], fields_more 0 last word text (text ∷ []) cut refl, in_cookie text label (word ∷ text ∷ []) (InCookie label) l (ap (λ (w : List ℕ). w ∷ text ∷ []) is) refl)

-- ---- a URI that is bare for what the last fields say

abbrev BareBy : (attribute uri last : List ℕ) → Type 0
BareBy attribute uri last = (text : List ℕ) → cut_at space last ≡ Some (codes "query", text) → package_of attribute uri ≡ nothing

bare_if : (draft : Draft) (attribute uri last : List ℕ) (carried : Carried) → Says draft last carried → IsBare attribute uri carried → BareBy attribute uri last
bare_if draft attribute uri last carried (is_none is same) bare text cut =
    let e : ◌≡◌ {A = Option (List ℕ × List ℕ)} None (Some (codes "query", text)) = ap (cut_at space) (sym is) ∙ cut in absurd cc
bare_if draft attribute uri last carried (is_query t label l is same) bare text cut = subst (IsBare attribute uri) same bare
bare_if draft attribute uri last carried (is_cookie t label l is same) bare text cut =
    let e = (same_cut (codes "cookie") t (codes "query") text (sym is ∙ cut)).0 in absurd cc

bare_from : (draft : Draft) (attribute uri last : List ℕ) (carried : Carried) → Says draft last carried → BareBy attribute uri last → IsBare attribute uri carried
bare_from draft attribute uri last carried (is_none is same) by = subst (IsBare attribute uri) (sym same) tt
bare_from draft attribute uri last carried (is_query t label l is same) by = subst (IsBare attribute uri) (sym same) (by t is)
bare_from draft attribute uri last carried (is_cookie t label l is same) by = subst (IsBare attribute uri) (sym same) tt

-- ---- the first fields

front : (n : ℕ) (line w x : List ℕ) (ws : List (List ℕ)) → fields n line ≡ Some (w ∷ x ∷ ws)
    → (m : ℕ) × (rest : List ℕ) × (cut_at space line ≡ Some (w, rest)) × (fields m rest ≡ Some (x ∷ ws))
front zero line w x ws e = absurd cc
front (suc m) line w x ws e = let s = fields_step m line w (x ∷ ws) e in (m, s.0, s.1, s.2)

-- the line has four fields and a rest, of which these are the fields
record HasRest (line a b c d : List ℕ) (words : List (List ℕ)) : Type 0 where
  rest : List ℕ
  cut : fields 4 line ≡ Some (a ∷ b ∷ c ∷ d ∷ rest ∷ [])
  count : ℕ
  said : fields count rest ≡ Some words

has_rest : (line a b c d x : List ℕ) (ws : List (List ℕ)) → AreFields line (a ∷ b ∷ c ∷ d ∷ x ∷ ws) → HasRest line a b c d (x ∷ ws)
has_rest line a b c d x ws f =
    let s = front f.0 line a b (c ∷ d ∷ x ∷ ws) f.1 in
    let t = front s.0 s.1 b c (d ∷ x ∷ ws) s.3 in
    let u = front t.0 t.1 c d (x ∷ ws) t.3 in
    let v = front u.0 u.1 d x ws u.3 in
    record {
      rest = v.1;
      cut = fields_more 3 line a s.1 (b ∷ c ∷ d ∷ v.1 ∷ []) s.2 (fields_more 2 s.1 b t.1 (c ∷ d ∷ v.1 ∷ []) t.2 (fields_more 1 t.1 c u.1 (d ∷ v.1 ∷ []) u.2 (fields_more 0 u.1 d v.1 (v.1 ∷ []) v.2 refl)));
      count = v.0;
      said = v.3;
    }

some_words : (draft : Draft) (words : List (List ℕ)) (carried : Carried) → Carries draft words carried → (x : List ℕ) × (ws : List (List ℕ)) × (words ≡ x ∷ ws)
some_words draft words carried (in_query text label w c l e same) = (codes "query", text ∷ [], e)
some_words draft words carried (in_cookie text label w c l e same) = (codes "cookie", text ∷ [], e)
some_words draft words carried (without w c e same) = (codes "none", [], e)

adds_rest : (draft : Draft) (line : List ℕ) (ask : LabAsk) (a : AddsAsk draft line ask) → HasRest line (codes "ask") a.name a.moment a.typed a.words
adds_rest draft line ask a =
    let w = some_words draft a.words ask.carried a.carries in
    subst (λ (ws : List (List ℕ)). HasRest line (codes "ask") a.name a.moment a.typed ws) (sym w.2)
    (has_rest line (codes "ask") a.name a.moment a.typed w.0 w.1 (subst (λ (ws : List (List ℕ)). AreFields line (codes "ask" ∷ a.name ∷ a.moment ∷ a.typed ∷ ws)) w.2 a.fields))

-- these fields and what the rest says are the fields of the line
pub are_fields : (line a b c d rest : List ℕ) (words : List (List ℕ)) (count : ℕ) → fields 4 line ≡ Some (a ∷ b ∷ c ∷ d ∷ rest ∷ []) → fields count rest ≡ Some words
    → AreFields line (a ∷ b ∷ c ∷ d ∷ words)
are_fields line a b c d rest words count cut is =
    let s = fields_step 3 line a (b ∷ c ∷ d ∷ rest ∷ []) cut in
    let t = fields_step 2 s.0 b (c ∷ d ∷ rest ∷ []) s.2 in
    let u = fields_step 1 t.0 c (d ∷ rest ∷ []) t.2 in
    let v = fields_step 0 u.0 d (rest ∷ []) u.2 in
    let same : v.0 ≡ rest = one_word 0 v.0 rest v.2 in
    let here : fields count v.0 ≡ Some words = ap (fields count) same ∙ is in (
      suc (suc (suc (suc count))),
      fields_more (suc (suc (suc count))) line a s.0 (b ∷ c ∷ d ∷ words) s.1
          (fields_more (suc (suc count)) s.0 b t.0 (c ∷ d ∷ words) t.1 (fields_more (suc count) t.0 c u.0 (d ∷ words) u.1 (fields_more count u.0 d v.0 words v.1 here))),
    )

-- ---- asks that are refused

pub ask_too_many : (draft : Draft) (line : List ℕ) → MAX_ASKS ≤ asks_in (rounds_of draft) → (ask : LabAsk) → AddsAsk draft line ask → ⊥
ask_too_many draft line many ask a = omega (arith, many, a.few)

pub ask_of_no_form : (draft : Draft) (line : List ℕ) → ((a b c d : List ℕ) → fields 4 line ≡ Some (codes "ask" ∷ a ∷ b ∷ c ∷ d ∷ []) → ⊥) → (ask : LabAsk) → AddsAsk draft line ask → ⊥
ask_of_no_form draft line never ask a = let r = adds_rest draft line ask a in never a.name a.moment a.typed r.rest r.cut

record SameFields (draft : Draft) (line name moment typed last : List ℕ) (ask : LabAsk) (a : AddsAsk draft line ask) : Type 0 where
  name_is : a.name ≡ name
  moment_is : a.moment ≡ moment
  typed_is : a.typed ≡ typed
  count : ℕ
  words : fields count last ≡ Some a.words

module _ (draft : Draft) (line name moment typed last : List ℕ) (cut : fields 4 line ≡ Some (codes "ask" ∷ name ∷ moment ∷ typed ∷ last ∷ [])) where
  same_fields : (ask : LabAsk) (a : AddsAsk draft line ask) → SameFields draft line name moment typed last ask a
  same_fields ask a =
      let r = adds_rest draft line ask a in
      let e = sym r.cut ∙ cut in
      let same : r.rest ≡ last = cc in
      record { name_is = cc; moment_is = cc; typed_is = cc; count = r.count; words = subst (λ (l : List ℕ). fields r.count l ≡ Some a.words) same r.said }

  pub ask_of_no_edge : edge_at draft.edges name ≡ None → (ask : LabAsk) → AddsAsk draft line ask → ⊥
  ask_of_no_edge none ask a =
      let clash : ◌≡◌ {A = Option ℕ} None (Some ask.edge) = sym none ∙ (ap (edge_at draft.edges) (sym (same_fields ask a).name_is) ∙ a.at) in cc

  pub ask_at_no_moment : number_of (MOMENT_BOUND - 1) moment ≡ None → (ask : LabAsk) → AddsAsk draft line ask → ⊥
  ask_at_no_moment none ask a =
      let clash : ◌≡◌ {A = Option ℕ} None (Some ask.moment) = sym none ∙ (ap (number_of (MOMENT_BOUND - 1)) (sym (same_fields ask a).moment_is) ∙ a.when) in cc

  pub ask_with_nothing_said : SaysNothing draft last → (ask : LabAsk) → AddsAsk draft line ask → ⊥
  ask_with_nothing_said never ask a = let s = same_fields ask a in never s.count a.words ask.carried s.words a.carries

  pub ask_of_no_uri : result_ok (normal_of typed) ≡ None → (ask : LabAsk) → AddsAsk draft line ask → ⊥
  ask_of_no_uri none ask a =
      let there : result_ok (normal_of typed) ≡ Some ask.uri = ap (λ (u : List ℕ). result_ok (normal_of u)) (sym (same_fields ask a).typed_is) ∙ ap result_ok a.normal in
      let clash : ◌≡◌ {A = Option (List ℕ)} None (Some ask.uri) = sym none ∙ there in cc

  pub ask_not_bare : (place : ℕ) (edge : ConfValue) (uri : List ℕ) (carried : Carried) → edge_at draft.edges name ≡ Some place → slice_get draft.edges place ≡ Some edge
      → result_ok (normal_of typed) ≡ Some uri → SaysIt draft last carried → (IsBare (attribute_of edge) uri carried → ⊥) → (ask : LabAsk) → AddsAsk draft line ask → ⊥
  ask_not_bare place edge uri carried at is normal it never ask a =
      let s = same_fields ask a in
      let p : ◌≡◌ {A = Option ℕ} (Some ask.edge) (Some place) = sym a.at ∙ (ap (edge_at draft.edges) s.name_is ∙ at) in
      let place_is : ask.edge ≡ place = cc in
      let e : ◌≡◌ {A = Option ConfValue} (Some a.edge) (Some edge) = sym a.is ∙ (ap (slice_get draft.edges) place_is ∙ is) in
      let edge_is : a.edge ≡ edge = cc in
      let u : ◌≡◌ {A = Option (List ℕ)} (Some ask.uri) (Some uri) = sym (ap result_ok a.normal) ∙ (ap (λ (u : List ℕ). result_ok (normal_of u)) s.typed_is ∙ normal) in
      let uri_is : ask.uri ≡ uri = cc in
      let mine = says draft last it.0 it.1 carried it.2 it.3 in
      let other = says draft last s.count a.words ask.carried s.words a.carries in
      let by = bare_if draft (attribute_of a.edge) ask.uri last ask.carried other a.bare in
      let same_by : BareBy (attribute_of edge) uri last =
      subst (λ (u : List ℕ). BareBy (attribute_of edge) u last) uri_is (subst (λ (e : ConfValue). BareBy (attribute_of e) ask.uri last) edge_is by) in
      never (bare_from draft (attribute_of edge) uri last carried mine same_by)

-- ---- asks that are added

pub ask_of_parts : (draft : Draft) (line name moment typed last : List ℕ) (edge : ConfValue) (ask : LabAsk) → fields 4 line ≡ Some (codes "ask" ∷ name ∷ moment ∷ typed ∷ last ∷ [])
    → asks_in (rounds_of draft) < MAX_ASKS → edge_at draft.edges name ≡ Some ask.edge → slice_get draft.edges ask.edge ≡ Some edge → number_of (MOMENT_BOUND - 1) moment ≡ Some ask.moment
    → SaysIt draft last ask.carried → normal_of typed ≡ Ok ask.uri → IsBare (attribute_of edge) ask.uri ask.carried → AddsAsk draft line ask
ask_of_parts draft line name moment typed last edge ask cut few at is when it normal bare = record {
  name = name;
  moment = moment;
  typed = typed;
  words = it.1;
  edge = edge;
  fields = are_fields line (codes "ask") name moment typed last it.1 it.0 cut it.2;
  carries = it.3;
  at = at;
  is = is;
  when = when;
  normal = normal;
  bare = bare;
  few = few;
}

pub is_ask : (draft : Draft) (line : List ℕ) (ask : LabAsk) → AddsAsk draft line ask → IsAsk draft.edges ask
is_ask draft line ask a = record {
  edge = slice_get_within draft.edges ask.edge a.edge a.is;
  moment = let p = (spelled (MOMENT_BOUND - 1) a.moment ask.moment (omega arith) a.when).1 in omega arith;
  bare = subst (λ (o : Option ConfValue). IfSome o (λ edge. IsBare (attribute_of edge) ask.uri ask.carried)) (sym a.is) a.bare;
}
