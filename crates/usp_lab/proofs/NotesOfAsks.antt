-- The note of an ask is of what was asked.
use Rattle.std.proofs.Common.{◌≡◌, ℕ, ◌<◌, Bool, true, false, List, [], ◌∷◌, ◌++◌, length, codes, append_assoc, append-nil, Option, Some, None, IfSome, Ok, refl, sym, ap, ◌∙◌, subst, arith}
use Rattle.std.specs.Result.{result_ok}
use Rattle.usp_conf.specs.Values.{ConfValue}
use Rattle.usp_edge.specs.Asks.{ask_of, brought, cookie_in}
use Rattle.usp_edge.specs.Outcomes.{Outcome}
use Rattle.usp_edge.specs.Session.{Progress}
use Rattle.usp_edge.specs.Work.{Work, Works, body, note_of, other_method, request, work_of}
use Rattle.usp_edge.specs.declared.end.End.TheVariants as ending
use Rattle.usp_edge.specs.declared.note.Note.{Note}
use Rattle.usp_http.specs.Finding.{IsHead, Stop, broken, over}
use Rattle.usp_http.specs.declared.head.Head.{Head}
use Rattle.usp_http.specs.declared.head.Method.TheVariants.{Get, Other}
use Rattle.usp_package.proofs.EmbedLaws.{embedded_again}
use Rattle.usp_package.specs.Name.{is_attr_name}
use Rattle.usp_package.specs.Package.{Package, embedded, nothing, package_of}
use Rattle.usp_rules.specs.Asks.{content_in, token_in}
use Rattle.usp_script.specs.Script.{ScriptValue, attribute_of}
use Rattle.usp_script.specs.declared.ask.Carried.{Carried}
use Rattle.usp_script.specs.declared.ask.Carried.TheVariants.{InCookie, InQuery, Nothing}
use Rattle.usp_script.specs.declared.ask.LabAsk.{LabAsk}
use Rattle.usp_uri.proofs.ComponentLaws.{IsApart-from_uri, both}
use Rattle.usp_uri.proofs.GrammarLemmas.{until-front}
use Rattle.usp_uri.specs.Components.{after_authority, authority_in, authority_of, query_in, scheme_in}
use Rattle.usp_uri.specs.Delimited.{with_mark}
use Rattle.usp_uri.specs.Faults.{normal_of}
use Rattle.usp_uri.specs.Grammar.{are_pchars_or, is_path}
use Rattle.usp_uri.specs.Letters.{is_colon, is_slash}
use Rattle.usp_uri.specs.Origin.{origin_text, request_text}
use Rattle.usp_lab.proofs.CookieRead.{cookie_read}
use Rattle.usp_lab.proofs.Honest.{served_moment}
use Rattle.usp_lab.proofs.OneRequest.{IsLone, once}
use Rattle.usp_lab.proofs.Targets.{after_more, authority_parts, has_parts, target_parts, text_more}
use Rattle.usp_lab.proofs.WholeHead.{asked_begins, whole_head}
use Rattle.usp_lab.specs.LabHead.{IsBorne, asked_uri, cookie_pair, cookies_of, lab_head, lab_parts}
use Rattle.usp_lab.specs.Noted.{IsOfAsk, IsPlain, NotesAsk}
use Rattle.usp_lab.specs.Rounds.{IsServed, Served}
use Rattle.usp_lab.specs.Tokens.{carried_token}

not_broken : over ≡ broken → ⊥
not_broken e = absurd (cc)

no_body : false ≡ true → ⊥
no_body e = absurd (cc)

no_other : Get ≡ Other → ⊥
no_other e = absurd (cc)

same_note : (a b : Note) → a ∷ [] ≡ b ∷ [] → a ≡ b
same_note a b e = cc

-- a note of the request with this head
record IsOfHead (conf : ConfValue) (head : Head) (note : Note) : Type 0 where
  moment : ℕ
  uri : note.uri ≡ (ask_of conf head moment).uri
  token : note.token ≡ brought conf (ask_of conf head moment)

note_by : (conf : ConfValue) (head : Head) (work : Work) (note : Note) → head.body ≡ false → head.method ≡ Get → Works conf false head work → work.notes ≡ note ∷ [] → IsOfHead conf head note
note_by conf head work note bare get (body announced is) noted = absurd (no_body (sym bare ∙ announced))
note_by conf head work note bare get (other_method unannounced other is) noted = absurd (no_other (sym get ∙ other))
note_by conf head work note bare get (request unannounced method moment outcome decides is) noted =
    let same : note_of conf (ask_of conf head moment) outcome ≡ note = same_note _ note (ap (λ (w : Work). w.notes) (sym is) ∙ noted) in
    record { moment = moment; uri = ap (λ (n : Note). n.uri) (sym same); token = ap (λ (n : Note). n.token) (sym same) }

pub notes_ask : (script : ScriptValue) (issued : List (Option (List ℕ))) (known : ℕ) (ask : LabAsk) (served : Served) → IsServed script issued known ask served
    → IsHead (lab_parts served.edge ask (carried_token script issued ask.carried)) (lab_head served.edge ask (carried_token script issued ask.carried)) []
    → NotesAsk served.edge ask (carried_token script issued ask.carried) served.note
notes_ask script issued known ask served s whole =
    let token = carried_token script issued ask.carried in
    let head = lab_parts served.edge ask token in
    let bytes = lab_head served.edge ask token in
    let lone : IsLone head (bytes ++ []) = record { is = subst (λ (b : List ℕ). IsHead head b []) (sym (append-nil bytes)) whole; goes = refl; bare = refl } in
    let one = once served.edge head bytes [] over s.progress ending.Closed lone (λ at. refl) not_broken s.session in
    let noted : one.work.notes ≡ served.note ∷ [] = ap (λ (p : Progress). p.notes) (sym one.is) ∙ s.notes in
    let of = note_by served.edge head one.work served.note refl refl one.works noted in
    record {
      uri = of.uri;
      token = of.token ∙ ap (λ (u : List ℕ). brought served.edge (record { uri = u; cookie = (ask_of served.edge head of.moment).cookie; moment = of.moment })) (sym of.uri);
      moment = served_moment script issued known ask served s;
    }

-- ---- an ask of a plain URI

-- the text of a URI with a path and more behind it
rooted_text : (scheme host path rest : List ℕ) → is_path path ≡ true → 0 < length path → request_text scheme host (path ++ rest) ≡ origin_text scheme host ++ (path ++ rest)
rooted_text scheme host [] rest is some = absurd (omega (arith, some))
rooted_text scheme host (c ∷ path) rest is some = rw (both (is_slash c) (are_pchars_or (codes "/") path) is).0 refl

-- it is made of its parts again
request_again : (scheme uri more : List ℕ) → normal_of uri ≡ Ok uri → scheme ≡ scheme_in uri → request_text scheme (authority_in uri) (after_authority (uri ++ more)) ≡ uri ++ more
request_again scheme uri more normal same =
    let of = has_parts uri normal in
    let p = of.parts in
    let host = authority_parts uri of in
    let own : scheme ≡ p.scheme = same ∙ (ap scheme_in of.whole ∙ until-front is_colon p.scheme _ (IsApart-from_uri p of.is).scheme refl) in
    let target : after_authority (uri ++ more) ≡ p.path ++ (with_mark 63 p.query ++ more)
    = after_more uri more of ∙ (ap (λ (t : List ℕ). t ++ more) (target_parts uri of) ∙ append_assoc p.path (with_mark 63 p.query) more) in
    ap (request_text scheme (authority_in uri)) target
    ∙ (rooted_text scheme (authority_in uri) p.path (with_mark 63 p.query ++ more) of.is.path of.some
    ∙ ((λ i. origin_text (own i) (host i) ++ (p.path ++ (with_mark 63 p.query ++ more)))
    ∙ (append_assoc p.scheme (codes "://" ++ authority_of p) (p.path ++ (with_mark 63 p.query ++ more))
    ∙ (ap (λ (t : List ℕ). p.scheme ++ (codes "://" ++ (authority_of p ++ t))) (sym (append_assoc p.path (with_mark 63 p.query) more))
    ∙ (sym (text_more p more) ∙ ap (λ (t : List ℕ). t ++ more) (sym of.whole))))))

module _ (name uri : List ℕ) (attribute : is_attr_name name ≡ true) (normal : normal_of uri ≡ Ok uri) (bare : package_of name uri ≡ nothing) where
  -- what the ask carries
  abbrev borne_by : Carried → Option (List ℕ) → Option (List ℕ)
  borne_by Nothing token = None
  borne_by (InQuery label) token = token
  borne_by (InCookie label) token = token

  token_back : (carried : Carried) (token : Option (List ℕ)) → IfSome token IsBorne
      → token_in (package_of name (asked_uri name uri carried token)) (cookie_in name (cookies_of name carried token)) ≡ borne_by carried token
  token_back Nothing token borne = ap (λ (p : Package). token_in p None) bare
  token_back (InQuery label) None borne = ap (λ (p : Package). token_in p None) bare
  token_back (InQuery label) (Some token) borne =
      ap (λ (p : Package). token_in p None) (embedded_again name uri token attribute normal borne.letters bare (embedded name uri (query_in uri) token) refl)
  token_back (InCookie label) None borne = ap (λ (p : Package). token_in p None) bare
  token_back (InCookie label) (Some token) borne =
      ap (λ (p : Package). token_in p (cookie_in name (cookie_pair name token ∷ []))) bare ∙ cookie_read name token attribute borne

  content_bare : content_in uri (package_of name uri) ≡ Some uri
  content_bare = ap (λ (p : Package). content_in uri p) bare ∙ ap result_ok normal

  content_back : (carried : Carried) (token : Option (List ℕ)) → IfSome token IsBorne
      → content_in (asked_uri name uri carried token) (package_of name (asked_uri name uri carried token)) ≡ Some uri
  content_back Nothing token borne = content_bare
  content_back (InQuery label) None borne = content_bare
  content_back (InQuery label) (Some token) borne =
      let asked = embedded name uri (query_in uri) token in
      ap (λ (p : Package). content_in asked p) (embedded_again name uri token attribute normal borne.letters bare asked refl)
      ∙ (ap (λ (t : List ℕ). result_ok (normal_of t)) (append-nil uri) ∙ ap result_ok normal)
  content_back (InCookie label) None borne = content_bare
  content_back (InCookie label) (Some token) borne = content_bare

carries_own : (script : ScriptValue) (issued : List (Option (List ℕ))) (name uri : List ℕ) (attribute : is_attr_name name ≡ true) (normal : normal_of uri ≡ Ok uri)
    (bare : package_of name uri ≡ nothing) (carried : Carried) → borne_by name uri attribute normal bare carried (carried_token script issued carried) ≡ carried_token script issued carried
carries_own script issued name uri attribute normal bare Nothing = refl
carries_own script issued name uri attribute normal bare (InQuery label) = refl
carries_own script issued name uri attribute normal bare (InCookie label) = refl

-- the note of such an ask is of the ask itself
pub notes_plain : (script : ScriptValue) (issued : List (Option (List ℕ))) (known : ℕ) (ask : LabAsk) (served : Served) → IsServed script issued known ask served
    → IsPlain served.edge ask (carried_token script issued ask.carried) → IsOfAsk served.edge ask (carried_token script issued ask.carried) served.note
notes_plain script issued known ask served s plain =
    let name = attribute_of served.edge in
    let token = carried_token script issued ask.carried in
    let asked = asked_uri name ask.uri ask.carried token in
    let n = notes_ask script issued known ask served s (whole_head served.edge ask token plain.attribute plain.normal plain.borne) in
    let begins = asked_begins name ask.uri ask.carried token in
    let uri : served.note.uri ≡ asked
    = n.uri ∙ (ap (λ (u : List ℕ). request_text served.edge.scheme (authority_in ask.uri) (after_authority u)) begins.1
    ∙ (request_again served.edge.scheme ask.uri begins.0 plain.normal plain.scheme ∙ sym begins.1)) in
    record {
      uri = uri;
      content = ap (λ (u : List ℕ). content_in u (package_of name u)) uri ∙ content_back name ask.uri plain.attribute plain.normal plain.bare ask.carried token plain.borne;
      token = n.token
          ∙ (ap (λ (u : List ℕ). token_in (package_of name u) (cookie_in name (cookies_of name ask.carried token))) uri
          ∙ (token_back name ask.uri plain.attribute plain.normal plain.bare ask.carried token plain.borne
          ∙ carries_own script issued name ask.uri plain.attribute plain.normal plain.bare ask.carried));
    }
