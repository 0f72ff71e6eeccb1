-- What is noted of a served ask.
use Rattle.std.proofs.Common.{◌≡◌, ℕ, ◌<◌, ◌≤◌, All, List, [], ◌∷◌, ◌++◌, length, map, Option, Some, None, slice_get, option_to_list, sym, ap, ◌∙◌, subst, arith}
use Rattle.std.proofs.lemmas.List.{length-map}
use Rattle.std.proofs.lemmas.List.Elements.{All-get_or}
use Rattle.std.proofs.lemmas.Option.{get_or_from_slice_get, slice_get_within}
use Rattle.usp_base.specs.declared.limits.TheConstants.{MOMENT_BOUND}
use Rattle.usp_conf.specs.Values.{ConfValue}
use Rattle.usp_edge.proofs.Bounds.{claims_short}
use Rattle.usp_edge.proofs.Honesty.{session_honest}
use Rattle.usp_edge.proofs.Showing.{session_told}
use Rattle.usp_edge.specs.Calls.{turned_of}
use Rattle.usp_edge.specs.Honest.{AreHonest, AreMoments, AreShown, IsHonest, IsIssuedBy}
use Rattle.usp_edge.specs.declared.end.End.TheVariants.{Closed}
use Rattle.usp_edge.specs.declared.note.Note.{Note}
use Rattle.usp_http.specs.Finding.{over}
use Rattle.usp_issue.specs.Routes.{RouteValue}
use Rattle.usp_issue.specs.declared.limits.TheConstants.{MAX_TOKEN}
use Rattle.usp_json.specs.Canon.{canon_members}
use Rattle.usp_json.specs.declared.value.Members.{Members}
use Rattle.usp_jws.specs.Keys.{KeyValue}
use Rattle.usp_script.specs.Script.{ScriptValue}
use Rattle.usp_script.specs.declared.ask.LabAsk.{LabAsk}
use Rattle.usp_lab.proofs.ShortTokens.{renewed_short, resigned_short}
use Rattle.usp_lab.specs.LabHead.{lab_head}
use Rattle.usp_lab.specs.Named.{HasNamedKeys}
use Rattle.usp_lab.specs.Rounds.{IsServed, Served}
use Rattle.usp_lab.specs.Tokens.{carried_token}

-- The note of a served ask is honest.
pub served_honest : (script : ScriptValue) (issued : List (Option (List ℕ))) (known : ℕ) (ask : LabAsk) (served : Served)
    → IsServed script issued known ask served → IsHonest served.edge served.note
served_honest script issued known ask served is =
    (subst (AreHonest served.edge) is.notes
    (session_honest served.edge (lab_head served.edge ask (carried_token script issued ask.carried)) over is.progress Closed is.session)).0

-- It shows the calls.
pub served_shown : (script : ScriptValue) (issued : List (Option (List ℕ))) (known : ℕ) (ask : LabAsk) (served : Served)
    → IsServed script issued known ask served → AreShown served.calls (served.note ∷ [])
served_shown script issued known ask served is =
    let told = session_told served.edge (lab_head served.edge ask (carried_token script issued ask.carried)) over is.progress Closed is.session in
    ap (map turned_of) (sym is.calls) ∙ subst (AreShown is.progress.calls) is.notes told.0

-- Its moment is the ask's.
pub served_moment : (script : ScriptValue) (issued : List (Option (List ℕ))) (known : ℕ) (ask : LabAsk) (served : Served)
    → IsServed script issued known ask served → served.note.moment ≡ ask.moment
served_moment script issued known ask served is =
    let told = session_told served.edge (lab_head served.edge ask (carried_token script issued ask.carried)) over is.progress Closed is.session in
    one served.note.moment ask.moment (sym (subst (AreMoments is.progress.moments) is.notes told.1) ∙ is.moments)
  where
    one : (a b : ℕ) → a ∷ [] ≡ b ∷ [] → a ≡ b
    one a b e = cc

at_most_one : {X : Type 0} (o : Option X) → length (option_to_list o ++ []) ≤ 1
at_most_one None = omega arith
at_most_one (Some x) = omega arith

-- At most one call was made.
pub served_calls : (script : ScriptValue) (issued : List (Option (List ℕ))) (known : ℕ) (ask : LabAsk) (served : Served)
    → IsServed script issued known ask served → length served.calls ≤ 1
served_calls script issued known ask served is =
    omega (
      arith,
      ap length (served_shown script issued known ask served is),
      length-map served.calls turned_of,
      at_most_one served.note.call,
    )

-- ---- issued tokens

key_at : (ring : List KeyValue) (place : ℕ) (key : KeyValue) → All (λ key. length key.kid ≤ 64) ring → slice_get ring place ≡ Some key
    → length key.kid ≤ 64
key_at ring place key all at =
    subst (λ (k : KeyValue). length k.kid ≤ 64) (get_or_from_slice_get ring place key key at)
    (All-get_or (λ (k : KeyValue). length k.kid ≤ 64) ring place key (slice_get_within ring place key at) all)

route_at : (routes : List RouteValue) (place : ℕ) (route : RouteValue) → All (λ route. length route.key.kid ≤ 64) routes
    → slice_get routes place ≡ Some route → length route.key.kid ≤ 64
route_at routes place route all at =
    subst (λ (r : RouteValue). length r.key.kid ≤ 64) (get_or_from_slice_get routes place route route at)
    (All-get_or (λ (r : RouteValue). length r.key.kid ≤ 64) routes place route (slice_get_within routes place route at) all)

issued_by_short : (conf : ConfValue) (m : Members) (content : List ℕ) (moment : ℕ) (route : Option ℕ) (token : List ℕ) → HasNamedKeys conf
    → moment < MOMENT_BOUND → length (canon_members m) ≤ 5000 → IsIssuedBy conf m content moment route token → length token ≤ MAX_TOKEN
issued_by_short conf m content moment None token named early short (key, at, renewed) =
    renewed_short m content moment key token (key_at conf.site.profile.ring conf.site.sign key named.ring at) early short renewed
issued_by_short conf m content moment (Some place) token named early short (route, at, resigned) =
    resigned_short m content moment route token (route_at conf.site.routes place route named.routes at) early short resigned

-- What an edge issued is short enough to be carried.
pub issued_short : (conf : ConfValue) (note : Note) (token : List ℕ) → HasNamedKeys conf → note.moment < MOMENT_BOUND → IsHonest conf note
    → note.issued ≡ Some token → length token ≤ MAX_TOKEN
issued_short conf note token named early honest is =
    let issue = honest.issued token is in
    issued_by_short conf issue.admission.members issue.admission.content note.moment note.route token named early
    (claims_short issue.admission.token issue.admission.members issue.admission.claims) issue.issued
