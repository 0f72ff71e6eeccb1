use Rattle.std.proofs.Common.{◌≡◌, ◌<◌, ℕ, true, false, List, length, Some, None, refl, sym, ap, ◌∙◌, subst, arith}
use Rattle.std.specs.Prelude.{slice_get}
use Rattle.std.proofs.lemmas.Option.{slice_get_read}
use Rattle.usp_conf.specs.Values.{ConfValue}
use Rattle.usp_issue.specs.Sites.{SiteValue}
use Rattle.usp_rules.proofs.Readings.{ok_of}
use Rattle.usp_rules.specs.declared.profile.Profile.{Profile}
use Rattle.usp_uri.specs.Faults.{normal_of}
use Rattle.usp_script.specs.Reading.{edge_at}
use Rattle.usp_script.specs.Script.{IsBare, attribute_of}
use Rattle.usp_script.specs.declared.limits.TheConstants.{MAX_ASKS}
use Rattle.usp_script.proofs.Asking.{ask_at_no_moment, ask_not_bare, ask_of_no_edge, ask_of_no_form, ask_of_no_uri, ask_of_parts, ask_with_nothing_said}
use Rattle.usp_script.proofs.reading.ask.ask_in.Goals as goal

pub returns-in_default : goal.returns-in_default
returns-in_default c = ask_of_no_form c.args.draft.now c.args.line.now c.in_default.ensures.none

pub returns-in_default-edge_named : goal.returns-in_default-edge_named
returns-in_default-edge_named c =
    let none : edge_at c.args.draft.now.edges c.in-Some.name.now ≡ None =
    ap (λ (es : List ConfValue). edge_at es c.in-Some.name.now) (sym c.edges.ensures.edges) ∙ sym c.in_default-edge_named.ensures.value in
    ask_of_no_edge c.args.draft.now c.args.line.now c.in-Some.name.now c.in-Some.moment.now c.in-Some.typed.now c.in-Some.last.now c.in-Some.ensures.some none

pub returns-in_default-read_number : goal.returns-in_default-read_number
returns-in_default-read_number c =
    ask_at_no_moment c.args.draft.now c.args.line.now c.in-Some.name.now c.in-Some.moment.now c.in-Some.typed.now c.in-Some.last.now c.in-Some.ensures.some (sym c.in_default-read_number.ensures)

pub returns-in_default-carried_in : goal.returns-in_default-carried_in
returns-in_default-carried_in c =
    ask_with_nothing_said c.args.draft.now c.args.line.now c.in-Some.name.now c.in-Some.moment.now c.in-Some.typed.now c.in-Some.last.now c.in-Some.ensures.some c.in_default-carried_in.ensures

pub returns-in_default-2 : goal.returns-in_default-2
returns-in_default-2 c =
    ask_of_no_uri c.args.draft.now c.args.line.now c.in-Some.name.now c.in-Some.moment.now c.in-Some.typed.now c.in-Some.last.now c.in-Some.ensures.some (sym c.in_ok-uri.ensures ∙ c.in_default-2.is)

pub returns-then-not-is_bare : goal.returns-then-not-is_bare
returns-then-not-is_bare c =
    let place = c.in-Some-edge_named.edge in
    let edge = c.index-edges-edge.result in
    let at : edge_at c.args.draft.now.edges c.in-Some.name.now ≡ Some place =
    ap (λ (es : List ConfValue). edge_at es c.in-Some.name.now) (sym c.edges.ensures.edges) ∙ sym c.in-Some-edge_named.ensures.value in
    let within : place < length c.edges-2.result.now =
    omega (arith, c.in-Some-edge_named.ensures.within, ap length c.edges.ensures.edges, ap length c.edges-2.ensures.edges) in
    let is : slice_get c.args.draft.now.edges place ≡ Some edge =
    subst (λ (es : List ConfValue). slice_get es place ≡ Some edge) c.edges-2.ensures.edges
    (slice_get_read c.edges-2.result.now (length c.edges-2.result.now) place edge refl within c.index-edges-edge.is) in
    let same : c.profile.result.now.attribute ≡ attribute_of edge =
    ap (λ (p : Profile). p.attribute) (c.profile.ensures ∙ ap (λ (s : SiteValue). s.profile) c.site.ensures) in
    ask_not_bare c.args.draft.now c.args.line.now c.in-Some.name.now c.in-Some.moment.now c.in-Some.typed.now c.in-Some.last.now c.in-Some.ensures.some
    place edge c.in-Some-2.uri c.in-Some-carried_in.carried at is (sym c.in_ok-uri.ensures ∙ c.in-Some-2.is) c.in-Some-carried_in.ensures
    (λ bare.
    let there : c.is_bare.result ≡ true = c.is_bare.ensures.1 (subst (λ (a : List ℕ). IsBare a c.in-Some-2.uri c.in-Some-carried_in.carried) (sym same) bare) in
    let clash : true ≡ false = sym there ∙ c.if-not-is_bare.true in cc)

pub returns : goal.returns
returns c =
    let place = c.in-Some-edge_named.edge in
    let edge = c.index-edges-edge.result in
    let few = subst (λ (n : ℕ). n < MAX_ASKS) c.asked.ensures.asks c.if-asked-ge-MAX_ASKS.false in
    let at : edge_at c.args.draft.now.edges c.in-Some.name.now ≡ Some place =
    ap (λ (es : List ConfValue). edge_at es c.in-Some.name.now) (sym c.edges.ensures.edges) ∙ sym c.in-Some-edge_named.ensures.value in
    let within : place < length c.edges-2.result.now =
    omega (arith, c.in-Some-edge_named.ensures.within, ap length c.edges.ensures.edges, ap length c.edges-2.ensures.edges) in
    let is : slice_get c.args.draft.now.edges place ≡ Some edge =
    subst (λ (es : List ConfValue). slice_get es place ≡ Some edge) c.edges-2.ensures.edges
    (slice_get_read c.edges-2.result.now (length c.edges-2.result.now) place edge refl within c.index-edges-edge.is) in
    let same : c.profile.result.now.attribute ≡ attribute_of edge =
    ap (λ (p : Profile). p.attribute) (c.profile.ensures ∙ ap (λ (s : SiteValue). s.profile) c.site.ensures) in
    let bare = subst (λ (a : List ℕ). IsBare a c.in-Some-2.uri c.in-Some-carried_in.carried) same (c.is_bare.ensures.0 c.if-not-is_bare.false) in
    ask_of_parts c.args.draft.now c.args.line.now c.in-Some.name.now c.in-Some.moment.now c.in-Some.typed.now c.in-Some.last.now edge
    (record { edge = place; moment = c.in-Some-read_number.moment; uri = c.in-Some-2.uri; carried = c.in-Some-carried_in.carried })
    c.in-Some.ensures.some few at is (sym c.in-Some-read_number.ensures) c.in-Some-carried_in.ensures
    (ok_of (normal_of c.in-Some.typed.now) c.in-Some-2.uri (sym c.in_ok-uri.ensures ∙ c.in-Some-2.is)) bare
