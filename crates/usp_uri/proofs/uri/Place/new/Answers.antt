use Rattle.std.proofs.Common.{◌≡◌, Ok, sym, ap, subst, ◌∙◌}
use Rattle.usp_uri.specs.Components.{authority_start, after_scheme}
use Rattle.usp_uri.specs.Delimited.{first_outside}
use Rattle.usp_uri.specs.Faults.{normal_of}
use Rattle.usp_uri.specs.Answers.{Refuses}
use Rattle.usp_uri.specs.Origin.{origin_text, origin_of, is_no_path_byte}
use Rattle.usp_uri.proofs.NormalLemmas.{start_within, handed_on}
use Rattle.usp_uri.proofs.PlaceLaws.{place_refused, place_path, place_of, place_root}
use Rattle.usp_uri.proofs.uri.Place.new.Goals as goal

pub returns-in_err-root : goal.returns-in_err-root
returns-in_err-root c =
    let text = origin_text c.args.scheme.now c.args.authority.now in
    let same = c.deref.ensures.value ∙ c.in_ok-text.ensures in
    let refused : Refuses c.in_err-root.field-0.0 (normal_of text) = subst (λ t. Refuses c.in_err-root.field-0.0 (normal_of t)) same c.in_err-root.ensures.exact in
    handed_on c.from_residual-in_err-root.result c.in_err-root.field-0.0 (origin_of text) c.from_residual-in_err-root.ensures.1 (place_refused c.in_err-root.field-0.0 text refused)

pub path_start-requires-clause-start : goal.path_start-requires-clause-start
path_start-requires-clause-start c =
    let same = c.deref.ensures.value ∙ sym c.deref-2.ensures.value in
    start_within c.deref-2.result.now c.in_ok-root.root (ap normal_of (sym same) ∙ c.in_ok-root.ensures.exact)

pub returns-in-Some : goal.returns-in-Some
returns-in-Some c =
    let text = origin_text c.args.scheme.now c.args.authority.now in
    let read : normal_of text ≡ Ok c.in_ok-root.root = ap normal_of (sym (c.deref.ensures.value ∙ c.in_ok-text.ensures)) ∙ c.in_ok-root.ensures.exact in
    let same = c.deref-2.ensures.value ∙ c.in_ok-text.ensures in
    place_path text c.in_ok-root.root c.in-Some.at read (ap (λ t. first_outside is_no_path_byte (authority_start t) (after_scheme t)) (sym same) ∙ sym c.in-Some.ensures)

pub invariant_of-result : goal.invariant_of-result
invariant_of-result c =
    let text = origin_text c.args.scheme.now c.args.authority.now in
    let read : normal_of text ≡ Ok c.in_ok-root.root = ap normal_of (sym (c.deref.ensures.value ∙ c.in_ok-text.ensures)) ∙ c.in_ok-root.ensures.exact in
    let same = c.deref-2.ensures.value ∙ c.in_ok-text.ensures in
    place_root text c.in_ok-root.root read (ap (λ t. first_outside is_no_path_byte (authority_start t) (after_scheme t)) (sym same) ∙ sym c.in-None.ensures)

pub returns : goal.returns
returns c =
    let text = origin_text c.args.scheme.now c.args.authority.now in
    let read : normal_of text ≡ Ok c.in_ok-root.root = ap normal_of (sym (c.deref.ensures.value ∙ c.in_ok-text.ensures)) ∙ c.in_ok-root.ensures.exact in
    let same = c.deref-2.ensures.value ∙ c.in_ok-text.ensures in
    place_of text c.in_ok-root.root read (ap (λ t. first_outside is_no_path_byte (authority_start t) (after_scheme t)) (sym same) ∙ sym c.in-None.ensures)
