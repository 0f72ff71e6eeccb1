use Rattle.std.proofs.Common.{sym, ap, ◌∙◌, subst, [], ◌≡◌, true}
use Rattle.std.specs.Option.{option_copied}
use Rattle.usp_http.specs.Finding.{IsHead}
use Rattle.usp_package.specs.Name.{is_attr_name}
use Rattle.usp_script.specs.Script.{attribute_of}
use Rattle.usp_uri.specs.Components.{after_authority, authority_in}
use Rattle.usp_lab.specs.LabHead.{asked_uri, cookie_of, lab_parts}
use Rattle.usp_lab.proofs.WholeHead.{whole_head, written, written_by}
use Rattle.usp_lab.proofs.head.head_of.Goals as goal

pub returns-clause-head : goal.returns-clause-head
returns-clause-head c =
    let name = ap (λ p. p.attribute) (c.profile.ensures ∙ ap (λ s. s.profile) c.site.ensures) in
    let token = option_copied c.args.token in
    let text = written_by c.behind_authority.result.now c.authority.result.now (cookie_of c.text.result.now c.args.ask.now.carried token) c.new-head.result.items c.extend_from_slice.new.self.items
    c.extend_from_slice-2.new.self.items c.extend_from_slice-3.new.self.items c.extend_from_slice-4.new.self.items c.extend_from_slice-5.new.self.items c.push_cookie.new.head.items
    c.extend_from_slice-6.new.self.items c.new-head.ensures.items c.in_ok-extend_from_slice.ensures.items c.in_ok-extend_from_slice-2.ensures.items c.in_ok-extend_from_slice-3.ensures.items
    c.in_ok-extend_from_slice-4.ensures.items c.in_ok-extend_from_slice-5.ensures.items c.in_ok-push_cookie.ensures c.in_ok-extend_from_slice-6.ensures.items in
    let target = c.behind_authority.ensures ∙ ap after_authority (c.deref.ensures.value ∙ c.in_ok-asked.ensures.text)
    ∙ ap (λ n. after_authority (asked_uri n c.args.ask.now.uri c.args.ask.now.carried token)) name in
    let whole = text ∙ ap (λ t. written t c.authority.result.now (cookie_of c.text.result.now c.args.ask.now.carried token)) target
    ∙ ap (λ h. written (after_authority (asked_uri (attribute_of c.args.edge.now) c.args.ask.now.uri c.args.ask.now.carried token)) h (cookie_of c.text.result.now c.args.ask.now.carried token)) c.authority.ensures
    ∙ ap (λ n. written (after_authority (asked_uri (attribute_of c.args.edge.now) c.args.ask.now.uri c.args.ask.now.carried token)) (authority_in c.args.ask.now.uri) (cookie_of n c.args.ask.now.carried token))
    (c.text.ensures.value ∙ name) in
    whole

pub returns-clause-whole : goal.returns-clause-whole
returns-clause-whole c =
    let name = ap (λ p. p.attribute) (c.profile.ensures ∙ ap (λ s. s.profile) c.site.ensures) in
    let token = option_copied c.args.token in
    let text = written_by c.behind_authority.result.now c.authority.result.now (cookie_of c.text.result.now c.args.ask.now.carried token) c.new-head.result.items c.extend_from_slice.new.self.items
    c.extend_from_slice-2.new.self.items c.extend_from_slice-3.new.self.items c.extend_from_slice-4.new.self.items c.extend_from_slice-5.new.self.items c.push_cookie.new.head.items
    c.extend_from_slice-6.new.self.items c.new-head.ensures.items c.in_ok-extend_from_slice.ensures.items c.in_ok-extend_from_slice-2.ensures.items c.in_ok-extend_from_slice-3.ensures.items
    c.in_ok-extend_from_slice-4.ensures.items c.in_ok-extend_from_slice-5.ensures.items c.in_ok-push_cookie.ensures c.in_ok-extend_from_slice-6.ensures.items in
    let target = c.behind_authority.ensures ∙ ap after_authority (c.deref.ensures.value ∙ c.in_ok-asked.ensures.text)
    ∙ ap (λ n. after_authority (asked_uri n c.args.ask.now.uri c.args.ask.now.carried token)) name in
    let whole = text ∙ ap (λ t. written t c.authority.result.now (cookie_of c.text.result.now c.args.ask.now.carried token)) target
    ∙ ap (λ h. written (after_authority (asked_uri (attribute_of c.args.edge.now) c.args.ask.now.uri c.args.ask.now.carried token)) h (cookie_of c.text.result.now c.args.ask.now.carried token)) c.authority.ensures
    ∙ ap (λ n. written (after_authority (asked_uri (attribute_of c.args.edge.now) c.args.ask.now.uri c.args.ask.now.carried token)) (authority_in c.args.ask.now.uri) (cookie_of n c.args.ask.now.carried token))
    (c.text.ensures.value ∙ name) in
    subst (λ t. IsHead (lab_parts c.args.edge.now c.args.ask.now token) t []) (sym whole)
    (whole_head c.args.edge.now c.args.ask.now token (subst (λ n. is_attr_name n ≡ true) name c.text.ensures.name) c.asked_uri.ensures.normal c.requires.borne)
