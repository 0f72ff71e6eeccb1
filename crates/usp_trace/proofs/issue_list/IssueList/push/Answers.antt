use Rattle.std.proofs.Common.{◌≡◌, ℕ, ◌∙◌, ◌++◌, ◌∷◌, [], List, Option, length, ap, sym, subst, arith, is_ok, if◌then◌else◌}
use Rattle.usp_trace.proofs.IndexLemmas.{index_more}
use Rattle.usp_trace.specs.Index.{IsIndexOf, new_token, with_place}
use Rattle.usp_trace.specs.Issues.{token_of}
use Rattle.usp_trace.specs.declared.issue.Issue.{Issue}
use Rattle.usp_trace.proofs.issue_list.IssueList.push.Goals as goal

pub invariant_of-self : goal.invariant_of-self
invariant_of-self c =
    let issue : Issue = c.args.issue in
    let before : List Issue = c.self.inside.issues.items in
    let places : List (List ℕ × ℕ) = c.self.inside.places.places in
    let room : List Issue = c.make_room.new.issues.items in
    let items : c.push.new.self.items ≡ before ++ issue ∷ []
    = c.push.ensures.items ∙ (ap (λ r. if is_ok r then room ++ issue ∷ [] else room) c.unwrap.ensures ∙ ap (λ (l : List Issue). l ++ issue ∷ []) c.make_room.ensures.issues) in
    let long : c.len-place.result ≡ length before = omega (arith, c.len-place.ensures, c.self.inside.issues.ok.0) in
    let token : c.text-token.result.now ≡ token_of issue = c.text-token.ensures.text ∙ c.token.ensures in
    let entered : c.enter.new.self.places ≡ with_place (new_token (token_of issue) places) (length before) places
    = c.enter.ensures ∙ (ap (λ (t : Option (List ℕ)). with_place t c.len-place.result c.make_room.new.places.places) (c.in-Ok.ensures.copy ∙ ap (λ (t : List ℕ). new_token t places) token)
    ∙ (ap (λ (n : ℕ). with_place (new_token (token_of issue) places) n c.make_room.new.places.places) long
    ∙ ap (λ (ps : List (List ℕ × ℕ)). with_place (new_token (token_of issue) places) (length before) ps) c.make_room.ensures.places)) in
    subst (λ (l : List Issue). IsIndexOf l c.enter.new.self.places) (sym items)
    (subst (λ (ps : List (List ℕ × ℕ)). IsIndexOf (before ++ issue ∷ []) ps) (sym entered) (index_more before issue places c.self.invariant))
