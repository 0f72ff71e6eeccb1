use Rattle.std.proofs.Common.{◌≡◌, ℕ, List, [], ◌∷◌, ◌++◌, Some, IfSome, sym, ap, ◌∙◌, subst}
use Rattle.usp_trace.specs.Chains.{first_place}
use Rattle.usp_trace.specs.Issues.{parent_of}
use Rattle.usp_trace.specs.declared.issue.Issue.{Issue}
use Rattle.usp_script.specs.declared.ask.Label.{Label}
use Rattle.usp_lab.specs.Entries.{Entry, labelled, ledger_of}
use Rattle.usp_lab.proofs.Labelled.{labelled_ledger, labelled_more}
use Rattle.usp_lab.proofs.running.entry_list.EntryList.enter.Goals as goal

pub append-requires-clause-parent : goal.append-requires-clause-parent
append-requires-clause-parent c =
    let same = sym (ap ledger_of c.self.view_is) ∙ labelled_ledger c.self.inside.labels.items c.self.inside.ledger c.self.invariant in
    subst (λ (l : List Issue). IfSome (parent_of c.args.issue) (λ parent. (token : List ℕ) × (first_place token l ≡ Some parent)))
    same c.requires

pub returns : goal.returns
returns c =
    let labels : List Label = c.self.inside.labels.items in
    let ledger : List Issue = c.self.inside.ledger in
    let one : Entry = record { label = c.args.label; issue = c.args.issue } in
    let longer : c.push_reserved.new.self.items ≡ labels ++ c.args.label ∷ [] =
    c.push_reserved.ensures.items ∙ ap (λ (l : List Label). l ++ c.args.label ∷ []) c.reserve.ensures.items in
    let grown : c.append.new.self ≡ ledger ++ c.args.issue ∷ [] = c.in_ok-append.ensures.appended in
    ap (λ (l : List Label). labelled l c.append.new.self) longer
    ∙ (ap (λ (l : List Issue). labelled (labels ++ c.args.label ∷ []) l) grown
    ∙ (labelled_more labels ledger c.args.label c.args.issue c.self.invariant
    ∙ ap (λ (entries : List Entry). entries ++ one ∷ []) c.self.view_is))
