-- Issues with their labels.
use Rattle.std.proofs.Common.{◌≡◌, refl, ap, ◌∙◌, sym, ℕ, suc, List, [], ◌∷◌, ◌++◌, length, arith}
use Rattle.usp_script.specs.declared.ask.Label.{Label}
use Rattle.usp_trace.specs.declared.issue.Issue.{Issue}
use Rattle.usp_lab.specs.Entries.{Entry, labelled, labels_of, ledger_of}

pub labelled_length : (labels : List Label) (issues : List Issue) → length labels ≡ length issues
    → length (labelled labels issues) ≡ length issues
labelled_length [] [] same = refl
labelled_length [] (issue ∷ issues) same = absurd (omega (arith, same))
labelled_length (label ∷ labels) [] same = absurd (omega (arith, same))
labelled_length (label ∷ labels) (issue ∷ issues) same =
    ap suc (labelled_length labels issues (omega (arith, same)))

pub labelled_ledger : (labels : List Label) (issues : List Issue) → length labels ≡ length issues
    → ledger_of (labelled labels issues) ≡ issues
labelled_ledger [] [] same = refl
labelled_ledger [] (issue ∷ issues) same = absurd (omega (arith, same))
labelled_ledger (label ∷ labels) [] same = absurd (omega (arith, same))
labelled_ledger (label ∷ labels) (issue ∷ issues) same =
    ap (λ more. issue ∷ more) (labelled_ledger labels issues (omega (arith, same)))

pub labelled_labels : (labels : List Label) (issues : List Issue) → length labels ≡ length issues
    → labels_of (labelled labels issues) ≡ labels
labelled_labels [] [] same = refl
labelled_labels [] (issue ∷ issues) same = absurd (omega (arith, same))
labelled_labels (label ∷ labels) [] same = absurd (omega (arith, same))
labelled_labels (label ∷ labels) (issue ∷ issues) same =
    ap (λ more. label ∷ more) (labelled_labels labels issues (omega (arith, same)))

pub labelled_more : (labels : List Label) (issues : List Issue) (label : Label) (issue : Issue)
    → length labels ≡ length issues
    → labelled (labels ++ label ∷ []) (issues ++ issue ∷ [])
    ≡ labelled labels issues ++ record { label = label; issue = issue } ∷ []
labelled_more [] [] label issue same = refl
labelled_more [] (first ∷ issues) label issue same = absurd (omega (arith, same))
labelled_more (first ∷ labels) [] label issue same = absurd (omega (arith, same))
labelled_more (one ∷ labels) (first ∷ issues) label issue same =
    let here : Entry = record { label = one; issue = first } in
    ap (λ more. here ∷ more) (labelled_more labels issues label issue (omega (arith, same)))
