use Rattle.std.proofs.Common.{sym, ap, ◌∙◌}
use Rattle.usp_lab.specs.Entries.{labels_of, ledger_of}
use Rattle.usp_lab.proofs.Labelled.{labelled_labels, labelled_ledger}
use Rattle.usp_lab.proofs.running.entry_list.EntryList.into_parts.Goals as goal

pub returns-clause-ledger : goal.returns-clause-ledger
returns-clause-ledger c =
    sym (labelled_ledger c.self.inside.labels.items c.self.inside.ledger c.self.invariant) ∙ ap ledger_of c.self.view_is

pub returns-clause-labels : goal.returns-clause-labels
returns-clause-labels c =
    sym (labelled_labels c.self.inside.labels.items c.self.inside.ledger c.self.invariant) ∙ ap labels_of c.self.view_is
