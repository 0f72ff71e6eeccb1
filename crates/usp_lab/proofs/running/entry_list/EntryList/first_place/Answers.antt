use Rattle.std.proofs.Common.{sym, ap, ◌∙◌}
use Rattle.usp_trace.specs.Chains.{first_place}
use Rattle.usp_lab.specs.Entries.{ledger_of}
use Rattle.usp_lab.proofs.Labelled.{labelled_ledger}
use Rattle.usp_lab.proofs.running.entry_list.EntryList.first_place.Goals as goal

pub returns : goal.returns
returns c =
    c.first_place.ensures
    ∙ ap (first_place c.args.token.now)
    (sym (labelled_ledger c.self.inside.labels.items c.self.inside.ledger c.self.invariant) ∙ ap ledger_of c.self.view_is)
