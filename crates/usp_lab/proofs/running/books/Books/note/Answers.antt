use Rattle.std.proofs.Common.{◌≡◌, refl, sym, ap, ◌∙◌, ℕ, ◌+◌, List, [], ◌∷◌, ◌++◌, length, length-append, Option, arith}
use Rattle.std.proofs.lemmas.Option.{slice_get_read}
use Rattle.usp_trace.specs.declared.issue.Issue.{Issue}
use Rattle.usp_lab.specs.Books.{issue_at, origin_in, report_at}
use Rattle.usp_lab.specs.Entries.{Entry, entry_for, ledger_of}
use Rattle.usp_lab.proofs.Heading.{IsNext, asked_within, entries_next, front_stays, issued_step, reports_step}
use Rattle.usp_lab.proofs.running.books.Books.note.Goals as goal

pub asks-preserved : goal.asks-preserved
asks-preserved c =
    let edges = c.args.edges.now in
    let asks = c.args.asks.now in
    let notes = c.args.notes.now in
    let i = c.asks.i in
    let ask = c.index-asks-i.result in
    let edge = c.index-edges-ask.result in
    let note = c.index-notes-i.result in
    let ledger : List Issue = ledger_of c.args.self.now.entries in
    let here : IsNext edges asks notes i ask edge note = record {
      asks_below = c.asks-test.true;
      notes_below = omega (arith, c.asks-test.true, c.requires.notes);
      ask_is = c.index-asks-i.is;
      note_is = c.index-notes-i.is;
      edge_is = slice_get_read edges (length edges) ask.edge edge refl
          (asked_within edges asks i ask c.requires.asks c.asks-test.true c.index-asks-i.is) c.index-edges-ask.is;
    } in
    let number : ℕ = length c.asks.self.issued.items + 1 in
    let entered = c.in_ok-note_one.ensures.entries in
    let grown : c.note_one.new.self.entries
    ≡ c.asks.self.entries ++ entry_for number (issue_at (origin_in ledger note) ask.edge edge note) =
    entered
    ∙ ap (λ (l : List Issue). c.asks.self.entries ++ entry_for number (issue_at (origin_in l note) ask.edge edge note))
    c.asks.invariant.front in
    let told : c.note_one.new.self.asks.items
    ≡ c.asks.self.asks.items ++ report_at (origin_in ledger note) ask.edge note ∷ [] =
    c.in_ok-note_one.ensures.asks
    ∙ ap (λ (l : List Issue). c.asks.self.asks.items ++ report_at (origin_in l note) ask.edge note ∷ [])
    c.asks.invariant.front in
    let issued = c.in_ok-note_one.ensures.issued in
    let long : length c.note_one.new.self.issued.items ≡ number =
    ap (λ (all : List (Option (List ℕ))). length all) issued
    ∙ length-append c.asks.self.issued.items (note.issued ∷ []) in
    record {
      entries = entries_next edges asks notes i ask edge note here c.asks.self.entries c.note_one.new.self.entries _ ledger
          number (length c.note_one.new.self.issued.items) long grown c.asks.invariant.entries;
      asks = reports_step edges asks notes i ask edge note here c.asks.self.asks.items c.note_one.new.self.asks.items _
          ledger told c.asks.invariant.asks;
      issued = issued_step edges asks notes i ask edge note here c.asks.self.issued.items
          c.note_one.new.self.issued.items _ issued c.asks.invariant.issued;
      many = omega (arith, long, c.asks.invariant.many);
      grants = c.note_one.ensures.grants ∙ c.asks.invariant.grants;
      known = omega (
        arith,
        c.asks.invariant.known,
        ap (λ (all : List Entry). length all) grown,
        length-append c.asks.self.entries (entry_for number (issue_at (origin_in ledger note) ask.edge edge note)),
      );
      front = front_stays c.len-known.result c.asks.self.entries c.note_one.new.self.entries
          (entry_for number (issue_at (origin_in ledger note) ask.edge edge note)) ledger c.asks.invariant.known grown
          c.asks.invariant.front;
    }
