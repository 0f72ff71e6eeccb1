use Rattle.std.proofs.Common.{refl, sym, ap, ◌∙◌, Some, slice_get, get_or}
use Rattle.std.proofs.lemmas.Option.{slice_get-get_or}
use Rattle.usp_edge.proofs.Going.{line_of}
use Rattle.usp_script.specs.Script.{object_at}
use Rattle.usp_lab.specs.AskMemory.{clock_given, objects_of}
use Rattle.usp_lab.specs.Tokens.{carried_token}
use Rattle.usp_lab.proofs.ServingAsks.{ask_done, ask_noted, ask_served, few_gained, has_noted, met_of, noted_short}
use Rattle.usp_lab.proofs.asking.serve_ask.Goals as goal

pub only_note-requires : goal.only_note-requires
only_note-requires g c =
    let conf = get_or c.args.asking.now.edges.now c.args.ask.now.edge c.index-asking-ask.result in
    let line = line_of (g.W.Source.left c.args.line.now) (g.W.Source.left c.serve_connection.new.wire) (g.W.Source.ended c.serve_connection.new.wire) (g.W.Source.read_count c.args.line.now)
    (g.W.Source.read_count c.serve_connection.new.wire) (g.W.Sink.told c.args.line.now) (g.W.Sink.told c.serve_connection.new.wire) (g.W.Sink.put_count c.args.line.now) (g.W.Sink.put_count c.serve_connection.new.wire) in
    let old = met_of (clock_given c.new-clock.result) c.args.nonces.now (λ uri. object_at c.args.asking.now.objects.now c.args.ask.now.edge uri) c.new-journal.result.items in
    let new = met_of (clock_given c.serve_connection.new.clock) c.serve_connection.new.nonces (objects_of c.serve_connection.new.objects) c.serve_connection.new.journal.items in
    let at = slice_get-get_or c.args.asking.now.edges.now c.args.ask.now.edge c.index-asking-ask.result c.requires.edge in
    let calm = g.met.W.Calm.never_fails c.serve_connection.new.wire in
    let tells = g.met.W.Calm.tells c.serve_connection.new.wire in
    let done = ask_done g.N.Nonces.gains c.args.asking.now.edges.now c.args.ask.now c.requires.head.0 conf line old new c.serve_connection.result c.serve_connection.ensures
    c.in_default.not-NoMemory at c.requires.head.1 tells.0 calm.0 calm.1 in
    ask_noted g.N.Nonces.gains conf c.args.ask.now c.requires.head.0 line old new done c.new-journal.ensures.items

pub returns-in-NoMemory-clause-gained : goal.returns-in-NoMemory-clause-gained
returns-in-NoMemory-clause-gained g c =
    let conf = get_or c.args.asking.now.edges.now c.args.ask.now.edge c.index-asking-ask.result in
    let line = line_of (g.W.Source.left c.args.line.now) (g.W.Source.left c.serve_connection.new.wire) (g.W.Source.ended c.serve_connection.new.wire) (g.W.Source.read_count c.args.line.now)
    (g.W.Source.read_count c.serve_connection.new.wire) (g.W.Sink.told c.args.line.now) (g.W.Sink.told c.serve_connection.new.wire) (g.W.Sink.put_count c.args.line.now) (g.W.Sink.put_count c.serve_connection.new.wire) in
    let old = met_of (clock_given c.new-clock.result) c.args.nonces.now (λ uri. object_at c.args.asking.now.objects.now c.args.ask.now.edge uri) c.new-journal.result.items in
    let new = met_of (clock_given c.serve_connection.new.clock) c.serve_connection.new.nonces (objects_of c.serve_connection.new.objects) c.serve_connection.new.journal.items in
    let few = few_gained g.N.Nonces.gains conf line old new c.serve_connection.result c.serve_connection.ensures in
    (few.calls, few.gained, few.few)

pub returns-in_default : goal.returns-in_default
returns-in_default g c =
    let conf = get_or c.args.asking.now.edges.now c.args.ask.now.edge c.index-asking-ask.result in
    let line = line_of (g.W.Source.left c.args.line.now) (g.W.Source.left c.serve_connection.new.wire) (g.W.Source.ended c.serve_connection.new.wire) (g.W.Source.read_count c.args.line.now)
    (g.W.Source.read_count c.serve_connection.new.wire) (g.W.Sink.told c.args.line.now) (g.W.Sink.told c.serve_connection.new.wire) (g.W.Sink.put_count c.args.line.now) (g.W.Sink.put_count c.serve_connection.new.wire) in
    let old = met_of (clock_given c.new-clock.result) c.args.nonces.now (λ uri. object_at c.args.asking.now.objects.now c.args.ask.now.edge uri) c.new-journal.result.items in
    let new = met_of (clock_given c.serve_connection.new.clock) c.serve_connection.new.nonces (objects_of c.serve_connection.new.objects) c.serve_connection.new.journal.items in
    let at = slice_get-get_or c.args.asking.now.edges.now c.args.ask.now.edge c.index-asking-ask.result c.requires.edge in
    let calm = g.met.W.Calm.never_fails c.serve_connection.new.wire in
    let tells = g.met.W.Calm.tells c.serve_connection.new.wire in
    let done = ask_done g.N.Nonces.gains c.args.asking.now.edges.now c.args.ask.now c.requires.head.0 conf line old new c.serve_connection.result c.serve_connection.ensures
    c.in_default.not-NoMemory at c.requires.head.1 tells.0 calm.0 calm.1 in
    let few = few_gained g.N.Nonces.gains conf line old new c.serve_connection.result c.serve_connection.ensures in
    record {
      served = λ script issued known edges objects holds.
          let token = carried_token script issued c.args.ask.now.carried in
          let there = ap (λ es. slice_get es c.args.ask.now.edge) edges ∙ at in
          let so = ask_done g.N.Nonces.gains script.edges c.args.ask.now token conf line old new c.serve_connection.result c.serve_connection.ensures
          c.in_default.not-NoMemory there holds tells.0 calm.0 calm.1 in
          let noted = has_noted g.N.Nonces.gains conf c.args.ask.now token line old new c.only_note.result c.serve_connection.new.clock.moment
          (clock_given c.serve_connection.new.clock) so (ap Some c.new-clock.ensures) refl c.serve_connection.new.clock.still c.new-journal.ensures.items c.only_note.ensures in
          ask_served g.N.Nonces.gains script issued known c.args.ask.now conf line old new c.only_note.result
          (λ uri. object_at c.args.asking.now.objects.now c.args.ask.now.edge uri) noted there refl (λ uri. ap (λ os. object_at os c.args.ask.now.edge uri) (sym objects)) refl;
      short = noted_short g.N.Nonces.gains c.args.ask.now conf c.requires.head.0 line old new c.only_note.result
          (has_noted g.N.Nonces.gains conf c.args.ask.now c.requires.head.0 line old new c.only_note.result c.serve_connection.new.clock.moment
          (clock_given c.serve_connection.new.clock) done (ap Some c.new-clock.ensures) refl c.serve_connection.new.clock.still c.new-journal.ensures.items c.only_note.ensures)
          c.has_named_keys.ensures c.requires.moment;
      gained = (few.calls, few.gained, few.few);
    }
