use Rattle.std.proofs.Common.{◌≡◌, sym, ap, ◌∙◌, subst, ℕ, ◌+◌, List, length, map, Option}
use Rattle.std.specs.Prelude.{All}
use Rattle.usp_script.specs.declared.ask.LabAsk.{LabAsk}
use Rattle.usp_lab.specs.Asked.{AreHeads}
use Rattle.usp_lab.specs.Entries.{Run, opened, served_in}
use Rattle.usp_lab.specs.Rounds.{issued_by}
use Rattle.usp_lab.specs.Tables.{HasRoom}
use Rattle.usp_lab.specs.UnderWay.{IsUnderWay}
use Rattle.usp_lab.proofs.Rounding.{many_from, round_from}
use Rattle.usp_lab.proofs.running.run_round.Goals as goal

pub note-requires-clause-notes : goal.note-requires-clause-notes
note-requires-clause-notes g c =
    let script = c.args.course.now.crew.script.now in
    let run : Run = c.requires.way.0 in
    let way = c.requires.way.1 in
    let issued : List (Option (List ℕ)) = issued_by (served_in run) in
    let same : c.deref.result.now ≡ issued =
    c.deref.ensures.value ∙ (ap (λ (v : _). v.items) c.grant.ensures.issued ∙ way.keeps.issued) in
    let heads = subst (λ (i : List (Option (List ℕ))). AreHeads script i c.rows-asks.result.now (map (λ head. head.items) c.in_ok-heads.heads.items))
    same c.in_ok-heads.ensures in
    many_from script c.args.course.now.crew.workers run c.args.round.now c.args.books.now c.grant.new.self c.grant.new.self
    c.args.tables.now c.serve_round.new.tables (g.B.Bench.given_back c.args.bench.now)
    (g.B.Bench.given_back c.serve_round.new.bench) c.edges.result.now c.rows-asks.result.now c.rows.result.now
    c.in_ok-notes.notes.items c.deref-2.result.now c.edges.ensures.edges c.rows-asks.ensures c.rows.ensures
    c.deref-2.ensures.value (c.in_ok-notes.ensures.served issued (length (opened run c.args.round.now)) heads)

pub returns-clause-goes_on : goal.returns-clause-goes_on
returns-clause-goes_on g c = λ run way.
    let script = c.args.course.now.crew.script.now in
    let issued : List (Option (List ℕ)) = issued_by (served_in run) in
    let same : c.deref.result.now ≡ issued =
    c.deref.ensures.value ∙ (ap (λ (v : _). v.items) c.grant.ensures.issued ∙ way.keeps.issued) in
    let heads = subst (λ (i : List (Option (List ℕ))). AreHeads script i c.rows-asks.result.now (map (λ head. head.items) c.in_ok-heads.heads.items))
    same c.in_ok-heads.ensures in
    round_from script c.args.course.now.crew.workers run c.args.round.now c.args.books.now c.grant.new.self
    c.note.new.self c.args.tables.now c.serve_round.new.tables (g.B.Bench.given_back c.args.bench.now)
    (g.B.Bench.given_back c.serve_round.new.bench) c.edges.result.now c.rows-asks.result.now c.rows.result.now
    c.in_ok-notes.notes.items c.deref-2.result.now c.edges.ensures.edges c.rows-asks.ensures c.rows.ensures
    c.deref-2.ensures.value c.requires.named c.requires.round.asks way
    (record {
      entries = c.in_ok-grant.ensures.entries;
      grants = c.in_ok-grant.ensures.grants;
      asks = c.grant.ensures.asks;
      issued = c.grant.ensures.issued;
    })
    (c.in_ok-notes.ensures.served issued (length (opened run c.args.round.now)) heads) c.serve_round.ensures.shared
    c.in_ok-notes.ensures.whole
    (record {
      entries = c.in_ok-note.ensures.entries;
      asks = c.in_ok-note.ensures.asks;
      issued = c.in_ok-note.ensures.issued;
      grants = c.note.ensures.grants;
    })

pub returns-clause-room : goal.returns-clause-room
returns-clause-room g c = λ more has.
    c.in_ok-notes.ensures.room more
    (subst (λ (asks : List LabAsk). All (HasRoom (length asks + more)) c.args.tables.now) (sym c.rows-asks.ensures) has)
