-- One round of a run.
use Rattle.std.proofs.Common.{◌≡◌, refl, sym, ap, ◌∙◌, subst, ℕ, suc, ◌+◌, ◌≤◌, ◌<◌, List, [], ◌∷◌, length, map, Option, arith}
use Rattle.std.specs.Prelude.{All, IfSome}
use Rattle.usp_conf.specs.Values.{ConfValue}
use Rattle.usp_edge.specs.declared.note.Note.{Note}
use Rattle.usp_script.specs.Script.{IsAsk, ScriptValue}
use Rattle.usp_script.specs.declared.ask.LabAsk.{LabAsk}
use Rattle.usp_script.specs.declared.ask.Round.{Round}
use Rattle.usp_lab.specs.Benches.{Used}
use Rattle.usp_lab.specs.Entries.{Run, opened, served_in, with_round}
use Rattle.usp_lab.specs.Gains.{ServesRound}
use Rattle.usp_lab.specs.Named.{HasNamedKeys}
use Rattle.usp_lab.specs.Rounds.{AreServed, Served, issued_by}
use Rattle.usp_lab.specs.Tables.{IsWhole, TableValue, seat_of, shared_of}
use Rattle.usp_lab.specs.UnderWay.{HasGoneOn, HaveMade, IsShort, IsUnderWay}
use Rattle.usp_lab.specs.declared.running.books.Books.{Books}
use Rattle.usp_lab.proofs.Histories.{have_more, length_map}
use Rattle.usp_lab.proofs.Keeping.{HasGrants, HasNotes, keeps_next, modest_next}
use Rattle.usp_lab.proofs.Noting.{are_noted}
use Rattle.usp_lab.proofs.Shortness.{all_short}
use Rattle.usp_lab.proofs.Stepping.{served_long}

-- what is known around the asks of a round
abbrev pub ServesIt : ScriptValue → (workers : ℕ) → Run → Round → List Note → (tables later : List TableValue)
    → (before after : Option (List Used)) → Type 0
ServesIt script workers run round notes tables later before after =
    ServesRound script (issued_by (served_in run)) (length (opened run round)) workers round.asks (record {
      notes = notes;
      seats = map seat_of tables;
      seats_after = map seat_of later;
      lines = before;
      lines_after = after;
    })

-- each edge has its table
pub tables_many : (edges : List ConfValue) (workers : ℕ) (run : Run) (tables : List TableValue)
    → HaveMade edges workers run tables → length tables ≡ length edges
tables_many edges workers run tables made =
    sym (length_map (λ (table : TableValue). table.shared.room) tables)
    ∙ (ap (λ (rooms : List ℕ). length rooms) made.rooms ∙ length_map (λ (edge : ConfValue). edge.room) edges)

-- each ask has its note
pub notes_many : (script : ScriptValue) (workers : ℕ) (run : Run) (round : Round) (notes : List Note)
    (tables later : List TableValue) (before after : Option (List Used))
    → ServesIt script workers run round notes tables later before after → length notes ≡ length round.asks
notes_many script workers run round notes tables later before after serves =
    ap (λ (notes : List Note). length notes) serves.notes
    ∙ (length_map (λ (served : Served). served.note) serves.all
    ∙ served_long script (issued_by (served_in run)) (length (opened run round)) round.asks serves.all serves.served)

module _ (script : ScriptValue) (workers : ℕ) (run : Run) (round : Round) (old mid new : Books)
    (tables later : List TableValue) (notes : List Note) (before after : Option (List Used))
    (named : All HasNamedKeys script.edges) (asked : All (IsAsk script.edges) round.asks)
    (way : IsUnderWay script.edges workers run old tables) (granted : HasGrants round.grants old mid)
    (serves : ServesIt script workers run round notes tables later before after)
    (same : map shared_of later ≡ map shared_of tables) (whole : All IsWhole later)
    (noted : HasNotes script.edges round.asks notes mid new) where
  pub round_next : HasGoneOn script workers run round new later before after
  round_next =
      let by = are_noted script (issued_by (served_in run)) (length (opened run round)) round.asks serves.all serves.served in
      record {
        all = serves.all;
        served = serves.served;
        way = record {
          keeps = keeps_next script run round serves.all old mid new way.keeps granted
              (subst (λ (ns : List Note). HasNotes script.edges round.asks ns mid new) serves.notes noted) by way.modest;
          made = have_more script.edges workers run round serves.all tables later way.made same whole serves.gained;
          modest = modest_next script.edges run round serves.all way.modest by
              (all_short script (issued_by (served_in run)) (length (opened run round)) round.asks serves.all named asked serves.served);
        };
        lines = serves.lines;
      }

-- ---- as the code has it

-- The lists that the code reads are those of the script, of the round and of what the asks so far issued.
module _ (script : ScriptValue) (workers : ℕ) (run : Run) (round : Round) (old mid new : Books)
    (tables later : List TableValue) (before after : Option (List Used))
    (confs : List ConfValue) (asks : List LabAsk) (tokens : List (List ℕ)) (notes told : List Note)
    (confs_is : confs ≡ script.edges) (asks_is : asks ≡ round.asks) (tokens_is : tokens ≡ round.grants)
    (notes_is : told ≡ notes) where
  abbrev pub ServesAsks : Type 0
  ServesAsks = ServesRound script (issued_by (served_in run)) (length (opened run round)) workers asks (record {
    notes = notes;
    seats = map seat_of tables;
    seats_after = map seat_of later;
    lines = before;
    lines_after = after;
  })

  serves_it : ServesAsks → ServesIt script workers run round notes tables later before after
  serves_it serves =
      subst (λ (asked : List LabAsk). ServesRound script (issued_by (served_in run)) (length (opened run round)) workers asked (record {
        notes = notes;
        seats = map seat_of tables;
        seats_after = map seat_of later;
        lines = before;
        lines_after = after;
      })) asks_is serves

  pub many_from : ServesAsks → length told ≡ length asks
  many_from serves =
      ap (λ (ns : List Note). length ns) notes_is
      ∙ (notes_many script workers run round notes tables later before after (serves_it serves)
      ∙ ap (λ (asked : List LabAsk). length asked) (sym asks_is))

  pub round_from : All HasNamedKeys script.edges → All (IsAsk script.edges) round.asks
      → IsUnderWay script.edges workers run old tables → HasGrants tokens old mid → ServesAsks
      → map shared_of later ≡ map shared_of tables → (All IsWhole tables → All IsWhole later)
      → HasNotes confs asks told mid new → HasGoneOn script workers run round new later before after
  round_from named asked way granted serves same whole noted =
      round_next script workers run round old mid new tables later notes before after named asked way
      (subst (λ (ts : List (List ℕ)). HasGrants ts old mid) tokens_is granted) (serves_it serves) same
      (whole way.made.whole)
      (subst (λ (cs : List ConfValue). HasNotes cs round.asks notes mid new) confs_is
      (subst (λ (asked : List LabAsk). HasNotes confs asked notes mid new) asks_is
      (subst (λ (ns : List Note). HasNotes confs asks ns mid new) notes_is noted)))
