-- What the notes of an edge come to.
use Rattle.std.proofs.Common.{◌≡◌, sym, subst, ℕ, zero, suc, List, [], ◌∷◌, map, Some}
use Rattle.std.specs.List.{slice_get}
use Rattle.std.proofs.lemmas.Option.{same_Some}
use Rattle.usp_conf.specs.Values.{ConfValue}
use Rattle.usp_edge.specs.Calls.{Placed}
use Rattle.usp_edge.specs.Decided.{AreDecided, Upholds}
use Rattle.usp_edge.specs.Honest.{turns_in}
use Rattle.usp_edge.specs.declared.note.Note.{Note}
use Rattle.usp_nonce.proofs.Legal.{no_nonce_twice}
use Rattle.usp_nonce.specs.History.{Call, IsLegal}
use Rattle.usp_nonce.specs.declared.answer.Turned.{Turned}
use Rattle.usp_shared.specs.Places.{AreAllBelow}
use Rattle.usp_tool.proofs.Headlines.Rules.{notes_exactly}
use Rattle.usp_tool.specs.Headline.{EdgeHeadline}
use Rattle.usp_tool.specs.Headline.Requests.{NotesExactly}

each_note : (conf : ConfValue) (history : List Call) (notes : List Note) → IsLegal conf.room history
    → AreDecided conf history notes → (place : ℕ) (note : Note) → slice_get notes place ≡ Some note
    → (calls : List Placed) × NotesExactly conf history note calls
each_note conf history [] legal decided place note at = cc
each_note conf history (first ∷ notes) legal (here, rest) zero note at =
    subst (λ (n : Note). (calls : List Placed) × NotesExactly conf history n calls) (same_Some first note at)
    (here.calls, notes_exactly conf history first here.calls legal here.stand here.by)
each_note conf history (first ∷ notes) legal (here, rest) (suc place) note at =
    each_note conf history notes legal rest place note at

pub edge_headline : (conf : ConfValue) (count : ℕ) (notes : List Note) → Upholds conf count notes
    → EdgeHeadline conf count notes
edge_headline conf count notes u = record {
  one = record {
    history = u.history;
    legal = u.legal;
    counted = u.count;
    all = u.places;
    each = each_note conf u.history notes u.legal u.decided;
    once = no_nonce_twice conf.room u.history u.legal;
  };
}
