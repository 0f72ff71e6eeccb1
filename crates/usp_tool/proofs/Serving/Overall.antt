-- What the notes of all workers say together.
use Rattle.std.proofs.Common.{◌≡◌, refl, sym, ap, ◌∙◌, subst, ℕ, zero, suc, List, [], ◌∷◌, ◌++◌, map, option_to_list, append_assoc, arith}
use Rattle.std.specs.Prelude.{All}
use Rattle.std.proofs.lemmas.List.{map-append}
use Rattle.usp_conf.specs.Values.{ConfValue}
use Rattle.usp_edge.specs.Honest.{turns_in}
use Rattle.usp_edge.specs.declared.note.Note.{Note}
use Rattle.usp_nonce.specs.History.{Call}
use Rattle.usp_nonce.specs.declared.answer.Turned.{Turned}
use Rattle.usp_shared.specs.Places.{AreAllBelow}
use Rattle.usp_edge.proofs.Standing.{decided_in, notes_places, shown_places}
use Rattle.usp_edge.specs.Decided.{AreDecided, Upholds}
use Rattle.usp_tool.specs.Edge.Desks.{Desk, all_notes}
use Rattle.usp_tool.specs.Edge.Workers.{HasServed, HaveServed, OneHistory, another, nobody}

-- ---- the places that notes show

turns_both : (x y : List Note) → turns_in (x ++ y) ≡ turns_in x ++ turns_in y
turns_both [] y = refl
turns_both (note ∷ x) y = ap (λ t. option_to_list note.call ++ t) (turns_both x y) ∙ sym (append_assoc (option_to_list note.call) (turns_in x) (turns_in y))

shown_both : (x y : List Note) → shown_places (x ++ y) ≡ shown_places x ++ shown_places y
shown_both x y = ap (map (λ (t : Turned). t.place)) (turns_both x y) ∙ map-append (λ (t : Turned). t.place) (turns_in x) (turns_in y)

decided_all : (conf : ConfValue) (history : List Call) (x y : List Note) → AreDecided conf history x → AreDecided conf history y → AreDecided conf history (x ++ y)
decided_all conf history [] y first second = second
decided_all conf history (note ∷ x) y (here, first) second = (here, decided_all conf history x y first second)

-- ---- all workers

abbrev AllUnnoted : List Desk → Type 0
AllUnnoted [] = Unit {0}
AllUnnoted (desk ∷ desks) = (desk.notes ≡ []) × AllUnnoted desks

all_unnoted : (desks : List Desk) → All (λ (desk : Desk). desk.notes ≡ []) desks → AllUnnoted desks
all_unnoted [] all = tt
all_unnoted (desk ∷ desks) all = (all zero desk (omega arith), all_unnoted desks (λ k d lt. all (suc k) d (omega (arith, lt))))

own_notes : (conf : ConfValue) (most : ℕ) (history : List Call) (old new : Desk) (has : HasServed conf most history old new) → old.notes ≡ [] → new.notes ≡ has.sits.notes
own_notes conf most history old new has is = has.sits.noted ∙ ap (λ (n : List Note). n ++ has.sits.notes) is

module _ (conf : ConfValue) (most : ℕ) (history : List Call) where
  all_decided : (old new : List Desk) (places : List ℕ) → HaveServed conf most history old new places → AllUnnoted old → AreDecided conf history (all_notes new)
  all_decided _ _ _ nobody unnoted = tt
  all_decided _ _ _ (another old new olds news places has behind) (is, unnoted) =
      decided_all conf history new.notes (all_notes news)
      (subst (AreDecided conf history) (sym (own_notes conf most history old new has is)) (decided_in conf history has.sits.notes has.sits.calls has.sits.decided has.stand))
      (all_decided olds news places behind unnoted)

  all_shown : (old new : List Desk) (places : List ℕ) → HaveServed conf most history old new places → AllUnnoted old → shown_places (all_notes new) ≡ places
  all_shown _ _ _ nobody unnoted = refl
  all_shown _ _ _ (another old new olds news places has behind) (is, unnoted) =
      shown_both new.notes (all_notes news)
      ∙ (λ i. (ap shown_places (own_notes conf most history old new has is) ∙ notes_places conf has.sits.notes has.sits.calls has.sits.decided) i
      ++ all_shown olds news places behind unnoted i)

pub upholds : (conf : ConfValue) (most n : ℕ) (old new : List Desk) → All (λ (desk : Desk). desk.notes ≡ []) old → OneHistory conf most n old new → Upholds conf n (all_notes new)
upholds conf most n old new unnoted one = record {
  history = one.history;
  legal = one.legal;
  count = one.count;
  decided = all_decided conf most one.history old new one.places one.served (all_unnoted old unnoted);
  places = subst (AreAllBelow n) (sym (all_shown conf most one.history old new one.places one.served (all_unnoted old unnoted))) one.all;
}
