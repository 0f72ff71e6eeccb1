-- Deeds that are gathered in their order.
use Rattle.std.proofs.Common.{◌≡◌, refl, sym, ap, ◌∙◌, subst, ℕ, zero, suc, ◌+◌, ◌<◌, ◌≤◌, ◌%◌, List, [], ◌∷◌, ◌++◌, length, map, take, drop, set, append_assoc, Option, Some, None, arith}
use Rattle.std.specs.Option.{unwrap_or}
use Rattle.std.specs.Prelude.{slice_index_or}
use Rattle.std.proofs.lemmas.List.{map-append}
use Rattle.usp_edge.specs.declared.note.Note.{Note}
use Rattle.usp_lab.specs.Benches.{IsTold, IsUsed, Used, append_used}
use Rattle.usp_lab.specs.Jobs.{Deed, note_of, used_of}
use Rattle.usp_lab.specs.Shares.{Part}
use Rattle.usp_lab.proofs.Rounds.Handing.{IsParted, first_drop, first_is, first_take, left_next}

used_both : (known : Option (List Used)) (xs ys : List Used) → append_used (append_used known xs) ys ≡ append_used known (xs ++ ys)
used_both None xs ys = refl
used_both (Some all) xs ys = ap Some (append_assoc all xs ys)

-- what a line tells is how it was used
pub tells_used : (deed : Deed) → IsTold deed.left × IsTold deed.put → IsUsed deed.left deed.put (used_of deed)
tells_used deed (left, put) = record {
  left = left.1 ∙ ap (λ (o : Option (List ℕ)). Some (unwrap_or o [])) (sym left.1);
  put = put.1 ∙ ap (λ (o : Option (List ℕ)). Some (unwrap_or o [])) (sym put.1);
}

module _ {W : Type 0} (p : W → Part) (count place turn : ℕ) (some : 0 < count) (now : List W) (x d0 : W) (long : length now ≡ count) (at : turn ≡ place % count)
    (first : Deed) (rest : List Deed) (made : (p (slice_index_or now turn d0)).deeds ≡ first ∷ rest) (left : (p x).deeds ≡ rest)
    (deeds : List Deed) (lt : place < length deeds) (parted : IsParted p count place now (drop place deeds)) where
  abbrev its : Deed
  its = slice_index_or deeds place first

  parted_here : IsParted p count place now (its ∷ drop (place + 1) deeds)
  parted_here = subst (IsParted p count place now) (first_drop deeds place first lt) parted

  made_here : (p (slice_index_or now (place % count) d0)).deeds ≡ first ∷ rest
  made_here = ap (λ k. (p (slice_index_or now k d0)).deeds) (sym at) ∙ made

  is_its : first ≡ its
  is_its = first_is p count place some now its (drop (place + 1) deeds) x d0 long parted_here rest first made_here left

  pub parted_next : IsParted p count (place + 1) (set now turn x) (drop (place + 1) deeds)
  parted_next = subst (λ k. IsParted p count (place + 1) (set now k x) (drop (place + 1) deeds)) (sym at)
      (left_next p count place some now its (drop (place + 1) deeds) x d0 long parted_here rest first made_here left)

  pub notes_next : (notes : List Note) → notes ≡ map note_of (take place deeds) → notes ++ first.note ∷ [] ≡ map note_of (take (place + 1) deeds)
  notes_next notes is =
      ap (λ l. l ++ first.note ∷ []) is ∙ (ap (λ (d : Deed). map note_of (take place deeds) ++ d.note ∷ []) is_its
      ∙ (sym (map-append note_of (take place deeds) (its ∷ [])) ∙ ap (map note_of) (sym (first_take deeds place first lt))))

  pub lines_next : (old mid new : Option (List Used)) → mid ≡ append_used old (map used_of (take place deeds)) → new ≡ append_used mid (used_of first ∷ [])
      → new ≡ append_used old (map used_of (take (place + 1) deeds))
  lines_next old mid new is back =
      back ∙ (ap (λ l. append_used l (used_of first ∷ [])) is ∙ (used_both old (map used_of (take place deeds)) (used_of first ∷ [])
      ∙ ap (append_used old) (ap (λ (d : Deed). map used_of (take place deeds) ++ used_of d ∷ []) is_its
      ∙ (sym (map-append used_of (take place deeds) (its ∷ [])) ∙ ap (map used_of) (sym (first_take deeds place first lt))))))
