-- Sets of node numbers.
use Rattle.std.proofs.Common.{◌≡◌, ◌≢◌, ℕ, zero, suc, ◌+◌, ◌-◌, ◌<◌, ◌≤◌, Bool, true, false, not, ◌||◌, nat_eq, eqb, List, [], ◌∷◌, ◌++◌, length, length-append, get_or, set, refl, sym, ap, ◌∙◌, subst, inl, inr, arith, if◌then◌else◌, length-set, get_or-set_same, get_or-set_other, eq-eqb, ne_eqb, replicate}
use Rattle.std.specs.Prelude.{All, slice_index, slice_get, take, Some, ◌⊎◌}
use Rattle.std.specs.List.{list_any}
use Rattle.std.proofs.lemmas.List.Elements.{All-same, All-replicate}
use Rattle.std.proofs.lemmas.List.{get_or-take, length-take-le}
use Rattle.std.proofs.Math.Seq.{take-set-lt}
use Rattle.std.proofs.lemmas.Bool.{cases_eq, cases_lt, true≢false}
use Rattle.std.proofs.lemmas.Bool.Decides.{nat_tests}
use Rattle.usp_ere.specs.NodeSets.{has, with_one, with_all, other_marks, IsMarked, IsStamped}

has_more : (s q : ℕ) (list : List ℕ) → has s (list ++ q ∷ []) ≡ has s list || nat_eq q s
has_more s q [] = or_false (nat_eq q s)
  where
    or_false : (b : Bool) → b || false ≡ b
    or_false true = refl
    or_false false = refl
has_more s q (m ∷ list) = ap (λ b. nat_eq m s || b) (has_more s q list) ∙ or_assoc (nat_eq m s) (has s list) (nat_eq q s)
  where
    or_assoc : (a b c : Bool) → a || (b || c) ≡ (a || b) || c
    or_assoc true b c = refl
    or_assoc false b c = refl

-- what was a member stays one
pub has_kept : (s q : ℕ) (list : List ℕ) → has s list ≡ true → has s (with_one list q) ≡ true
has_kept s q list h = kept (has q list) refl
  where
    kept : (b : Bool) → has q list ≡ b → has s (if b then list else list ++ q ∷ []) ≡ true
    kept true e = h
    kept false e = has_more s q list ∙ ap (λ b. b || nat_eq q s) h

pub has_added : (q : ℕ) (list : List ℕ) → has q (with_one list q) ≡ true
has_added q list = added (has q list) refl
  where
    or_true : (b : Bool) → b || true ≡ true
    or_true true = refl
    or_true false = refl

    added : (b : Bool) → has q list ≡ b → has q (if b then list else list ++ q ∷ []) ≡ true
    added true e = e
    added false e = has_more q q list ∙ ap (λ b. has q list || b) (eq-eqb q q refl) ∙ or_true (has q list)

pub has_kept_all : (s : ℕ) (list qs : List ℕ) → has s list ≡ true → has s (with_all list qs) ≡ true
has_kept_all s list [] h = h
has_kept_all s list (q ∷ qs) h = has_kept_all s (with_one list q) qs (has_kept s q list h)

pub has_added_all : (s : ℕ) (list qs : List ℕ) → has s qs ≡ true → has s (with_all list qs) ≡ true
has_added_all s list [] h = absurd (true≢false (sym h))
has_added_all s list (q ∷ qs) h = elim (cases_eq q s) [
  | inl same ↦ has_kept_all s (with_one list q) qs (subst (λ z. has z (with_one list q) ≡ true) same (has_added q list))
  | inr other ↦ has_added_all s (with_one list q) qs (sym (ap (λ b. b || has s qs) (ne_eqb q s other)) ∙ h)
]

-- a mark that is no stamp is among those
pub other_set : (stamp k : ℕ) (marks : List ℕ) → k < length marks → nat_eq (get_or marks k 0) stamp ≡ false → other_marks stamp (set marks k stamp) + 1 ≡ other_marks stamp marks
other_set stamp k [] lt differs = absurd (omega arith)
other_set stamp zero (m ∷ ms) lt differs = rw differs (rw (eq-eqb stamp stamp refl) (omega arith))
other_set stamp (suc k) (m ∷ ms) lt differs = step (nat_eq m stamp) (other_set stamp k ms (omega arith) differs)
  where
    step : (b : Bool) → other_marks stamp (set ms k stamp) + 1 ≡ other_marks stamp ms → (if b then other_marks stamp (set ms k stamp) else suc (other_marks stamp (set ms k stamp))) + 1 ≡ (if b then other_marks stamp ms else suc (other_marks stamp ms))
    step true e = e
    step false e = omega arith

pub other_none : (stamp : ℕ) (marks : List ℕ) → All (λ m. m < stamp) marks → other_marks stamp marks ≡ length marks
other_none stamp [] below = refl
other_none stamp (m ∷ ms) below =
    let lt : m < stamp = below 0 0 (omega arith) in
    rw (ne_eqb m stamp (omega arith)) (ap suc (other_none stamp ms (λ k d h. below (suc k) d (omega arith))))

pub marked_none : (stamp : ℕ) (marks : List ℕ) → All (λ m. m < stamp) marks → IsMarked marks stamp []
marked_none stamp marks below = record { by = λ q lt. let l : get_or marks q 0 < stamp = below q 0 lt in ne_eqb _ _ (omega arith) }

pub marked_more : (stamp k : ℕ) (marks list : List ℕ) → k < length marks → IsMarked marks stamp list → nat_eq (get_or marks k 0) stamp ≡ false → IsMarked (set marks k stamp) stamp (list ++ k ∷ [])
marked_more stamp k marks list lt m differs = record {
  by = λ q within. elim (cases_eq q k) [
    | inl same ↦
        let here : nat_eq (get_or (set marks k stamp) q 0) stamp ≡ true = rw same (ap (λ z. eqb z stamp) (get_or-set_same marks k stamp 0 lt) ∙ eq-eqb stamp stamp refl) in
        here ∙ sym (has_more q k list ∙ ap (λ b. has q list || b) (eq-eqb k q (sym same)) ∙ or_true (has q list))
    | inr other ↦
        ap (λ z. eqb z stamp) (get_or-set_other marks k q stamp 0 other)
        ∙ m.by q (omega (arith, length-set marks k stamp))
        ∙ sym (has_more q k list ∙ ap (λ b. has q list || b) (ne_eqb k q (λ e. other (sym e))) ∙ or_false (has q list))
  ];
}
  where
    or_true : (b : Bool) → b || true ≡ true
    or_true true = refl
    or_true false = refl

    or_false : (b : Bool) → b || false ≡ b
    or_false true = refl
    or_false false = refl

-- an empty set
pub stamped_none : (marks : List ℕ) (stamp : ℕ) → All (λ m. m < stamp) marks → IsStamped marks stamp []
stamped_none marks stamp below = record {
  marked = marked_none stamp marks below;
  counted = omega (arith, other_none stamp marks below);
  stamped = λ k d h. let l : get_or marks k d < stamp = below k d h in omega arith;
  numbers = λ k d h. absurd (omega arith);
}

pub stamped_zeros : (marks : List ℕ) (n : ℕ) → marks ≡ replicate n 0 → IsStamped marks 1 []
stamped_zeros marks n e = stamped_none marks 1 (All-same (λ m. m < 1) _ _ e (All-replicate (λ m. m < 1) n 0 (omega arith)))

pub stamped_next : (marks : List ℕ) (stamp : ℕ) (list : List ℕ) → IsStamped marks stamp list → IsStamped marks (stamp + 1) []
stamped_next marks stamp list s = stamped_none marks (stamp + 1) (λ k d h. let l : get_or marks k d ≤ stamp = s.stamped k d h in omega arith)

-- one more member
pub stamped_more : (marks : List ℕ) (stamp : ℕ) (list : List ℕ) (k : ℕ) → IsStamped marks stamp list → k < length marks → nat_eq (get_or marks k 0) stamp ≡ false → IsStamped (set marks k stamp) stamp (list ++ k ∷ [])
stamped_more marks stamp list k s lt differs =
    let same : length (set marks k stamp) ≡ length marks = length-set marks k stamp in
    record {
      marked = marked_more stamp k marks list lt s.marked differs;
      counted = omega (arith, s.counted, other_set stamp k marks lt differs, length-append list (k ∷ []), same);
      stamped = λ q d h. elim (cases_eq q k) [
        | inl e ↦ let v : get_or (set marks k stamp) q d ≡ stamp = rw e (get_or-set_same marks k stamp d lt) in omega (arith, v)
        | inr other ↦ let v : get_or (set marks k stamp) q d ≡ get_or marks q d = get_or-set_other marks k q stamp d other in let l : get_or marks q d ≤ stamp = s.stamped q d (omega (arith, same)) in omega (arith, v)
      ];
      numbers = λ q d h. let r : get_or (list ++ k ∷ []) q d < length marks = at_more list k (length marks) s.numbers lt q d h in omega (arith, same);
    }
  where
    at_more : (list : List ℕ) (k n : ℕ) → All (λ q. q < n) list → k < n → All (λ q. q < n) (list ++ k ∷ [])
    at_more [] k n all lt zero d h = lt
    at_more [] k n all lt (suc i) d h = absurd (omega arith)
    at_more (m ∷ list) k n all lt zero d h = all 0 d (omega arith)
    at_more (m ∷ list) k n all lt (suc i) d h = at_more list k n (λ j e g. all (suc j) e (omega arith)) lt i d (omega arith)

-- there is room for a new member
pub stamped_room : (marks : List ℕ) (stamp : ℕ) (list : List ℕ) (k : ℕ) → IsStamped marks stamp list → k < length marks → nat_eq (get_or marks k 0) stamp ≡ false → length list < length marks
stamped_room marks stamp list k s lt differs = omega (arith, s.counted, other_set stamp k marks lt differs)

pub stamped_within : (marks : List ℕ) (stamp : ℕ) (list : List ℕ) → IsStamped marks stamp list → length list ≤ length marks
stamped_within marks stamp list s = omega (arith, s.counted)

pub same_within : (xs : List ℕ) (k d e : ℕ) → k < length xs → get_or xs k d ≡ get_or xs k e
same_within [] k d e lt = absurd (omega arith)
same_within (x ∷ xs) zero d e lt = refl
same_within (x ∷ xs) (suc k) d e lt = same_within xs k d e (omega arith)

pub length_with_one : (list : List ℕ) (q : ℕ) → length (with_one list q) ≡ (if has q list then length list else length list + 1)
length_with_one list q = go (has q list)
  where
    go : (b : Bool) → length (if b then list else list ++ q ∷ []) ≡ (if b then length list else length list + 1)
    go true = refl
    go false = length-append list (q ∷ [])

-- a member is an old one or the new one
pub has_cases : (s q : ℕ) (list : List ℕ) → has s (list ++ q ∷ []) ≡ true → (has s list ≡ true) ⊎ (q ≡ s)
has_cases s q list h = elim (cases_eq q s) [
  | inl same ↦ inr same
  | inr other ↦ inl (sym (has_more s q list ∙ ap (λ b. has s list || b) (ne_eqb q s other) ∙ or_false (has s list)) ∙ h)
]
  where
    or_false : (b : Bool) → b || false ≡ b
    or_false true = refl
    or_false false = refl

one_cases : (s q : ℕ) (list : List ℕ) (b : Bool) → has s (if b then list else list ++ q ∷ []) ≡ true → (has s list ≡ true) ⊎ (q ≡ s)
one_cases s q list true h = inl h
one_cases s q list false h = has_cases s q list h

pub all_cases : (s : ℕ) (list qs : List ℕ) → has s (with_all list qs) ≡ true → (has s list ≡ true) ⊎ (has s qs ≡ true)
all_cases s list [] h = inl h
all_cases s list (q ∷ qs) h = elim (all_cases s (with_one list q) qs h) [
  | inl old ↦ elim (one_cases s q list (has q list) old) [
    | inl older ↦ inl older
    | inr same ↦ inr (ap (λ b. b || has s qs) (eq-eqb q s same))
  ]
  | inr later ↦ inr (or_later (nat_eq q s) (has s qs) later)
]
  where
    or_later : (a b : Bool) → b ≡ true → a || b ≡ true
    or_later true b e = refl
    or_later false b e = e

-- the front stays
pub take_with_one : (k q : ℕ) (list : List ℕ) → k ≤ length list → take k (with_one list q) ≡ take k list
take_with_one k q list le = go (has q list)
  where
    front : (k : ℕ) (list : List ℕ) → k ≤ length list → take k (list ++ q ∷ []) ≡ take k list
    front zero list le = refl
    front (suc k) [] le = absurd (omega arith)
    front (suc k) (x ∷ list) le = ap (λ l. x ∷ l) (front k list (omega arith))

    go : (b : Bool) → take k (if b then list else list ++ q ∷ []) ≡ take k list
    go true = refl
    go false = front k list le

pub take_with_all : (k : ℕ) (list qs : List ℕ) → k ≤ length list → take k (with_all list qs) ≡ take k list
take_with_all k list [] le = refl
take_with_all k list (q ∷ qs) le =
    take_with_all k (with_one list q) qs (grows (has q list)) ∙ take_with_one k q list le
  where
    grows : (b : Bool) → k ≤ length (if b then list else list ++ q ∷ [])
    grows true = le
    grows false = omega (arith, length-append list (q ∷ []))

take_suc : (k q : ℕ) (list : List ℕ) → slice_get list k ≡ Some q → take (suc k) list ≡ take k list ++ q ∷ []
take_suc k q [] e = cc
take_suc zero q (x ∷ list) e = let same : x ≡ q = cc in ap (λ y. y ∷ []) same
take_suc (suc k) q (x ∷ list) e = ap (λ l. x ∷ l) (take_suc k q list e)

pub take_next : (k q : ℕ) (list : List ℕ) → slice_get list k ≡ Some q → take (k + 1) list ≡ take k list ++ q ∷ []
take_next k q list e = let same : k + 1 ≡ suc k = omega arith in ap (λ n. take n list) same ∙ take_suc k q list e

pub has_at : (list : List ℕ) (k q : ℕ) → slice_get list k ≡ Some q → has q list ≡ true
has_at [] k q e = cc
has_at (x ∷ list) zero q e = let same : x ≡ q = cc in ap (λ b. b || has q list) (eq-eqb x q same)
has_at (x ∷ list) (suc k) q e = or_later (nat_eq x q) (has q list) (has_at list k q e)
  where
    or_later : (a b : Bool) → b ≡ true → a || b ≡ true
    or_later true b e = refl
    or_later false b e = e

-- Sets over the front of the marks

all_front : (marks : List ℕ) (room n : ℕ) → All (λ m. m < n) marks → All (λ m. m < n) (take room marks)
all_front marks zero n below k d h = absurd (omega arith)
all_front [] (suc room) n below k d h = absurd (omega arith)
all_front (m ∷ marks) (suc room) n below zero d h = below 0 d (omega arith)
all_front (m ∷ marks) (suc room) n below (suc k) d h = all_front marks room n (λ j e g. below (suc j) e (omega arith)) k d (omega arith)

pub all_zeros : (marks : List ℕ) (n : ℕ) → marks ≡ replicate n 0 → All (λ m. m ≤ 1) marks
all_zeros marks n e = All-same (λ m. m ≤ 1) _ _ e (All-replicate (λ m. m ≤ 1) n 0 (omega arith))

pub fit_zeros : (marks : List ℕ) (room n : ℕ) → marks ≡ replicate n 0 → IsStamped (take room marks) 1 []
fit_zeros marks room n e = stamped_none (take room marks) 1 (all_front marks room 1 (All-same (λ m. m < 1) _ _ e (All-replicate (λ m. m < 1) n 0 (omega arith))))

pub fit_next : (marks : List ℕ) (stamp room : ℕ) → All (λ m. m ≤ stamp) marks → IsStamped (take room marks) (stamp + 1) []
fit_next marks stamp room below = stamped_none (take room marks) (stamp + 1) (all_front marks room (stamp + 1) (λ k d h. let l : get_or marks k d ≤ stamp = below k d h in omega arith))

pub all_set : (marks : List ℕ) (stamp k : ℕ) → All (λ m. m ≤ stamp) marks → k < length marks → All (λ m. m ≤ stamp) (set marks k stamp)
all_set marks stamp k below lt q d h = elim (cases_eq q k) [
  | inl e ↦ let v : get_or (set marks k stamp) q d ≡ stamp = rw e (get_or-set_same marks k stamp d lt) in omega (arith, v)
  | inr other ↦ let v : get_or (set marks k stamp) q d ≡ get_or marks q d = get_or-set_other marks k q stamp d other in let l : get_or marks q d ≤ stamp = below q d (omega (arith, length-set marks k stamp)) in omega (arith, v)
]

pub front_more : (marks : List ℕ) (stamp room : ℕ) (list : List ℕ) (k : ℕ) → room ≤ length marks → IsStamped (take room marks) stamp list → k < room → nat_eq (get_or marks k 0) stamp ≡ false → IsStamped (take room (set marks k stamp)) stamp (list ++ k ∷ [])
front_more marks stamp room list k le s lt differs =
    let in_front : k < length (take room marks) = omega (arith, length-take-le room marks le) in
    subst (λ l. IsStamped l stamp (list ++ k ∷ [])) (sym (take-set-lt room marks k stamp lt))
    (stamped_more (take room marks) stamp list k s in_front (ap (λ z. nat_eq z stamp) (get_or-take room marks k 0 lt) ∙ differs))

pub front_room : (marks : List ℕ) (stamp room : ℕ) (list : List ℕ) (k : ℕ) → room ≤ length marks → IsStamped (take room marks) stamp list → k < room → nat_eq (get_or marks k 0) stamp ≡ false → length list < room
front_room marks stamp room list k le s lt differs =
    let len : length (take room marks) ≡ room = length-take-le room marks le in
    let r = stamped_room (take room marks) stamp list k s (omega (arith, len)) (ap (λ z. nat_eq z stamp) (get_or-take room marks k 0 lt) ∙ differs) in omega (arith, len)

-- what is read of a set
pub front_within : (marks : List ℕ) (stamp room : ℕ) (list : List ℕ) → room ≤ length marks → IsStamped (take room marks) stamp list → length list ≤ room
front_within marks stamp room list le s = omega (arith, s.counted, length-take-le room marks le)

pub front_number : (marks : List ℕ) (stamp room : ℕ) (list : List ℕ) (k d : ℕ) → room ≤ length marks → IsStamped (take room marks) stamp list → k < length list → get_or list k d < room
front_number marks stamp room list k d le s lt = let r : get_or list k d < length (take room marks) = s.numbers k d lt in omega (arith, length-take-le room marks le)

pub front_has : (marks : List ℕ) (stamp room : ℕ) (list : List ℕ) (k m : ℕ) → room ≤ length marks → IsStamped (take room marks) stamp list → k < room → m ≡ get_or marks k m → nat_eq m stamp ≡ has k list
front_has marks stamp room list k m le s lt is =
    let read : m ≡ get_or (take room marks) k 0 = is ∙ same_within marks k m 0 (omega arith) ∙ sym (get_or-take room marks k 0 lt) in
    ap (λ z. nat_eq z stamp) read ∙ s.marked.by k (omega (arith, length-take-le room marks le))

pub lone : (list : List ℕ) (q : ℕ) → length list ≡ 1 → slice_get list 0 ≡ Some q → list ≡ q ∷ []
lone [] q one at = absurd (omega arith)
lone (x ∷ []) q one at = let same : x ≡ q = cc in ap (λ y. y ∷ []) same
lone (x ∷ y ∷ list) q one at = absurd (omega arith)
