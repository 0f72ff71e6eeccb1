-- How tasks go to shares, and deeds come from them, in turn.
use Rattle.std.proofs.Common.{◌≡◌, ◌≢◌, refl, sym, ap, ◌∙◌, subst, ℕ, zero, suc, ◌+◌, ◌<◌, ◌≤◌, ◌%◌, Bool, true, false, List, [], ◌∷◌, ◌++◌, length, map, take, drop, set, append-nil, append_assoc, length-append, Option, Some, arith}
use Rattle.std.specs.Prelude.{slice_index_or, ◌==◌}
use Rattle.std.proofs.Math.Nat.{mod-lt}
use Rattle.std.proofs.lemmas.Bool.{eqb-true, eqb-false}
use Rattle.std.proofs.lemmas.List.{get_or-set_same, get_or-set_other}
use Rattle.usp_shared.specs.Seats.{Seated}
use Rattle.usp_lab.specs.Jobs.{Deed, Task, tasks_from}
use Rattle.usp_lab.specs.Shares.{Part, share_of}
use Rattle.usp_lab.proofs.Rounds.Dealing.{share_here, share_other}
use Rattle.usp_lab.proofs.Rounds.Picking.{get_any}

abbrev pub fresh_part : List Task → List Deed → List Seated → Part
fresh_part tasks deeds seats = record { tasks = tasks; deeds = deeds; seats = seats; whole = false }

abbrev pub task_made : (place : ℕ) (left put : Option (List ℕ)) → Task
task_made place left put = record { place = place; left = left; put = put }

-- the deeds of all shares are those of a list whose first member has this place
abbrev pub IsParted : {W : Type 0} (p : W → Part) (count place : ℕ) → List W → List Deed → Type 0
IsParted {W} p count place shares deeds = (w : ℕ) (d : W) → w < count → (p (slice_index_or shares w d)).deeds ≡ share_of count place w deeds

-- the heads from a place on were dealt
pub record Dealing {W : Type 0} (p : W → Part) (heads left : List (List ℕ)) (olds now : List W) : Type 0 where
  pub more : List (List ℕ)
  pub is : heads ≡ left ++ more
  pub dealt : (w : ℕ) (d : W) → w < length olds → p (slice_index_or now w d)
      ≡ record (p (slice_index_or olds w d)) { tasks = share_of (length olds) (length left) w (tasks_from (length left) more) }

module _ {W : Type 0} (p : W → Part) (count place : ℕ) (some : 0 < count) where
  -- A list that begins at the place before was dealt, where its first member goes to the share of its turn.
  module _ (olds now : List W) (task : Task) (tasks : List Task) (x d0 : W) (long : length now ≡ count)
      (dealt : (w : ℕ) (d : W) → w < count → p (slice_index_or now w d) ≡ record (p (slice_index_or olds w d)) { tasks = share_of count (place + 1) w tasks })
      (made : p x ≡ record (p (slice_index_or now (place % count) d0)) { tasks = task ∷ (p (slice_index_or now (place % count) d0)).tasks }) where
    here_next : (d : W) → p (slice_index_or (set now (place % count) x) (place % count) d)
        ≡ record (p (slice_index_or olds (place % count) d)) { tasks = share_of count place (place % count) (task ∷ tasks) }
    here_next d =
        let at = place % count in
        let lt = mod-lt place some in
        let in_now : at < length now = omega (arith, lt, long) in
        ap p (get_or-set_same now at x d in_now)
        ∙ (made ∙ (ap (λ q. record (p q) { tasks = task ∷ (p q).tasks }) (get_any now at d0 d in_now)
        ∙ (ap (λ (q : Part). record q { tasks = task ∷ q.tasks }) (dealt at d lt)
        ∙ ap (λ l. record (p (slice_index_or olds at d)) { tasks = l }) (sym (share_here count place task tasks some)))))

    other_next : (w : ℕ) (d : W) → w < count → w ≢ place % count → p (slice_index_or (set now (place % count) x) w d)
        ≡ record (p (slice_index_or olds w d)) { tasks = share_of count place w (task ∷ tasks) }
    other_next w d lt apart =
        ap p (get_or-set_other now (place % count) w x d apart)
        ∙ (dealt w d lt ∙ ap (λ l. record (p (slice_index_or olds w d)) { tasks = l }) (sym (share_other count place w task tasks lt apart)))

    next_by : (w : ℕ) (d : W) (same : Bool) → (w == place % count) ≡ same → w < count → p (slice_index_or (set now (place % count) x) w d)
        ≡ record (p (slice_index_or olds w d)) { tasks = share_of count place w (task ∷ tasks) }
    next_by w d true is lt =
        subst (λ k. p (slice_index_or (set now (place % count) x) k d) ≡ record (p (slice_index_or olds k d)) { tasks = share_of count place k (task ∷ tasks) })
        (sym (eqb-true w (place % count) is)) (here_next d)
    next_by w d false is lt = other_next w d lt (eqb-false w (place % count) is)

    pub dealt_next : (w : ℕ) (d : W) → w < count → p (slice_index_or (set now (place % count) x) w d)
        ≡ record (p (slice_index_or olds w d)) { tasks = share_of count place w (task ∷ tasks) }
    dealt_next w d lt = next_by w d (w == place % count) refl lt

  -- The deeds of all shares are those of a list, of which one is left behind.
  module _ (now : List W) (deed : Deed) (deeds : List Deed) (x d0 : W) (long : length now ≡ count)
      (parted : IsParted p count place now (deed ∷ deeds))
      (rest : List Deed) (first : Deed) (made : (p (slice_index_or now (place % count) d0)).deeds ≡ first ∷ rest) (left : (p x).deeds ≡ rest) where
    its_own : first ∷ rest ≡ deed ∷ share_of count (place + 1) (place % count) deeds
    its_own = sym made ∙ (parted (place % count) d0 (mod-lt place some) ∙ share_here count place deed deeds some)

    -- the deed that was taken is the first
    pub first_is : first ≡ deed
    first_is = let is = its_own in cc

    rest_is : rest ≡ share_of count (place + 1) (place % count) deeds
    rest_is = let is = its_own in cc

    left_by : (w : ℕ) (d : W) (same : Bool) → (w == place % count) ≡ same → w < count
        → (p (slice_index_or (set now (place % count) x) w d)).deeds ≡ share_of count (place + 1) w deeds
    left_by w d true is lt =
        subst (λ k. (p (slice_index_or (set now (place % count) x) k d)).deeds ≡ share_of count (place + 1) k deeds) (sym (eqb-true w (place % count) is))
        (ap (λ q. (p q).deeds) (get_or-set_same now (place % count) x d (let m = mod-lt place some in omega (arith, m, long))) ∙ (left ∙ rest_is))
    left_by w d false is lt =
        let apart = eqb-false w (place % count) is in
        ap (λ q. (p q).deeds) (get_or-set_other now (place % count) w x d apart) ∙ (parted w d lt ∙ share_other count place w deed deeds lt apart)

    pub left_next : IsParted p count (place + 1) (set now (place % count) x) deeds
    left_next w d lt = left_by w d (w == place % count) refl lt

-- ---- parts and tasks that are the same

pub fresh_by : (tasks : List Task) (deeds : List Deed) (seats seats1 : List Seated) → tasks ≡ [] → deeds ≡ [] → seats ≡ seats1
    → fresh_part tasks deeds seats ≡ fresh_part [] [] seats1
fresh_by tasks deeds seats seats1 no_tasks no_deeds is =
    ap (λ l. fresh_part l deeds seats) no_tasks ∙ (ap (λ l. fresh_part [] l seats) no_deeds ∙ ap (fresh_part [] []) is)

pub task_same : (place place1 : ℕ) (left left1 put put1 : Option (List ℕ)) → place ≡ place1 → left ≡ left1 → put ≡ put1 → task_made place left put ≡ task_made place1 left1 put1
task_same place place1 left left1 put put1 here rest text =
    ap (λ k. task_made k left put) here ∙ (ap (λ o. task_made place1 o put) rest ∙ ap (task_made place1 left1) text)

-- ---- one head more

pub dealing_none : {W : Type 0} (p : W → Part) (heads : List (List ℕ)) (olds : List W)
    → ((w : ℕ) (d : W) → w < length olds → (p (slice_index_or olds w d)).tasks ≡ []) → Dealing p heads heads olds olds
dealing_none p heads olds none = record {
  more = [];
  is = sym (append-nil heads);
  dealt = λ w d lt. ap (λ l. record (p (slice_index_or olds w d)) { tasks = l }) (none w d lt);
}

module _ {W : Type 0} (p : W → Part) (heads left rest : List (List ℕ)) (head : List ℕ) (olds now : List W) (x d0 : W) (turn : ℕ)
    (some : 0 < length olds) (long : length now ≡ length olds) (is : left ≡ rest ++ head ∷ []) (at : turn ≡ length rest % length olds) (so : Dealing p heads left olds now) where
  one_less : length left ≡ length rest + 1
  one_less = ap length is ∙ (length-append rest (head ∷ []) ∙ (let e : length rest + 1 ≡ length rest + 1 = refl in e))

  before : (w : ℕ) (d : W) → w < length olds → p (slice_index_or now w d)
      ≡ record (p (slice_index_or olds w d)) { tasks = share_of (length olds) (length rest + 1) w (tasks_from (length rest + 1) so.more) }
  before w d lt = so.dealt w d lt ∙ ap (λ n. record (p (slice_index_or olds w d)) { tasks = share_of (length olds) n w (tasks_from n so.more) }) one_less

  pub dealing_next : p x ≡ record (p (slice_index_or now turn d0)) { tasks = record { place = length rest; left = Some head; put = Some [] } ∷ (p (slice_index_or now turn d0)).tasks }
      → Dealing p heads rest olds (set now turn x)
  dealing_next made = record {
    more = head ∷ so.more;
    is = so.is ∙ (ap (λ l. l ++ so.more) is ∙ append_assoc rest (head ∷ []) so.more);
    dealt = subst (λ k. (w : ℕ) (d : W) → w < length olds → p (slice_index_or (set now k x) w d)
        ≡ record (p (slice_index_or olds w d)) { tasks = share_of (length olds) (length rest) w (tasks_from (length rest) (head ∷ so.more)) }) (sym at)
        (dealt_next p (length olds) (length rest) some olds now (record { place = length rest; left = Some head; put = Some [] }) (tasks_from (length rest + 1) so.more) x d0 long before
        (subst (λ k. p x ≡ record (p (slice_index_or now k d0)) { tasks = record { place = length rest; left = Some head; put = Some [] } ∷ (p (slice_index_or now k d0)).tasks }) at made));
  }

pub dealing_done : {W : Type 0} (p : W → Part) (heads left : List (List ℕ)) (olds now : List W) → left ≡ [] → Dealing p heads left olds now
    → (w : ℕ) (d : W) → w < length olds → p (slice_index_or now w d) ≡ record (p (slice_index_or olds w d)) { tasks = share_of (length olds) 0 w (tasks_from 0 heads) }
dealing_done p heads left olds now none so w d lt =
    so.dealt w d lt
    ∙ (ap (λ n. record (p (slice_index_or olds w d)) { tasks = share_of (length olds) n w (tasks_from n so.more) }) (ap length none)
    ∙ ap (λ l. record (p (slice_index_or olds w d)) { tasks = share_of (length olds) 0 w (tasks_from 0 l) }) (sym (so.is ∙ ap (λ l. l ++ so.more) none)))

-- ---- one deed more

pub first_drop : {X : Type 0} (xs : List X) (i : ℕ) (d : X) → i < length xs → drop i xs ≡ slice_index_or xs i d ∷ drop (i + 1) xs
first_drop [] i d lt = absurd (omega (arith, lt))
first_drop (x ∷ xs) zero d lt = ap (λ l. x ∷ l) (let e : xs ≡ drop (0 + 1) (x ∷ xs) = refl in e)
first_drop (x ∷ xs) (suc i) d lt =
    first_drop xs i d (omega (arith, lt)) ∙ ap (λ n. slice_index_or xs i d ∷ drop n (x ∷ xs)) (let e : suc (i + 1) ≡ suc i + 1 = omega arith in e)

pub first_take : {X : Type 0} (xs : List X) (i : ℕ) (d : X) → i < length xs → take (i + 1) xs ≡ take i xs ++ slice_index_or xs i d ∷ []
first_take xs i d lt = subst (λ n. take n xs ≡ take i xs ++ slice_index_or xs i d ∷ []) (let e : suc i ≡ i + 1 = omega arith in e) (its xs i lt) where
  its : (ys : List _) (k : ℕ) → k < length ys → take (suc k) ys ≡ take k ys ++ slice_index_or ys k d ∷ []
  its [] k less = absurd (omega (arith, less))
  its (y ∷ ys) zero less = refl
  its (y ∷ ys) (suc k) less = ap (λ l. y ∷ l) (its ys k (omega (arith, less)))
