-- Each step keeps the rule.
use Rattle.std.proofs.Common.{◌≡◌, ◌≢◌, ℕ, zero, suc, ◌+◌, ◌-◌, ◌%◌, ◌^◌, ◌<◌, ◌≤◌, ⊎_elim, Bool, true, false, List, [], ◌∷◌, ◌++◌, length, set, refl, sym, ap, ◌∙◌, subst, arith, append-nil, length-append}
use Rattle.std.proofs.Math.Nat.{mod-eq_of_lt}
use Rattle.std.specs.Prelude.{Option, Some, ◌==◌, if◌then◌else◌, MatchBool, slice_index}
use mathlib.Core.Option.{some, none, some-injective, some-ne-none}
use lib.ListN.{get_elem?}
use Rattle.atomic_table.specs.Table.{State, Step, Act, keeps, takes, gives, Allows, Valid, carried_after, stepped}
use Rattle.atomic_table.proofs.Lists.{at_set, set_here, set_else, set_again, at_snoc}
use Rattle.usp_nonce.specs.History.{Call, IsLegal}
use Rattle.usp_nonce.specs.Table.{Table}
use Rattle.usp_shared.specs.Places.{times, once_below, AreDistinctBelow}
use Rattle.usp_shared.specs.Rule.{Kept, Knows, Has, Sat, TakesTurn, rank, open_at, times_of, placed_of, left_of, open_of, total_of, drawn, looked, committed, passed}
use Rattle.usp_shared.specs.declared.rule.Stage.TheVariants.{Idle, Waits, HasTurn, IsDone}
use Rattle.usp_shared.specs.declared.rule.Terms.{Terms}
use Rattle.usp_shared.specs.declared.rule.View.{View}
use Rattle.usp_shared.proofs.Counts.{times_more, once_more, distinct_rises, distinct_more}
use Rattle.usp_shared.proofs.Fronts.{prefix_self, prefix_trans, prefix_length}
use Rattle.usp_shared.proofs.Totals.{sum_at}

abbrev pub Board : Type 0
Board = State (Option Table) View

abbrev pub Hand : Type 0
Hand = List (ℕ × Option Table)

abbrev pub Homes : Type 0
Homes = List (mathlib.Core.Option.Option (Option Table))

pub at_within : (vs : List View) (id : ℕ) (v : View) → get_elem? vs id ≡ some v → id < length vs
at_within [] id v e = absurd (some-ne-none v (sym e))
at_within (x ∷ xs) zero v e = omega arith
at_within (x ∷ xs) (suc id) v e = let below = at_within xs id v e in omega (arith, below)

-- what each seat knows, after one view changes
pub each : (Q : ℕ → View → Type 0) (vs : List View) (id : ℕ) (w : View) → Q id w
    → ((by : ℕ) (u : View) → by ≢ id → get_elem? vs by ≡ some u → Q by u)
    → (by : ℕ) (u : View) → get_elem? (set vs id w) by ≡ some u → Q by u
each Q vs id w here others by u e = ⊎_elim
    (λ t. let P : ℕ × View → Type 0 = λ z. Q z.0 z.1 in subst P (λ i. (sym t.0 i, t.1 i)) here)
    (λ t. others by u t.0 t.1)
    (at_set vs id by w u e)

-- what each seat knows, after one more seat came
pub each_more : (Q : ℕ → View → Type 0) (vs : List View) (v : View) → ((by : ℕ) → Q by v) → ((by : ℕ) (u : View) → get_elem? vs by ≡ some u → Q by u)
    → (by : ℕ) (u : View) → get_elem? (vs ++ v ∷ []) by ≡ some u → Q by u
each_more Q vs v new old by u e = ⊎_elim (λ t. old by u t) (λ t. subst (Q by) t (new by)) (at_snoc vs v u by e)

-- the owner of tickets, once id has drawn the ticket n
abbrev owned : (ℕ → ℕ) → ℕ → ℕ → ℕ → ℕ
owned owner n id t = if t == n then id else owner t

owned_new : (owner : ℕ → ℕ) (n id : ℕ) → owned owner n id n ≡ id
owned_new owner n id = grind arith

owned_old : (owner : ℕ → ℕ) (n id t : ℕ) → t < n → owned owner n id t ≡ owner t
owned_old owner n id t lt = grind arith

-- a view that is not changed stays
pub stays : (vs : List View) (id by : ℕ) (v w u : View) → get_elem? vs id ≡ some v → get_elem? vs by ≡ some u → rank u.stage ≢ rank v.stage → get_elem? (set vs id w) by ≡ some u
stays vs id by v w u at there apart =
    let ne : by ≢ id = λ e. apart (ap (λ (x : View). rank x.stage) (some-injective u v (sym there ∙ (ap (get_elem? vs) e ∙ at)))) in
    set_else vs id by w ne ∙ there

abbrev pub Can : (Board → Type 0) → Board → ℕ → ℕ → Hand → (ℕ → ℕ) → (ℕ → Sat → Type 0) → List ℕ → Type 0
Can holds s id i hand f tells ws =
    (w : View) × (a : Act (Option Table)) × Valid s.homes hand a
    × holds (stepped (record s { words = ws }) i (f (slice_index ws i)) id hand w a)
    × tells (slice_index ws i) (w, carried_after hand a)

abbrev pub raised : ℕ → ℕ
raised n = (n + 1) % 2 ^ 64

draws_keeps : (terms : Terms) (id : ℕ) (v : View) (s : Board) (k : Kept terms s) → rank v.stage ≡ 0 → open_at v.stage ≡ 0 → 0 < v.left → get_elem? s.views id ≡ some v
    → Kept terms (stepped (record s { words = length k.log ∷ k.next ∷ k.serving ∷ [] }) 1 (raised k.next) id [] (record v { left = v.left - 1; ticket = k.next; stage = Waits }) keeps)
draws_keeps terms id v s k idle closed can at =
    let w : View = record v { left = v.left - 1; ticket = k.next; stage = Waits } in
    let sums : total_of left_of (set s.views id w) + v.left ≡ total_of left_of s.views + (v.left - 1) = sum_at left_of s.views id v w at in
    let placed : total_of placed_of (set s.views id w) + length v.places ≡ total_of placed_of s.views + length v.places = sum_at placed_of s.views id v w at in
    let opened : total_of open_of (set s.views id w) + open_at v.stage ≡ total_of open_of s.views + 1 = sum_at open_of s.views id v w at in
    let bound : k.next + 1 < 2 ^ 64 = omega (arith, sums, k.shares, k.small) in
    record {
      log = k.log;
      next = k.next + 1;
      serving = k.serving;
      owner = owned k.owner k.next id;
      busy = k.busy;
      words = ap (λ (t : ℕ). length k.log ∷ t ∷ k.serving ∷ []) (mod-eq_of_lt bound);
      legal = k.legal;
      order = omega (arith, k.order);
      small = k.small;
      shares = omega (arith, sums, k.shares, can);
      placed = omega (arith, placed, k.placed);
      waits = omega (arith, opened, closed, k.waits);
      counted = λ x. omega (arith, sum_at (times_of x) s.views id v w at, k.counted x);
      knows = each (Knows k.log (k.next + 1) k.serving (owned k.owner k.next id) k.busy) s.views id w
          (let old = k.knows id v at in record {
            seen = old.seen;
            told = old.told;
            mine = old.mine;
            waits = λ _. (k.order, omega arith, owned_new k.owner k.next id);
            turn = λ h. absurd (omega (arith, h));
            done = λ h. absurd (omega (arith, h));
            opened = omega arith;
          })
          (λ by u other e. let old = k.knows by u e in record {
            seen = old.seen;
            told = old.told;
            mine = old.mine;
            waits = λ h. let was = old.waits h in (was.0, omega (arith, was.1), owned_old k.owner k.next id u.ticket was.1 ∙ was.2);
            turn = old.turn;
            done = old.done;
            opened = old.opened;
          });
      home = k.home;
      out = λ b. let was = k.out b in
          let knew = k.knows (k.owner k.serving) was.1.0 was.1.1 in
          let stage : 2 ≤ rank was.1.0.stage = was.1.2 in
          let waits = knew.waits (omega (arith, stage)) in
          let turn = knew.turn stage in
          let early : k.serving < k.next = omega (arith, waits.1, turn.0) in
          let same = owned_old k.owner k.next id k.serving early in
          (was.0, (was.1.0, ap (get_elem? (set s.views id w)) same ∙ stays s.views id (k.owner k.serving) v w was.1.0 at was.1.1 (λ e. omega (arith, e, idle, stage)), stage));
    }

-- drawing a ticket
pub draws : (terms : Terms) (id slots : ℕ) (v : View) (st : Step (Option Table)) → v.stage ≡ Idle → 0 < v.left
    → Allows (Kept terms) slots id (v, []) 1 raised (drawn st (v, []))
draws terms id slots v st idle can s k deep at small =
    subst (Can (Kept terms) s id 1 [] raised (drawn st (v, []))) (sym k.words)
    (record v { left = v.left - 1; ticket = k.next; stage = Waits }, keeps, tt, draws_keeps terms id v s k (ap rank idle) (ap open_at idle) can at, refl)

-- two seats with one ticket are one
one_holder : (terms : Terms) (s : Board) (k : Kept terms s) (by id : ℕ) (u v : View) → get_elem? s.views by ≡ some u → get_elem? s.views id ≡ some v
    → 0 < rank u.stage → 0 < rank v.stage → u.ticket ≡ v.ticket → by ≡ id
one_holder terms s k by id u v eu ev pu pv same =
    sym ((k.knows by u eu).waits pu).2 ∙ (ap k.owner same ∙ ((k.knows id v ev).waits pv).2)

commits_keeps : (terms : Terms) (id : ℕ) (call : Call) (v : View) (hand : Hand) (s : Board) (k : Kept terms s) → rank v.stage ≡ 2 → open_at v.stage ≡ 1
    → IsLegal terms.table.room (v.seen ++ call ∷ []) → get_elem? s.views id ≡ some v
    → Kept terms (stepped (record s { words = length k.log ∷ k.next ∷ k.serving ∷ [] }) 0 (raised (length k.log)) id hand (record v { seen = v.seen ++ call ∷ []; places = v.places ++ length k.log ∷ []; stage = IsDone }) keeps)
commits_keeps terms id call v hand s k stage undone legal at =
    let w : View = record v { seen = v.seen ++ call ∷ []; places = v.places ++ length k.log ∷ []; stage = IsDone } in
    let mine = k.knows id v at in
    let turn = mine.turn (omega (arith, stage)) in
    let waits = mine.waits (omega (arith, stage)) in
    let sums : total_of left_of (set s.views id w) + v.left ≡ total_of left_of s.views + v.left = sum_at left_of s.views id v w at in
    let placed : total_of placed_of (set s.views id w) + length v.places ≡ total_of placed_of s.views + length (v.places ++ length k.log ∷ []) = sum_at placed_of s.views id v w at in
    let opened : total_of open_of (set s.views id w) + open_at v.stage ≡ total_of open_of s.views + 0 = sum_at open_of s.views id v w at in
    let here : k.owner k.serving ≡ id = ap k.owner (sym turn.0) ∙ waits.2 in
    let after : v.seen ++ call ∷ [] ≡ k.log ++ call ∷ [] = ap (λ (l : List Call). l ++ call ∷ []) turn.1 in
    let longer : length (k.log ++ call ∷ []) ≡ length k.log + 1 = length-append k.log (call ∷ []) in
    let bound : length k.log + 1 < 2 ^ 64 = omega (arith, turn.2, stage, waits.1, turn.0, k.shares, k.small) in
    record {
      log = k.log ++ call ∷ [];
      next = k.next;
      serving = k.serving;
      owner = k.owner;
      busy = true;
      words = ap (λ (t : ℕ). t ∷ k.next ∷ k.serving ∷ []) (mod-eq_of_lt bound ∙ sym longer);
      legal = subst (IsLegal terms.table.room) after legal;
      order = k.order;
      small = k.small;
      shares = omega (arith, sums, k.shares);
      placed = omega (arith, placed, k.placed, longer, length-append v.places (length k.log ∷ []));
      waits = omega (arith, opened, undone, k.waits, longer);
      counted = λ x.
          let more : total_of (times_of x) (set s.views id w) + times x v.places ≡ total_of (times_of x) s.views + times x (v.places ++ length k.log ∷ []) = sum_at (times_of x) s.views id v w at in
          let grown : total_of (times_of x) (set s.views id w) ≡ once_below (length k.log + 1) x = omega (arith, more, times_more x (length k.log) v.places, k.counted x, once_more (length k.log) x) in
          grown ∙ ap (λ (n : ℕ). once_below n x) (sym longer);
      knows = each (Knows (k.log ++ call ∷ []) k.next k.serving k.owner true) s.views id w
          (record {
            seen = ([], append-nil (v.seen ++ call ∷ []) ∙ after);
            told = prefix_trans v.told k.log (k.log ++ call ∷ []) mine.told (call ∷ [], refl);
            mine = subst (λ (n : ℕ). AreDistinctBelow n (v.places ++ length k.log ∷ [])) (sym longer ∙ ap length (sym after))
                (distinct_more (length v.seen) (length k.log) v.places (prefix_length v.seen k.log mine.seen) mine.mine);
            waits = λ _. waits;
            turn = λ _. (turn.0, after, omega (arith, longer, turn.2, stage), refl);
            done = λ _. omega (arith, length-append v.places (length k.log ∷ []));
            opened = omega arith;
          })
          (λ by u apart e. let old = k.knows by u e in record {
            seen = prefix_trans u.seen k.log (k.log ++ call ∷ []) old.seen (call ∷ [], refl);
            told = prefix_trans u.told k.log (k.log ++ call ∷ []) old.told (call ∷ [], refl);
            mine = old.mine;
            waits = old.waits;
            turn = λ h. absurd (apart (one_holder terms s k by id u v e at (omega (arith, h)) (omega (arith, stage)) ((old.turn h).0 ∙ sym turn.0)));
            done = old.done;
            opened = old.opened;
          });
      home = λ b. absurd (cc b);
      out = λ _. ((k.out turn.3).0, (w, ap (get_elem? (set s.views id w)) here ∙ set_here s.views id w (at_within s.views id v at), omega arith));
    }

-- entering the call
pub commits : (terms : Terms) (id slots : ℕ) (call : Call) (v : View) (hand : Hand) (st : Step (Option Table)) → v.stage ≡ HasTurn → IsLegal terms.table.room (v.seen ++ call ∷ [])
    → Allows (Kept terms) slots id (v, hand) 0 raised (committed call st (v, hand))
commits terms id slots call v hand st stage legal s k deep at small =
    let two : rank v.stage ≡ 2 = ap rank stage in
    subst (Can (Kept terms) s id 0 hand raised (committed call st (v, hand))) (sym k.words) (
      record v { seen = v.seen ++ call ∷ []; places = v.places ++ length k.log ∷ []; stage = IsDone },
      keeps,
      tt,
      commits_keeps terms id call v hand s k two (ap open_at stage) legal at,
      (ap length (sym ((k.knows id v at).turn (omega (arith, two))).1), refl),
    )

passes_keeps : (terms : Terms) (id : ℕ) (v : View) (table : Table) (s : Board) (k : Kept terms s) → rank v.stage ≡ 3 → open_at v.stage ≡ 0 → Has terms.table.room table v.seen → get_elem? s.views id ≡ some v
    → Kept terms (stepped (record s { words = length k.log ∷ k.next ∷ k.serving ∷ [] }) 2 (raised k.serving) id ((0, Some table) ∷ []) (record v { stage = Idle }) gives)
passes_keeps terms id v table s k stage closed has at =
    let w : View = record v { stage = Idle } in
    let mine = k.knows id v at in
    let turn = mine.turn (omega (arith, stage)) in
    let waits = mine.waits (omega (arith, stage)) in
    let sums : total_of left_of (set s.views id w) + v.left ≡ total_of left_of s.views + v.left = sum_at left_of s.views id v w at in
    let placed : total_of placed_of (set s.views id w) + length v.places ≡ total_of placed_of s.views + length v.places = sum_at placed_of s.views id v w at in
    let opened : total_of open_of (set s.views id w) + open_at v.stage ≡ total_of open_of s.views + 0 = sum_at open_of s.views id v w at in
    let bound : k.serving + 1 < 2 ^ 64 = omega (arith, waits.1, turn.0, k.shares, k.small) in
    record {
      log = k.log;
      next = k.next;
      serving = k.serving + 1;
      owner = k.owner;
      busy = false;
      words = ap (λ (t : ℕ). length k.log ∷ k.next ∷ t ∷ []) (mod-eq_of_lt bound);
      legal = k.legal;
      order = omega (arith, waits.1, turn.0);
      small = k.small;
      shares = omega (arith, sums, k.shares);
      placed = omega (arith, placed, k.placed);
      waits = omega (arith, opened, closed, k.waits);
      counted = λ x. omega (arith, sum_at (times_of x) s.views id v w at, k.counted x);
      knows = each (Knows k.log k.next (k.serving + 1) k.owner false) s.views id w
          (record {
            seen = mine.seen;
            told = mine.told;
            mine = mine.mine;
            waits = λ h. absurd (omega (arith, h));
            turn = λ h. absurd (omega (arith, h));
            done = λ h. absurd (omega (arith, h));
            opened = omega arith;
          })
          (λ by u apart e. let old = k.knows by u e in record {
            seen = old.seen;
            told = old.told;
            mine = old.mine;
            waits = λ h. let was = old.waits h in
                let ne : u.ticket ≢ k.serving = λ same. apart (one_holder terms s k by id u v e at h (omega (arith, stage)) (same ∙ sym turn.0)) in
                (omega (arith, was.0, ne), was.1, was.2);
            turn = λ h. absurd (apart (one_holder terms s k by id u v e at (omega (arith, h)) (omega (arith, stage)) ((old.turn h).0 ∙ sym turn.0)));
            done = old.done;
            opened = old.opened;
          });
      home = λ _. (table, ap (λ (hs : Homes). set hs 0 (some (Some table))) (k.out turn.3).0, subst (Has terms.table.room table) turn.1 has, omega (arith, turn.2, stage));
      out = λ b. absurd (cc b);
    }

-- passing the turn on
pub passes : (terms : Terms) (id slots : ℕ) (v : View) (table : Table) (st : Step (Option Table)) → v.stage ≡ IsDone → Has terms.table.room table v.seen
    → Allows (Kept terms) slots id (v, (0, Some table) ∷ []) 2 raised (passed st (v, (0, Some table) ∷ []))
passes terms id slots v table st stage has s k deep at small =
    subst (Can (Kept terms) s id 2 ((0, Some table) ∷ []) raised (passed st (v, (0, Some table) ∷ []))) (sym k.words)
    (record v { stage = Idle }, gives, tt, passes_keeps terms id v table s k (ap rank stage) (ap open_at stage) has at, refl)

-- a seat that reads a word and does nothing
pub reads_keeps : (terms : Terms) (id : ℕ) (v : View) (s : Board) (k : Kept terms s) → get_elem? s.views id ≡ some v
    → Kept terms record { words = length k.log ∷ k.next ∷ k.serving ∷ []; homes = s.homes; views = set s.views id v }
reads_keeps terms id v s k at =
    let P : List View → Type 0 = λ vs. Kept terms record { words = length k.log ∷ k.next ∷ k.serving ∷ []; homes = s.homes; views = vs } in
    subst P (sym (set_again s.views id v at)) (subst (λ (ws : List ℕ). Kept terms record { words = ws; homes = s.homes; views = s.views }) k.words k)

-- a seat whose ticket is served, and which has no turn yet, finds the nonce table at home
at_home : (terms : Terms) (id : ℕ) (v : View) (s : Board) (k : Kept terms s) → rank v.stage ≡ 1 → get_elem? s.views id ≡ some v → k.serving ≡ v.ticket → (b : Bool) → k.busy ≡ b → k.busy ≡ false
at_home terms id v s k stage at served false is = is
at_home terms id v s k stage at served true is =
    let out = (k.out is).1 in
    let waits = (k.knows id v at).waits (omega (arith, stage)) in
    let here : k.owner k.serving ≡ id = ap k.owner served ∙ waits.2 in
    let same : out.0 ≡ v = some-injective out.0 v (sym out.1 ∙ (ap (get_elem? s.views) here ∙ at)) in
    absurd (omega (arith, out.2, ap (λ (u : View). rank u.stage) same, stage))

turns_keeps : (terms : Terms) (id : ℕ) (v : View) (s : Board) (k : Kept terms s) (table : Table) → rank v.stage ≡ 1 → open_at v.stage ≡ 1 → get_elem? s.views id ≡ some v → k.serving ≡ v.ticket
    → k.busy ≡ false → s.homes ≡ some (Some table) ∷ [] → length k.log ≡ k.serving
    → Kept terms (stepped (record s { words = length k.log ∷ k.next ∷ k.serving ∷ [] }) 2 k.serving id [] (record v { seen = k.log; stage = HasTurn }) (takes 0 (Some table)))
turns_keeps terms id v s k table stage undone at served free homes long =
    let w : View = record v { seen = k.log; stage = HasTurn } in
    let mine = k.knows id v at in
    let waits = mine.waits (omega (arith, stage)) in
    let here : k.owner k.serving ≡ id = ap k.owner served ∙ waits.2 in
    let sums : total_of left_of (set s.views id w) + v.left ≡ total_of left_of s.views + v.left = sum_at left_of s.views id v w at in
    let placed : total_of placed_of (set s.views id w) + length v.places ≡ total_of placed_of s.views + length v.places = sum_at placed_of s.views id v w at in
    let opened : total_of open_of (set s.views id w) + open_at v.stage ≡ total_of open_of s.views + 1 = sum_at open_of s.views id v w at in
    record {
      log = k.log;
      next = k.next;
      serving = k.serving;
      owner = k.owner;
      busy = true;
      words = refl;
      legal = k.legal;
      order = k.order;
      small = k.small;
      shares = omega (arith, sums, k.shares);
      placed = omega (arith, placed, k.placed);
      waits = omega (arith, opened, undone, k.waits);
      counted = λ x. omega (arith, sum_at (times_of x) s.views id v w at, k.counted x);
      knows = each (Knows k.log k.next k.serving k.owner true) s.views id w
          (record {
            seen = prefix_self k.log;
            told = mine.told;
            mine = distinct_rises (length v.seen) (length k.log) v.places (prefix_length v.seen k.log mine.seen) mine.mine;
            waits = λ _. waits;
            turn = λ _. (sym served, refl, omega (arith, long), refl);
            done = λ h. absurd (omega (arith, h));
            opened = omega arith;
          })
          (λ by u apart e. let old = k.knows by u e in record {
            seen = old.seen;
            told = old.told;
            mine = old.mine;
            waits = old.waits;
            turn = λ h. absurd (cc ((old.turn h).3, free));
            done = old.done;
            opened = old.opened;
          });
      home = λ b. absurd (cc b);
      out = λ _. (ap (λ (hs : Homes). set hs 0 none) homes, (w, ap (get_elem? (set s.views id w)) here ∙ set_here s.views id w (at_within s.views id v at), omega arith));
    }

looks_by : (terms : Terms) (id : ℕ) (v : View) (st : Step (Option Table)) (s : Board) (k : Kept terms s) → v.stage ≡ Waits → get_elem? s.views id ≡ some v
    → (b : Bool) → (k.serving == v.ticket) ≡ b
    → Can (Kept terms) s id 2 [] (λ n. n) (looked terms.table.room st (v, [])) (length k.log ∷ k.next ∷ k.serving ∷ [])
looks_by terms id v st s k stage at false is =
    let m : Sat = (v, []) in
    (v, keeps, tt, reads_keeps terms id v s k at, subst (λ (b : Bool). MatchBool b (TakesTurn terms.table.room m m) (m ≡ m)) (sym is) refl)
looks_by terms id v st s k stage at true is =
    let served : k.serving ≡ v.ticket = grind (arith, is) in
    let one : rank v.stage ≡ 1 = ap rank stage in
    let free = at_home terms id v s k one at served k.busy refl in
    let home = k.home free in
    let w : View = record v { seen = k.log; stage = HasTurn } in
    let m : Sat = (v, []) in
    let n : Sat = (w, (0, Some home.0) ∷ []) in (
      w,
      takes 0 (Some home.0),
      ap (λ (hs : Homes). get_elem? hs 0) home.1,
      turns_keeps terms id v s k home.0 one (ap open_at stage) at served free home.1 home.3,
      subst (λ (b : Bool). MatchBool b (TakesTurn terms.table.room m n) (n ≡ m)) (sym is)
          (record {
            table = home.0;
            held = refl;
            has = home.2;
            legal = k.legal;
            view = refl;
            more = (k.knows id v at).seen;
            small = omega (arith, home.3, k.order, k.shares, k.small);
          }),
    )

-- looking whether the ticket is served
pub looks : (terms : Terms) (id slots : ℕ) (v : View) (st : Step (Option Table)) → v.stage ≡ Waits
    → Allows (Kept terms) slots id (v, []) 2 (λ n. n) (looked terms.table.room st (v, []))
looks terms id slots v st stage s k deep at small =
    subst (Can (Kept terms) s id 2 [] (λ n. n) (looked terms.table.room st (v, []))) (sym k.words) (looks_by terms id v st s k stage at (k.serving == v.ticket) refl)
