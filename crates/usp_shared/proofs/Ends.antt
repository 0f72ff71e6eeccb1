-- The table as it is made, and as it is closed.
use Rattle.std.proofs.Common.{◌≡◌, ℕ, zero, suc, ◌+◌, ◌<◌, ◌≤◌, Bool, true, false, List, [], ◌∷◌, length, set, refl, sym, ap, subst, arith}
use Rattle.std.specs.Prelude.{Some}
use mathlib.Core.Option.{some, some-injective, some-ne-none}
use lib.ListN.{get_elem?}
use Rattle.atomic_table.specs.Table.{Seen}
use Rattle.usp_nonce.specs.History.{Call, IsLegal}
use Rattle.usp_nonce.specs.Table.{Table}
use Rattle.usp_nonce.specs.declared.limits.TheConstants.{MAX_CALLS}
use Rattle.usp_shared.specs.Places.{times, AreAllBelow}
use Rattle.usp_shared.specs.Rule.{Kept, Knows, Has, rank, open_at, times_of, placed_of, left_of, open_of, total_of, spent, first_view}
use Rattle.usp_shared.specs.declared.rule.Stage.{Stage}
use Rattle.usp_shared.specs.declared.rule.Stage.TheVariants.{Idle, Waits, HasTurn, IsDone, Opens, Fills}
use Rattle.usp_shared.specs.declared.rule.Terms.{Terms}
use Rattle.usp_shared.specs.declared.rule.View.{View}
use Rattle.usp_shared.proofs.Counts.{times_le, distinct_none, all_below}
use Rattle.usp_shared.proofs.Fronts.{prefix_whole}
use Rattle.usp_shared.proofs.Keeps.{Board, Homes, stays}
use Rattle.usp_nonce.proofs.Legal.{legal_none}
use Rattle.usp_shared.proofs.Totals.{sum_at, part_le, total_le}

pub at_only : (v u : View) (by : ℕ) → get_elem? (v ∷ []) by ≡ some u → v ≡ u
at_only v u zero e = some-injective v u e
at_only v u (suc by) e = absurd (some-ne-none u (sym e))

-- the table as it is made
pub opens : (terms : Terms) (table : Table) → terms.share < MAX_CALLS → Has terms.table.room table [] → Kept terms record { words = 0 ∷ 0 ∷ 0 ∷ []; homes = some (Some table) ∷ []; views = first_view terms Idle ∷ [] }
opens terms table small has = record {
  log = [];
  next = 0;
  serving = 0;
  owner = λ t. t;
  busy = false;
  words = refl;
  legal = legal_none terms.table.room;
  order = omega arith;
  small = small;
  shares = let is : (terms.share + 0) + 0 ≡ terms.share = omega arith in is;
  placed = refl;
  waits = refl;
  counted = λ x. grind arith;
  knows = λ by u e. subst (Knows [] 0 0 (λ t. t) false by) (at_only (first_view terms Idle) u by e)
      (record {
        seen = ([], refl);
        told = ([], refl);
        mine = distinct_none 0;
        waits = λ h. absurd (omega (arith, h));
        turn = λ h. absurd (omega (arith, h));
        done = λ h. absurd (omega (arith, h));
        opened = omega arith;
      });
  home = λ _. (table, refl, has, refl);
  out = λ b. absurd (cc b);
}

-- a stage with the turn is one whose ticket has no call yet, or is done
turn_cases : (stage : Stage) → 2 ≤ rank stage → rank stage ≤ 3 → open_at stage ≡ 0 → rank stage ≡ 3
turn_cases Idle low high none = absurd (omega (arith, low))
turn_cases Waits low high none = absurd (omega (arith, low))
turn_cases HasTurn low high none = absurd (omega (arith, none))
turn_cases IsDone low high none = refl
turn_cases Opens low high none = absurd (omega (arith, high))
turn_cases Fills low high none = absurd (omega (arith, high))

-- Where one seat has the whole share, no other has a ticket that is open, or a place
record Alone (id : ℕ) (v : View) (s : Board) : Type 0 where
  pub no_place : total_of placed_of (set s.views id spent) ≡ 0
  pub no_ticket : total_of open_of (set s.views id spent) ≡ 0

alone : (terms : Terms) (id : ℕ) (v : View) (s : Board) (k : Kept terms s) → get_elem? s.views id ≡ some v → open_at v.stage ≡ 0 → v.left + length v.places ≡ terms.share → Alone id v s
alone terms id v s k at closed whole =
    let lefts : total_of left_of (set s.views id spent) + v.left ≡ total_of left_of s.views + 0 = sum_at left_of s.views id v spent at in
    let placed : total_of placed_of (set s.views id spent) + length v.places ≡ total_of placed_of s.views + 0 = sum_at placed_of s.views id v spent at in
    let opened : total_of open_of (set s.views id spent) + open_at v.stage ≡ total_of open_of s.views + 0 = sum_at open_of s.views id v spent at in
    record {
      no_place = omega (arith, lefts, placed, opened, closed, whole, k.shares, k.waits, k.placed);
      no_ticket = omega (arith, lefts, placed, opened, closed, whole, k.shares, k.waits, k.placed);
    }

-- then nobody has the turn
free_by : (terms : Terms) (id : ℕ) (v : View) (s : Board) (k : Kept terms s) → rank v.stage ≡ 0 → get_elem? s.views id ≡ some v → Alone id v s → (b : Bool) → k.busy ≡ b → k.busy ≡ false
free_by terms id v s k idle at one false is = is
free_by terms id v s k idle at one true is =
    let had = k.out is in
    let u = had.1.0 in
    let by = k.owner k.serving in
    let turn : 2 ≤ rank u.stage = had.1.2 in
    let there = stays s.views id by v spent u at had.1.1 (λ same. omega (arith, same, idle, turn)) in
    let knew = k.knows by u had.1.1 in
    let p : length u.places ≤ total_of placed_of (set s.views id spent) = part_le placed_of (set s.views id spent) by u there in
    let w : open_at u.stage ≤ total_of open_of (set s.views id spent) = part_le open_of (set s.views id spent) by u there in
    let three = turn_cases u.stage turn knew.opened (omega (arith, w, one.no_ticket)) in
    absurd (omega (arith, knew.done three, p, one.no_place))

-- and all places are that seat's
all_own : (terms : Terms) (id : ℕ) (v : View) (s : Board) (k : Kept terms s) → get_elem? s.views id ≡ some v → Alone id v s → AreAllBelow (length k.log) v.places
all_own terms id v s k at one = record {
  just = λ x.
      let mine : total_of (times_of x) (set s.views id spent) + times x v.places ≡ total_of (times_of x) s.views + 0 = sum_at (times_of x) s.views id v spent at in
      let none : total_of (times_of x) (set s.views id spent) ≤ total_of placed_of (set s.views id spent) =
      total_le (times_of x) placed_of (set s.views id spent) (λ u. times_le x u.places) in
      omega (arith, mine, none, one.no_place, k.counted x);
}

-- What a table is at its end, for the seat that has the whole share. The nonce table is at home and stands for the
-- history, which is legal, all seen, and all calls of the seat.
pub record Closes (terms : Terms) (v : View) (s : Board) : Type 0 where
  pub table : Table
  pub home : get_elem? s.homes 0 ≡ some (some (Some table))
  pub has : Has terms.table.room table v.seen
  pub legal : IsLegal terms.table.room v.seen
  pub all : AreAllBelow (length v.seen) v.places
  pub counted : length v.places ≡ length v.seen

pub closes : (terms : Terms) (id : ℕ) (v : View) (s : Board) → Seen (Kept terms) id v s → v.stage ≡ Idle → v.left + length v.places ≡ terms.share → Closes terms v s
closes terms id v s seen idle whole =
    let k = seen.0 in
    let one = alone terms id v s k seen.1 (ap open_at idle) whole in
    let free = free_by terms id v s k (ap rank idle) seen.1 one k.busy refl in
    let home = k.home free in
    let knew = k.knows id v seen.1 in
    let all = all_own terms id v s k seen.1 one in
    let same : v.seen ≡ k.log = prefix_whole v.seen k.log knew.seen (all_below (length v.seen) (length k.log) v.places knew.mine all) in
    record {
      table = home.0;
      home = ap (λ (hs : Homes). get_elem? hs 0) home.1;
      has = subst (Has terms.table.room home.0) (sym same) home.2;
      legal = subst (IsLegal terms.table.room) (sym same) k.legal;
      all = subst (λ (l : List Call). AreAllBelow (length l) v.places) (sym same) all;
      counted =
          let placed : total_of placed_of (set s.views id spent) + length v.places ≡ total_of placed_of s.views + 0 = sum_at placed_of s.views id v spent seen.1 in
          omega (arith, placed, one.no_place, k.placed, ap length same);
    }
