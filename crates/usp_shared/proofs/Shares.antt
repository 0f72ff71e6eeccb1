-- A seat is split, and two are joined.
use Rattle.std.proofs.Common.{◌≡◌, ℕ, ◌+◌, ◌-◌, ◌<◌, ◌≤◌, Bool, true, false, List, [], ◌∷◌, ◌++◌, length, set, refl, sym, ap, ◌∙◌, subst, arith, length-append}
use Rattle.std.specs.Prelude.{Option, if◌then◌else◌, nat_lt}
use mathlib.Core.Option.{some}
use mathlib.Core.List.{IsPrefix}
use lib.ListN.{get_elem?}
use Rattle.atomic_table.specs.Table.{Step, keeps, Allows, Splits, Joins}
use Rattle.atomic_table.proofs.Lists.{set_here, set_else, at_longer}
use Rattle.usp_nonce.specs.History.{Call}
use Rattle.usp_nonce.specs.Table.{Table}
use Rattle.usp_shared.specs.Histories.{longer_of, shorter_of}
use Rattle.usp_shared.specs.Places.{times, once_below}
use Rattle.usp_shared.specs.Rule.{Kept, Knows, rank, open_at, times_of, placed_of, left_of, open_of, total_of, compared, kept_part, given_part, joined, spent}
use Rattle.usp_shared.specs.declared.rule.Stage.TheVariants.{Idle}
use Rattle.usp_shared.specs.declared.rule.Terms.{Terms}
use Rattle.usp_shared.specs.declared.rule.View.{View}
use Rattle.usp_shared.proofs.Counts.{times_append, once_le, once_rises, distinct_none}
use Rattle.usp_shared.proofs.Fronts.{prefix_self, prefix_both}
use Rattle.usp_shared.proofs.Keeps.{Hand, Can, each, each_more, stays, at_within, reads_keeps}
use Rattle.usp_shared.proofs.Totals.{sum_at, total_snoc, part_le}

-- a seat with no ticket is split
pub splits : (terms : Terms) (id n : ℕ) (v : View) → v.stage ≡ Idle → n ≤ v.left → Splits (Kept terms) id v (kept_part n v) (given_part n v)
splits terms id n v stage enough s k at =
    let idle : rank v.stage ≡ 0 = ap rank stage in
    let w : View = kept_part n v in
    let new : View = given_part n v in
    let after : List View = set s.views id w in
    let lefts : total_of left_of after + v.left ≡ total_of left_of s.views + (v.left - n) = sum_at left_of s.views id v w at in
    let lefts' : total_of left_of (after ++ new ∷ []) ≡ total_of left_of after + n = total_snoc left_of after new in
    let placed : total_of placed_of after + length v.places ≡ total_of placed_of s.views + length v.places = sum_at placed_of s.views id v w at in
    let placed' : total_of placed_of (after ++ new ∷ []) ≡ total_of placed_of after + 0 = total_snoc placed_of after new in
    let opened : total_of open_of after + open_at v.stage ≡ total_of open_of s.views + open_at v.stage = sum_at open_of s.views id v w at in
    let opened' : total_of open_of (after ++ new ∷ []) ≡ total_of open_of after + 0 = total_snoc open_of after new in
    record {
      log = k.log;
      next = k.next;
      serving = k.serving;
      owner = k.owner;
      busy = k.busy;
      words = k.words;
      legal = k.legal;
      order = k.order;
      small = k.small;
      shares = omega (arith, lefts, lefts', k.shares, enough);
      placed = omega (arith, placed, placed', k.placed);
      waits = omega (arith, opened, opened', k.waits);
      counted = λ x.
          let more : total_of (times_of x) (after ++ new ∷ []) ≡ total_of (times_of x) after + 0 = total_snoc (times_of x) after new in
          omega (arith, more, sum_at (times_of x) s.views id v w at, k.counted x);
      knows = each_more (Knows k.log k.next k.serving k.owner k.busy) after new
          (λ by. record {
            seen = (k.knows id v at).seen;
            told = (k.log, refl);
            mine = distinct_none (length v.seen);
            waits = λ h. absurd (omega (arith, h));
            turn = λ h. absurd (omega (arith, h));
            done = λ h. absurd (omega (arith, h));
            opened = omega arith;
          })
          (each (Knows k.log k.next k.serving k.owner k.busy) s.views id w
          (let old = k.knows id v at in record { seen = old.seen; told = old.told; mine = old.mine; waits = old.waits; turn = old.turn; done = old.done; opened = old.opened })
          (λ by u apart e. k.knows by u e));
      home = k.home;
      out = λ b. let was = k.out b in
          let u = was.1.0 in
          let turn : 2 ≤ rank u.stage = was.1.2 in
          let there = stays s.views id (k.owner k.serving) v w u at was.1.1 (λ e. omega (arith, e, idle, turn)) in
          (was.0, (u, at_longer after (new ∷ []) (k.owner k.serving) u there, turn));
    }

longer_by : (a b : List Call) (t : Bool) → nat_lt (length a) (length b) ≡ t → (length a ≤ length (if t then b else a)) × (length b ≤ length (if t then b else a)) × (length (if t then a else b) ≤ length (if t then b else a))
longer_by a b true is = let lt : length a < length b = grind (arith, is) in (omega (arith, lt), omega arith, omega (arith, lt))
longer_by a b false is = let le : length b ≤ length a = grind (arith, is) in (omega arith, omega (arith, le), omega (arith, le))

pub longer_is : (a b : List Call) → (length a ≤ length (longer_of a b)) × (length b ≤ length (longer_of a b)) × (length (shorter_of a b) ≤ length (longer_of a b))
longer_is a b = longer_by a b (nat_lt (length a) (length b)) refl

longer_front : (a b log : List Call) → IsPrefix a log → IsPrefix b log → IsPrefix (longer_of a b) log × IsPrefix (shorter_of a b) log
longer_front a b log p q =
    elim (nat_lt (length a) (length b)) as (λ (t : Bool). IsPrefix (if t then b else a) log × IsPrefix (if t then a else b) log) [ true ↦ (q, p) | false ↦ (p, q) ]

both_by : (a b : List Call) (t : Bool) → IsPrefix (if t then a else b) (if t then b else a) → IsPrefix a (if t then b else a) × IsPrefix b (if t then b else a)
both_by a b true p = (p, prefix_self b)
both_by a b false p = (prefix_self a, p)

-- both are beginnings of the longer, once the shorter is
pub both_begin : (a b : List Call) → IsPrefix (shorter_of a b) (longer_of a b) → IsPrefix a (longer_of a b) × IsPrefix b (longer_of a b)
both_begin a b p = both_by a b (nat_lt (length a) (length b)) p

-- a seat with no ticket takes in another that has none
pub joins : (terms : Terms) (id other : ℕ) (v w : View) → v.stage ≡ Idle → w.stage ≡ Idle → Joins (Kept terms) id v other w (joined v w) spent
joins terms id other v w stage stage' s k at apart there =
    let idle : rank v.stage ≡ 0 = ap rank stage in
    let idle' : rank w.stage ≡ 0 = ap rank stage' in
    let closed : open_at v.stage ≡ 0 = ap open_at stage in
    let closed' : open_at w.stage ≡ 0 = ap open_at stage' in
    let both : View = joined v w in
    let after : List View = set s.views id both in
    let last : List View = set after other spent in
    let was : get_elem? s.views other ≡ some w = sym (set_else s.views id other both apart) ∙ there in
    let lefts : total_of left_of after + v.left ≡ total_of left_of s.views + (v.left + w.left) = sum_at left_of s.views id v both at in
    let lefts' : total_of left_of last + w.left ≡ total_of left_of after + 0 = sum_at left_of after other w spent there in
    let placed : total_of placed_of after + length v.places ≡ total_of placed_of s.views + length (v.places ++ w.places) = sum_at placed_of s.views id v both at in
    let placed' : total_of placed_of last + length w.places ≡ total_of placed_of after + 0 = sum_at placed_of after other w spent there in
    let opened : total_of open_of after + open_at v.stage ≡ total_of open_of s.views + 0 = sum_at open_of s.views id v both at in
    let opened' : total_of open_of last + open_at w.stage ≡ total_of open_of after + 0 = sum_at open_of after other w spent there in
    let counted : (x : ℕ) → total_of (times_of x) last ≡ once_below (length k.log) x = λ x.
    let one : total_of (times_of x) after + times x v.places ≡ total_of (times_of x) s.views + times x (v.places ++ w.places) = sum_at (times_of x) s.views id v both at in
    let two : total_of (times_of x) last + times x w.places ≡ total_of (times_of x) after + 0 = sum_at (times_of x) after other w spent there in
    omega (arith, one, two, times_append x v.places w.places, k.counted x) in
    let mine = k.knows id v at in
    let others = k.knows other w was in
    let fronts = longer_front v.seen w.seen k.log mine.seen others.seen in
    let long = longer_is v.seen w.seen in
    let still : get_elem? last id ≡ some both = set_else after other id spent (λ e. apart (sym e)) ∙ set_here s.views id both (at_within s.views id v at) in
    record {
      log = k.log;
      next = k.next;
      serving = k.serving;
      owner = k.owner;
      busy = k.busy;
      words = k.words;
      legal = k.legal;
      order = k.order;
      small = k.small;
      shares = omega (arith, lefts, lefts', k.shares);
      placed = omega (arith, placed, placed', length-append v.places w.places, k.placed);
      waits = omega (arith, opened, opened', closed, closed', k.waits);
      counted = counted;
      knows = each (Knows k.log k.next k.serving k.owner k.busy) after other spent
          (record {
            seen = (k.log, refl);
            told = (k.log, refl);
            mine = distinct_none 0;
            waits = λ h. absurd (omega (arith, h));
            turn = λ h. absurd (omega (arith, h));
            done = λ h. absurd (omega (arith, h));
            opened = omega arith;
          })
          (λ by u ne e. each (Knows k.log k.next k.serving k.owner k.busy) s.views id both
          (record {
            seen = fronts.0;
            told = fronts.1;
            mine = record {
              at_most = λ x.
                  let part : times x (v.places ++ w.places) ≤ total_of (times_of x) last = part_le (times_of x) last id both still in
                  omega (
                    arith,
                    part,
                    counted x,
                    times_append x v.places w.places,
                    mine.mine.at_most x,
                    others.mine.at_most x,
                    once_rises (length v.seen) (length (longer_of v.seen w.seen)) x long.0,
                    once_rises (length w.seen) (length (longer_of v.seen w.seen)) x long.1,
                    once_le (length k.log) x,
                    once_le (length (longer_of v.seen w.seen)) x,
                  );
            };
            waits = λ h. absurd (omega (arith, h));
            turn = λ h. absurd (omega (arith, h));
            done = λ h. absurd (omega (arith, h));
            opened = omega arith;
          })
          (λ by' u' ne' e'. k.knows by' u' e') by u e);
      home = k.home;
      out = λ b. let had = k.out b in
          let u = had.1.0 in
          let turn : 2 ≤ rank u.stage = had.1.2 in
          let first = stays s.views id (k.owner k.serving) v both u at had.1.1 (λ e. omega (arith, e, idle, turn)) in
          (had.0, (u, stays after other (k.owner k.serving) w spent u there first (λ e. omega (arith, e, idle', turn)), turn));
    }

-- comparing what a joined seat was told with what it has seen
pub compares : (terms : Terms) (id slots : ℕ) (v : View) (hand : Hand) (st : Step (Option Table)) → length v.told ≤ length v.seen
    → Allows (Kept terms) slots id (v, hand) 0 (λ n. n) (compared st (v, hand))
compares terms id slots v hand st short s k deep at small =
    let knew = k.knows id v at in
    subst (Can (Kept terms) s id 0 hand (λ n. n) (compared st (v, hand))) (sym k.words) (
      v,
      keeps,
      tt,
      reads_keeps terms id v s k at,
      record {
        told = prefix_both v.told v.seen k.log knew.told knew.seen short;
        mine = knew.mine;
        small = omega (arith, part_le left_of s.views id v at, part_le placed_of s.views id v at, k.shares, k.waits, k.placed, k.small);
        same = refl;
      },
    )
