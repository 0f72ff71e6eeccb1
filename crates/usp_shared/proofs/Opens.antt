-- The first seat puts the nonce table into the slot, and the rule that holds from then on.
use Rattle.std.proofs.Common.{◌≡◌, ℕ, zero, suc, ◌<◌, ◌≤◌, ⊎_elim, inl, inr, List, [], ◌∷◌, set, refl, sym, ap, ◌∙◌, subst, arith}
use Rattle.std.specs.Prelude.{Option, Some, None, slice_index}
use mathlib.Core.Option.{some, none, some-injective, some-ne-none}
use lib.ListN.{get_elem?}
use Rattle.atomic_table.specs.Table.{Step, takes, gives, Allows, Splits, Joins, Seen, opening}
use Rattle.usp_nonce.specs.Table.{Table}
use Rattle.usp_nonce.specs.declared.limits.TheConstants.{MAX_CALLS}
use Rattle.usp_shared.specs.Rule.{Holds, Kept, Has, IsUnfilled, Sat, rank, first_view, newcomer, emptied, passed}
use Rattle.usp_shared.specs.declared.rule.Stage.{Stage}
use Rattle.usp_shared.specs.declared.rule.Stage.TheVariants.{Idle, Opens, Fills}
use Rattle.usp_shared.specs.declared.rule.Terms.{Terms}
use Rattle.usp_shared.specs.declared.rule.View.{View}
use Rattle.usp_shared.proofs.Ends.{at_only, opens}
use Rattle.usp_shared.proofs.Keeps.{Board, Hand, Homes}

-- the table as it is made
pub starts : (terms : Terms) → terms.share < MAX_CALLS → Holds terms (opening (0 ∷ 0 ∷ 0 ∷ []) (None ∷ []) (newcomer terms))
starts terms small = inr (inl (record { words = refl; homes = refl; views = refl; small = small }))

-- the one seat of an unfilled table
seat_of : (terms : Terms) (stage : Stage) (home : mathlib.Core.Option.Option (Option Table)) (s : Board) (u : IsUnfilled terms stage home s) (id : ℕ) (v : View)
    → get_elem? s.views id ≡ some v → first_view terms stage ≡ v
seat_of terms stage home s u id v at = at_only (first_view terms stage) v id (ap (λ (vs : List View). get_elem? vs id) (sym u.views) ∙ at)

-- a seat that makes calls is none of an unfilled table
pub running : (terms : Terms) (s : Board) (id : ℕ) (v : View) → rank v.stage ≤ 3 → Holds terms s → get_elem? s.views id ≡ some v → Kept terms s
running terms s id v low holds at = ⊎_elim (λ k. k)
    (λ unfilled. absurd (⊎_elim
    (λ u. let same = ap (λ (w : View). rank w.stage) (seat_of terms Opens (some None) s u id v at) in omega (arith, same, low))
    (λ u. let same = ap (λ (w : View). rank w.stage) (seat_of terms Fills none s u id v at) in omega (arith, same, low))
    unfilled))
    holds

-- so its steps are those that keep the rule of a filled table
pub allows : (terms : Terms) (slots id : ℕ) (v : View) (hand : Hand) (i : ℕ) (f : ℕ → ℕ) (tells : ℕ → Sat → Type 0) → rank v.stage ≤ 3
    → Allows (Kept terms) slots id (v, hand) i f tells → Allows (Holds terms) slots id (v, hand) i f tells
allows terms slots id v hand i f tells low can s holds deep at small =
    let step = can s (running terms s id v low holds at) deep at small in
    (step.0, step.1, step.2, inl step.3, step.4)

pub splits_too : (terms : Terms) (id : ℕ) (v left right : View) → rank v.stage ≤ 3 → Splits (Kept terms) id v left right → Splits (Holds terms) id v left right
splits_too terms id v left right low can s holds at = inl (can s (running terms s id v low holds at) at)

pub joins_too : (terms : Terms) (id other : ℕ) (v w both spent : View) → rank v.stage ≤ 3 → Joins (Kept terms) id v other w both spent → Joins (Holds terms) id v other w both spent
joins_too terms id other v w both spent low can s holds at apart there = inl (can s (running terms s id v low holds at) at apart there)

pub seen_too : (terms : Terms) (id : ℕ) (v : View) (s : Board) → rank v.stage ≤ 3 → Seen (Holds terms) id v s → Seen (Kept terms) id v s
seen_too terms id v s low seen = (running terms s id v low seen.0 seen.1, seen.1)

-- a table with one seat has it at 0
first_id : (vs : List View) (w v : View) (id : ℕ) → vs ≡ w ∷ [] → get_elem? vs id ≡ some v → id ≡ 0
first_id vs w v zero one at = refl
first_id vs w v (suc id) one at = absurd (some-ne-none v (sym (ap (λ (us : List View). get_elem? us (suc id)) (sym one) ∙ at)))

set_only : (vs : List View) (w v : View) (id : ℕ) → vs ≡ w ∷ [] → id ≡ 0 → set vs id v ≡ v ∷ []
set_only vs w v id one is = ap (λ (k : ℕ). set vs k v) is ∙ ap (λ (us : List View). set us 0 v) one

read_again : (ws : List ℕ) → ws ≡ 0 ∷ 0 ∷ 0 ∷ [] → set ws 0 (slice_index ws 0) ≡ 0 ∷ 0 ∷ 0 ∷ []
read_again ws is = ap (λ (us : List ℕ). set us 0 (slice_index us 0)) is

-- the first seat takes the empty slot
pub empties : (terms : Terms) (id slots : ℕ) (st : Step (Option Table))
    → Allows (Holds terms) slots id (first_view terms Opens, []) 0 (λ n. n) (emptied st (first_view terms Opens, []))
empties terms id slots st s holds deep at small =
    let v : View = first_view terms Opens in
    let w : View = first_view terms Fills in
    ⊎_elim
    (λ k. absurd (let low : 4 ≤ 3 = (k.knows id v at).opened in omega (arith, low)))
    (λ unfilled. ⊎_elim
    (λ u. (
      w,
      takes 0 None,
      ap (λ (hs : Homes). get_elem? hs 0) u.homes,
      inr (inr (record {
        words = read_again s.words u.words;
        homes = ap (λ (hs : Homes). set hs 0 none) u.homes;
        views = set_only s.views v w id u.views (first_id s.views v v id u.views at);
        small = u.small;
      })),
      refl,
    ))
    (λ u. absurd (let same : 5 ≡ 4 = ap (λ (x : View). rank x.stage) (seat_of terms Fills none s u id v at) in omega (arith, same)))
    unfilled)
    holds

-- and gives it back with the nonce table in it
pub fills : (terms : Terms) (id slots : ℕ) (table : Table) (st : Step (Option Table)) → Has terms.table.room table []
    → Allows (Holds terms) slots id (first_view terms Fills, (0, Some table) ∷ []) 0 (λ n. n) (passed st (first_view terms Fills, (0, Some table) ∷ []))
fills terms id slots table st has s holds deep at small =
    let v : View = first_view terms Fills in
    let w : View = first_view terms Idle in
    ⊎_elim
    (λ k. absurd (let low : 5 ≤ 3 = (k.knows id v at).opened in omega (arith, low)))
    (λ unfilled. ⊎_elim
    (λ u. absurd (let same : 4 ≡ 5 = ap (λ (x : View). rank x.stage) (seat_of terms Opens (some None) s u id v at) in omega (arith, same)))
    (λ u.
    let words = read_again s.words u.words in
    let homes : set s.homes 0 (some (Some table)) ≡ some (Some table) ∷ [] = ap (λ (hs : Homes). set hs 0 (some (Some table))) u.homes in
    let views = set_only s.views v w id u.views (first_id s.views v v id u.views at) in
    let P : List ℕ → Homes → List View → Type 0 = λ ws hs vs. Kept terms record { words = ws; homes = hs; views = vs } in (
      w,
      gives,
      tt,
      inl (subst (λ ws. P ws (set s.homes 0 (some (Some table))) (set s.views id w)) (sym words)
          (subst (λ hs. P (0 ∷ 0 ∷ 0 ∷ []) hs (set s.views id w)) (sym homes)
          (subst (λ vs. P (0 ∷ 0 ∷ 0 ∷ []) (some (Some table) ∷ []) vs) (sym views) (opens terms table u.small has)))),
      refl,
    ))
    unfilled)
    holds
