-- What tables lend, one after the other.
use Rattle.std.proofs.Common.{◌≡◌, refl, sym, ap, ◌∙◌, subst, ℕ, zero, suc, ◌+◌, ◌-◌, ◌*◌, ◌<◌, ◌≤◌, List, [], ◌∷◌, ◌++◌, length, map, take, drop, set, append-nil, suc-mul, arith}
use Rattle.std.specs.Prelude.{All, slice_index_or}
use Rattle.std.proofs.Math.Nat.{mul-le-mul_right}
use Rattle.usp_shared.specs.Seats.{Seated}
use Rattle.usp_lab.specs.Tables.{TableValue, kept_of, lent, part_at, shared_of}

-- ---- a loop that changes each member by f

at_rest : {X : Type 0} (f : X → X) (xs : List X) (i : ℕ) (d : X) → i < length xs → slice_index_or (map f (take i xs) ++ drop i xs) i d ≡ slice_index_or xs i d
at_rest f [] i d lt = absurd (omega (arith, lt))
at_rest f (x ∷ xs) zero d lt = refl
at_rest f (x ∷ xs) (suc i) d lt = at_rest f xs i d (omega (arith, lt))

set_next : {X : Type 0} (f : X → X) (xs : List X) (i : ℕ) (d : X) → i < length xs
    → set (map f (take i xs) ++ drop i xs) i (f (slice_index_or xs i d)) ≡ map f (take (suc i) xs) ++ drop (suc i) xs
set_next f [] i d lt = absurd (omega (arith, lt))
set_next f (x ∷ xs) zero d lt = refl
set_next f (x ∷ xs) (suc i) d lt = ap (λ l. f x ∷ l) (set_next f xs i d (omega (arith, lt)))

-- the member at the index is as it was
pub same_at : {X : Type 0} (f : X → X) (xs now : List X) (i : ℕ) (d : X) → i < length xs → now ≡ map f (take i xs) ++ drop i xs
    → slice_index_or now i d ≡ slice_index_or xs i d
same_at f xs now i d lt is = ap (λ l. slice_index_or l i d) is ∙ at_rest f xs i d lt

pub rest_next : {X : Type 0} (f : X → X) (xs now : List X) (i : ℕ) (d x : X) → i < length xs → now ≡ map f (take i xs) ++ drop i xs
    → x ≡ f (slice_index_or now i d) → set now i x ≡ map f (take (i + 1) xs) ++ drop (i + 1) xs
rest_next f xs now i d x lt is made =
    ap (λ l. set l i x) is ∙ (ap (set (map f (take i xs) ++ drop i xs) i) (made ∙ ap f (same_at f xs now i d lt is))
    ∙ subst (λ n. set (map f (take i xs) ++ drop i xs) i (f (slice_index_or xs i d)) ≡ map f (take n xs) ++ drop n xs) (let e : suc i ≡ i + 1 = omega arith in e) (set_next f xs i d lt))

take_next : {X Y : Type 0} (f : X → Y) (xs : List X) (i : ℕ) (d : X) → i < length xs → map f (take (suc i) xs) ≡ map f (take i xs) ++ f (slice_index_or xs i d) ∷ []
take_next f [] i d lt = absurd (omega (arith, lt))
take_next f (x ∷ xs) zero d lt = refl
take_next f (x ∷ xs) (suc i) d lt = ap (λ l. f x ∷ l) (take_next f xs i d (omega (arith, lt)))

-- what was made of the members so far, and of one more
pub made_next : {X Y : Type 0} (f : X → Y) (xs : List X) (i : ℕ) (d : X) (made : List Y) (one : Y) → i < length xs → made ≡ map f (take i xs)
    → one ≡ f (slice_index_or xs i d) → made ++ one ∷ [] ≡ map f (take (i + 1) xs)
made_next f xs i d made one lt is here =
    ap (λ l. l ++ one ∷ []) is ∙ (ap (λ y. map f (take i xs) ++ y ∷ []) here
    ∙ subst (λ n. map f (take i xs) ++ f (slice_index_or xs i d) ∷ [] ≡ map f (take n xs)) (let e : suc i ≡ i + 1 = omega arith in e) (sym (take_next f xs i d lt)))

pub all_taken : {X : Type 0} (xs : List X) (n : ℕ) → length xs ≤ n → take n xs ≡ xs
all_taken [] zero le = refl
all_taken [] (suc n) le = refl
all_taken (x ∷ xs) zero le = absurd (omega (arith, le))
all_taken (x ∷ xs) (suc n) le = ap (λ l. x ∷ l) (all_taken xs n (omega (arith, le)))

none_dropped : {X : Type 0} (xs : List X) (n : ℕ) → length xs ≤ n → drop n xs ≡ []
none_dropped [] zero le = refl
none_dropped [] (suc n) le = refl
none_dropped (x ∷ xs) zero le = absurd (omega (arith, le))
none_dropped (x ∷ xs) (suc n) le = none_dropped xs n (omega (arith, le))

-- what a list is behind a slice of it that was written whole
pub written_back : {X : Type 0} (len : ℕ) (new old : List X) → length new ≡ length old → len ≡ length old → take len (new ++ drop (length new) old) ≡ new
written_back len new old same long =
    ap (λ l. take len (new ++ l)) (none_dropped old (length new) (omega (arith, same)))
    ∙ (ap (take len) (append-nil new) ∙ all_taken new len (omega (arith, same, long)))

-- what g sees of the members is as it was
pub seen_same : {X Y : Type 0} (f : X → X) (g : X → Y) → ((x : X) → g (f x) ≡ g x) → (xs : List X) (i : ℕ) → map g (map f (take i xs) ++ drop i xs) ≡ map g xs
seen_same f g same [] zero = refl
seen_same f g same [] (suc i) = refl
seen_same f g same (x ∷ xs) zero = refl
seen_same f g same (x ∷ xs) (suc i) = ap (λ y. y ∷ map g (map f (take i xs) ++ drop i xs)) (same x) ∙ ap (λ l. g x ∷ l) (seen_same f g same xs i)

-- ---- parts of what is left

less_twice : (a b c : ℕ) → a - b - c ≡ a - (b + c)
less_twice a b c = omega arith

lent_twice : (part more : ℕ) (table : TableValue) → lent more (lent part table) ≡ lent (part + more) table
lent_twice part more table = ap (λ (n : ℕ). record table { seat = record table.seat { left = n } }) (less_twice table.seat.left part more)

pub lent_more : (part more : ℕ) (tables : List TableValue) → map (lent more) (map (lent part) tables) ≡ map (lent (part + more)) tables
lent_more part more [] = refl
lent_more part more (table ∷ tables) =
    ap (λ t. t ∷ map (lent more) (map (lent part) tables)) (lent_twice part more table) ∙ ap (λ l. lent (part + more) table ∷ l) (lent_more part more tables)

lent_nothing : (table : TableValue) → lent 0 table ≡ table
lent_nothing table = ap (λ (n : ℕ). record table { seat = record table.seat { left = n } }) (let e : table.seat.left - 0 ≡ table.seat.left = omega arith in e)

pub lent_none : (tables : List TableValue) → tables ≡ map (lent 0) tables
lent_none [] = refl
lent_none (table ∷ tables) = ap (λ t. t ∷ tables) (sym (lent_nothing table)) ∙ ap (λ l. lent 0 table ∷ l) (lent_none tables)

-- a table that lent something gives the same parts
pub part_lent : (part lost : ℕ) (tables : List TableValue) → map (part_at part) (map (lent lost) tables) ≡ map (part_at part) tables
part_lent part lost [] = refl
part_lent part lost (table ∷ tables) = ap (λ l. part_at part table ∷ l) (part_lent part lost tables)

pub shared_lent : (lost : ℕ) (tables : List TableValue) → map shared_of (map (lent lost) tables) ≡ map shared_of tables
shared_lent lost [] = refl
shared_lent lost (table ∷ tables) = ap (λ l. shared_of table ∷ l) (shared_lent lost tables)

pub more_parts : (i part : ℕ) → i * part + part ≡ (i + 1) * part
more_parts i part = sym (ap (λ n. n * part) (let e : i + 1 ≡ suc i = omega arith in e) ∙ suc-mul i part)

-- one part more is left
part_left : (i count part left : ℕ) → i < count → count * part ≤ left → part ≤ left - i * part
part_left i count part left lt fits =
    let le : i + 1 ≤ count = omega (arith, lt) in
    let m : (i + 1) * part ≤ count * part = mul-le-mul_right part le in
    let one = more_parts i part in
    omega (arith, m, one, fits)

pub parts_left : (i count part : ℕ) (tables now : List TableValue) → now ≡ map (lent (i * part)) tables → i < count
    → All (λ table. count * part ≤ table.seat.left) tables → All (λ table. part ≤ table.seat.left) now
parts_left i count part tables now is lt fits =
    subst (All (λ table. part ≤ table.seat.left)) (sym is) (each tables fits) where
      each : (xs : List TableValue) → All (λ table. count * part ≤ table.seat.left) xs → All (λ table. part ≤ table.seat.left) (map (lent (i * part)) xs)
      each [] all k d less = absurd (omega (arith, less))
      each (x ∷ xs) all zero d less = part_left i count part x.seat.left lt (all 0 x (omega arith))
      each (x ∷ xs) all (suc k) d less = each xs (λ j e small. all (suc j) e (omega (arith, small))) k d (omega (arith, less))
