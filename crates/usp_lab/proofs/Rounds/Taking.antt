-- Seats that are taken back, one after the other.
use Rattle.std.proofs.Common.{◌≡◌, ◌≢◌, refl, sym, ap, ◌∙◌, subst, ℕ, zero, suc, ◌+◌, ◌<◌, ◌≤◌, Bool, true, false, List, [], ◌∷◌, ◌++◌, length, map, take, drop, set, append_assoc, length-append, arith}
use Rattle.std.specs.Prelude.{slice_index_or, ◌==◌}
use Rattle.std.proofs.Math.Seq.{get_or-append_seam}
use Rattle.std.proofs.lemmas.Bool.{eqb-true, eqb-false}
use Rattle.std.proofs.lemmas.List.{get_or-map, get_or-set_same, get_or-set_other, length-map}
use Rattle.atomic_table.specs.Seated.{TableId}
use Rattle.usp_shared.specs.Seats.{Seated}
use Rattle.usp_lab.specs.Shares.{TakenIn, next, start, table_of}
use Rattle.usp_lab.specs.Tables.{Gets, TableValue, shared_of, tables_of}
use Rattle.usp_lab.proofs.Rounds.Lending.{made_next}
use Rattle.usp_lab.proofs.Rounds.Picking.{get_any}

-- as many seats as there are of what tells their tables, each of its table
pub told_many : {X : Type 0} (seats : List Seated) (xs : List X) (tell : X → TableId) → map table_of seats ≡ map tell xs → length seats ≡ length xs
told_many seats xs tell are = sym (length-map seats table_of) ∙ (ap length are ∙ length-map xs tell)

pub told_at : {X : Type 0} (seats : List Seated) (xs : List X) (tell : X → TableId) → map table_of seats ≡ map tell xs → (i : ℕ) (d : Seated) (e : X) → i < length seats
    → (slice_index_or seats i d).table ≡ tell (slice_index_or xs i e)
told_at seats xs tell are i d e lt =
    sym (get_or-map table_of seats i d d.table lt)
    ∙ (ap (λ l. slice_index_or l i d.table) are ∙ get_or-map tell xs i e d.table (let m = told_many seats xs tell are in omega (arith, lt, m)))

-- the same of the tables of edges
pub tables_many : (seats : List Seated) (tables : List TableValue) → map table_of seats ≡ tables_of tables → length seats ≡ length tables
tables_many seats tables are = told_many seats tables (λ table. table.shared.table) are

pub table_at : (seats : List Seated) (tables : List TableValue) → map table_of seats ≡ tables_of tables → (i : ℕ) (d : Seated) (e : TableValue) → i < length seats
    → (slice_index_or seats i d).table ≡ (slice_index_or tables i e).shared.table
table_at seats tables are i d e lt = told_at seats tables (λ table. table.shared.table) are i d e lt

-- the seats of tables whose shared parts are the same
pub same_tables : (old new : List TableValue) → map shared_of new ≡ map shared_of old → tables_of new ≡ tables_of old
same_tables [] [] same = refl
same_tables [] (b ∷ new) same = absurd (cc same)
same_tables (a ∷ old) [] same = absurd (cc same)
same_tables (a ∷ old) (b ∷ new) same =
    ap (λ t. t ∷ tables_of new) (ap (λ s. s.table) (let is : shared_of b ≡ shared_of a = cc in is)) ∙ ap (λ l. a.shared.table ∷ l) (same_tables old new (cc))

-- the seat that was popped, in the whole list
pub popped_at : (whole now rest more : List Seated) (seat e : Seated) → whole ≡ now ++ more → now ≡ rest ++ seat ∷ [] → slice_index_or whole (length rest) e ≡ seat
popped_at whole now rest more seat e is popped =
    ap (λ l. slice_index_or l (length rest) e) (is ∙ (ap (λ l. l ++ more) popped ∙ append_assoc rest (seat ∷ []) more)) ∙ get_or-append_seam rest seat more e

pub popped_within : (whole now rest more : List Seated) (seat : Seated) → whole ≡ now ++ more → now ≡ rest ++ seat ∷ [] → length rest < length whole
popped_within whole now rest more seat is popped =
    let a = ap length is ∙ length-append now more in
    let b = ap length popped ∙ length-append rest (seat ∷ []) in
    let one : length (seat ∷ []) ≡ 1 = refl in
    omega (arith, a, b, one)

-- ---- the seats of one share

-- The tables below a place are as they were, and those from it on have got their seats.
pub record IsTaken (old now : List TableValue) (seats : List Seated) (place : ℕ) : Type 0 where
  pub below : (edge : ℕ) (d : TableValue) → edge < place → slice_index_or now edge d ≡ slice_index_or old edge d
  pub taken : (edge : ℕ) (d : TableValue) (e : Seated) → place ≤ edge → edge < length old
      → Gets (slice_index_or old edge d).seat (slice_index_or seats edge e) (slice_index_or now edge d).seat

module _ (old now : List TableValue) (seats : List Seated) (place : ℕ) (seat : Seated) (after d0 : TableValue)
    (is : IsTaken old now seats (place + 1)) (long : length now ≡ length old) (lt : place < length old) (at : (e : Seated) → slice_index_or seats place e ≡ seat)
    (got : Gets (slice_index_or now place d0).seat seat after.seat) where
  here_got : (d : TableValue) (e : Seated) → Gets (slice_index_or old place d).seat (slice_index_or seats place e) (slice_index_or (set now place after) place d).seat
  here_got d e =
      subst (λ t. Gets (slice_index_or old place d).seat (slice_index_or seats place e) t.seat) (sym (get_or-set_same now place after d (omega (arith, lt, long))))
      (subst (λ s. Gets (slice_index_or old place d).seat s after.seat) (sym (at e))
      (subst (λ t. Gets t.seat seat after.seat) (get_any now place d0 d (omega (arith, lt, long)) ∙ is.below place d (omega arith)) got))

  taken_by : (edge : ℕ) (d : TableValue) (e : Seated) (same : Bool) → (edge == place) ≡ same → place ≤ edge → edge < length old
      → Gets (slice_index_or old edge d).seat (slice_index_or seats edge e) (slice_index_or (set now place after) edge d).seat
  taken_by edge d e true same le less =
      subst (λ k. Gets (slice_index_or old k d).seat (slice_index_or seats k e) (slice_index_or (set now place after) k d).seat) (sym (eqb-true edge place same)) (here_got d e)
  taken_by edge d e false same le less =
      let apart = eqb-false edge place same in
      subst (λ t. Gets (slice_index_or old edge d).seat (slice_index_or seats edge e) t.seat) (sym (get_or-set_other now place edge after d apart))
      (is.taken edge d e (omega (arith, le, apart)) less)

  pub taken_more : IsTaken old (set now place after) seats place
  taken_more = record {
    below = λ edge d less. get_or-set_other now place edge after d (λ same. absurd (omega (arith, less, same))) ∙ is.below edge d (omega (arith, less));
    taken = λ edge d e le less. taken_by edge d e (edge == place) refl le less;
  }

-- ---- the seats of all shares

-- one share more
pub joined_next : {W : Type 0} (f : W → Seated) (xs now : List W) (i : ℕ) (d : W) (old mid new : Seated) → i < length xs → slice_index_or now i d ≡ slice_index_or xs i d
    → TakenIn old (map f (take i xs)) mid → Gets mid (f (slice_index_or now i d)) new → TakenIn old (map f (take (i + 1) xs)) new
joined_next f xs now i d old mid new lt same so got =
    subst (λ l. TakenIn old l new) (made_next f xs i d (map f (take i xs)) (f (slice_index_or now i d)) lt refl (ap f same))
    (next old mid new (f (slice_index_or now i d)) (map f (take i xs)) so got)

pub none_joined : (a : Seated) → TakenIn a [] a
none_joined a = start a a refl

-- one seat more is taken
pub taken_next : (old now : List TableValue) (whole seats rest more : List Seated) (seat : Seated) (after d : TableValue) (edge : ℕ)
    → whole ≡ seats ++ more → seats ≡ rest ++ seat ∷ [] → edge ≡ length rest → length now ≡ length old → length whole ≡ length old
    → IsTaken old now whole (length seats) → Gets (slice_index_or now edge d).seat seat after.seat → IsTaken old (set now edge after) whole (length rest)
taken_next old now whole seats rest more seat after d edge is popped at long many so got =
    let long_seats : length seats ≡ length rest + 1 = ap length popped ∙ length-append rest (seat ∷ []) in
    let lt = popped_within whole seats rest more seat is popped in
    subst (λ k. IsTaken old (set now k after) whole (length rest)) (sym at)
    (taken_more old now whole (length rest) seat after d (subst (IsTaken old now whole) long_seats so) long (omega (arith, lt, many))
    (λ e. popped_at whole seats rest more seat e is popped) (subst (λ k. Gets (slice_index_or now k d).seat seat after.seat) at got))

pub id_of_popped : (tables : List TableValue) (whole seats rest more : List Seated) (seat : Seated) (d : TableValue) (edge : ℕ)
    → whole ≡ seats ++ more → seats ≡ rest ++ seat ∷ [] → edge ≡ length rest → map table_of whole ≡ tables_of tables → seat.table ≡ (slice_index_or tables edge d).shared.table
id_of_popped tables whole seats rest more seat d edge is popped at ids =
    subst (λ k. seat.table ≡ (slice_index_or tables k d).shared.table) (sym at)
    (ap (λ s. s.table) (sym (popped_at whole seats rest more seat seat is popped))
    ∙ table_at whole tables ids (length rest) seat d (popped_within whole seats rest more seat is popped))

-- nothing was taken yet
pub none_taken : (old : List TableValue) (seats : List Seated) → length seats ≡ length old → IsTaken old old seats (length seats)
none_taken old seats many = record {
  below = λ edge d less. refl;
  taken = λ edge d e le less. absurd (omega (arith, le, less, many));
}
