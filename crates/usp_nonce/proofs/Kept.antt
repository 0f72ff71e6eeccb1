-- A table that stands for a history stands for it with one more call.
use Rattle.std.proofs.Common.{◌≡◌, ℕ, ◌+◌, ◌≤◌, max, nat_lt, Bool, true, false, ◌&&◌, ◌||◌, List, [], ◌∷◌, ◌++◌, length, map, refl, ap, sym, ◌∙◌, arith, if◌then◌else◌}
use Rattle.std.specs.List.{list_any, filter}
use Rattle.std.proofs.lemmas.List.{length-map, map-append, append-nil, length_push}
use Rattle.std.proofs.lemmas.List.Elements.{filter-append}
use Rattle.std.proofs.lemmas.Bool.Decides.{nat_tests}
use Rattle.usp_nonce.specs.Nonces.{Nonce, is_same_nonce}
use Rattle.usp_nonce.specs.Table.{Holding, Table, is_above}
use Rattle.usp_nonce.specs.History.{Call, moment_of, is_taken, is_in_force, calls_in_force, answer_to, IsNext}
use Rattle.usp_nonce.specs.Stands.{StandsFor, holding_of}
use Rattle.usp_nonce.specs.Steps.{table_at, table_answer, table_after}
use Rattle.usp_nonce.specs.declared.answer.Answer.{Answer}
use Rattle.usp_nonce.specs.declared.answer.Answer.TheVariants.{Late, Seen, Full, Taken}

pub advance_is : (table : Table) (room calls moment now later : ℕ) (rows kept : List Holding)
    → record { room = room; calls = calls; moment = moment; rows = rows } ≡ table → later ≡ max moment now
    → kept ≡ filter (is_above later) rows
    → record { room = room; calls = calls + 1; moment = later; rows = kept } ≡ table_at table now
advance_is table room calls moment now later rows kept is above rest = cc

filter_kept : (test : Holding → Bool) (row : Holding) (kept : List Holding) (passes : Bool) → test row ≡ passes
    → filter test kept ≡ kept → filter test (if passes then row ∷ kept else kept) ≡ (if passes then row ∷ kept else kept)
filter_kept test row kept true e same = rw e (ap (λ rows. row ∷ rows) same)
filter_kept test row kept false e same = same

filter_twice : (test : Holding → Bool) (rows : List Holding) → filter test (filter test rows) ≡ filter test rows
filter_twice test [] = refl
filter_twice test (row ∷ rows) = filter_kept test row (filter test rows) (test row) refl (filter_twice test rows)

-- what passed a test passes it again
pub filter_again : (test : Holding → Bool) (rows kept : List Holding) → kept ≡ filter test rows → filter test kept ≡ kept
filter_again test rows kept is = ap (filter test) is ∙ filter_twice test rows ∙ sym is

-- the moment after one more call
pub moment_of-push : (calls : List Call) (call : Call) → moment_of (calls ++ call ∷ []) ≡ max (moment_of calls) call.now
moment_of-push [] call = omega arith
moment_of-push (first ∷ calls) call = let e = moment_of-push calls call in omega arith

-- a test that is passed on to a later one
filter_later : (taken : Bool) (row : Holding) (moment later : ℕ) → moment ≤ later → (rest kept : List Holding)
    → filter (is_above later) rest ≡ kept
    → filter (is_above later) (if taken && nat_lt moment row.until then row ∷ rest else rest)
    ≡ (if taken && nat_lt later row.until then row ∷ kept else kept)
filter_later false row moment later le rest kept e = e
filter_later true row moment later le rest kept e = grind (arith, nat_tests)

map-if : (test : Bool) (f : Call → Holding) (xs ys : List Call)
    → map f (if test then xs else ys) ≡ (if test then map f xs else map f ys)
map-if true f xs ys = refl
map-if false f xs ys = refl

-- what is in force later was so before
pub in_force_later : (moment later : ℕ) → moment ≤ later → (calls : List Call)
    → filter (is_above later) (map holding_of (calls_in_force moment calls)) ≡ map holding_of (calls_in_force later calls)
in_force_later moment later le [] = refl
in_force_later moment later le (call ∷ calls) =
    rw (map-if (is_in_force moment call) holding_of (call ∷ calls_in_force moment calls) (calls_in_force moment calls))
    (rw (map-if (is_in_force later call) holding_of (call ∷ calls_in_force later calls) (calls_in_force later calls))
    (filter_later (is_taken call.answer) (holding_of call) moment later le _ _ (in_force_later moment later le calls)))

list_any-holding_of : (nonce : Nonce) (calls : List Call)
    → list_any (λ (row : Holding). is_same_nonce nonce row.nonce) (map holding_of calls)
    ≡ list_any (λ (call : Call). is_same_nonce nonce call.nonce) calls
list_any-holding_of nonce [] = refl
list_any-holding_of nonce (call ∷ calls) =
    ap (λ rest. is_same_nonce nonce call.nonce || rest) (list_any-holding_of nonce calls)

-- the rows of an table_at table are what is in force at the new moment
advanced_rows : (table : Table) (history : List Call) (now : ℕ) → StandsFor table history
    → (table_at table now).rows ≡ map holding_of (calls_in_force (max table.moment now) history)
advanced_rows table history now stands =
    ap (filter (is_above (max table.moment now))) stands.rows
    ∙ in_force_later table.moment (max table.moment now) (omega arith) history

-- a table answers by its rows as the history does by what is in force
table_answer-rows : (table : Table) (history : List Call) (nonce : Nonce) (until : ℕ)
    → table.rows ≡ map holding_of (calls_in_force table.moment history)
    → table_answer table nonce until ≡ answer_to table.room history nonce until table.moment
table_answer-rows table history nonce until is =
    let any = ap (list_any (λ (row : Holding). is_same_nonce nonce row.nonce)) is
    ∙ list_any-holding_of nonce (calls_in_force table.moment history) in
    let many = ap length is ∙ length-map (calls_in_force table.moment history) holding_of in
    rw (any, many) refl

-- the answer of an table_at table is the next of the history
pub next : (table : Table) (history : List Call) (nonce : Nonce) (now until : ℕ) → StandsFor table history
    → IsNext table.room history (record {
      nonce = nonce;
      now = now;
      until = until;
      moment = max table.moment now;
      answer = table_answer (table_at table now) nonce until;
    })
next table history nonce now until stands = record {
  moment = ap (λ moment. max moment now) stands.moment ∙ sym (moment_of-push history _);
  answer = table_answer-rows (table_at table now) history nonce until (advanced_rows table history now stands);
}

-- what is taken is held beyond the moment
taken_later : (table : Table) (nonce : Nonce) (until : ℕ) → Taken ≡ table_answer table nonce until
    → nat_lt table.moment until ≡ true
taken_later table nonce until is = grind (arith, nat_tests)

-- one more call that took nothing
rows_stay : (moment : ℕ) (rows : List Holding) (history : List Call) (call : Call)
    → is_in_force moment call ≡ false
    → rows ≡ map holding_of (calls_in_force moment history)
    → rows ≡ map holding_of (calls_in_force moment (history ++ call ∷ []))
rows_stay moment rows history call over is =
    rw (filter-append (is_in_force moment) history (call ∷ [])) (rw over (rw append-nil is))

-- one more call that took its nonce
rows_grow : (moment : ℕ) (rows : List Holding) (history : List Call) (call : Call)
    → is_in_force moment call ≡ true
    → rows ≡ map holding_of (calls_in_force moment history)
    → rows ++ holding_of call ∷ [] ≡ map holding_of (calls_in_force moment (history ++ call ∷ []))
rows_grow moment rows history call in_force is =
    rw (filter-append (is_in_force moment) history (call ∷ [])) (rw in_force (rw (map-append, is) refl))

-- a table_after table stands for the history with the call
pub stands : (table : Table) (history : List Call) (nonce : Nonce) (now until : ℕ) (answer : Answer)
    → answer ≡ table_answer (table_at table now) nonce until → StandsFor table history
    → StandsFor (table_after (table_at table now) nonce until answer) (history ++ record {
      nonce = nonce;
      now = now;
      until = until;
      moment = max table.moment now;
      answer = answer;
    } ∷ [])
stands table history nonce now until Taken is before = record {
  calls = ap (λ n. n + 1) before.calls ∙ sym (length_push history _);
  moment = ap (λ moment. max moment now) before.moment ∙ sym (moment_of-push history _);
  rows = rows_grow (max table.moment now) _ history _ (taken_later (table_at table now) nonce until is) (advanced_rows table history now before);
}
stands table history nonce now until Late is before = record {
  calls = ap (λ n. n + 1) before.calls ∙ sym (length_push history _);
  moment = ap (λ moment. max moment now) before.moment ∙ sym (moment_of-push history _);
  rows = rows_stay (max table.moment now) _ history _ refl (advanced_rows table history now before);
}
stands table history nonce now until Seen is before = record {
  calls = ap (λ n. n + 1) before.calls ∙ sym (length_push history _);
  moment = ap (λ moment. max moment now) before.moment ∙ sym (moment_of-push history _);
  rows = rows_stay (max table.moment now) _ history _ refl (advanced_rows table history now before);
}
stands table history nonce now until Full is before = record {
  calls = ap (λ n. n + 1) before.calls ∙ sym (length_push history _);
  moment = ap (λ moment. max moment now) before.moment ∙ sym (moment_of-push history _);
  rows = rows_stay (max table.moment now) _ history _ refl (advanced_rows table history now before);
}

-- one call, in the steps of `take`
pub turned_next : (table later : Table) (history : List Call) (nonce : Nonce) (now until moment : ℕ) (answer : Answer)
    → later ≡ table_at table now → moment ≡ later.moment → answer ≡ table_answer later nonce until → StandsFor table history
    → IsNext table.room history
    (record { nonce = nonce; now = now; until = until; moment = moment; answer = answer })
turned_next table later history nonce now until moment answer is_later at answered before =
    rw (at ∙ ap (λ (t : Table). t.moment) is_later)
    (rw (answered ∙ ap (λ t. table_answer t nonce until) is_later) (next table history nonce now until before))

pub turned_stands : (table later final : Table) (history : List Call) (nonce : Nonce) (now until moment : ℕ) (answer : Answer)
    → later ≡ table_at table now → moment ≡ later.moment → answer ≡ table_answer later nonce until
    → final ≡ table_after later nonce until answer → StandsFor table history
    → StandsFor final (history
    ++ record { nonce = nonce; now = now; until = until; moment = moment; answer = answer } ∷ [])
turned_stands table later final history nonce now until moment answer is_later at answered is_final before =
    rw (is_final ∙ ap (λ t. table_after t nonce until answer) is_later) (rw (at ∙ ap (λ (t : Table). t.moment) is_later)
    (stands table history nonce now until answer (answered ∙ ap (λ t. table_answer t nonce until) is_later) before))

-- what an answer leaves of a table
pub after_calls : (table : Table) (nonce : Nonce) (until : ℕ) (answer : Answer) → (table_after table nonce until answer).calls ≡ table.calls
after_calls table nonce until Late = refl
after_calls table nonce until Seen = refl
after_calls table nonce until Full = refl
after_calls table nonce until Taken = refl

pub after_room : (table : Table) (nonce : Nonce) (until : ℕ) (answer : Answer) → (table_after table nonce until answer).room ≡ table.room
after_room table nonce until Late = refl
after_room table nonce until Seen = refl
after_room table nonce until Full = refl
after_room table nonce until Taken = refl
