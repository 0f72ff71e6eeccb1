-- What is played is one for given answers.
use Rattle.std.proofs.Common.{◌≡◌, ◌≢◌, ◌⊎◌, inl, inr, append_assoc, append-nil, refl, sym, ap, ◌∙◌, subst, ℕ, List, [], ◌∷◌, ◌++◌, Option, Some, None}
use Rattle.httparse.proofs.GrammarLemmas.{response_unique}
use Rattle.usp_base.specs.Links.{asked_with}
use Rattle.usp_base.specs.declared.link.Asked.{Asked}
use Rattle.usp_http.specs.Hearing.{Hears, heard_of}
use Rattle.usp_http.specs.declared.heard.Heard.{Heard}
use Rattle.usp_player.specs.Playing.{Asks, Next, Played, Reading, Says, Turn, after, answers_of, ask, bad, begun, heard, lost, more, steps_of, stopped, unread}
use Rattle.usp_player.specs.declared.fault.PlayFault.TheVariants as fault
use Rattle.usp_player.specs.declared.map.Place.{Place}
use Rattle.usp_player.specs.declared.transcript.Step.{Step}

-- ---- one reading

hears_one : (bytes : List ℕ) (reply other : Heard) → Hears bytes reply → Hears bytes other → reply ≡ other
hears_one bytes reply other h k =
    let same = response_unique bytes h.head k.head h.body k.body h.reads k.reads in
    h.parts ∙ (ap (λ head. heard_of head h.body) same.0 ∙ (ap (heard_of k.head) same.1 ∙ sym k.parts))

reads_one : (answer : Option (List ℕ)) (reading other : Reading) → Says answer reading → Says answer other
    → (reading ≢ unread) → (other ≢ unread) → reading ≡ other
reads_one None lost lost one two here there = refl
reads_one None lost bad one two here there = absurd two
reads_one None lost (heard reply) one two here there = absurd two
reads_one None lost unread one two here there = absurd two
reads_one None bad other one two here there = absurd one
reads_one None (heard reply) other one two here there = absurd one
reads_one None unread other one two here there = absurd one
reads_one (Some bytes) lost other one two here there = absurd one
reads_one (Some bytes) bad lost one two here there = absurd two
reads_one (Some bytes) bad bad one two here there = refl
reads_one (Some bytes) bad (heard reply) one two here there = absurd (one reply two)
reads_one (Some bytes) (heard reply) lost one two here there = absurd two
reads_one (Some bytes) (heard reply) bad one two here there = absurd (two reply one)
reads_one (Some bytes) (heard reply) (heard other) one two here there = ap heard (hears_one bytes reply other one two)
reads_one (Some bytes) unread other one two here there = absurd (here refl)
reads_one (Some bytes) bad unread one two here there = absurd (there refl)
reads_one (Some bytes) (heard reply) unread one two here there = absurd (there refl)

-- ---- lists with one more

no_last : {A : Type 0} (xs : List A) (x : A) → [] ≡ xs ++ x ∷ [] → ⊥
no_last [] x same = absurd (cc same)
no_last (y ∷ xs) x same = absurd (cc same)

last_parts : {A : Type 0} (xs ys : List A) (x y : A) → xs ++ x ∷ [] ≡ ys ++ y ∷ [] → (xs ≡ ys) × (x ≡ y)
last_parts [] [] x y same = (refl, cc same)
last_parts [] (z ∷ ys) x y same = absurd (no_last ys y (cc same))
last_parts (z ∷ xs) [] x y same = absurd (no_last xs x (sym (cc same)))
last_parts (z ∷ xs) (w ∷ ys) x y same =
    let rest = last_parts xs ys x y (cc same) in
    let first : z ≡ w = cc same in
    (ap (λ l. z ∷ l) rest.0 ∙ ap (λ v. v ∷ ys) first, rest.1)

answers_more : (asks : List Asked) (asked : Asked)
    → answers_of (asks ++ asked ∷ []) ≡ answers_of asks ++ asked.answer ∷ []
answers_more [] asked = refl
answers_more (other ∷ asks) asked = ap (λ l. other.answer ∷ l) (answers_more asks asked)

-- ---- one outcome

record IsSame (asks other_asks : List Asked) (steps other_steps : List Step) (next other_next : Next) : Type 0 where
  same_asks : asks ≡ other_asks
  same_steps : steps ≡ other_steps
  same_next : next ≡ other_next

same_asked : (a b : Asked) → a.address ≡ b.address → a.head ≡ b.head → a.answer ≡ b.answer → a ≡ b
same_asked a b address head answer =
    ap (λ x. asked_with x a.head a.answer) address
    ∙ (ap (λ x. asked_with b.address x a.answer) head ∙ ap (asked_with b.address b.head) answer)

asks_same : (turn : Turn) (asked other : Asked) (reading reading2 : Reading) → Asks turn asked reading
    → Asks turn other reading2 → asked.answer ≡ other.answer → asked ≡ other
asks_same turn asked other reading reading2 a b answer =
    same_asked asked other (a.address ∙ sym b.address) (a.head ∙ sym b.head) answer

is_read : (places : List Place) (turn : Turn) (reading : Reading) → (after places turn reading ≢ stopped fault.NoMemory)
    → reading ≢ unread
is_read places turn reading known is = known (ap (after places turn) is)

is_ask : (turn : Turn) → ask turn ≢ stopped fault.NoMemory
is_ask turn same = absurd (cc same)

more_same : (places : List Place) (asks other_asks : List Asked) (steps other_steps : List Step) (turn turn2 : Turn)
    (asked other : Asked) (reading reading2 : Reading) → IsSame asks other_asks steps other_steps (ask turn) (ask turn2)
    → Asks turn asked reading → Asks turn2 other reading2 → asked.answer ≡ other.answer
    → (reading ≢ unread) → (reading2 ≢ unread)
    → IsSame (asks ++ asked ∷ []) (other_asks ++ other ∷ []) (steps ++ steps_of turn reading)
    (other_steps ++ steps_of turn2 reading2) (after places turn reading) (after places turn2 reading2)
more_same places asks other_asks steps other_steps turn turn2 asked other reading reading2 before a b answer
    here there =
    let same_turn : turn ≡ turn2 = cc before.same_next in
    let b1 : Asks turn other reading2 = subst (λ t. Asks t other reading2) (sym same_turn) b in
    let same_reading : reading ≡ reading2 =
    reads_one other.answer reading reading2 (subst (λ w. Says w reading) answer a.says) b1.says here there in
    let one_more = asks_same turn asked other reading reading2 a b1 answer in
    record {
      same_asks = ap (λ l. l ++ asked ∷ []) before.same_asks ∙ ap (λ x. other_asks ++ x ∷ []) one_more;
      same_steps = ap (λ l. l ++ steps_of turn reading) before.same_steps
          ∙ (ap (λ r. other_steps ++ steps_of turn r) same_reading
          ∙ ap (λ t. other_steps ++ steps_of t reading2) same_turn);
      same_next = ap (after places turn) same_reading ∙ ap (λ t. after places t reading2) same_turn;
    }

one : (places : List Place) (start : Next) (asks other_asks : List Asked) (steps other_steps : List Step)
    (next other_next : Next) → Played places start asks steps next
    → Played places start other_asks other_steps other_next
    → answers_of asks ≡ answers_of other_asks → (next ≢ stopped fault.NoMemory) → (other_next ≢ stopped fault.NoMemory)
    → IsSame asks other_asks steps other_steps next other_next
one places start _ _ _ _ _ _ begun begun same here there =
    record { same_asks = refl; same_steps = refl; same_next = refl }
one places start _ _ _ _ _ _ begun (more asks steps turn asked reading plays a) same here there =
    absurd (no_last (answers_of asks) asked.answer (same ∙ answers_more asks asked))
one places start _ _ _ _ _ _ (more asks steps turn asked reading plays a) begun same here there =
    absurd (no_last (answers_of asks) asked.answer (sym same ∙ answers_more asks asked))
one places start _ _ _ _ _ _ (more asks steps turn asked reading plays a)
    (more asks2 steps2 turn2 asked2 reading2 plays2 b) same here there =
    let parts = last_parts (answers_of asks) (answers_of asks2) asked.answer asked2.answer
    (sym (answers_more asks asked) ∙ (same ∙ answers_more asks2 asked2)) in
    more_same places asks asks2 steps steps2 turn turn2 asked asked2 reading reading2
    (one places start asks asks2 steps steps2 (ask turn) (ask turn2) plays plays2 parts.0 (is_ask turn) (is_ask turn2))
    a b parts.1 (is_read places turn reading here) (is_read places turn2 reading2 there)

pub one_outcome : (places : List Place) (start : Next) (asks other_asks : List Asked) (steps other_steps : List Step)
    (next other_next : Next) → Played places start asks steps next
    → Played places start other_asks other_steps other_next
    → answers_of asks ≡ answers_of other_asks → (next ≢ stopped fault.NoMemory) → (other_next ≢ stopped fault.NoMemory)
    → (asks ≡ other_asks) × (steps ≡ other_steps) × (next ≡ other_next)
one_outcome places start asks other_asks steps other_steps next other_next plays plays2 same here there =
    let found = one places start asks other_asks steps other_steps next other_next plays plays2 same here there in
    (found.same_asks, found.same_steps, found.same_next)

-- ---- an end

split_last : {A : Type 0} (xs : List A) → (xs ≡ []) ⊎ ((front : List A) × (x : A) × (xs ≡ front ++ x ∷ []))
split_last [] = inl refl
split_last (y ∷ xs) = elim (split_last xs) [
  | inl none ↦ inr ([], y, ap (λ l. y ∷ l) none)
  | inr parts ↦ inr (y ∷ parts.0, parts.1, ap (λ l. y ∷ l) parts.2)
]

nothing_left : {A : Type 0} (xs ys : List A) → [] ≡ xs ++ ys → ys ≡ []
nothing_left [] ys same = sym same
nothing_left (x ∷ xs) ys same = absurd (cc same)

pub no_further : (places : List Place) (start : Next) (asks other_asks : List Asked) (steps other_steps : List Step)
    (next other_next : Next) (later : List (Option (List ℕ))) → Played places start asks steps next
    → Played places start other_asks other_steps other_next → answers_of other_asks ≡ answers_of asks ++ later
    → (next ≢ stopped fault.NoMemory) → ((turn : Turn) → next ≢ ask turn) → later ≡ []
no_further places start asks _ steps _ next _ later plays begun same known over =
    nothing_left (answers_of asks) later same
no_further places start asks _ steps _ next _ later plays (more asks2 steps2 turn2 asked2 reading2 plays2 b)
    same known over = elim (split_last later) [
      | inl none ↦ none
      | inr parts ↦
          let ends : answers_of asks2 ++ asked2.answer ∷ [] ≡ (answers_of asks ++ parts.0) ++ parts.1 ∷ [] =
          sym (answers_more asks2 asked2) ∙ (same ∙ (ap (λ l. answers_of asks ++ l) parts.2
          ∙ sym (append_assoc (answers_of asks) parts.0 (parts.1 ∷ [])))) in
          let before = last_parts (answers_of asks2) (answers_of asks ++ parts.0) asked2.answer parts.1 ends in
          let none = no_further places start asks asks2 steps steps2 next (ask turn2) parts.0 plays plays2 before.0 known over in
          let found = one places start asks asks2 steps steps2 next (ask turn2) plays plays2
          (sym (before.0 ∙ (ap (λ l. answers_of asks ++ l) none ∙ append-nil (answers_of asks)))) known (is_ask turn2) in
          absurd (over turn2 found.same_next)
    ]
