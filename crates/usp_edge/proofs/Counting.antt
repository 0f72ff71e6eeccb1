-- How many heads come, and how many nonce calls.
use Rattle.std.proofs.Common.{◌≡◌, refl, sym, ap, ◌∙◌, subst, ℕ, ◌+◌, ◌≤◌, ◌<◌, List, length, length-append, Option, Some, None, Bool, true, false, if◌then◌else◌, ◌==◌, inl, inr, eq-or-lt_of_le, arith}
use Rattle.std.specs.Prelude.{◌⊎◌}
use Rattle.usp_conf.specs.Values.{ConfValue}
use Rattle.usp_http.specs.declared.head.Head.{Head}
use Rattle.usp_http.specs.declared.next.Next.{Next}
use Rattle.usp_json.specs.declared.value.Members.{Members}
use Rattle.usp_rules.specs.Asks.{AskValue}
use Rattle.usp_edge.specs.Calls.{Placed}
use Rattle.usp_edge.specs.Outcomes.{CallsFor, Decides, Outcome, Serves, absent, by_all, by_judgement, by_nonce, on, there, unanswered}
use Rattle.usp_edge.specs.Serving.{Line, Met, Served, Whole}
use Rattle.usp_edge.specs.Session.{Progress, Goes, end_behind, further, start}
use Rattle.usp_edge.specs.Work.{Work, Works, body, other_method, request}
use Rattle.usp_edge.specs.declared.end.End.{End}
use Rattle.usp_edge.specs.declared.end.End.TheVariants as ending
use Rattle.usp_edge.specs.declared.limits.TheConstants.{MAX_HEADS}
use Rattle.usp_edge.proofs.Going.{Asked}

-- ---- how many nonce calls are made

pub calls_few : (jti : Option (List ℕ)) (members : Members) (content : List ℕ) (moment : ℕ) (calls : List Placed) → CallsFor jti members content moment calls → length calls ≤ 1
calls_few None members content moment calls is = omega (arith, ap length is)
calls_few (Some jti) members content moment calls (of, call, is) = omega (arith, ap length is)

serves_calls : (conf : ConfValue) (members : Members) (content : List ℕ) (moment : ℕ) (calls : List Placed) (outcome : Outcome)
    → Serves conf members content moment calls outcome → outcome.calls ≡ calls
serves_calls conf members content moment calls outcome (on place signed sending is) = ap (λ o. o.calls) is
serves_calls conf members content moment calls outcome (there bytes issued sending renews is) = ap (λ o. o.calls) is
serves_calls conf members content moment calls outcome (absent sending is) = ap (λ o. o.calls) is
serves_calls conf members content moment calls outcome (unanswered sending is) = ap (λ o. o.calls) is

pub decides_few : (conf : ConfValue) (ask : AskValue) (outcome : Outcome) → Decides conf ask outcome → length outcome.calls ≤ 1
decides_few conf ask outcome (by_judgement rule judges is) = omega (arith, ap (λ o. length o.calls) is)
decides_few conf ask outcome (by_nonce content token members key calls rule judges made verdict is) =
    omega (arith, ap (λ o. length o.calls) is, calls_few _ members content ask.moment calls made)
decides_few conf ask outcome (by_all content token members key calls judges made verdict serves) =
    omega (arith, ap length (serves_calls conf members content ask.moment calls outcome serves), calls_few _ members content ask.moment calls made)

pub works_few : (conf : ConfValue) (last : Bool) (head : Head) (work : Work) → Works conf last head work → length work.calls ≤ 1
works_few conf last head work (body announced is) = omega (arith, ap (λ w. length w.calls) is)
works_few conf last head work (other_method unannounced method is) = omega (arith, ap (λ w. length w.calls) is)
works_few conf last head work (request unannounced method moment outcome decides is) =
    omega (arith, ap (λ w. length w.calls) is, decides_few conf _ outcome decides)

pub goes_few : (conf : ConfValue) (bytes : List ℕ) (progress : Progress) → Goes conf bytes progress → length progress.calls ≤ progress.heads
goes_few conf bytes progress (start progress1 is) = omega (arith, ap (λ f. length f.calls) is)
goes_few conf bytes progress (further before progress1 head after work goes head_is works behind is) =
    omega (arith, ap (λ f. length f.calls) is, ap (λ f. f.heads) is, goes_few conf bytes before goes, works_few conf _ head work works, length-append before.calls work.calls)

-- a nonce call is left for the next head
pub some_left : (left_old left_now calls heads : ℕ) → left_now + calls ≡ left_old → 100 ≤ left_old → calls ≤ heads → heads < 100 → 1 ≤ left_now
some_left left_old left_now calls heads is many few below = omega (arith, is, many, few, below)

-- ---- the last head that may come ends the connection

none_behind : (body last full : Bool) → (if body then Some ending.Body else if last then Some ending.Closed else if full then Some ending.Enough else None) ≡ None
    → full ≡ false
none_behind true last full is = absurd (cc)
none_behind false true full is = absurd (cc)
none_behind false false true is = absurd (cc)
none_behind false false false is = refl

below : (heads : ℕ) → false ≡ (heads + 1 == MAX_HEADS) → heads < 100 → heads + 1 < 100
below heads is few = by_cases (eq-or-lt_of_le reached)
  where
    reached : heads + 1 ≤ 100
    reached = omega (arith, few)

    by_cases : (heads + 1 ≡ 100) ⊎ (heads + 1 < 100) → heads + 1 < 100
    by_cases (inl same) = absurd (differs (is ∙ ap (λ n. n == MAX_HEADS) same))
      where
        differs : false ≡ true → ⊥
        differs = λ e. absurd (cc)
    by_cases (inr more_than) = more_than

pub few_more : (head : Head) (full : Bool) (heads : ℕ) → end_behind head full ≡ None → full ≡ (heads + 1 == MAX_HEADS) → heads < 100 → heads + 1 < 100
few_more head full heads behind is few = below heads (sym (none_behind head.body head.last full behind) ∙ is) few

-- a nonce call is left for each head
pub room_for_head : {N : Type 0} (gains : N → N → List Placed → Type 0) (left : N → ℕ) → ((a b : N) (x : List Placed) → gains a b x → left b + length x ≡ left a)
    → (conf : ConfValue) (old now : Met N) (line : Line) (heads : ℕ) (result : Next) (after : List ℕ) → Asked gains conf old now line heads result after
    → 100 ≤ left old.supplies.nonces → heads < 100 → 1 ≤ left now.supplies.nonces
room_for_head gains left falls conf old now line heads result after asked many few =
    some_left (left old.supplies.nonces) (left now.supplies.nonces) (length asked.progress.calls) heads (falls old.supplies.nonces now.supplies.nonces asked.progress.calls asked.did.draws.gained) many
    (subst (λ n. length asked.progress.calls ≤ n) asked.heads_is (goes_few conf asked.bytes asked.progress asked.goes)) few

same_some : {A : Type 0} (a b : A) → Some a ≡ Some b → a ≡ b
same_some a b is = cc

behind_cases : (Q : End → Type 0) → Q ending.Body → Q ending.Closed → Q ending.Enough → (body last full : Bool) (ends : End)
    → (if body then Some ending.Body else if last then Some ending.Closed else if full then Some ending.Enough else None) ≡ Some ends → Q ends
behind_cases Q b c e true last full ends is = subst Q (same_some ending.Body ends is) b
behind_cases Q b c e false true full ends is = subst Q (same_some ending.Closed ends is) c
behind_cases Q b c e false false true ends is = subst Q (same_some ending.Enough ends is) e
behind_cases Q b c e false false false ends is = absurd (cc)

-- what the end behind a head says
pub served_behind : {N : Type 0} (gains : N → N → List Placed → Type 0) (conf : ConfValue) (line : Line) (old new : Met N) (head : Head) (full : Bool) (ends : End)
    → end_behind head full ≡ Some ends → Whole gains conf line old new ends → Served gains conf line old new ends
served_behind gains conf line old new head full ends is =
    behind_cases (λ e. Whole gains conf line old new e → Served gains conf line old new e) (λ whole. whole) (λ whole. whole) (λ whole. whole)
    head.body head.last full ends is
