-- A session has one outcome, for the moments, the nonce calls and the finds that it met.
use Rattle.std.proofs.Common.{◌≡◌, ◌⊎◌, refl, sym, ap, ◌∙◌, subst, ℕ, ◌≤◌, ◌<◌, List, [], ◌∷◌, ◌++◌, length, append_assoc, append-nil, length-append, Some, None, inl, inr, eq-or-lt_of_le, arith}
use Rattle.std.proofs.lemmas.Bool.{cases_order}
use Rattle.std.proofs.lemmas.List.{append_cancel_left, take_all}
use Rattle.std.proofs.lemmas.Option.{none-some, same_Some, some_pair_parts}
use Rattle.httparse.specs.Grammar.{EndsInTarget, MayBecomeRequest, NeverHasRequest, ReadsRequest, RequestHead, print_blank, print_request}
use Rattle.httparse.proofs.OpenLemmas.{line_blank, request_may_from_line}
use Rattle.usp_conf.specs.Values.{ConfValue}
use Rattle.usp_http.proofs.Finding.{one}
use Rattle.usp_http.proofs.Rooms.{request_some}
use Rattle.usp_http.specs.Finding.{Finds, IsHead, IsOpen, Stop, broken, enough, front, over}
use Rattle.usp_http.specs.Fronts.{HasManyFields}
use Rattle.usp_http.specs.declared.head.Head.{Head}
use Rattle.usp_http.specs.declared.next.Next.{Next}
use Rattle.usp_http.specs.declared.next.Next.TheVariants as next
use Rattle.usp_edge.specs.Calls.{Placed}
use Rattle.usp_edge.specs.Once.{MeetAlike}
use Rattle.usp_edge.specs.Outcomes.{Find}
use Rattle.usp_edge.specs.Session.{Progress, Goes, Session, at_head, at_rest, end_behind, end_of, further, is_full, is_last, start, worked}
use Rattle.usp_edge.specs.Work.{Work, Works}
use Rattle.usp_edge.specs.declared.end.End.{End}
use Rattle.usp_edge.proofs.OneWork.{works_one}

-- ---- what was met behind a front

-- what was met by then goes on with these
record Meets (before : Progress) (moments : List ℕ) (calls : List Placed) (finds : List Find) : Type 0 where
  later_moments : List ℕ
  later_calls : List Placed
  later_finds : List Find
  moments_are : before.moments ++ later_moments ≡ moments
  calls_are : before.calls ++ later_calls ≡ calls
  finds_are : before.finds ++ later_finds ≡ finds

meets_end : (front : Progress) → Meets front front.moments front.calls front.finds
meets_end front = record {
  later_moments = [];
  later_calls = [];
  later_finds = [];
  moments_are = append-nil front.moments;
  calls_are = append-nil front.calls;
  finds_are = append-nil front.finds;
}

-- the same of the front without its last head
meets_before : (before : Progress) (after : List ℕ) (work : Work) (m : List ℕ) (c : List Placed) (x : List Find) → Meets (worked before after work) m c x → Meets before m c x
meets_before before after work m c x meets = record {
  later_moments = work.moments ++ meets.later_moments;
  later_calls = work.calls ++ meets.later_calls;
  later_finds = work.finds ++ meets.later_finds;
  moments_are = sym (append_assoc before.moments work.moments meets.later_moments) ∙ meets.moments_are;
  calls_are = sym (append_assoc before.calls work.calls meets.later_calls) ∙ meets.calls_are;
  finds_are = sym (append_assoc before.finds work.finds meets.later_finds) ∙ meets.finds_are;
}

-- ---- heads

head_one : (rest after after2 : List ℕ) (head head2 : Head) → IsHead head rest after → IsHead head2 rest after2 → (head2 ≡ head) × (after2 ≡ after)
head_one rest after after2 head head2 first second =
    let same = one (next.Found head2) head rest after after2 enough enough first second (λ e. found_is_memory head2 e) in
    (found_one head2 head same.0, same.1)
  where
    found_is_memory : (head : Head) → next.Found head ≡ next.NoMemory → ⊥
    found_is_memory head e = absurd (cc)

    found_one : (a b : Head) → next.Found a ≡ next.Found b → a ≡ b
    found_one a b e = cc

-- one more head, of the same front, by the same that was met
step_one : (conf : ConfValue) (before : Progress) (head head2 : Head) (after after2 : List ℕ) (v w : Work) (m : List ℕ) (c : List Placed) (x : List Find)
    → IsHead head before.rest after → IsHead head2 before.rest after2 → Works conf (is_last head (is_full before)) head v → Works conf (is_last head2 (is_full before)) head2 w
    → Meets (worked before after v) m c x → Meets (worked before after2 w) m c x → worked before after v ≡ worked before after2 w
step_one conf before head head2 after after2 v w m c x first second works works2 meets meets2 =
    let same = head_one before.rest after after2 head head2 first second in
    let work = works_one conf (is_last head (is_full before)) head v w meets.later_moments meets2.later_moments meets.later_calls meets2.later_calls meets.later_finds meets2.later_finds works
    (subst (λ h. Works conf (is_last h (is_full before)) h w) same.0 works2)
    (append_cancel_left before.moments (v.moments ++ meets.later_moments) (w.moments ++ meets2.later_moments)
    (sym (append_assoc before.moments v.moments meets.later_moments) ∙ (meets.moments_are ∙ (sym meets2.moments_are ∙ append_assoc before.moments w.moments meets2.later_moments))))
    (append_cancel_left before.calls (v.calls ++ meets.later_calls) (w.calls ++ meets2.later_calls)
    (sym (append_assoc before.calls v.calls meets.later_calls) ∙ (meets.calls_are ∙ (sym meets2.calls_are ∙ append_assoc before.calls w.calls meets2.later_calls))))
    (append_cancel_left before.finds (v.finds ++ meets.later_finds) (w.finds ++ meets2.later_finds)
    (sym (append_assoc before.finds v.finds meets.later_finds) ∙ (meets.finds_are ∙ (sym meets2.finds_are ∙ append_assoc before.finds w.finds meets2.later_finds)))) in
    λ i. worked before (sym same.1 i) (work i)

goes_one : (conf : ConfValue) (bytes : List ℕ) (f g : Progress) (m : List ℕ) (c : List Placed) (x : List Find) → Goes conf bytes f → Goes conf bytes g → f.heads ≡ g.heads
    → Meets f m c x → Meets g m c x → f ≡ g
goes_one conf bytes f g m c x (start f1 is) (start g1 is2) heads meets meets2 = is ∙ sym is2
goes_one conf bytes f g m c x (start f1 is) (further before g1 head after work goes head_is works behind is2) heads meets meets2 =
    absurd (omega (arith, heads, ap (λ k. k.heads) is, ap (λ k. k.heads) is2))
goes_one conf bytes f g m c x (further before f1 head after work goes head_is works behind is) (start g1 is2) heads meets meets2 =
    absurd (omega (arith, heads, ap (λ k. k.heads) is, ap (λ k. k.heads) is2))
goes_one conf bytes f g m c x (further before f1 head after work goes head_is works behind is) (further before2 g1 head2 after2 work2 goes2 head_is2 works2 behind2 is2) heads meets meets2 =
    let here = subst (λ k. Meets k m c x) is meets in
    let here2 = subst (λ k. Meets k m c x) is2 meets2 in
    let same = goes_one conf bytes before before2 m c x goes goes2 (omega (arith, heads, ap (λ k. k.heads) is, ap (λ k. k.heads) is2))
    (meets_before before after work m c x here) (meets_before before2 after2 work2 m c x here2) in
    is
    ∙ (step_one conf before head head2 after after2 work work2 m c x head_is (subst (λ k. IsHead head2 k.rest after2) (sym same) head_is2) works
    (subst (λ k. Works conf (is_last head2 (is_full k)) head2 work2) (sym same) works2) here (subst (λ k. Meets (worked k after2 work2) m c x) (sym same) here2)
    ∙ (ap (λ k. worked k after2 work2) same ∙ sym is2))

-- ---- how many heads

-- no head is worked behind the front so that the connection goes on
abbrev Halts : Progress → Type 0
Halts before = (head : Head) (after : List ℕ) → IsHead head before.rest after → end_behind head (is_full before) ≡ None → ⊥

-- the front of so many heads, with one head more
record Through (conf : ConfValue) (bytes : List ℕ) (heads : ℕ) (m : List ℕ) (c : List Placed) (x : List Find) : Type 0 where
  before : Progress
  head : Head
  after : List ℕ
  goes : Goes conf bytes before
  heads_are : before.heads ≡ heads
  head_is : IsHead head before.rest after
  behind : end_behind head (is_full before) ≡ None
  meets : Meets before m c x

goes_through : (conf : ConfValue) (bytes : List ℕ) (front : Progress) (heads : ℕ) (m : List ℕ) (c : List Placed) (x : List Find) → Goes conf bytes front → heads < front.heads → Meets front m c x
    → Through conf bytes heads m c x
goes_through conf bytes front heads m c x (start front1 is) more meets = absurd (omega (arith, more, ap (λ k. k.heads) is))
goes_through conf bytes front heads m c x (further before front1 head after work goes head_is works behind is) more meets =
    by_cases (λ fewer. goes_through conf bytes before heads m c x goes fewer here) (eq-or-lt_of_le within)
  where
    within : heads ≤ before.heads
    within = omega (arith, more, ap (λ k. k.heads) is)

    here : Meets before m c x
    here = meets_before before after work m c x (subst (λ k. Meets k m c x) is meets)

    by_cases : (heads < before.heads → Through conf bytes heads m c x) → (heads ≡ before.heads) ⊎ (heads < before.heads)
        → Through conf bytes heads m c x
    by_cases deeper (inl same) = record { before = before; head = head; after = after; goes = goes; heads_are = sym same; head_is = head_is; behind = behind; meets = here }
    by_cases deeper (inr fewer) = deeper fewer

not_beyond : (conf : ConfValue) (bytes : List ℕ) (f g : Progress) (m : List ℕ) (c : List Placed) (x : List Find) → Goes conf bytes f → Halts f → Goes conf bytes g → Meets f m c x → Meets g m c x
    → f.heads < g.heads → ⊥
not_beyond conf bytes f g m c x goes halts goes2 meets meets2 beyond =
    let through = goes_through conf bytes g f.heads m c x goes2 beyond meets2 in
    let same = goes_one conf bytes through.before f m c x through.goes goes through.heads_are through.meets meets in
    halts through.head through.after (subst (λ k. IsHead through.head k.rest through.after) same through.head_is)
    (subst (λ k. end_behind through.head (is_full k) ≡ None) same through.behind)

heads_one : (conf : ConfValue) (bytes : List ℕ) (f g : Progress) (m : List ℕ) (c : List Placed) (x : List Find) → Goes conf bytes f → Halts f → Goes conf bytes g → Halts g → Meets f m c x
    → Meets g m c x → f ≡ g
heads_one conf bytes f g m c x goes halts goes2 halts2 meets meets2 = goes_one conf bytes f g m c x goes goes2 (same_heads f.heads g.heads below above) meets meets2
  where
    below : f.heads < g.heads → ⊥
    below = not_beyond conf bytes f g m c x goes halts goes2 meets meets2

    above : g.heads < f.heads → ⊥
    above = not_beyond conf bytes g f m c x goes2 halts2 goes meets2 meets

    same_heads : (a b : ℕ) → (a < b → ⊥) → (b < a → ⊥) → a ≡ b
    same_heads a b not_below not_above = by_order (cases_order a b)
      where
        by_order : (a ≡ b) ⊎ ((a < b) ⊎ (b < a)) → a ≡ b
        by_order (inl same) = same
        by_order (inr (inl fewer)) = absurd (not_below fewer)
        by_order (inr (inr more)) = absurd (not_above more)

-- ---- where no head is found

-- some bytes can follow nothing that make it a head
nothing_may : MayBecomeRequest []
nothing_may = request_may_from_line (inl (line_blank (record { more = []; tree = []; reads = λ rest. refl })))

nothing_ends : EndsInTarget [] → ⊥
nothing_ends (blank, method, target, token, pass, is) = absurd (omega (arith, ap length is, length-append (print_blank blank ++ method) (32 ∷ target)))

never_may : (rest : List ℕ) → NeverHasRequest rest → MayBecomeRequest rest → EndsInTarget rest
never_may rest never (inl (more, h, reads)) = absurd (never more h [] reads)
never_may rest never (inr target) = target

nothing_never : NeverHasRequest [] → ⊥
nothing_never never = nothing_ends (never_may [] never nothing_may)

short_front : (rest : List ℕ) → length rest < 16384 → front rest ≡ rest
short_front rest short = take_all 16384 rest (omega (arith, short))

many_has : (rest : List ℕ) → HasManyFields rest → ((h : RequestHead) (more : List ℕ) → ReadsRequest rest h more → ⊥) → ⊥
many_has rest (h, more, reads, many) none = none h more reads

never_has : (rest : List ℕ) → NeverHasRequest rest → (h : RequestHead) (more : List ℕ) → ReadsRequest rest h more → ⊥
never_has rest never h more reads = never [] h more (subst (λ t. ReadsRequest t h more) (sym (append-nil rest)) reads)

empty_some : (rest : List ℕ) → rest ≡ [] → 0 < length rest → ⊥
empty_some rest is some = absurd (omega (arith, some, ap length is))

empty_long : (rest : List ℕ) → rest ≡ [] → 16384 ≤ length rest → ⊥
empty_long rest is long = absurd (omega (arith, long, ap length is))

empty_never : (rest : List ℕ) → rest ≡ [] → NeverHasRequest (front rest) → ⊥
empty_never rest is never = nothing_never (subst (λ t. NeverHasRequest (front t)) is never)

empty_many : (rest : List ℕ) → rest ≡ [] → HasManyFields (front rest) → ⊥
empty_many rest is (h, more, reads, many) =
    absurd (omega (arith, request_some h, ap (λ t. length (front t)) (sym is), ap length reads.1, length-append (print_request h) more))

over_broken : (stop : Stop) → stop ≡ over → stop ≡ broken → ⊥
over_broken stop is is2 = differ (sym is ∙ is2)
  where
    differ : over ≡ broken → ⊥
    differ e = absurd (cc)

open_never : (rest : List ℕ) → IsOpen rest → NeverHasRequest (front rest) → EndsInTarget (front rest)
open_never rest (none, short) never = never_may (front rest) never (subst MayBecomeRequest (sym (short_front rest short)) none.1)

open_long : (rest : List ℕ) → IsOpen rest → 16384 ≤ length rest → ⊥
open_long rest (none, short) long = absurd (omega (arith, short, long))

open_many : (rest : List ℕ) → IsOpen rest → HasManyFields (front rest) → ⊥
open_many rest (none, short) many = many_has rest (subst HasManyFields (short_front rest short) many) none.0

-- no head is found, and there was memory
abbrev IsHeadless : Next → Type 0
IsHeadless (next.Found head) = ⊥
IsHeadless next.NoMemory = ⊥
IsHeadless result = Unit {0}

finds_one : (rest after after2 : List ℕ) (stop : Stop) (r s : Next) → IsHeadless r → IsHeadless s → Finds r rest stop after → Finds s rest stop after2
    → (r ≡ s) ⊎ EndsInTarget (front rest)
finds_one rest after after2 stop next.Ended next.Ended none none2 a b = inl refl
finds_one rest after after2 stop next.Ended next.CutShort none none2 a b = absurd (empty_some rest a.0 b.1)
finds_one rest after after2 stop next.Ended next.ReadFault none none2 a b = absurd (over_broken stop a.1 b.1)
finds_one rest after after2 stop next.Ended next.BadHead none none2 a b = absurd (empty_never rest a.0 b.0)
finds_one rest after after2 stop next.Ended next.HeadTooLong none none2 a b = absurd (empty_long rest a.0 b.1)
finds_one rest after after2 stop next.Ended next.ManyHeaders none none2 a b = absurd (empty_many rest a.0 b.0)
finds_one rest after after2 stop next.CutShort next.Ended none none2 a b = absurd (empty_some rest b.0 a.1)
finds_one rest after after2 stop next.CutShort next.CutShort none none2 a b = inl refl
finds_one rest after after2 stop next.CutShort next.ReadFault none none2 a b = absurd (over_broken stop a.2 b.1)
finds_one rest after after2 stop next.CutShort next.BadHead none none2 a b = inr (open_never rest a.0 b.0)
finds_one rest after after2 stop next.CutShort next.HeadTooLong none none2 a b = absurd (open_long rest a.0 b.1)
finds_one rest after after2 stop next.CutShort next.ManyHeaders none none2 a b = absurd (open_many rest a.0 b.0)
finds_one rest after after2 stop next.ReadFault next.Ended none none2 a b = absurd (over_broken stop b.1 a.1)
finds_one rest after after2 stop next.ReadFault next.CutShort none none2 a b = absurd (over_broken stop b.2 a.1)
finds_one rest after after2 stop next.ReadFault next.ReadFault none none2 a b = inl refl
finds_one rest after after2 stop next.ReadFault next.BadHead none none2 a b = inr (open_never rest a.0 b.0)
finds_one rest after after2 stop next.ReadFault next.HeadTooLong none none2 a b = absurd (open_long rest a.0 b.1)
finds_one rest after after2 stop next.ReadFault next.ManyHeaders none none2 a b = absurd (open_many rest a.0 b.0)
finds_one rest after after2 stop next.BadHead next.Ended none none2 a b = absurd (empty_never rest b.0 a.0)
finds_one rest after after2 stop next.BadHead next.CutShort none none2 a b = inr (open_never rest b.0 a.0)
finds_one rest after after2 stop next.BadHead next.ReadFault none none2 a b = inr (open_never rest b.0 a.0)
finds_one rest after after2 stop next.BadHead next.BadHead none none2 a b = inl refl
finds_one rest after after2 stop next.BadHead next.HeadTooLong none none2 a b = inr (never_may (front rest) a.0 b.0.1)
finds_one rest after after2 stop next.BadHead next.ManyHeaders none none2 a b = absurd (many_has (front rest) b.0 (never_has (front rest) a.0))
finds_one rest after after2 stop next.HeadTooLong next.Ended none none2 a b = absurd (empty_long rest b.0 a.1)
finds_one rest after after2 stop next.HeadTooLong next.CutShort none none2 a b = absurd (open_long rest b.0 a.1)
finds_one rest after after2 stop next.HeadTooLong next.ReadFault none none2 a b = absurd (open_long rest b.0 a.1)
finds_one rest after after2 stop next.HeadTooLong next.BadHead none none2 a b = inr (never_may (front rest) b.0 a.0.1)
finds_one rest after after2 stop next.HeadTooLong next.HeadTooLong none none2 a b = inl refl
finds_one rest after after2 stop next.HeadTooLong next.ManyHeaders none none2 a b = absurd (many_has (front rest) b.0 a.0.0)
finds_one rest after after2 stop next.ManyHeaders next.Ended none none2 a b = absurd (empty_many rest b.0 a.0)
finds_one rest after after2 stop next.ManyHeaders next.CutShort none none2 a b = absurd (open_many rest b.0 a.0)
finds_one rest after after2 stop next.ManyHeaders next.ReadFault none none2 a b = absurd (open_many rest b.0 a.0)
finds_one rest after after2 stop next.ManyHeaders next.BadHead none none2 a b = absurd (many_has (front rest) a.0 (never_has (front rest) b.0))
finds_one rest after after2 stop next.ManyHeaders next.HeadTooLong none none2 a b = absurd (many_has (front rest) a.0 b.0.0)
finds_one rest after after2 stop next.ManyHeaders next.ManyHeaders none none2 a b = inl refl
finds_one rest after after2 stop (next.Found head) s none none2 a b = absurd none
finds_one rest after after2 stop next.NoMemory s none none2 a b = absurd none
finds_one rest after after2 stop next.Ended (next.Found head) none none2 a b = absurd none2
finds_one rest after after2 stop next.Ended next.NoMemory none none2 a b = absurd none2
finds_one rest after after2 stop next.CutShort (next.Found head) none none2 a b = absurd none2
finds_one rest after after2 stop next.CutShort next.NoMemory none none2 a b = absurd none2
finds_one rest after after2 stop next.ReadFault (next.Found head) none none2 a b = absurd none2
finds_one rest after after2 stop next.ReadFault next.NoMemory none none2 a b = absurd none2
finds_one rest after after2 stop next.BadHead (next.Found head) none none2 a b = absurd none2
finds_one rest after after2 stop next.BadHead next.NoMemory none none2 a b = absurd none2
finds_one rest after after2 stop next.HeadTooLong (next.Found head) none none2 a b = absurd none2
finds_one rest after after2 stop next.HeadTooLong next.NoMemory none none2 a b = absurd none2
finds_one rest after after2 stop next.ManyHeaders (next.Found head) none none2 a b = absurd none2
finds_one rest after after2 stop next.ManyHeaders next.NoMemory none none2 a b = absurd none2

-- the end says that there is no head
headless : (r : Next) (text : List ℕ) (ends : End) → end_of r ≡ Some (text, ends) → IsHeadless r
headless (next.Found head) text ends is = absurd (none-some (text, ends) is)
headless next.NoMemory text ends is = absurd (none-some (text, ends) is)
headless next.Ended text ends is = tt
headless next.CutShort text ends is = tt
headless next.ReadFault text ends is = tt
headless next.BadHead text ends is = tt
headless next.HeadTooLong text ends is = tt
headless next.ManyHeaders text ends is = tt

kept : (r : Next) (rest after : List ℕ) (stop : Stop) → IsHeadless r → Finds r rest stop after → after ≡ rest
kept next.Ended rest after stop none finds = finds.2
kept next.CutShort rest after stop none finds = finds.3
kept next.ReadFault rest after stop none finds = finds.2
kept next.BadHead rest after stop none finds = finds.1
kept next.HeadTooLong rest after stop none finds = finds.2
kept next.ManyHeaders rest after stop none finds = finds.1
kept (next.Found head) rest after stop none finds = absurd none
kept next.NoMemory rest after stop none finds = absurd none

headless_none : (r : Next) (rest after after2 : List ℕ) (stop : Stop) (head : Head) → IsHeadless r → Finds r rest stop after → IsHead head rest after2 → ⊥
headless_none r rest after after2 stop head none finds is =
    let same = one r head rest after2 after enough stop is finds (λ e. subst IsHeadless e none) in
    subst IsHeadless same.0 none

-- ---- sessions

-- the last step of a session
data Last (conf : ConfValue) (stop : Stop) (before f : Progress) (ends : End) : Type 0 where
  behind_head : (head : Head) (after : List ℕ) (work : Work) → IsHead head before.rest after → Works conf (is_last head (is_full before)) head work
      → end_behind head (is_full before) ≡ Some ends → f ≡ worked before after work → Last conf stop before f ends
  at_nothing : (r : Next) (after text : List ℕ) → Finds r before.rest stop after → end_of r ≡ Some (text, ends) → f ≡ record before { rest = after; text = before.text ++ text }
      → Last conf stop before f ends

-- what is before the end of a session
record Ending (conf : ConfValue) (bytes : List ℕ) (stop : Stop) (f : Progress) (ends : End) : Type 0 where
  before : Progress
  goes : Goes conf bytes before
  halts : Halts before
  meets : Meets before f.moments f.calls f.finds
  last : Last conf stop before f ends

ending_of : (conf : ConfValue) (bytes : List ℕ) (stop : Stop) (f : Progress) (ends : End) → Session conf bytes stop f ends → Ending conf bytes stop f ends
ending_of conf bytes stop f ends (at_head before head after work goes head_is works end_is is) = record {
  before = before;
  goes = goes;
  halts = λ head2 after2 other none. none-some ends
      (sym none ∙ (ap (λ h. end_behind h (is_full before)) (head_one before.rest after after2 head head2 head_is other).0 ∙ end_is));
  meets = subst (λ k. Meets before k.moments k.calls k.finds) (sym is) (meets_before before after work _ _ _ (meets_end (worked before after work)));
  last = behind_head head after work head_is works end_is is;
}
ending_of conf bytes stop f ends (at_rest before r after text goes finds end_is is) = record {
  before = before;
  goes = goes;
  halts = λ head2 after2 other none. headless_none r before.rest after after2 stop head2 (headless r text ends end_is) finds other;
  meets = subst (λ k. Meets before k.moments k.calls k.finds) (sym is) (meets_end before);
  last = at_nothing r after text finds end_is is;
}

last_one : (conf : ConfValue) (stop : Stop) (before f g : Progress) (a b : End) → Last conf stop before f a → Last conf stop before g b → MeetAlike f g
    → ((f ≡ g) × (a ≡ b)) ⊎ EndsInTarget (front f.rest)
last_one conf stop before f g a b (behind_head head after work head_is works end_is is) (behind_head head2 after2 work2 head_is2 works2 end_is2 is2) alike =
    let same = head_one before.rest after after2 head head2 head_is head_is2 in
    let meets = subst (λ k. Meets k f.moments f.calls f.finds) is (meets_end f) in
    let meets2 = subst (λ k. Meets k f.moments f.calls f.finds) is2 (record {
      later_moments = [];
      later_calls = [];
      later_finds = [];
      moments_are = append-nil g.moments ∙ sym alike.0;
      calls_are = append-nil g.calls ∙ sym alike.1;
      finds_are = append-nil g.finds ∙ sym alike.2;
    }) in
    inl (
      is ∙ (step_one conf before head head2 after after2 work work2 f.moments f.calls f.finds head_is head_is2 works works2 meets meets2 ∙ sym is2),
      same_Some a b (sym end_is ∙ (ap (λ h. end_behind h (is_full before)) (sym same.0) ∙ end_is2)),
    )
last_one conf stop before f g a b (behind_head head after work head_is works end_is is) (at_nothing r after2 text finds end_is2 is2) alike =
    absurd (headless_none r before.rest after2 after stop head (headless r text b end_is2) finds head_is)
last_one conf stop before f g a b (at_nothing r after text finds end_is is) (behind_head head after2 work head_is works end_is2 is2) alike =
    absurd (headless_none r before.rest after after2 stop head (headless r text a end_is) finds head_is)
last_one conf stop before f g a b (at_nothing r after text finds end_is is) (at_nothing s after2 text2 finds2 end_is2 is2) alike =
    by_cases (finds_one before.rest after after2 stop r s none none2 finds finds2)
  where
    none : IsHeadless r
    none = headless r text a end_is

    none2 : IsHeadless s
    none2 = headless s text2 b end_is2

    rest_is : f.rest ≡ before.rest
    rest_is = ap (λ k. k.rest) is ∙ kept r before.rest after stop none finds

    by_cases : (r ≡ s) ⊎ EndsInTarget (front before.rest) → ((f ≡ g) × (a ≡ b)) ⊎ EndsInTarget (front f.rest)
    by_cases (inl same) =
        let both = some_pair_parts text text2 a b (sym end_is ∙ (ap end_of same ∙ end_is2)) in
        let rests = kept r before.rest after stop none finds ∙ sym (kept s before.rest after2 stop none2 finds2) in
        inl (is ∙ ((λ i. record before { rest = rests i; text = before.text ++ both.0 i }) ∙ sym is2), both.1)
    by_cases (inr target) = inr (subst (λ t. EndsInTarget (front t)) (sym rest_is) target)

pub session_one : (conf : ConfValue) (bytes : List ℕ) (stop : Stop) (f g : Progress) (a b : End) → Session conf bytes stop f a → Session conf bytes stop g b → MeetAlike f g
    → ((f ≡ g) × (a ≡ b)) ⊎ EndsInTarget (front f.rest)
session_one conf bytes stop f g a b first second alike =
    let one = ending_of conf bytes stop f a first in
    let two = ending_of conf bytes stop g b second in
    let meets : Meets two.before f.moments f.calls f.finds = record {
      later_moments = two.meets.later_moments;
      later_calls = two.meets.later_calls;
      later_finds = two.meets.later_finds;
      moments_are = two.meets.moments_are ∙ sym alike.0;
      calls_are = two.meets.calls_are ∙ sym alike.1;
      finds_are = two.meets.finds_are ∙ sym alike.2;
    } in
    let same = heads_one conf bytes one.before two.before f.moments f.calls f.finds one.goes one.halts two.goes two.halts one.meets meets in
    last_one conf stop one.before f g a b one.last (subst (λ k. Last conf stop k g b) (sym same) two.last) alike
