-- Sound ledgers, with more behind, and their fronts.
use Rattle.std.proofs.Common.{◌≡◌, ℕ, ◌+◌, ◌<◌, ◌≤◌, List, [], ◌∷◌, ◌++◌, length, take, drop, Option, Some, Bool, inl, inr, refl, sym, ap, ◌∙◌, subst, arith, append_assoc, append-nil, take-append-drop}
use Rattle.std.specs.List.{position, position_or_len, slice_get}
use Rattle.std.proofs.lemmas.Option.{slice_get_within}
use Rattle.usp_issue.specs.Sites.{SiteValue}
use Rattle.usp_json.proofs.Numbers.{tells}
use Rattle.usp_json.specs.declared.value.Members.{Members}
use Rattle.usp_trace.proofs.Ordered.{found_place, found_within, get_front, position_more}
use Rattle.usp_trace.specs.Chains.{IsParent, first_place}
use Rattle.usp_trace.specs.Issues.{Use}
use Rattle.usp_trace.specs.Sound.{IsDue, IsUsed, Sound}
use Rattle.usp_trace.specs.declared.issue.Issue.{Issue}
use Rattle.usp_trace.specs.declared.issue.Issue.TheVariants.{Grant, Renewed, Resigned}
use Rattle.usp_lab.proofs.Lists.{get_split}

-- ---- more behind

pub first_append : (token : List ℕ) (ledger more : List Issue) (place : ℕ) → first_place token ledger ≡ Some place → first_place token (ledger ++ more) ≡ Some place
first_append token ledger [] place e = rw (append-nil ledger) e
first_append token ledger (issue ∷ more) place e =
    let one = position_more _ ledger issue place e in
    subst (λ l. first_place token l ≡ Some place) (append_assoc ledger (issue ∷ []) more) (first_append token (ledger ++ issue ∷ []) more place one)

parent_later : (ledger more : List Issue) (place later parent : ℕ) (token : List ℕ) → place ≤ later → IsParent ledger place parent token → IsParent (ledger ++ more) later parent token
parent_later ledger more place later parent token le h = record { below = omega (arith, h.below, le); first = first_append token ledger more parent h.first }

used_later : (sites : List SiteValue) (ledger more : List Issue) (place later parent : ℕ) (asked : Use) (site : SiteValue) (members : Members) → place ≤ later
    → IsUsed sites ledger place parent asked site members → IsUsed sites (ledger ++ more) later parent asked site members
used_later sites ledger more place later parent asked site members le h = record {
  token = h.token;
  from = parent_later ledger more place later parent h.token le h.from;
  named = h.named;
  early = h.early;
  valid = h.valid;
  claims = h.claims;
}

due_later : (sites : List SiteValue) (ledger more : List Issue) (place later : ℕ) (issue : Issue) → place ≤ later → IsDue sites ledger place issue → IsDue sites (ledger ++ more) later issue
due_later sites ledger more place later (Grant token) le h = tt
due_later sites ledger more place later (Renewed parent edge uri moment token) le h = record {
  site = h.site;
  members = h.members;
  key = h.key;
  used = used_later sites ledger more place later parent _ h.site h.members le h.used;
  own = h.own;
  renewed = h.renewed;
}
due_later sites ledger more place later (Resigned parent edge uri moment route token) le h = record {
  site = h.site;
  members = h.members;
  sent = h.sent;
  used = used_later sites ledger more place later parent _ h.site h.members le h.used;
  by = h.by;
  resigned = h.resigned;
}

-- each is what it must be as the next of that ledger
abbrev pub AreDue : List SiteValue → (ledger more : List Issue) → Type 0
AreDue sites ledger more = (k : ℕ) (issue : Issue) → slice_get more k ≡ Some issue → IsDue sites ledger (length ledger) issue

pub sound_append : (ledger more : List Issue) (sites : List SiteValue) → Sound ledger sites → AreDue sites ledger more → Sound (ledger ++ more) sites
sound_append ledger more sites sound due = record {
  each = λ place issue at. elim (get_split ledger more place issue at) [
    | inl front ↦ due_later sites ledger more place place issue (omega arith) (sound.each place issue front)
    | inr later ↦ due_later sites ledger more (length ledger) place issue (omega (arith, later.1)) (due later.0 issue later.2)
  ];
}

-- ---- fronts

place_front : (p : Issue → Bool) (xs ys : List Issue) → position_or_len p (xs ++ ys) < length xs → position_or_len p xs ≡ position_or_len p (xs ++ ys)
place_front p [] ys lt = absurd (omega arith)
place_front p (x ∷ xs) ys lt = elim (tells (p x)) [
  | inl hit ↦ rw hit refl
  | inr miss ↦
      let rest = rw miss at lt in
      let same = place_front p xs ys (omega (arith, rest)) in
      rw miss (omega (arith, same))
]

pub position_front : (p : Issue → Bool) (xs ys : List Issue) (i : ℕ) → position p (xs ++ ys) ≡ Some i → i < length xs → position p xs ≡ Some i
position_front p xs ys i e lt =
    let f = found_within p (xs ++ ys) i e in
    let within : position_or_len p (xs ++ ys) < length xs = omega (arith, f.0, lt) in
    let same = place_front p xs ys within in
    found_place p xs (omega (arith, same, within)) ∙ ap Some (same ∙ sym f.0)

parent_front : (ledger more : List Issue) (place parent : ℕ) (token : List ℕ) → place < length ledger → IsParent (ledger ++ more) place parent token → IsParent ledger place parent token
parent_front ledger more place parent token lt h = record { below = h.below; first = position_front _ ledger more parent h.first (omega (arith, h.below, lt)) }

used_front : (sites : List SiteValue) (ledger more : List Issue) (place parent : ℕ) (asked : Use) (site : SiteValue) (members : Members) → place < length ledger
    → IsUsed sites (ledger ++ more) place parent asked site members → IsUsed sites ledger place parent asked site members
used_front sites ledger more place parent asked site members lt h = record {
  token = h.token;
  from = parent_front ledger more place parent h.token lt h.from;
  named = h.named;
  early = h.early;
  valid = h.valid;
  claims = h.claims;
}

due_front : (sites : List SiteValue) (ledger more : List Issue) (place : ℕ) (issue : Issue) → place < length ledger → IsDue sites (ledger ++ more) place issue → IsDue sites ledger place issue
due_front sites ledger more place (Grant token) lt h = tt
due_front sites ledger more place (Renewed parent edge uri moment token) lt h = record {
  site = h.site;
  members = h.members;
  key = h.key;
  used = used_front sites ledger more place parent _ h.site h.members lt h.used;
  own = h.own;
  renewed = h.renewed;
}
due_front sites ledger more place (Resigned parent edge uri moment route token) lt h = record {
  site = h.site;
  members = h.members;
  sent = h.sent;
  used = used_front sites ledger more place parent _ h.site h.members lt h.used;
  by = h.by;
  resigned = h.resigned;
}

sound_front : (ledger more : List Issue) (sites : List SiteValue) → Sound (ledger ++ more) sites → Sound ledger sites
sound_front ledger more sites sound = record {
  each = λ place issue at. due_front sites ledger more place issue (slice_get_within ledger place issue at) (sound.each place issue (get_front ledger more place issue at));
}

pub sound_take : (n : ℕ) (ledger : List Issue) (sites : List SiteValue) → Sound ledger sites → Sound (take n ledger) sites
sound_take n ledger sites sound = sound_front (take n ledger) (drop n ledger) sites (subst (λ l. Sound l sites) (sym (take-append-drop n ledger)) sound)

-- what stands in a front stands in the whole
pub get_taken : {X : Type 0} (n : ℕ) (xs : List X) (i : ℕ) (x : X) → slice_get (take n xs) i ≡ Some x → slice_get xs i ≡ Some x
get_taken n xs i x e = subst (λ l. slice_get l i ≡ Some x) (take-append-drop n xs) (get_front (take n xs) (drop n xs) i x e)
