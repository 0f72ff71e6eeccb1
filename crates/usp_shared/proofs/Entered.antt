-- A call that is entered has a place of its own.
use Rattle.std.proofs.Common.{◌≡◌, ℕ, zero, suc, ◌+◌, ◌≤◌, List, [], ◌∷◌, ◌++◌, length, length-append, refl, sym, ap, ◌∙◌, subst, arith}
use Rattle.std.specs.Prelude.{Some, slice_get}
use Rattle.std.proofs.lemmas.List.Elements.{All-weaker, All-push, All-append}
use mathlib.Core.List.{IsPrefix, append_assoc}
use Rattle.usp_nonce.specs.History.{Call}
use Rattle.usp_shared.specs.Histories.{AreAt, IsEntered, Placed}
use Rattle.usp_shared.specs.Places.{AreDistinctBelow}
use Rattle.usp_shared.proofs.Counts.{distinct_more}

pub entered_apart : (before after : List Call) (call : Call) (place : ℕ) (places : List ℕ) → IsEntered before call place after
    → AreDistinctBelow (length before) places → AreDistinctBelow (length after) (places ++ place ∷ [])
entered_apart before after call place places entered apart =
    let front : List Call = before ++ entered.between in
    let long : length after ≡ length (front ++ call ∷ []) = ap length entered.seen in
    let here : length after ≡ place + 1 = omega (arith, long, length-append front (call ∷ []), entered.place_is) in
    let behind : length before ≤ place = omega (arith, length-append before entered.between, entered.place_is) in
    subst (λ n. AreDistinctBelow n (places ++ place ∷ [])) (sym here) (distinct_more (length before) place places behind apart)

-- what stands behind a list stands at its length
at_end : (xs : List Call) (x : Call) → slice_get (xs ++ x ∷ []) (length xs) ≡ Some x
at_end [] x = refl
at_end (y ∷ xs) x = at_end xs x

pub entered_at : (before after : List Call) (call : Call) (place : ℕ) → IsEntered before call place after → slice_get after place ≡ Some call
entered_at before after call place entered =
    let front : List Call = before ++ entered.between in
    ap (slice_get after) entered.place_is ∙ (ap (λ (l : List Call). slice_get l (length front)) entered.seen ∙ at_end front call)

pub entered_more : (before after : List Call) (call : Call) (place : ℕ) → IsEntered before call place after → IsPrefix before after
entered_more before after call place entered =
    (entered.between ++ call ∷ [], sym (append_assoc before entered.between (call ∷ [])) ∙ sym entered.seen)

pub stays_at : (history longer : List Call) (call : Call) (place : ℕ) → slice_get history place ≡ Some call → IsPrefix history longer → slice_get longer place ≡ Some call
stays_at [] longer call place there more = absurd (cc there)
stays_at (x ∷ xs) [] call place there more = absurd (cc (more.1))
stays_at (x ∷ xs) (y ∷ ys) call zero there more = cc (more.1, there)
stays_at (x ∷ xs) (y ∷ ys) call (suc place) there more = stays_at xs ys call place there (more.0, cc (more.1))

abbrev Stands : List Call → Placed → Type 0
Stands history p = slice_get history p.place ≡ Some p.call

-- what stands at its place stays there while the history grows
pub stay_at : (before after : List Call) (placed : List Placed) → IsPrefix before after → AreAt before placed → AreAt after placed
stay_at before after placed more all = All-weaker (Stands before) (Stands after) (λ p there. stays_at before after p.call p.place there more) placed all

pub taken_at : (before after : List Call) (placed : List Placed) (call : Call) (place : ℕ) → IsEntered before call place after
    → AreAt before placed → AreAt after (placed ++ record { call = call; place = place } ∷ [])
taken_at before after placed call place entered all =
    let one : Placed = record { call = call; place = place } in
    All-push (Stands after) placed one (stay_at before after placed (entered_more before after call place entered) all) (entered_at before after call place entered)

pub joined_at : (one other both : List Call) (placed others : List Placed) → IsPrefix one both → IsPrefix other both
    → AreAt one placed → AreAt other others → AreAt both (placed ++ others)
joined_at one other both placed others p q all all' =
    All-append (Stands both) placed others (stay_at one both placed p all) (stay_at other both others q all')
