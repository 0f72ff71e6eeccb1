-- Laws of legal histories.
use Rattle.std.proofs.Common.{◌≡◌, ℕ, ◌≤◌, max, Bool, true, false, List, [], ◌∷◌, ◌++◌, length, refl, ap, sym, ◌∙◌, subst, arith, if◌then◌else◌, ◌⊎◌, inl, inr}
use Rattle.std.specs.List.{list_any, filter}
use Rattle.std.specs.Str.{bytes_eq}
use Rattle.std.proofs.lemmas.Bool.{or_parts, ltb-false, and_from, false_from_ne_true, true≢false}
use Rattle.std.proofs.lemmas.Bool.Decides.{nat_tests}
use Rattle.std.proofs.lemmas.List.{append_assoc, length-append}
use Rattle.std.proofs.lemmas.Slice.Eq.{bytes_eq-Decides}
use Rattle.usp_nonce.specs.Nonces.{Nonce, is_same_nonce}
use Rattle.usp_nonce.specs.History.{Call, moment_of, is_in_force, calls_in_force, answer_to, IsNext, IsLegal}
use Rattle.usp_nonce.specs.Laws.{TakesNoNonceTwice, AsksSame}
use Rattle.usp_nonce.proofs.Kept.{moment_of-push}
use Rattle.usp_nonce.specs.declared.answer.Answer.{Answer}
use Rattle.usp_nonce.specs.declared.answer.Answer.TheVariants.{Taken}

pub legal_none : (room : ℕ) → IsLegal room []
legal_none room = record { each = λ before after call e. absurd (impossible before after call (ap length e)) }
  where
    impossible : (before after : List Call) (call : Call) → 0 ≡ length (before ++ call ∷ after) → ⊥
    impossible before after call e = let n = length-append before (call ∷ after) in omega arith

-- the front of a legal history
pub legal_front : (room : ℕ) (history rest : List Call) → IsLegal room (history ++ rest) → IsLegal room history
legal_front room history rest legal = record {
  each = λ before after call e.
      legal.each before (after ++ rest) call (ap (λ calls. calls ++ rest) e ∙ append_assoc before (call ∷ after) rest);
}

-- an element of a list with one more at its end is the last one, or stood there before
last_or_before : (xs : List Call) (x : Call) (ys : List Call) (y : Call) (zs : List Call) → xs ++ x ∷ [] ≡ ys ++ y ∷ zs
    → ((xs ≡ ys) × (x ≡ y)) ⊎ ((ws : List Call) × (xs ≡ ys ++ y ∷ ws))
last_or_before [] x [] y zs e = inl (refl, cc)
last_or_before [] x (b ∷ ys) y zs e =
    let n = length-append ys (y ∷ zs) in let same = ap length e in absurd (omega arith)
last_or_before (a ∷ xs) x [] y zs e = inr (xs, cc)
last_or_before (a ∷ xs) x (b ∷ ys) y zs e =
    let heads : a ≡ b = cc in
    let tails : xs ++ x ∷ [] ≡ ys ++ y ∷ zs = cc in
    elim (last_or_before xs x ys y zs tails) [
      | inl here ↦ inl (cc (here.0), here.1)
      | inr there ↦ inr (there.0, cc (there.1))
    ]

-- one more call
pub legal_more : (room : ℕ) (history : List Call) (call : Call) → IsLegal room history → IsNext room history call
    → IsLegal room (history ++ call ∷ [])
legal_more room history call legal next = record {
  each = λ before after other e. elim (last_or_before history call before other after e) [
    | inl here ↦ subst (λ calls. IsNext room calls other) here.0 (subst (IsNext room history) here.1 next)
    | inr there ↦ legal.each before there.0 other there.1
  ];
}

-- the last call of a legal history is the next of those before it
pub legal_last : (room : ℕ) (history : List Call) (call : Call) → IsLegal room (history ++ call ∷ [])
    → IsNext room history call
legal_last room history call legal = legal.each history [] call refl

same_call : {n m : Nonce} {now now' until until' at at' : ℕ} {answer answer' : Answer}
    → n ≡ m → now ≡ now' → until ≡ until' → at ≡ at' → answer ≡ answer'
    → let call : Call = record { nonce = n; now = now; until = until; moment = at; answer = answer } in
    call ≡ record { nonce = m; now = now'; until = until'; moment = at'; answer = answer' }
same_call p q r s t = rw (p, q, r, s, t) refl

-- only one call goes on with a history
pub next_unique : (room : ℕ) (history : List Call) (a b : Call) → IsNext room history a → IsNext room history b
    → AsksSame a b → a ≡ b
next_unique room history a b first second same =
    let at : a.moment ≡ b.moment =
    first.moment ∙ moment_of-push history a ∙ ap (max (moment_of history)) same.now
    ∙ sym (moment_of-push history b) ∙ sym second.moment in
    let answers : a.answer ≡ b.answer = cc (first.answer, second.answer, at, same.nonce, same.until) in
    same_call same.nonce same.now same.until at answers

any_rest : (p : Call → Bool) (test : Bool) (x : Call) (xs : List Call)
    → list_any p (if test then x ∷ xs else xs) ≡ false → list_any p xs ≡ false
any_rest p false x xs e = e
any_rest p true x xs e = (or_parts (p x) (list_any p xs) e).1

-- none that passes one test passes the other
any_kept : (p q : Call → Bool) (xs : List Call) (x : Call) (ys : List Call)
    → list_any p (filter q (xs ++ x ∷ ys)) ≡ false → q x ≡ true → p x ≡ false
any_kept p q [] x ys e passes =
    let here : list_any p (x ∷ filter q ys) ≡ false = rw passes at e in
    (or_parts (p x) (list_any p (filter q ys)) here).0
any_kept p q (z ∷ xs) x ys e passes =
    any_kept p q xs x ys (any_rest p (q z) z (filter q (xs ++ x ∷ ys)) e) passes

none_kept : (p q : Call → Bool) (xs : List Call) (x : Call) (ys : List Call)
    → list_any p (filter q (xs ++ x ∷ ys)) ≡ false → p x ≡ true → q x ≡ false
none_kept p q xs x ys e passes =
    false_from_ne_true (q x) (λ kept. true≢false (sym passes ∙ any_kept p q xs x ys e kept))

-- what was taken and is not in force is over
over : (moment : ℕ) (call : Call) → call.answer ≡ Taken → is_in_force moment call ≡ false → call.until ≤ moment
over moment call taken out = ltb-false moment call.until (rw taken at out)

same_nonce : (a b : Nonce) → a ≡ b → is_same_nonce b a ≡ true
same_nonce a b e = rw e
    (and_from (bytes_eq b.jti b.jti) (bytes_eq b.uri b.uri)
    ((bytes_eq-Decides b.jti b.jti).1 refl) ((bytes_eq-Decides b.uri b.uri).1 refl))

-- a call that took its nonce saw it in force nowhere before
not_seen : (room : ℕ) (before : List Call) (nonce : Nonce) (until moment : ℕ)
    → Taken ≡ answer_to room before nonce until moment
    → list_any (λ (call : Call). is_same_nonce nonce call.nonce) (calls_in_force moment before) ≡ false
not_seen room before nonce until moment is = grind (arith, nat_tests)

pub no_nonce_twice : (room : ℕ) (history : List Call) → IsLegal room history → TakesNoNonceTwice history
no_nonce_twice room history legal = λ before between after first second e taken taken_again same.
    let next = legal.each (before ++ first ∷ between) after second e in
    let unseen = not_seen room (before ++ first ∷ between) second.nonce second.until second.moment
    (sym taken_again ∙ next.answer) in
    over second.moment first taken (none_kept (λ (call : Call). is_same_nonce second.nonce call.nonce)
    (is_in_force second.moment) before first between unseen (same_nonce first.nonce second.nonce same))
