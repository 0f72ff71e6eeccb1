-- The URIs of a generated script are in their normal form.
use Rattle.std.proofs.Common.{◌≡◌, ◌≢◌, ℕ, zero, suc, ◌+◌, ◌<◌, ◌≤◌, List, ◌∷◌, ◌++◌, Result, Ok, Err, refl, ap, sym, subst, ◌∙◌, arith}
use Rattle.std.specs.Prelude.{codes}
use Rattle.std.proofs.lemmas.Fmt.{decimal_digit}
use Rattle.usp_uri.specs.Answers.{Refuses}
use Rattle.usp_uri.specs.Faults.{normal_of}
use Rattle.usp_uri.specs.declared.fault.UriFault.{UriFault}
use Rattle.usp_uri.specs.declared.fault.UriFault.TheVariants as fault
use Rattle.usp_script.specs.Generator.{list_uri, segment_uri, sent_uri, target_uri}

pub list_normal : normal_of list_uri ≡ Ok list_uri
unfolding normal_of
list_normal = refl

pub sent_normal : normal_of sent_uri ≡ Ok sent_uri
unfolding normal_of
sent_normal = refl

pub target_normal : normal_of target_uri ≡ Ok target_uri
unfolding normal_of
target_normal = refl

-- ---- segments

-- the text of a segment of one digit
abbrev digit_text : ℕ → List ℕ
digit_text number = codes "https://a.example/v/s" ++ ((48 + number) ∷ codes ".ts")

pub segment_digit : (number : ℕ) → number < 10 → segment_uri number ≡ digit_text number
segment_digit number small = ap (λ (d : List ℕ). codes "https://a.example/v/s" ++ (d ++ codes ".ts")) (decimal_digit number small)

pub segment_at : (number digit : ℕ) (text : List ℕ) → number ≡ digit → digit < 10 → text ≡ digit_text digit → text ≡ segment_uri number
segment_at number digit text at small is = is ∙ sym (segment_digit digit small) ∙ ap segment_uri (sym at)

abbrev IsNormal : ℕ → Type 0
IsNormal number = normal_of (segment_uri number) ≡ Ok (segment_uri number)

digit_normal : (number : ℕ) → number < 10 → normal_of (digit_text number) ≡ Ok (digit_text number) → IsNormal number
digit_normal number small normal = subst (λ (text : List ℕ). normal_of text ≡ Ok text) (sym (segment_digit number small)) normal

one_to_five : (P : ℕ → Type 0) → P 1 → P 2 → P 3 → P 4 → P 5 → (number : ℕ) → 1 ≤ number → number ≤ 5 → P number
one_to_five P a b c d e zero low high = absurd (omega arith)
one_to_five P a b c d e (suc zero) low high = a
one_to_five P a b c d e (suc (suc zero)) low high = b
one_to_five P a b c d e (suc (suc (suc zero))) low high = c
one_to_five P a b c d e (suc (suc (suc (suc zero)))) low high = d
one_to_five P a b c d e (suc (suc (suc (suc (suc zero))))) low high = e
one_to_five P a b c d e (suc (suc (suc (suc (suc (suc more)))))) low high = absurd (omega arith)

pub segment_normal : (number : ℕ) → 1 ≤ number → number ≤ 5 → normal_of (segment_uri number) ≡ Ok (segment_uri number)
unfolding normal_of
segment_normal number low high =
    one_to_five IsNormal (digit_normal 1 (omega arith) refl) (digit_normal 2 (omega arith) refl) (digit_normal 3 (omega arith) refl) (digit_normal 4 (omega arith) refl) (digit_normal 5 (omega arith) refl)
    number low high

-- ---- a text in its normal form is not refused

ok_err : {A : Type 0} (r : Result A UriFault) (a : A) (e : UriFault) → r ≡ Ok a → r ≡ Err e → ⊥
ok_err r a e p q = grind arith

pub not_refused : (found : UriFault) (text : List ℕ) → Refuses found (normal_of text) → found ≢ fault.NoMemory → normal_of text ≡ Ok text → ⊥
not_refused fault.TooLong text is free normal = ok_err (normal_of text) text fault.TooLong normal is
not_refused fault.Scheme text is free normal = ok_err (normal_of text) text fault.Scheme normal is
not_refused fault.Userinfo text is free normal = ok_err (normal_of text) text fault.Userinfo normal is
not_refused (fault.Syntax at) text is free normal = ok_err (normal_of text) text (fault.Syntax at) normal is
not_refused fault.Port text is free normal = ok_err (normal_of text) text fault.Port normal is
not_refused (fault.Escape at) text is free normal = ok_err (normal_of text) text (fault.Escape at) normal is
not_refused fault.Fragment text is free normal = ok_err (normal_of text) text fault.Fragment normal is
not_refused fault.NoMemory text is free normal = free refl
