-- Where a cookie is put, and how many a jar then has.
use Rattle.std.proofs.Common.{◌≡◌, ◌≤◌, ◌<◌, ◌+◌, suc, refl, sym, ap, ◌∙◌, subst, ℕ, Bool, true, false, not, cond, nat_lt, List, [], ◌∷◌, ◌++◌, length, set, drop, Option, Some, None, inl, inr, arith, one-add, length-append}
use Rattle.std.specs.Prelude.{position}
use Rattle.std.specs.List.{position_or_len}
use Rattle.std.proofs.lemmas.Bool.{cases_lt, le-ltb}
use Rattle.std.proofs.lemmas.List.{length-drop}
use borrow.Author.Tests.{lt-ltb}
use Rattle.usp_cookie.specs.Jars.{is_same, kept_with, put_in, stored, without_excess}
use Rattle.usp_cookie.specs.SetCookies.{cookie_of}
use Rattle.usp_cookie.specs.declared.cookie.Cookie.{Cookie}

-- the place of the cookie that is the same, or the length
abbrev at : Cookie → List Cookie → ℕ
at new jar = position_or_len (λ old. is_same old new) jar

abbrev number : Option ℕ → ℕ
number None = 0
number (Some i) = i

set_more : (new old : Cookie) (jar : List Cookie) (n : ℕ) → old ∷ set jar n new ≡ set (old ∷ jar) (1 + n) new
set_more new old jar n = ap (λ m. set (old ∷ jar) m new) (sym (one-add n))

put_by : (new old : Cookie) (jar : List Cookie) (b : Bool) → cond (not b) (1 + at new jar) 0 < suc (length jar)
    → (at new jar < length jar → put_in new jar ≡ set jar (at new jar) new)
    → cond b (new ∷ jar) (old ∷ put_in new jar) ≡ set (old ∷ jar) (cond (not b) (1 + at new jar) 0) new
put_by new old jar true lt rest = refl
put_by new old jar false lt rest = ap (λ l. old ∷ l) (rest (omega (arith, lt))) ∙ set_more new old jar (at new jar)

put_at : (new : Cookie) (jar : List Cookie) → at new jar < length jar → put_in new jar ≡ set jar (at new jar) new
put_at new [] lt = absurd (omega (arith, lt))
put_at new (old ∷ jar) lt = put_by new old jar (is_same old new) lt (put_at new jar)

end_by : (new old : Cookie) (jar : List Cookie) (b : Bool) → suc (length jar) ≤ cond (not b) (1 + at new jar) 0
    → (length jar ≤ at new jar → put_in new jar ≡ jar ++ new ∷ [])
    → cond b (new ∷ jar) (old ∷ put_in new jar) ≡ old ∷ (jar ++ new ∷ [])
end_by new old jar true le rest = absurd (omega (arith, le))
end_by new old jar false le rest = ap (λ l. old ∷ l) (rest (omega (arith, le)))

put_end : (new : Cookie) (jar : List Cookie) → length jar ≤ at new jar → put_in new jar ≡ jar ++ new ∷ []
put_end new [] le = refl
put_end new (old ∷ jar) le = end_by new old jar (is_same old new) le (put_end new jar)

-- one that has the same name is replaced
pub put_found : (new : Cookie) (jar : List Cookie) (i : ℕ) → Some i ≡ position (λ old. is_same old new) jar → put_in new jar ≡ set jar i new
put_found new jar i is =
    elim (cases_lt (at new jar) (length jar)) [
      | inl lt ↦
          put_at new jar lt ∙ ap (λ n. set jar n new)
          (sym (ap number (is ∙ ap (λ b. cond b (Some (at new jar)) None) (lt-ltb (at new jar) (length jar) lt))))
      | inr le ↦
          let both : ◌≡◌ {A = Option ℕ} (Some i) None = is ∙ ap (λ b. cond b (Some (at new jar)) None) (le-ltb (at new jar) (length jar) le) in cc
    ]

-- else the new one goes last
pub put_none : (new : Cookie) (jar : List Cookie) → None ≡ position (λ old. is_same old new) jar → put_in new jar ≡ jar ++ new ∷ []
put_none new jar is =
    elim (cases_lt (at new jar) (length jar)) [
      | inl lt ↦
          let both : ◌≡◌ {A = Option ℕ} None (Some (at new jar)) = is ∙ ap (λ b. cond b (Some (at new jar)) None) (lt-ltb (at new jar) (length jar) lt) in cc
      | inr le ↦ put_end new jar le
    ]

-- ---- how many

longer_by : (new old : Cookie) (jar : List Cookie) (b : Bool) → length (put_in new jar) ≤ length jar + 1
    → length (cond b (new ∷ jar) (old ∷ put_in new jar)) ≤ length (old ∷ jar) + 1
longer_by new old jar true le = omega arith
longer_by new old jar false le = omega (arith, le)

longer : (new : Cookie) (jar : List Cookie) → length (put_in new jar) ≤ length jar + 1
longer new [] = omega arith
longer new (old ∷ jar) = longer_by new old jar (is_same old new) (longer new jar)

excess_by : (jar : List Cookie) (b : Bool) → nat_lt 64 (length jar) ≡ b → length jar ≤ 65 → length (cond b (drop 1 jar) jar) ≤ 64
excess_by jar true is le = omega (arith, le, length-drop 1 jar)
excess_by jar false is le =
    elim (cases_lt 64 (length jar)) [
      | inl lt ↦ let both : true ≡ false = sym (lt-ltb 64 (length jar) lt) ∙ is in absurd (cc both)
      | inr few ↦ few
    ]

few_with : (new : Option Cookie) (jar : List Cookie) → length jar ≤ 64 → length (kept_with new jar) ≤ 64
few_with None jar le = le
few_with (Some cookie) jar le =
    excess_by (put_in cookie jar) (nat_lt 64 (length (put_in cookie jar))) refl (omega (arith, le, longer cookie jar))

pub few_stored : (authority asked value : List ℕ) (jar : List Cookie) → length jar ≤ 64 → length (stored authority asked value jar) ≤ 64
few_stored authority asked value jar le = unfold stored in few_with (cookie_of authority asked value) jar le
