-- What claims that are renewed, or signed again, have of those before.
use Rattle.std.proofs.Common.{◌≡◌, ◌≢◌, ◌⊎◌, ℕ, ◌+◌, ◌<◌, ◌≤◌, Bool, true, false, ◌&&◌, nat_le, cond, codes, List, ◌++◌, Option, Some, None, inl, inr, refl, sym, ap, ◌∙◌, arith}
use Rattle.std.specs.Fmt.{decimal}
use Rattle.std.specs.Option.{is_some, option_and_then, option_map}
use Rattle.std.specs.Str.{bytes_eq}
use Rattle.std.proofs.lemmas.Bool.{and_parts, leb-true}
use Rattle.std.proofs.lemmas.Option.{cond_some}
use Rattle.std.proofs.lemmas.Slice.Eq.{bytes_eq-Decides}
use Rattle.usp_base.specs.declared.limits.TheConstants.{MOMENT_BOUND}
use Rattle.usp_base.specs.Numbers.{is_whole, number_of, value_of}
use Rattle.usp_claims.proofs.ChangeLaws.{other_claim, this_claim}
use Rattle.usp_claims.proofs.Decimals.{text_of, whole_number}
use Rattle.usp_claims.specs.Changes.{with_claim}
use Rattle.usp_claims.specs.Table.{claim, name_of, number_claim, period_claim, text_claim, whole_in}
use Rattle.usp_claims.specs.declared.limits.TheConstants.{MAX_NUMBER, MAX_PERIOD}
use Rattle.usp_claims.specs.declared.table.ClaimName.{ClaimName}
use Rattle.usp_claims.specs.declared.table.ClaimName.TheVariants.{Aud, Exp, Iat, Iss, Uc}
use Rattle.usp_json.specs.declared.value.Json.{Json}
use Rattle.usp_json.specs.declared.value.Json.TheVariants.{Num, Str}
use Rattle.usp_json.specs.Scalars.{number_in}
use Rattle.usp_json.specs.declared.value.Members.{Members}
use Rattle.usp_jws.specs.Keys.{KeyValue}
use Rattle.usp_rules.specs.Segment.{segment_of}
use Rattle.usp_issue.specs.Renewals.{for_period, renew, with_present}
use Rattle.usp_issue.specs.Resignings.{Resigns, for_route, for_target, target_of}
use Rattle.usp_issue.specs.Routes.{RouteValue}

-- texts that are tested apart are apart
apart : (a b : List ℕ) → bytes_eq a b ≡ false → a ≢ b
apart a b miss e = let hit : bytes_eq a b ≡ true = (bytes_eq-Decides a b).1 e in let both : true ≡ false = sym hit ∙ miss in cc both

either_same : {X : Type 0} (b : Bool) (f : Members → X) (x y : Members) → f x ≡ f y → f (cond b x y) ≡ f y
either_same true f x y e = e
either_same false f x y e = refl

-- ---- a claim replaced where it is there

present_other : (name : ClaimName) (other : List ℕ) (value : Json) (m : Members) → bytes_eq other (name_of name) ≡ false → claim other (with_present name value m) ≡ claim other m
present_other name other value m miss =
    either_same (is_some (claim (name_of name) m)) (λ x. claim other x) (with_claim name value m) m (other_claim name other value m (apart other (name_of name) miss))

present_by : (name : ClaimName) (value : Json) (m : Members) (o : Option Json) → claim (name_of name) m ≡ o
    → claim (name_of name) (cond (is_some o) (with_claim name value m) m) ≡ option_map (λ old. value) o
present_by name value m None e = e
present_by name value m (Some old) e = this_claim name value m

present_this : (name : ClaimName) (value : Json) (m : Members) → claim (name_of name) (with_present name value m) ≡ option_map (λ old. value) (claim (name_of name) m)
present_this name value m = present_by name value m (claim (name_of name) m) refl

-- ---- renewed claims

pub renewed_other : (m : Members) (moment : ℕ) (key : KeyValue) (period : ℕ) (name : List ℕ) → bytes_eq name (codes "exp") ≡ false → bytes_eq name (codes "iss") ≡ false
    → bytes_eq name (codes "iat") ≡ false → claim name (for_period m moment key period) ≡ claim name m
renewed_other m moment key period name exp iss iat =
    let issued = with_present Iss (Str key.issuer) m in
    let dated = with_present Iat (Num (decimal moment)) issued in
    other_claim Exp name (Num (decimal (moment + period))) dated (apart name (codes "exp") exp)
    ∙ (present_other Iat name (Num (decimal moment)) issued iat ∙ present_other Iss name (Str key.issuer) m iss)

pub renewed_exp : (m : Members) (moment : ℕ) (key : KeyValue) (period : ℕ) → claim (codes "exp") (for_period m moment key period) ≡ Some (Num (decimal (moment + period)))
renewed_exp m moment key period = this_claim Exp (Num (decimal (moment + period))) (with_present Iat (Num (decimal moment)) (with_present Iss (Str key.issuer) m))

pub renewed_iss : (m : Members) (moment : ℕ) (key : KeyValue) (period : ℕ) → claim (codes "iss") (for_period m moment key period) ≡ option_map (λ old. Str key.issuer) (claim (codes "iss") m)
renewed_iss m moment key period =
    let issued = with_present Iss (Str key.issuer) m in
    let dated = with_present Iat (Num (decimal moment)) issued in
    other_claim Exp (codes "iss") (Num (decimal (moment + period))) dated (apart (codes "iss") (codes "exp") refl)
    ∙ (present_other Iat (codes "iss") (Num (decimal moment)) issued refl ∙ present_this Iss (Str key.issuer) m)

pub renewed_iat : (m : Members) (moment : ℕ) (key : KeyValue) (period : ℕ) → claim (codes "iat") (for_period m moment key period) ≡ option_map (λ old. Num (decimal moment)) (claim (codes "iat") m)
renewed_iat m moment key period =
    let issued = with_present Iss (Str key.issuer) m in
    let dated = with_present Iat (Num (decimal moment)) issued in
    other_claim Exp (codes "iat") (Num (decimal (moment + period))) dated (apart (codes "iat") (codes "exp") refl)
    ∙ (present_this Iat (Num (decimal moment)) issued ∙ ap (λ (o : Option Json). option_map (λ old. Num (decimal moment)) o) (present_other Iss (codes "iat") (Str key.issuer) m refl))

-- what is renewed has a period
pub record IsForPeriod (m : Members) (moment : ℕ) (key : KeyValue) (claims : Members) : Type 0 where
  pub period : ℕ
  pub there : period_claim (codes "cdniets") m ≡ Some period
  pub is : claims ≡ for_period m moment key period

period_of : (m claims : Members) (moment : ℕ) (key : KeyValue) (o : Option ℕ) → period_claim (codes "cdniets") m ≡ o
    → option_map (λ period. for_period m moment key period) o ≡ Some claims → IsForPeriod m moment key claims
period_of m claims moment key None there e = cc
period_of m claims moment key (Some period) there e = record { period = period; there = there; is = cc }

renews_if : (b : Bool) (o : Option Members) (claims : Members) → cond b o None ≡ Some claims → o ≡ Some claims
renews_if true o claims e = e
renews_if false o claims e = cc

pub renew_says : (m : Members) (content : List ℕ) (moment : ℕ) (key : KeyValue) (claims : Members) → renew m content moment key ≡ Some claims → IsForPeriod m moment key claims
renew_says m content moment key claims e = period_of m claims moment key (period_claim (codes "cdniets") m) refl (renews_if _ _ claims e)

-- a period is within its limit
tested_below : (b : Bool) (value n most : ℕ) → cond (b && nat_le value most) (Some value) None ≡ Some n → n ≤ most
tested_below b value n most e =
    let c = cond_some (b && nat_le value most) value n e in
    let le : value ≤ most = leb-true value most (and_parts b (nat_le value most) c.0).1 in
    omega (arith, le, c.1)

spelled_below : (most n : ℕ) (o : Option (List ℕ)) → option_and_then (number_of most) o ≡ Some n → n ≤ most
spelled_below most n None e = cc
spelled_below most n (Some text) e = tested_below (is_whole text) (value_of text) n most e

whole_below : (most n : ℕ) (o : Option Json) → option_and_then (whole_in most) o ≡ Some n → n ≤ most
whole_below most n None e = cc
whole_below most n (Some value) e = spelled_below most n (number_in value) e

pub period_below : (m : Members) (period : ℕ) → period_claim (codes "cdniets") m ≡ Some period → period ≤ MAX_PERIOD
period_below m period e = whole_below MAX_PERIOD period (claim (codes "cdniets") m) e

-- the end of what is renewed
pub renewed_end : (m claims : Members) (moment period : ℕ) → moment < MOMENT_BOUND → period ≤ MAX_PERIOD → claim (codes "exp") claims ≡ Some (Num (decimal (moment + period)))
    → number_claim (codes "exp") claims ≡ Some (moment + period)
renewed_end m claims moment period early le e = rw e (whole_number MAX_NUMBER (moment + period) (omega arith) (omega arith))

-- ---- claims that are signed again

routed_other : (route : RouteValue) (moment : ℕ) (m : Members) (name : List ℕ) → bytes_eq name (codes "aud") ≡ false → bytes_eq name (codes "iss") ≡ false → bytes_eq name (codes "iat") ≡ false
    → claim name (for_route route moment m) ≡ claim name m
routed_other route moment m name aud iss iat =
    let issued = with_present Iss (Str route.key.issuer) m in
    let heard = with_present Aud (Str route.audience) issued in
    present_other Iat name (Num (decimal moment)) heard iat ∙ (present_other Aud name (Str route.audience) issued aud ∙ present_other Iss name (Str route.key.issuer) m iss)

routed_aud : (route : RouteValue) (moment : ℕ) (m : Members) → claim (codes "aud") (for_route route moment m) ≡ option_map (λ old. Str route.audience) (claim (codes "aud") m)
routed_aud route moment m =
    let issued = with_present Iss (Str route.key.issuer) m in
    let heard = with_present Aud (Str route.audience) issued in
    present_other Iat (codes "aud") (Num (decimal moment)) heard refl ∙ (present_this Aud (Str route.audience) issued
    ∙ ap (λ (o : Option Json). option_map (λ old. Str route.audience) o) (present_other Iss (codes "aud") (Str route.key.issuer) m refl))

routed_iss : (route : RouteValue) (moment : ℕ) (m : Members) → claim (codes "iss") (for_route route moment m) ≡ option_map (λ old. Str route.key.issuer) (claim (codes "iss") m)
routed_iss route moment m =
    let issued = with_present Iss (Str route.key.issuer) m in
    let heard = with_present Aud (Str route.audience) issued in
    present_other Iat (codes "iss") (Num (decimal moment)) heard refl ∙ (present_other Aud (codes "iss") (Str route.audience) issued refl ∙ present_this Iss (Str route.key.issuer) m)

routed_iat : (route : RouteValue) (moment : ℕ) (m : Members) → claim (codes "iat") (for_route route moment m) ≡ option_map (λ old. Num (decimal moment)) (claim (codes "iat") m)
routed_iat route moment m =
    let issued = with_present Iss (Str route.key.issuer) m in
    let heard = with_present Aud (Str route.audience) issued in
    present_this Iat (Num (decimal moment)) heard ∙ ap (λ (o : Option Json). option_map (λ old. Num (decimal moment)) o)
    (present_other Aud (codes "iat") (Str route.audience) issued refl ∙ present_other Iss (codes "iat") (Str route.key.issuer) m refl)

narrowed_other : (target : List ℕ) (m : Members) (name : List ℕ) → bytes_eq name (codes "cdniuc") ≡ false → claim name (for_target target m) ≡ claim name m
narrowed_other target m name miss = other_claim Uc name (Str (codes "hash:" ++ segment_of target)) m (apart name (codes "cdniuc") miss)

narrowed_uc : (target : List ℕ) (m : Members) → text_claim (codes "cdniuc") (for_target target m) ≡ Some (codes "hash:" ++ segment_of target)
narrowed_uc target m = rw (this_claim Uc (Str (codes "hash:" ++ segment_of target)) m) (text_of (codes "hash:" ++ segment_of target))

-- what claims that are signed again have
pub record IsSentOn (m : Members) (route : RouteValue) (target : List ℕ) (claims : Members) : Type 0 where
  pub others : (name : List ℕ) → bytes_eq name (codes "aud") ≡ false → bytes_eq name (codes "iss") ≡ false → bytes_eq name (codes "iat") ≡ false → bytes_eq name (codes "cdniuc") ≡ false
      → claim name claims ≡ claim name m
  pub aud : claim (codes "aud") claims ≡ option_map (λ old. Str route.audience) (claim (codes "aud") m)
  pub iss : claim (codes "iss") claims ≡ option_map (λ old. Str route.key.issuer) (claim (codes "iss") m)
  pub container : (claim (codes "cdniuc") claims ≡ claim (codes "cdniuc") m) ⊎ (text_claim (codes "cdniuc") claims ≡ Some (codes "hash:" ++ segment_of target))

routed_says : (m : Members) (moment : ℕ) (route : RouteValue) (target : List ℕ) → IsSentOn m route target (for_route route moment m)
routed_says m moment route target = record {
  others = λ name aud iss iat uc. routed_other route moment m name aud iss iat;
  aud = routed_aud route moment m;
  iss = routed_iss route moment m;
  container = inl (routed_other route moment m (codes "cdniuc") refl refl refl);
}

pub kept_container : (m : Members) (moment : ℕ) (route : RouteValue) → claim (codes "cdniuc") (for_route route moment m) ≡ claim (codes "cdniuc") m
kept_container m moment route = routed_other route moment m (codes "cdniuc") refl refl refl

pub narrowed_container : (m : Members) (moment : ℕ) (route : RouteValue) (target : List ℕ) → text_claim (codes "cdniuc") (for_route route moment (for_target target m)) ≡ Some (codes "hash:" ++ segment_of target)
narrowed_container m moment route target = rw (kept_container (for_target target m) moment route) (narrowed_uc target m)

narrowed_says : (m : Members) (moment : ℕ) (route : RouteValue) (target : List ℕ) → IsSentOn m route target (for_route route moment (for_target target m))
narrowed_says m moment route target =
    let at = for_target target m in
    record {
      others = λ name aud iss iat uc. routed_other route moment at name aud iss iat ∙ narrowed_other target m name uc;
      aud = routed_aud route moment at ∙ ap (λ (o : Option Json). option_map (λ old. Str route.audience) o) (narrowed_other target m (codes "aud") refl);
      iss = routed_iss route moment at ∙ ap (λ (o : Option Json). option_map (λ old. Str route.key.issuer) o) (narrowed_other target m (codes "iss") refl);
      container = inr (narrowed_container m moment route target);
    }

pub resigns_says : (m : Members) (content : List ℕ) (moment : ℕ) (route : RouteValue) (claims : Members) → Resigns m content moment route claims
    → IsSentOn m route (target_of content route) claims
resigns_says m content moment route claims (inl kept) = rw kept.1 (routed_says m moment route (target_of content route))
resigns_says m content moment route claims (inr narrowed) = rw narrowed.1 (narrowed_says m moment route (target_of content route))

pub resigned_iat : (m : Members) (content : List ℕ) (moment : ℕ) (route : RouteValue) (claims : Members) → Resigns m content moment route claims
    → claim (codes "iat") claims ≡ option_map (λ old. Num (decimal moment)) (claim (codes "iat") m)
resigned_iat m content moment route claims (inl kept) = rw kept.1 (routed_iat route moment m)
resigned_iat m content moment route claims (inr narrowed) =
    rw narrowed.1 (routed_iat route moment (for_target (target_of content route) m)
    ∙ ap (λ (o : Option Json). option_map (λ old. Num (decimal moment)) o) (narrowed_other (target_of content route) m (codes "iat") refl))
