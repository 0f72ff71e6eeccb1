-- The verdict on an ask, with its nonce call.
use Rattle.std.proofs.Common.{◌≡◌, ℕ, ◌≤◌, Bool, true, false, ◌&&◌, cond, nat_le, codes, List, [], ◌∷◌, ◌++◌, Option, Some, None, refl, arith}
use Rattle.std.specs.Option.{option_and_then, unwrap_or}
use Rattle.std.proofs.lemmas.Bool.Decides.{nat_tests}
use Rattle.usp_base.specs.Numbers.{is_whole, number_of, value_of}
use Rattle.usp_claims.specs.Table.{claim, number_claim, text_claim, whole_in}
use Rattle.usp_json.specs.Scalars.{number_in}
use Rattle.usp_json.specs.declared.value.Json.{Json}
use Rattle.usp_json.specs.declared.value.Members.{Members}
use Rattle.usp_nonce.specs.History.{Call, IsLegal, IsNext}
use Rattle.usp_nonce.specs.Nonces.{Nonce}
use Rattle.usp_nonce.specs.Stands.{StandsFor, call_of}
use Rattle.usp_nonce.specs.Table.{Table}
use Rattle.usp_nonce.specs.declared.answer.Turned.{Turned}
use Rattle.usp_nonce.specs.declared.limits.TheConstants.{MAX_UNTIL}
use Rattle.usp_rules.specs.Asks.{AskValue}
use Rattle.usp_rules.specs.Judging.{Judges}
use Rattle.usp_rules.specs.declared.judged.Judged.TheVariants as judged
use Rattle.usp_rules.specs.declared.profile.Profile.{Profile}
use Rattle.usp_rules.specs.declared.rule.Rule.{Rule}
use Rattle.usp_tool.specs.Check.Verdicts.{IsDecided, called, denied, free, verdict_by}
use Rattle.usp_tool.specs.declared.check.verdict.Verdict.TheVariants.{Admitted, Denied}

bound_by : (w b : Bool) (v most n : ℕ) → nat_le v most ≡ b → cond (w && b) (Some v) None ≡ Some n → n ≤ most
bound_by true true v most n t e = let same : v ≡ n = cc in grind (arith, nat_tests)
bound_by true false v most n t e = cc
bound_by false b v most n t e = cc

pub number_bound : (most : ℕ) (text : List ℕ) (n : ℕ) → number_of most text ≡ Some n → n ≤ most
number_bound most text n e = bound_by (is_whole text) (nat_le (value_of text) most) (value_of text) most n refl e

spelled_bound : (most n : ℕ) (text : Option (List ℕ)) → option_and_then (number_of most) text ≡ Some n → n ≤ most
spelled_bound most n None e = cc
spelled_bound most n (Some text) e = number_bound most text n e

value_bound : (most n : ℕ) (value : Option Json) → option_and_then (whole_in most) value ≡ Some n → n ≤ most
value_bound most n None e = cc
value_bound most n (Some value) e = spelled_bound most n (number_in value) e

-- a number of a claim set is at most 2 ^ 53 - 1
pub claim_bound : (name : List ℕ) (members : Members) (n : ℕ) → number_claim name members ≡ Some n → n ≤ 9007199254740991
claim_bound name members n e = value_bound 9007199254740991 n (claim name members) e

pub denied_decided : (profile : Profile) (room : ℕ) (ask : AskValue) (before : List Call) (rule : Rule) (table : Table)
    → Judges profile ask (judged.Denied rule) → StandsFor table before → IsLegal room before → IsDecided profile room ask before (Denied rule) table
denied_decided profile room ask before rule table judges stands legal =
    record { after = before; decides = denied (Denied rule) before rule judges refl refl; stands = stands; legal = legal }

pub free_decided : (profile : Profile) (room : ℕ) (ask : AskValue) (before : List Call) (content token : List ℕ) (members : Members) (key : ℕ) (table : Table)
    → Judges profile ask (judged.Passed content token members key) → text_claim (codes "jti") members ≡ None → StandsFor table before → IsLegal room before
    → IsDecided profile room ask before (Admitted content) table
free_decided profile room ask before content token members key table judges none stands legal =
    record { after = before; decides = free (Admitted content) before content token members key judges none refl refl; stands = stands; legal = legal }

pub called_decided : (profile : Profile) (room : ℕ) (ask : AskValue) (before : List Call) (content token jti : List ℕ) (members : Members) (key : ℕ) (nonce : Nonce)
    (now until : ℕ) (turned : Turned) (table : Table)
    → Judges profile ask (judged.Passed content token members key) → text_claim (codes "jti") members ≡ Some jti
    → nonce ≡ record { jti = jti; uri = content } → now ≡ ask.moment → until ≡ unwrap_or (number_claim (codes "exp") members) MAX_UNTIL
    → IsNext room before (call_of nonce now until turned) → StandsFor table (before ++ call_of nonce now until turned ∷ [])
    → IsLegal room (before ++ call_of nonce now until turned ∷ [])
    → IsDecided profile room ask before (verdict_by content turned.answer) table
called_decided profile room ask before content token jti members key nonce now until turned table judges some n m u next stands legal =
    record {
      after = before ++ call_of nonce now until turned ∷ [];
      decides = called (verdict_by content turned.answer) (before ++ call_of nonce now until turned ∷ []) content token jti members key (call_of nonce now until turned)
          judges some (record { nonce = n; now = m; until = u }) next refl refl;
      stands = stands;
      legal = legal;
    }
