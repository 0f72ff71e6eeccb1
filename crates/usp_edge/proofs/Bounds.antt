-- The bounds of claims.
use Rattle.std.proofs.Common.{◌≡◌, ℕ, ◌≤◌, Bool, true, false, ◌&&◌, cond, nat_le, List, length, Option, Some, None, refl, arith}
use Rattle.std.specs.Option.{option_and_then}
use Rattle.std.proofs.lemmas.Bool.Decides.{nat_tests}
use Rattle.usp_base.specs.Numbers.{is_whole, number_of, value_of}
use Rattle.usp_claims.proofs.Shorter.{no_longer}
use Rattle.usp_claims.specs.Table.{claim, number_claim, whole_in}
use Rattle.usp_json.specs.Canon.{canon_members}
use Rattle.usp_json.specs.Scalars.{number_in}
use Rattle.usp_json.specs.declared.value.Json.{Json}
use Rattle.usp_json.specs.declared.value.Members.{Members}
use Rattle.usp_rules.specs.Tokens.{CarriesClaims}

bound_by : (w b : Bool) (v most n : ℕ) → nat_le v most ≡ b → cond (w && b) (Some v) None ≡ Some n → n ≤ most
bound_by true true v most n t e = let same : v ≡ n = cc in grind (arith, nat_tests)
bound_by true false v most n t e = cc
bound_by false b v most n t e = cc

number_bound : (most : ℕ) (text : List ℕ) (n : ℕ) → number_of most text ≡ Some n → n ≤ most
number_bound most text n e = bound_by (is_whole text) (nat_le (value_of text) most) (value_of text) most n refl e

spelled_bound : (most n : ℕ) (text : Option (List ℕ)) → option_and_then (number_of most) text ≡ Some n → n ≤ most
spelled_bound most n None e = cc
spelled_bound most n (Some text) e = number_bound most text n e

value_bound : (most n : ℕ) (value : Option Json) → option_and_then (whole_in most) value ≡ Some n → n ≤ most
value_bound most n None e = cc
value_bound most n (Some value) e = spelled_bound most n (number_in value) e

-- a number of a claim set is at most 2 ^ 53 - 1
pub claim_bound : (name : List ℕ) (members : Members) (n : ℕ) → number_claim name members ≡ Some n
    → n ≤ 9007199254740991
claim_bound name members n e = value_bound 9007199254740991 n (claim name members) e

-- the claims of a token are short enough to be changed
pub claims_short : (token : List ℕ) (members : Members) → CarriesClaims token members → length (canon_members members) ≤ 5000
claims_short token members claims =
    let spelled = claims.claims.claims in
    omega (arith, no_longer claims.claims.bytes members spelled.reads, spelled.short)
