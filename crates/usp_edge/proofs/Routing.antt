-- The places of routes.
use Rattle.std.proofs.Common.{◌≡◌, ℕ, ◌+◌, ◌≤◌, ◌<◌, ◌==◌, true, List, [], length, Option, Some, None, refl, sym, subst, ◌∙◌, arith}
use Rattle.std.proofs.lemmas.Bool.Decides.{nat_tests}
use Rattle.std.proofs.lemmas.List.{nil_from_length}
use Rattle.std.proofs.lemmas.Option.{some_pair_parts}
use Rattle.usp_json.specs.declared.value.Members.{Members}
use Rattle.usp_issue.specs.Redirections.{SendsFrom, elsewhere, none, refused, sends}
use Rattle.usp_issue.specs.Routes.{RouteValue}
use Rattle.usp_issue.specs.declared.limits.TheConstants.{MAX_ROUTES}
use Rattle.usp_issue.specs.declared.signed.Signed.{Signed}

-- the place is that of one of the routes
sends_within : (name : List ℕ) (members : Members) (content : List ℕ) (moment from : ℕ) (routes : List RouteValue)
    (result : Option (ℕ × Signed)) (place : ℕ) (signed : Signed) → SendsFrom name members content moment from routes result
    → result ≡ Some (place, signed) → place < from + length routes
sends_within name members content moment _ _ _ place signed (none from result gone) is = absurd (cc)
sends_within name members content moment _ _ _ place signed (sends from route routes signed2 result has signs sent) is =
    omega (arith, (some_pair_parts from place signed2 signed (sym sent ∙ is)).0)
sends_within name members content moment _ _ _ place signed (elsewhere from route routes result lacks more) is =
    omega (arith, sends_within name members content moment (from + 1) routes result place signed more is)
sends_within name members content moment _ _ _ place signed (refused from route routes result why more) is =
    omega (arith, sends_within name members content moment (from + 1) routes result place signed more is)

-- the place fits a note
pub place_fits : (name : List ℕ) (members : Members) (content : List ℕ) (moment : ℕ) (routes : List RouteValue)
    (result : Option (ℕ × Signed)) (place : ℕ) (signed : Signed) → SendsFrom name members content moment 0 routes result
    → result ≡ Some (place, signed) → length routes ≤ MAX_ROUTES → place < 65536
place_fits name members content moment routes result place signed sent is few =
    omega (arith, sends_within name members content moment 0 routes result place signed sent is, few)

empty_is : (routes : List RouteValue) → (length routes == 0) ≡ true → routes ≡ []
empty_is routes is = nil_from_length routes (grind (arith, nat_tests))

-- where there is no route, a request is sent nowhere
pub sends_nowhere : (name : List ℕ) (members : Members) (content : List ℕ) (moment : ℕ) (rows routes : List RouteValue)
    → (length rows == 0) ≡ true → rows ≡ routes → SendsFrom name members content moment 0 routes None
sends_nowhere name members content moment rows routes empty same =
    subst (λ (rs : List RouteValue). SendsFrom name members content moment 0 rs None) (sym (empty_is rows empty) ∙ same)
    (none 0 None refl)
