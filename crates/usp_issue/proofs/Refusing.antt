-- Why a content is not signed for a route, and what that says of the routes.
use Rattle.std.proofs.Common.{◌≡◌, ◌≢◌, ◌⊎◌, ℕ, ◌+◌, ◌<◌, ◌≤◌, Bool, true, false, cond, List, ◌∷◌, length, drop, get_or, Option, Some, None, Ok, Err, inl, inr, refl, sym, ap, ◌∙◌, subst, add-one, drop-cons}
use Rattle.std.proofs.lemmas.List.{drop_all}
use Rattle.usp_json.specs.declared.value.Members.{Members}
use Rattle.usp_uri.specs.Answers.{Gives}
use Rattle.usp_uri.specs.Origin.{Origin, moved_of, moved_text}
use Rattle.usp_uri.specs.declared.fault.UriFault.{UriFault}
use Rattle.usp_uri.specs.declared.fault.UriFault.TheVariants as fault
use Rattle.usp_issue.specs.Redirections.{IsPresent, IsTooLong, RefusesSigning, SendsFrom, none}
use Rattle.usp_issue.specs.Resignings.{target_of}
use Rattle.usp_issue.specs.Routes.{RouteValue}
use Rattle.usp_issue.specs.declared.fault.IssueFault.{IssueFault}
use Rattle.usp_issue.specs.declared.fault.IssueFault.TheVariants.{TooLong, Present, NoMemory}
use Rattle.usp_issue.specs.declared.signed.Signed.{Signed}

-- ---- moving

ok_by : (b : Bool) (found : UriFault) (text target : List ℕ) → cond b (Err found) (Ok text) ≡ Ok target → target ≡ text
ok_by true found text target e = cc
ok_by false found text target e = cc

-- what is moved is the target
pub moved_is : (content target : List ℕ) (route : RouteValue) → moved_of content route.place ≡ Ok target → target ≡ target_of content route
moved_is content target route e = ok_by _ fault.TooLong (moved_text content route.place) target e

too_long_by : (b : Bool) (text : List ℕ) (found : UriFault) → cond b (Err fault.TooLong) (Ok text) ≡ Err found → cond b (Err fault.TooLong) (Ok text) ≡ Err fault.TooLong
too_long_by true text found e = refl
too_long_by false text found e = cc

-- a fault but for want of memory is that of the length
gives_by : (content : List ℕ) (place : Origin) (found : UriFault) → Gives {A = List ℕ} (Err found) (moved_of content place) → found ≢ fault.NoMemory → moved_of content place ≡ Err found
gives_by content place fault.TooLong h never = h
gives_by content place fault.Scheme h never = h
gives_by content place fault.Userinfo h never = h
gives_by content place (fault.Syntax at) h never = h
gives_by content place fault.Port h never = h
gives_by content place (fault.Escape at) h never = h
gives_by content place fault.Fragment h never = h
gives_by content place fault.NoMemory h never = absurd (never refl)

pub moved_too_long : (content : List ℕ) (place : Origin) (found : UriFault) → Gives {A = List ℕ} (Err found) (moved_of content place) → found ≢ fault.NoMemory → moved_of content place ≡ Err fault.TooLong
moved_too_long content place found h never = too_long_by _ (moved_text content place) found (gives_by content place found h never)

-- ---- what is refused

pub refused : (found : IssueFault) (name : List ℕ) (members : Members) (content : List ℕ) (moment : ℕ) (route : RouteValue) → RefusesSigning found name members content moment route → found ≢ NoMemory
    → IsTooLong name members content moment route ⊎ IsPresent name content route
refused TooLong name members content moment route h never = inl h
refused Present name members content moment route h never = inr h
refused NoMemory name members content moment route h never = absurd (never refl)

-- ---- routes

-- the routes from a place on
from_place : (routes : List RouteValue) (place : ℕ) (route : RouteValue) → place < length routes → route ≡ get_or routes place route → drop place routes ≡ route ∷ drop (place + 1) routes
from_place routes place route within is =
    drop-cons routes place route within
    ∙ (ap (λ n. get_or routes place route ∷ drop n routes) (sym (add-one place)) ∙ ap (λ (r : RouteValue). r ∷ drop (place + 1) routes) (sym is))

-- What is found from the place on is found of all routes.
abbrev pub IsFound : (name : List ℕ) → Members → (content : List ℕ) → (moment : ℕ) → List RouteValue → (place : ℕ) → Type 0
IsFound name members content moment routes place =
    (found : Option (ℕ × Signed)) → SendsFrom name members content moment place (drop place routes) found → SendsFrom name members content moment 0 routes found

-- a route that is passed by
pub passed : (name : List ℕ) (members : Members) (content : List ℕ) (moment : ℕ) (routes : List RouteValue) (place : ℕ) (route : RouteValue) → place < length routes → route ≡ get_or routes place route
    → ((found : Option (ℕ × Signed)) → SendsFrom name members content moment (place + 1) (drop (place + 1) routes) found → SendsFrom name members content moment place (route ∷ drop (place + 1) routes) found)
    → IsFound name members content moment routes place → IsFound name members content moment routes (place + 1)
passed name members content moment routes place route within is by before found h =
    before found (subst (λ (rs : List RouteValue). SendsFrom name members content moment place rs found) (sym (from_place routes place route within is)) (by found h))

-- the route that the content is sent on by
pub sent_here : (name : List ℕ) (members : Members) (content : List ℕ) (moment : ℕ) (routes : List RouteValue) (place : ℕ) (route : RouteValue) (signed : Signed) → place < length routes → route ≡ get_or routes place route
    → SendsFrom name members content moment place (route ∷ drop (place + 1) routes) (Some (place, signed)) → IsFound name members content moment routes place
    → SendsFrom name members content moment 0 routes (Some (place, signed))
sent_here name members content moment routes place route signed within is by before =
    before (Some (place, signed)) (subst (λ (rs : List RouteValue). SendsFrom name members content moment place rs (Some (place, signed))) (sym (from_place routes place route within is)) by)

-- no route is left
pub none_left : (name : List ℕ) (members : Members) (content : List ℕ) (moment : ℕ) (routes : List RouteValue) (place : ℕ) → length routes ≤ place → IsFound name members content moment routes place
    → SendsFrom name members content moment 0 routes None
none_left name members content moment routes place over before =
    before None (subst (λ (rs : List RouteValue). SendsFrom name members content moment place rs None) (sym (drop_all place routes over)) (none place None refl))

-- the same of the edge's own attribute and routes
pub of_site : (name attribute : List ℕ) (members : Members) (content : List ℕ) (moment : ℕ) (rows routes : List RouteValue) (found : Option (ℕ × Signed)) → name ≡ attribute → rows ≡ routes
    → SendsFrom name members content moment 0 rows found → SendsFrom attribute members content moment 0 routes found
of_site name attribute members content moment rows routes found e f h =
    subst (λ (n : List ℕ). SendsFrom n members content moment 0 routes found) e (subst (λ (rs : List RouteValue). SendsFrom name members content moment 0 rs found) f h)
