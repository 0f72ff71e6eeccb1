-- What is issued, put together.
use Rattle.std.proofs.Common.{◌≡◌, ◌⊎◌, ℕ, ◌+◌, ◌<◌, ◌≤◌, true, false, List, ◌∷◌, length, Option, Some, Ok, inr, refl}
use Rattle.std.specs.Option.{is_some}
use Rattle.usp_base.specs.Cuts.{after_prefix}
use Rattle.usp_json.specs.Canon.{canon_members}
use Rattle.usp_json.specs.declared.value.Members.{Members}
use Rattle.usp_jws.specs.Keys.{KeyValue}
use Rattle.usp_jws.specs.Letters.{is_identity}
use Rattle.usp_jws.specs.Sealed.{sealed}
use Rattle.usp_package.specs.Package.{embedded, nothing, package_of}
use Rattle.usp_uri.specs.Components.{path_in, query_in}
use Rattle.usp_uri.specs.Origin.{moved_of}
use Rattle.usp_uri.specs.declared.limits.TheConstants.{MAX_LEN}
use Rattle.usp_issue.specs.Redirections.{IsPresent, IsTooLong, SendsFrom, Signs, elsewhere, refused, sends}
use Rattle.usp_issue.specs.Renewals.{IsRenewed, renew}
use Rattle.usp_issue.specs.Resignings.{IsResigned, Resigns}
use Rattle.usp_issue.specs.Routes.{RouteValue}
use Rattle.usp_issue.specs.declared.signed.Signed.{Signed}

pub is_renewed : (m claims : Members) (content token : List ℕ) (moment : ℕ) (key : KeyValue) → is_identity key.issuer ≡ true → renew m content moment key ≡ Some claims
    → token ≡ sealed key (canon_members claims) → IsRenewed m content moment key token
is_renewed m claims content token moment key issuer e text = record { issuer = issuer; claims = claims; renewed = e; text = text }

pub is_resigned : (m claims : Members) (content token : List ℕ) (moment : ℕ) (route : RouteValue) → is_identity route.key.issuer ≡ true → is_identity route.audience ≡ true
    → Resigns m content moment route claims → token ≡ sealed route.key (canon_members claims) → IsResigned m content moment route token
is_resigned m claims content token moment route issuer audience e text = record { issuer = issuer; audience = audience; claims = claims; resigned = e; text = text }

pub is_signed : (name : List ℕ) (m : Members) (content : List ℕ) (moment : ℕ) (route : RouteValue) (target token location : List ℕ) → moved_of content route.place ≡ Ok target → package_of name target ≡ nothing
    → IsResigned m content moment route token → location ≡ embedded name target (query_in target) token → length location ≤ MAX_LEN
    → Signs name m content moment route (record { target = target; token = token; location = location })
is_signed name m content moment route target token location moved bare resigned embeds short = record { moved = moved; bare = bare; resigned = resigned; embeds = embeds; short = short }

pub is_too_long : (name : List ℕ) (m : Members) (content : List ℕ) (moment : ℕ) (route : RouteValue) (target token : List ℕ) → moved_of content route.place ≡ Ok target → package_of name target ≡ nothing
    → IsResigned m content moment route token → MAX_LEN < length (embedded name target (query_in target) token) → IsTooLong name m content moment route
is_too_long name m content moment route target token moved bare resigned long = inr (record { target = target; token = token; moved = moved; bare = bare; resigned = resigned; long = long })

-- a route whose prefix the path lacks, one that refuses, and one that signs
pub lacks_prefix : (name : List ℕ) (m : Members) (content : List ℕ) (moment place : ℕ) (route : RouteValue) (routes : List RouteValue) (found : Option (ℕ × Signed))
    → is_some (after_prefix route.prefix (path_in content)) ≡ false → SendsFrom name m content moment (place + 1) routes found → SendsFrom name m content moment place (route ∷ routes) found
lacks_prefix name m content moment place route routes found lacks more = elsewhere place route routes found lacks more

pub route_refuses : (name : List ℕ) (m : Members) (content : List ℕ) (moment place : ℕ) (route : RouteValue) (routes : List RouteValue) (found : Option (ℕ × Signed))
    → IsTooLong name m content moment route ⊎ IsPresent name content route → SendsFrom name m content moment (place + 1) routes found → SendsFrom name m content moment place (route ∷ routes) found
route_refuses name m content moment place route routes found why more = refused place route routes found why more

pub route_signs : (name : List ℕ) (m : Members) (content : List ℕ) (moment place : ℕ) (route : RouteValue) (routes : List RouteValue) (signed : Signed)
    → is_some (after_prefix route.prefix (path_in content)) ≡ true → Signs name m content moment route signed → SendsFrom name m content moment place (route ∷ routes) (Some (place, signed))
route_signs name m content moment place route routes signed has signs = sends place route routes signed (Some (place, signed)) has signs refl
