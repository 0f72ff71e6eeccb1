-- A content is signed for a route in one way, or refused for one reason, and sent on in one way.
use Rattle.std.proofs.Common.{◌≡◌, ◌⊎◌, ℕ, ◌+◌, true, false, List, length, Option, Some, Result, Ok, Err, inl, inr, sym, ap, ◌∙◌, subst, arith}
use Rattle.std.specs.Option.{is_some}
use Rattle.usp_base.specs.Cuts.{after_prefix}
use Rattle.usp_json.specs.Canon.{canon_members}
use Rattle.usp_json.specs.declared.value.Members.{Members}
use Rattle.usp_jws.specs.Sealed.{sealed}
use Rattle.usp_package.specs.Package.{embedded, nothing, package_of}
use Rattle.usp_uri.specs.Components.{path_in, query_in}
use Rattle.usp_uri.specs.Origin.{moved_of}
use Rattle.usp_uri.specs.declared.fault.UriFault.{UriFault}
use Rattle.usp_uri.specs.declared.fault.UriFault.TheVariants as fault
use Rattle.usp_issue.specs.Redirections.{IsLocationTooLong, IsPresent, IsTooLong, SendsFrom, Signs, elsewhere, none, refused, sends}
use Rattle.usp_issue.specs.Resignings.{IsResigned, Resigns}
use Rattle.usp_issue.specs.Routes.{RouteValue}
use Rattle.usp_issue.specs.declared.signed.Signed.{Signed}

-- ---- the token

one_claims : (m : Members) (content : List ℕ) (moment : ℕ) (route : RouteValue) (a b : Members) → Resigns m content moment route a → Resigns m content moment route b → a ≡ b
one_claims m content moment route a b (inl h) (inl k) = h.1 ∙ sym k.1
one_claims m content moment route a b (inl h) (inr k) = absurd (k.0 h.0)
one_claims m content moment route a b (inr h) (inl k) = absurd (h.0 k.0)
one_claims m content moment route a b (inr h) (inr k) = h.1 ∙ sym k.1

pub one_token : (m : Members) (content : List ℕ) (moment : ℕ) (route : RouteValue) (a b : List ℕ) → IsResigned m content moment route a → IsResigned m content moment route b → a ≡ b
one_token m content moment route a b h k =
    h.text ∙ (ap (λ (x : Members). sealed route.key (canon_members x)) (one_claims m content moment route h.claims k.claims h.resigned k.resigned) ∙ sym k.text)

-- ---- the target and the location

same_ok : (a b : List ℕ) → ◌≡◌ {A = Result (List ℕ) UriFault} (Ok a) (Ok b) → a ≡ b
same_ok a b e = cc

ok_is_no_fault : (text : List ℕ) (found : UriFault) → ◌≡◌ {A = Result (List ℕ) UriFault} (Ok text) (Err found) → ⊥
ok_is_no_fault text found e = cc

pub one_target : (content : List ℕ) (route : RouteValue) (a b : List ℕ) → moved_of content route.place ≡ Ok a → moved_of content route.place ≡ Ok b → a ≡ b
one_target content route a b h k = same_ok a b (sym h ∙ k)

one_location : (name target other token : List ℕ) (b : List ℕ) → target ≡ other → token ≡ b → embedded name target (query_in target) token ≡ embedded name other (query_in other) b
one_location name target other token b e f = ap (λ (t : List ℕ). embedded name t (query_in t) token) e ∙ ap (λ (t : List ℕ). embedded name other (query_in other) t) f

same_signed : (target token location other b c : List ℕ) → target ≡ other → token ≡ b → location ≡ c
    → ◌≡◌ {A = Signed} (record { target = target; token = token; location = location }) (record { target = other; token = b; location = c })
same_signed target token location other b c e f g = cc

pub one_signed : (name : List ℕ) (m : Members) (content : List ℕ) (moment : ℕ) (route : RouteValue) (a b : Signed) → Signs name m content moment route a → Signs name m content moment route b → a ≡ b
one_signed name m content moment route a b h k =
    let target = one_target content route a.target b.target h.moved k.moved in
    let token = one_token m content moment route a.token b.token h.resigned k.resigned in
    same_signed a.target a.token a.location b.target b.token b.location target token (h.embeds ∙ (one_location name a.target b.target a.token b.token target token ∙ sym k.embeds))

-- ---- what excludes what

not_too_long : (name : List ℕ) (m : Members) (content : List ℕ) (moment : ℕ) (route : RouteValue) (signed : Signed) → Signs name m content moment route signed → IsLocationTooLong name m content moment route → ⊥
not_too_long name m content moment route signed h k =
    let target = one_target content route signed.target k.target h.moved k.moved in
    let token = one_token m content moment route signed.token k.token h.resigned k.resigned in
    let same : length signed.location ≡ length (embedded name k.target (query_in k.target) k.token) = ap length (h.embeds ∙ one_location name signed.target k.target signed.token k.token target token) in
    let short = h.short in
    let long = k.long in
    omega (arith, same, short, long)

pub signed_or_too_long : (name : List ℕ) (m : Members) (content : List ℕ) (moment : ℕ) (route : RouteValue) (signed : Signed) → Signs name m content moment route signed → IsTooLong name m content moment route → ⊥
signed_or_too_long name m content moment route signed h (inl far) = ok_is_no_fault signed.target fault.TooLong (sym h.moved ∙ far)
signed_or_too_long name m content moment route signed h (inr long) = not_too_long name m content moment route signed h long

pub signed_or_present : (name : List ℕ) (m : Members) (content : List ℕ) (moment : ℕ) (route : RouteValue) (signed : Signed) → Signs name m content moment route signed → IsPresent name content route → ⊥
signed_or_present name m content moment route signed h k =
    k.2 (subst (λ (t : List ℕ). package_of name t ≡ nothing) (one_target content route signed.target k.0 h.moved k.1) h.bare)

pub too_long_or_present : (name : List ℕ) (m : Members) (content : List ℕ) (moment : ℕ) (route : RouteValue) → IsTooLong name m content moment route → IsPresent name content route → ⊥
too_long_or_present name m content moment route (inl far) k = ok_is_no_fault k.0 fault.TooLong (sym k.1 ∙ far)
too_long_or_present name m content moment route (inr long) k =
    k.2 (subst (λ (t : List ℕ). package_of name t ≡ nothing) (one_target content route long.target k.0 long.moved k.1) long.bare)

-- ---- routes

signed_or_refused : (name : List ℕ) (m : Members) (content : List ℕ) (moment : ℕ) (route : RouteValue) (signed : Signed) → Signs name m content moment route signed
    → IsTooLong name m content moment route ⊎ IsPresent name content route → ⊥
signed_or_refused name m content moment route signed h (inl long) = signed_or_too_long name m content moment route signed h long
signed_or_refused name m content moment route signed h (inr present) = signed_or_present name m content moment route signed h present

has_or_lacks : (prefix path : List ℕ) → is_some (after_prefix prefix path) ≡ true → is_some (after_prefix prefix path) ≡ false → ⊥
has_or_lacks prefix path has lacks = let both : true ≡ false = sym has ∙ lacks in cc both

pub one_way : (name : List ℕ) (m : Members) (content : List ℕ) (moment place : ℕ) (routes : List RouteValue) (a b : Option (ℕ × Signed))
    → SendsFrom name m content moment place routes a → SendsFrom name m content moment place routes b → a ≡ b
one_way name m content moment _ _ _ _ (none place a is) (none _ b same) = is ∙ sym same
one_way name m content moment _ _ _ _ (sends place route routes signed a has h is) (sends _ _ _ other b also k same) =
    is ∙ (ap (λ (s : Signed). Some (place, s)) (one_signed name m content moment route signed other h k) ∙ sym same)
one_way name m content moment _ _ _ _ (sends place route routes signed a has h is) (elsewhere _ _ _ b lacks more) = absurd (has_or_lacks route.prefix (path_in content) has lacks)
one_way name m content moment _ _ _ _ (sends place route routes signed a has h is) (refused _ _ _ b why more) = absurd (signed_or_refused name m content moment route signed h why)
one_way name m content moment _ _ _ _ (elsewhere place route routes a lacks more) (sends _ _ _ other b has k same) = absurd (has_or_lacks route.prefix (path_in content) has lacks)
one_way name m content moment _ _ _ _ (elsewhere place route routes a lacks more) (elsewhere _ _ _ b also rest) = one_way name m content moment (place + 1) routes a b more rest
one_way name m content moment _ _ _ _ (elsewhere place route routes a lacks more) (refused _ _ _ b why rest) = one_way name m content moment (place + 1) routes a b more rest
one_way name m content moment _ _ _ _ (refused place route routes a why more) (sends _ _ _ other b has k same) = absurd (signed_or_refused name m content moment route other k why)
one_way name m content moment _ _ _ _ (refused place route routes a why more) (elsewhere _ _ _ b lacks rest) = one_way name m content moment (place + 1) routes a b more rest
one_way name m content moment _ _ _ _ (refused place route routes a why more) (refused _ _ _ b also rest) = one_way name m content moment (place + 1) routes a b more rest
