-- Whether a container is an expression that finds a target.
use Rattle.std.proofs.Common.{◌≡◌, ◌↔◌, ℕ, Bool, true, false, eqb, IsTrue, IfOk, Result, Ok, Err, List, ◌++◌, codes, get_or, Some, inl, inr, sym, ap, ◌∙◌, subst}
use Rattle.std.proofs.lemmas.Option.{same_Some}
use Rattle.usp_claims.specs.Table.{text_claim}
use Rattle.usp_ere.specs.declared.ere.Ere.{Ere}
use Rattle.usp_json.specs.declared.value.Members.{Members}
use Rattle.usp_rules.specs.Containers.{Meets, MeetsRegex}
use Rattle.usp_rules.specs.Kinds.{ReadsAs}
use Rattle.usp_rules.specs.Segment.{segment_of}
use Rattle.usp_rules.specs.declared.container.Container.{Container}
use Rattle.usp_rules.specs.declared.container.Container.TheVariants.{Regex}
use Rattle.usp_issue.specs.Resignings.{FindsTarget, Resigns, for_route, for_target, target_of}
use Rattle.usp_issue.specs.Routes.{RouteValue}
use Rattle.usp_issue.specs.declared.fault.NoMemory.{NoMemory}

-- no container is of both forms
pub apart : (a b : List ℕ) → codes "hash:" ++ a ≡ codes "regex:" ++ b → ⊥
apart a b e =
    let heads : eqb (get_or (codes "hash:" ++ a) 0 0) 114 ≡ eqb (get_or (codes "regex:" ++ b) 0 0) 114 = ap (λ l. eqb (get_or l 0 0) 114) e in
    let differ : false ≡ true = heads in cc

only_regex : (text expression uri : List ℕ) → text ≡ codes "regex:" ++ expression → Meets text uri → MeetsRegex text uri
only_regex text expression uri is (inl hash) = absurd (apart (segment_of uri) expression (sym hash ∙ is))
only_regex text expression uri is (inr regex) = regex

-- an expression meets what it finds alone
pub found_by : (text uri : List ℕ) (container : Container) (ere : Ere) (found : Bool) → container ≡ Regex ere → ReadsAs text container
    → (IsTrue found ↔ Meets text uri) → (IsTrue found ↔ MeetsRegex text uri)
found_by text uri container ere found is reads h =
    let r = subst (λ (c : Container). ReadsAs text c) is reads in
    ((λ t. only_regex text r.0 uri r.1 (h.0 t)), (λ regex. h.1 (inr regex)))

-- the container of the claims decides
pub by_container : (m : Members) (text uri : List ℕ) (r : Result Bool NoMemory) → text_claim (codes "cdniuc") m ≡ Some text
    → IfOk r (λ found. IsTrue found ↔ MeetsRegex text uri) → IfOk r (λ found. IsTrue found ↔ FindsTarget m uri)
by_container m text uri (Err e) claimed h = h
by_container m text uri (Ok found) claimed h = (
  (λ t. (text, claimed, h.0 t)),
  (λ finds. h.1 (subst (λ (c : List ℕ). MeetsRegex c uri) (same_Some finds.0 text (sym finds.1 ∙ claimed)) finds.2)),
)

-- ---- the claims that are signed again

-- the container stays
pub kept : (m copied : Members) (content target : List ℕ) (moment : ℕ) (route : RouteValue) (found : Bool) (r : Result Members NoMemory) → copied ≡ m → target ≡ target_of content route
    → (IsTrue found ↔ FindsTarget m target) → found ≡ true → IfOk r (λ routed. routed ≡ for_route route moment copied) → IfOk r (λ claims. Resigns m content moment route claims)
kept m copied content target moment route found (Err e) same at decides hit h = h
kept m copied content target moment route found (Ok routed) same at decides hit h =
    inl (subst (λ (t : List ℕ). FindsTarget m t) at (decides.0 hit), h ∙ ap (λ (x : Members). for_route route moment x) same)

-- it is the target alone
pub narrowed : (m copied changed : Members) (content target : List ℕ) (moment : ℕ) (route : RouteValue) (found : Bool) (r : Result Members NoMemory) → copied ≡ m → target ≡ target_of content route
    → changed ≡ for_target target copied → (IsTrue found ↔ FindsTarget m target) → found ≡ false → IfOk r (λ routed. routed ≡ for_route route moment changed)
    → IfOk r (λ claims. Resigns m content moment route claims)
narrowed m copied changed content target moment route found (Err e) same at is decides miss h = h
narrowed m copied changed content target moment route found (Ok routed) same at is decides miss h =
    let never : FindsTarget m (target_of content route) → ⊥
    = λ f. let both : true ≡ false = sym (decides.1 (subst (λ (t : List ℕ). FindsTarget m t) (sym at) f)) ∙ miss in cc both in
    let same_claims : changed ≡ for_target (target_of content route) m = is ∙ (ap (λ (t : List ℕ). for_target t copied) at ∙ ap (λ (x : Members). for_target (target_of content route) x) same) in
    inr (never, h ∙ ap (λ (x : Members). for_route route moment x) same_claims)
