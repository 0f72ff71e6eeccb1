-- One first rule that fails, one verdict, and what passing says.
use Rattle.std.proofs.Common.{◌≡◌, inl, inr, ℕ, true, ◌||◌, List, [], ◌∷◌, ◌++◌, Option, Some, None, Ok, refl, sym, ap, ◌∙◌, subst}
use Rattle.std.specs.Option.{is_some, option_map}
use Rattle.std.proofs.lemmas.Option.{none-some, same_Some}
use Rattle.usp_json.specs.declared.value.Members.{Members}
use Rattle.usp_package.specs.Package.{Package, nothing, bad, carried, package_of}
use Rattle.usp_uri.specs.Faults.{normal_of}
use Rattle.usp_rules.specs.Asks.{AskValue, Presented, content_in, has_package, presented, presented_in}
use Rattle.usp_rules.specs.Judging.{Judges, PassesWith}
use Rattle.usp_rules.specs.Rules.{AllHold, Breaks, First, Holds, IsFirst, OfToken, TokenHolds, Valid, rules_of_ask, rules_of_parts}
use Rattle.usp_rules.specs.Tokens.{CarriesClaims, IsVerified}
use Rattle.usp_rules.specs.declared.judged.Judged.{Judged}
use Rattle.usp_rules.specs.declared.judged.Judged.TheVariants.{Denied, Passed}
use Rattle.usp_rules.specs.declared.profile.Profile.{Profile}
use Rattle.usp_rules.specs.declared.rule.Rule.{Rule}
use Rattle.usp_rules.specs.declared.rule.Rule.TheVariants as rule
use Rattle.usp_rules.proofs.Single.{one_claims, one_place}

-- ---- lists of rules

pub first_once : (P : Rule → Type 0) (rules : List Rule) (a b : Option Rule) → IsFirst P rules a → IsFirst P rules b → a ≡ b
first_once P [] a b h k = h ∙ sym k
first_once P (r ∷ rs) a b (inl h) (inl k) = first_once P rs a b h.1 k.1
first_once P (r ∷ rs) a b (inl h) (inr k) = absurd (k.0 h.0)
first_once P (r ∷ rs) a b (inr h) (inl k) = absurd (h.0 k.0)
first_once P (r ∷ rs) a b (inr h) (inr k) = h.1 ∙ sym k.1

all_of_none : (P : Rule → Type 0) (rules : List Rule) → IsFirst P rules None → AllHold P rules
all_of_none P [] h = tt
all_of_none P (r ∷ rs) (inl h) = (h.0, all_of_none P rs h.1)
all_of_none P (r ∷ rs) (inr h) = absurd (none-some r h.1)

pub none_of_all : (P : Rule → Type 0) (rules : List Rule) → AllHold P rules → IsFirst P rules None
none_of_all P [] h = refl
none_of_all P (r ∷ rs) h = inl (h.0, none_of_all P rs h.1)

breaks_here : (P : Rule → Type 0) (r broken : Rule) (rs : List Rule) → broken ≡ r → (P r → ⊥) → Breaks P (r ∷ rs) broken
breaks_here P r broken rs e never = record { before = []; after = rs; listed = ap (λ x. x ∷ rs) (sym e); hold = tt; fails = subst (λ x. P x → ⊥) (sym e) never }

breaks_later : (P : Rule → Type 0) (r broken : Rule) (rs : List Rule) → P r → Breaks P rs broken → Breaks P (r ∷ rs) broken
breaks_later P r broken rs holds b =
    record { before = r ∷ b.before; after = b.after; listed = ap (λ x. r ∷ x) b.listed; hold = (holds, b.hold); fails = b.fails }

none_listed : (P : Rule → Type 0) (broken : Rule) → IsFirst P [] (Some broken) → Breaks P [] broken
none_listed P broken h = absurd (none-some broken (sym h))

pub breaks : (P : Rule → Type 0) (rules : List Rule) (broken : Rule) → IsFirst P rules (Some broken) → Breaks P rules broken
breaks P [] broken h = none_listed P broken h
breaks P (r ∷ rs) broken (inl h) = breaks_later P r broken rs h.0 (breaks P rs broken h.1)
breaks P (r ∷ rs) broken (inr h) = breaks_here P r broken rs (same_Some broken r h.1) h.0

first_behind : (P : Rule → Type 0) (before after : List Rule) (broken : Rule) → AllHold P before → (P broken → ⊥) → IsFirst P (before ++ broken ∷ after) (Some broken)
first_behind P [] after broken all fails = inr (fails, refl)
first_behind P (r ∷ rs) after broken all fails = inl (all.0, first_behind P rs after broken all.1 fails)

pub broken_first : (P : Rule → Type 0) (rules : List Rule) (broken : Rule) → Breaks P rules broken → IsFirst P rules (Some broken)
broken_first P rules broken b =
    subst (λ l. IsFirst P l (Some broken)) (sym b.listed) (first_behind P b.before b.after broken b.hold b.fails)

-- ---- verdicts

same_passed : (c d t u : List ℕ) (m n : Members) (i j : ℕ) → c ≡ d → t ≡ u → m ≡ n → i ≡ j → Passed c t m i ≡ Passed d u n j
same_passed c d t u m n i j a b e f = cc

one_passed : (profile : Profile) (ask : AskValue) (pack : Package) (c d t u : List ℕ) (m n : Members) (i j : ℕ)
    → PassesWith profile ask pack c t m i → PassesWith profile ask pack d u n j → Passed c t m i ≡ Passed d u n j
one_passed profile ask pack c d t u m n i j h k =
    let shown : h.shown ≡ k.shown = same_Some h.shown k.shown (sym h.presents ∙ k.presents) in
    let uri : c ≡ d = same_Some c d (sym h.tells.uri ∙ (ap (λ s. s.content) shown ∙ k.tells.uri)) in
    let text : t ≡ u = sym h.tells.text ∙ (ap (λ s. s.token) shown ∙ k.tells.text) in
    let token : h.shown.token ≡ k.shown.token = ap (λ s. s.token) shown in
    let claims : m ≡ n = one_claims k.shown.token m n (subst (λ x. CarriesClaims x m) token h.tells.claims) k.tells.claims in
    let place : i ≡ j = one_place profile.ring k.shown.token i j (subst (λ x. IsVerified profile.ring x i) token h.tells.verified) k.tells.verified in
    same_passed c d t u m n i j uri text claims place

pub one_verdict : (profile : Profile) (ask : AskValue) (a b : Judged) → Judges profile ask a → Judges profile ask b → a ≡ b
one_verdict profile ask (Denied r) (Denied s) h k =
    ap Denied (same_Some r s (first_once (λ x. Holds x profile ask) rules_of_ask (Some r) (Some s) h k))
one_verdict profile ask (Denied r) (Passed d u n j) h k =
    absurd (none-some r (first_once (λ x. Holds x profile ask) rules_of_ask None (Some r) k.0 h))
one_verdict profile ask (Passed c t m i) (Denied s) h k =
    absurd (none-some s (first_once (λ x. Holds x profile ask) rules_of_ask None (Some s) h.0 k))
one_verdict profile ask (Passed c t m i) (Passed d u n j) h k =
    one_passed profile ask (package_of profile.attribute ask.uri) c d t u m n i j h.1 k.1

-- ---- what passing says

-- what an ask with this package presents is valid
valid_of : (profile : Profile) (ask : AskValue) (o : Option Presented)
    → OfToken (TokenHolds rule.Package profile) o → AllHold (λ r. OfToken (TokenHolds r profile) o) rules_of_parts
    → (shown : Presented) × (o ≡ Some shown) × Valid profile shown
valid_of profile ask None token rest = absurd token
valid_of profile ask (Some shown) token rest = (shown, refl, (token, rest))

pub presents_valid : (profile : Profile) (ask : AskValue) → AllHold (λ r. Holds r profile ask) rules_of_ask
    → (shown : Presented) × (presented profile.attribute ask ≡ Some shown) × Valid profile shown
presents_valid profile ask h = valid_of profile ask (presented profile.attribute ask) h.1.1.0 h.1.1.1

pub passes : (profile : Profile) (ask : AskValue) → First profile ask None → AllHold (λ r. Holds r profile ask) rules_of_ask
passes profile ask h = all_of_none (λ r. Holds r profile ask) rules_of_ask h

cookie_there : (f : List ℕ → Presented) (cookie : Option (List ℕ)) (shown : Presented) → option_map f cookie ≡ Some shown → is_some cookie ≡ true
cookie_there f None shown e = absurd (none-some shown e)
cookie_there f (Some token) shown e = refl

brings : (ask : AskValue) (pack : Package) (shown : Presented) → presented_in ask pack ≡ Some shown → (has_package pack || is_some ask.cookie) ≡ true
brings ask nothing shown e = cookie_there (λ token. record { token = token; content = content_in ask.uri nothing; moment = ask.moment }) ask.cookie shown e
brings ask (bad at) shown e = refl
brings ask (carried token before after) shown e = refl

pub valid_first : (profile : Profile) (ask : AskValue) (normal : List ℕ) (shown : Presented) → normal_of ask.uri ≡ Ok normal
    → presented profile.attribute ask ≡ Some shown → Valid profile shown → First profile ask None
valid_first profile ask normal shown uri presents valid =
    inl (
      (normal, uri),
      inl (
        brings ask (package_of profile.attribute ask.uri) shown presents,
        inl (
          subst (λ o. OfToken (TokenHolds rule.Package profile) o) (sym presents) valid.0,
          subst (λ o. IsFirst (λ r. OfToken (TokenHolds r profile) o) rules_of_parts None) (sym presents)
              (none_of_all (λ r. TokenHolds r profile shown) rules_of_parts valid.1),
        ),
      ),
    )
