-- Each token of a sound ledger has of its grant what it must, so that a use for which it is valid met the grant.
use Rattle.std.proofs.Common.{◌≡◌, ◌≢◌, ◌⊎◌, ℕ, ◌+◌, ◌<◌, Bool, true, false, ◌||◌, nat_lt, codes, List, [], ◌∷◌, ◌++◌, length, Option, Some, None, IfSome, inl, inr, refl, sym, ap, ◌∙◌, subst, arith}
use Rattle.std.specs.Fmt.{decimal}
use Rattle.std.specs.List.{list_any, position, slice_get}
use Rattle.std.specs.Option.{MatchOption, option_and_then, option_map, option_map_or}
use Rattle.std.specs.Str.{bytes_eq}
use Rattle.std.proofs.lemmas.Bool.{ltb-true}
use Rattle.std.proofs.lemmas.List.{length-append}
use Rattle.std.proofs.lemmas.Option.{slice_get_cases}
use Rattle.std.proofs.lemmas.Slice.Eq.{bytes_eq-Decides}
use Rattle.usp_claims.proofs.Rows.{tells}
use Rattle.usp_claims.specs.declared.limits.TheConstants.{MAX_NUMBER, MAX_PERIOD}
use Rattle.usp_claims.specs.Table.{claim, is_audience, period_claim, text_claim, whole_in}
use Rattle.usp_issue.proofs.Once.{renewed_once, resigned_once}
use Rattle.usp_issue.proofs.Replacing.{IsSentOn, period_below, renew_says, renewed_end, renewed_exp, renewed_other, resigns_says}
use Rattle.usp_issue.specs.Renewals.{for_period}
use Rattle.usp_issue.specs.Resignings.{target_of}
use Rattle.usp_issue.specs.Routes.{RouteValue}
use Rattle.usp_issue.specs.Sites.{SiteValue}
use Rattle.usp_json.specs.declared.value.Json.{Json}
use Rattle.usp_json.specs.declared.value.Json.TheVariants.{Num, Str, outs-Str}
use Rattle.usp_json.specs.declared.value.Members.{Members}
use Rattle.usp_jws.specs.Letters.{has_identity}
use Rattle.usp_rules.proofs.Single.{one_claims}
use Rattle.usp_rules.specs.Constraints.{IsContained, is_begun, is_for, is_unexpired}
use Rattle.usp_rules.specs.Rules.{Valid}
use Rattle.usp_rules.specs.Tokens.{CarriesClaims}
use Rattle.usp_rules.specs.declared.profile.Profile.{Profile}
use Rattle.usp_trace.specs.declared.issue.Issue.{Issue}
use Rattle.usp_trace.specs.declared.issue.Issue.TheVariants.{Grant, Renewed, Resigned}
use Rattle.usp_trace.specs.Chains.{Chain, granted as chain_granted, linked, token_at}
use Rattle.usp_trace.specs.Descent.{Descends, HasAudienceOf, HasEndOf}
use Rattle.usp_trace.specs.Grants.{AreUsesMet, Contains, GrantMet, IsForEdge, IsInTime, IsUseMet, Origin, granted, renewed, kept, narrowed, last_redirection, last_renewal, redirection_behind, redirection_by, renewal_behind, renewal_by, route_at}
use Rattle.usp_trace.specs.Issues.{Use, parent_of, token_of, use_at, use_of}
use Rattle.usp_trace.specs.Sound.{IsDue, IsRedirection, IsRenewal, Sound, presented_by}
use Rattle.usp_trace.proofs.Chained.{has_chain}
use Rattle.usp_trace.proofs.Ordered.{first_has, sound_ordered}

same_text : (a b : List ℕ) → Some a ≡ Some b → a ≡ b
same_text a b e = cc

-- ---- what validity says of the claims

record Says (profile : Profile) (asked : Use) (m : Members) : Type 0 where
  intended : is_for profile.audience m ≡ true
  begun : is_begun asked.moment m ≡ true
  unexpired : is_unexpired asked.moment m ≡ true
  contained : IsContained (Some asked.uri) m

valid_says : (profile : Profile) (token : List ℕ) (asked : Use) (m : Members) → CarriesClaims token m → Valid profile (presented_by asked token) → Says profile asked m
valid_says profile token asked m c v =
    let aud = v.1.1.1.1.1.1.1.1.0 in
    let nbf = v.1.1.1.1.1.1.1.1.1.0 in
    let exp = v.1.1.1.1.1.1.1.1.1.1.0 in
    let uc = v.1.1.1.1.1.1.1.1.1.1.1.1.0 in
    record {
      intended = subst (λ (x : Members). is_for profile.audience x ≡ true) (one_claims token aud.members m aud.claims c) aud.wants;
      begun = subst (λ (x : Members). is_begun asked.moment x ≡ true) (one_claims token nbf.members m nbf.claims c) nbf.wants;
      unexpired = subst (λ (x : Members). is_unexpired asked.moment x ≡ true) (one_claims token exp.members m exp.claims c) exp.wants;
      contained = subst (λ (x : Members). IsContained (Some asked.uri) x) (one_claims token uc.members m uc.claims c) uc.wants;
    }

-- ---- the links, and one more

redirection_last : (last : Option (ℕ × ℕ)) (links : List Issue) (link : Issue) → redirection_behind last (links ++ link ∷ []) ≡ redirection_by (redirection_behind last links) link
redirection_last last [] link = refl
redirection_last last (x ∷ links) link = redirection_last (redirection_by last x) links link

renewal_last : (last : Option ℕ) (links : List Issue) (link : Issue) → renewal_behind last (links ++ link ∷ []) ≡ renewal_by (renewal_behind last links) link
renewal_last last [] link = refl
renewal_last last (x ∷ links) link = renewal_last (renewal_by last x) links link

last_or_before : (xs : List Issue) (x : Issue) (ys : List Issue) (y : Issue) (zs : List Issue) → xs ++ x ∷ [] ≡ ys ++ y ∷ zs
    → ((xs ≡ ys) × (x ≡ y)) ⊎ ((ws : List Issue) × (xs ≡ ys ++ y ∷ ws))
last_or_before [] x [] y zs e = inl (refl, cc)
last_or_before [] x (b ∷ ys) y zs e =
    let n = length-append ys (y ∷ zs) in let same = ap length e in absurd (omega arith)
last_or_before (a ∷ xs) x [] y zs e = inr (xs, cc)
last_or_before (a ∷ xs) x (b ∷ ys) y zs e =
    let heads : a ≡ b = cc in
    let tails : xs ++ x ∷ [] ≡ ys ++ y ∷ zs = cc in
    elim (last_or_before xs x ys y zs tails) [
      | inl here ↦ inl (cc (here.0), here.1)
      | inr there ↦ inr (there.0, cc (there.1))
    ]

same_use : (a b : Use) → Some a ≡ Some b → a ≡ b
same_use a b e = cc

uses_none : (sites : List SiteValue) (grant : Members) → AreUsesMet sites grant []
uses_none sites grant = λ before after link asked e is. absurd (impossible before after link (ap length e))
  where
    impossible : (before after : List Issue) (link : Issue) → 0 ≡ length (before ++ link ∷ after) → ⊥
    impossible before after link e = let n = length-append before (link ∷ after) in omega arith

uses_more : (sites : List SiteValue) (grant : Members) (links : List Issue) (link : Issue) (made : Use) → use_of link ≡ Some made → AreUsesMet sites grant links → IsUseMet sites grant links made
    → AreUsesMet sites grant (links ++ link ∷ [])
uses_more sites grant links link made is uses met = λ before after other asked e of. elim (last_or_before links link before other after e) [
  | inl here ↦
      let same : made ≡ asked = same_use made asked (sym is ∙ (ap use_of here.1 ∙ of)) in
      subst (λ (l : List Issue). IsUseMet sites grant l asked) here.0 (subst (λ (u : Use). IsUseMet sites grant links u) same met)
  | inr there ↦ uses before there.0 other asked there.1 of
]

-- ---- a use for which the token is valid

or_nothing : (b : Bool) → (b || false) ≡ b
or_nothing true = refl
or_nothing false = refl

-- the order of two texts is nothing to whether they are the same
same_turned : (a b : List ℕ) → bytes_eq a b ≡ bytes_eq b a
same_turned a b = elim (tells (bytes_eq a b)) [
  | inl hit ↦ hit ∙ sym ((bytes_eq-Decides b a).1 (sym ((bytes_eq-Decides a b).0 hit)))
  | inr miss ↦ elim (tells (bytes_eq b a)) [
    | inl back ↦ (bytes_eq-Decides a b).1 (sym ((bytes_eq-Decides b a).0 back)) ∙ sym back
    | inr none ↦ miss ∙ sym none
  ]
]

audience_is : (a identity : List ℕ) → is_audience identity (Str a) ≡ bytes_eq identity a
audience_is a identity = rw (outs-Str a) (or_nothing (bytes_eq a identity)) ∙ same_turned a identity

any_same : (p q : List ℕ → Bool) (xs : List (List ℕ)) → ((x : List ℕ) → p x ≡ q x) → list_any p xs ≡ list_any q xs
any_same p q [] e = refl
any_same p q (x ∷ xs) e = rw (e x, any_same p q xs e) refl

abbrev is_for_this : List (List ℕ) → Option Json → Bool
is_for_this audience o = option_map_or (λ aud. list_any (λ identity. is_audience identity aud) audience) o true

sent_met : (sites : List SiteValue) (site : SiteValue) (last : ℕ × ℕ) (own given : Option Json) → is_for_this site.profile.audience own ≡ true
    → MatchOption given (own ≡ None) (λ aud. (sent : RouteValue) × (route_at sites last ≡ Some sent) × (own ≡ Some (Str sent.audience)))
    → IfSome given (λ aud. (sent : RouteValue) × (route_at sites last ≡ Some sent) × (has_identity site.profile.audience sent.audience ≡ true))
sent_met sites site last own None met has = tt
sent_met sites site last own (Some aud) met has =
    let here : list_any (λ identity. is_audience identity (Str has.0.audience)) site.profile.audience ≡ true = rw has.2 at met in
    (has.0, has.1, sym (any_same (λ identity. is_audience identity (Str has.0.audience)) (λ known. bytes_eq known has.0.audience) site.profile.audience (audience_is has.0.audience)) ∙ here)

audience_met : (sites : List SiteValue) (site : SiteValue) (grant m : Members) (o : Option (ℕ × ℕ)) → is_for site.profile.audience m ≡ true → HasAudienceOf sites grant m o → IsForEdge sites grant site o
audience_met sites site grant m None met has = sym (ap (λ (x : Option Json). is_for_this site.profile.audience x) has) ∙ met
audience_met sites site grant m (Some last) met has = sent_met sites site last (claim (codes "aud") m) (claim (codes "aud") grant) met has

time_met : (grant m : Members) (moment : ℕ) (o : Option ℕ) → is_unexpired moment m ≡ true → HasEndOf grant m o → IsInTime grant moment o
time_met grant m moment None met has =
    sym (ap (λ (x : Option Json). option_map_or (λ exp. nat_lt moment exp) (option_and_then (whole_in MAX_NUMBER) x) true) has) ∙ met
time_met grant m moment (Some last) met has =
    let before : nat_lt moment (last + has.0) ≡ true = rw has.2 at met in
    (has.0, has.1, ltb-true moment (last + has.0) before)

use_met : (sites : List SiteValue) (ledger : List Issue) (place : ℕ) (token : List ℕ) (links : List Issue) (m : Members) (site : SiteValue) (asked : Use)
    → (d : Descends sites ledger place token links m) → slice_get sites asked.edge ≡ Some site → Says site.profile asked m → IsUseMet sites d.grant links asked
use_met sites ledger place token links m site asked d named says = record {
  site = site;
  named = named;
  audience = audience_met sites site d.grant m (last_redirection links) says.intended d.audience;
  begun = sym (ap (λ (x : Option Json). option_map_or (λ nbf. Rattle.std.specs.Prelude.nat_le nbf asked.moment) (option_and_then (whole_in MAX_NUMBER) x) true) d.begins) ∙ says.begun;
  timely = time_met d.grant m asked.moment (last_renewal links) says.unexpired d.ends;
}

-- ---- the container of the same claim

contained_same : (content : Option (List ℕ)) (m n : Members) → text_claim (codes "cdniuc") m ≡ text_claim (codes "cdniuc") n → IsContained content m → IsContained content n
contained_same content m n e h = record { uri = h.uri; container = h.container; there = h.there; claimed = sym e ∙ h.claimed; meets = h.meets }

-- ---- the audience and the end of the same claims

abbrev SentOf : List SiteValue → ℕ × ℕ → Option Json → Option Json → Type 0
SentOf sites last given own = MatchOption given (own ≡ None) (λ aud. (sent : RouteValue) × (route_at sites last ≡ Some sent) × (own ≡ Some (Str sent.audience)))

audience_same : (sites : List SiteValue) (grant m n : Members) (o : Option (ℕ × ℕ)) → claim (codes "aud") m ≡ claim (codes "aud") n → HasAudienceOf sites grant n o → HasAudienceOf sites grant m o
audience_same sites grant m n None e h = e ∙ h
audience_same sites grant m n (Some last) e h = subst (λ (own : Option Json). SentOf sites last (claim (codes "aud") grant) own) (sym e) h

end_same : (grant m n : Members) (o : Option ℕ) → claim (codes "exp") m ≡ claim (codes "exp") n → HasEndOf grant n o → HasEndOf grant m o
end_same grant m n None e h = e ∙ h
end_same grant m n (Some last) e h = (h.0, h.1, ap (λ (x : Option Json). option_and_then (whole_in MAX_NUMBER) x) e ∙ h.2)

-- the audience of a redirection, where there was one
sent_by : (sites : List SiteValue) (at : ℕ × ℕ) (sent : RouteValue) (given before own : Option Json) → route_at sites at ≡ Some sent → own ≡ option_map (λ old. Str sent.audience) before
    → MatchOption given (before ≡ None) (λ aud. (old : Json) × (before ≡ Some old)) → SentOf sites at given own
sent_by sites at sent None before own by is has = rw has at is
sent_by sites at sent (Some aud) before own by is has = (sent, by, rw has.1 at is)

there_is : (given before : Option Json) → before ≡ given → MatchOption given (before ≡ None) (λ aud. (old : Json) × (before ≡ Some old))
there_is None before e = e
there_is (Some aud) before e = (aud, e)

there_was : (sites : List SiteValue) (last : ℕ × ℕ) (given before : Option Json) → SentOf sites last given before → MatchOption given (before ≡ None) (λ aud. (old : Json) × (before ≡ Some old))
there_was sites last None before h = h
there_was sites last (Some aud) before h = (Str h.0.audience, h.2)

has_audience : (sites : List SiteValue) (grant m : Members) (o : Option (ℕ × ℕ)) → HasAudienceOf sites grant m o
    → MatchOption (claim (codes "aud") grant) (claim (codes "aud") m ≡ None) (λ aud. (old : Json) × (claim (codes "aud") m ≡ Some old))
has_audience sites grant m None h = there_is (claim (codes "aud") grant) (claim (codes "aud") m) h
has_audience sites grant m (Some last) h = there_was sites last (claim (codes "aud") grant) (claim (codes "aud") m) h

-- ---- a grant

grant_descends : (sites : List SiteValue) (ledger : List Issue) (place : ℕ) (token : List ℕ) (m : Members) → slice_get ledger place ≡ Some (Grant token) → CarriesClaims token m
    → Descends sites ledger place token [] m
grant_descends sites ledger place token m at c = record {
  grant = m;
  claims = c;
  container = λ uri h. (uri, granted place uri uri token at refl, h);
  audience = refl;
  begins = refl;
  period = refl;
  transport = refl;
  ends = refl;
  uses = uses_none sites m;
}

-- ---- a renewal

abbrev Hands : List SiteValue → List Issue → ℕ → List ℕ → List Issue → Type 0
Hands sites ledger parent token links = (t : List ℕ) (m : Members) → token_at ledger parent ≡ Some t → CarriesClaims t m → Descends sites ledger parent token links m

renewal_descends : (sites : List SiteValue) (ledger : List Issue) (place parent edge moment : ℕ) (uri made token : List ℕ) (links : List Issue) (m : Members)
    → slice_get ledger place ≡ Some (Renewed parent edge uri moment made) → IsRenewal sites ledger place parent (use_at edge uri moment) made → Hands sites ledger parent token links → CarriesClaims made m
    → Descends sites ledger place token (links ++ Renewed parent edge uri moment made ∷ []) m
renewal_descends sites ledger place parent edge moment uri made token links m at due hands c =
    let link = Renewed parent edge uri moment made in
    let asked = use_at edge uri moment in
    let from = first_has ledger due.used.token parent due.used.from.first in
    let d = hands due.used.token due.members from due.used.claims in
    let says = valid_says due.site.profile due.used.token asked due.members due.used.claims due.used.valid in
    let is : m ≡ due.renewed.claims = renewed_once due.members due.renewed.claims m due.used.token uri moment due.key due.renewed.issuer due.used.early due.used.claims due.renewed.renewed
    (subst (λ (t : List ℕ). CarriesClaims t m) due.renewed.text c) in
    let made_for = renew_says due.members uri moment due.key due.renewed.claims due.renewed.renewed in
    let whole : m ≡ for_period due.members moment due.key made_for.period = is ∙ made_for.is in
    let other : (name : List ℕ) → bytes_eq name (codes "exp") ≡ false → bytes_eq name (codes "iss") ≡ false → bytes_eq name (codes "iat") ≡ false → claim name m ≡ claim name due.members
    = λ name exp iss iat. ap (λ (x : Members). claim name x) whole ∙ renewed_other due.members moment due.key made_for.period name exp iss iat in
    let end_is : claim (codes "exp") m ≡ Some (Num (decimal (moment + made_for.period))) = ap (λ (x : Members). claim (codes "exp") x) whole ∙ renewed_exp due.members moment due.key made_for.period in
    let period_is : period_claim (codes "cdniets") d.grant ≡ Some made_for.period
    = sym (ap (λ (x : Option Json). option_and_then (whole_in MAX_PERIOD) x) d.period) ∙ made_for.there in
    record {
      grant = d.grant;
      claims = d.claims;
      container = λ to h.
          let back = d.container to (contained_same (Some to) m due.members (ap (λ (x : Option Json). option_and_then Rattle.usp_json.specs.Scalars.text_in x) (other (codes "cdniuc") refl refl refl)) h) in
          (back.0, renewed place parent edge moment to back.0 uri made at back.1, back.2);
      audience = rw (redirection_last None links link) (audience_same sites d.grant m due.members (last_redirection links) (other (codes "aud") refl refl refl) d.audience);
      begins = other (codes "nbf") refl refl refl ∙ d.begins;
      period = other (codes "cdniets") refl refl refl ∙ d.period;
      transport = other (codes "cdnistt") refl refl refl ∙ d.transport;
      ends = rw (renewal_last None links link) (made_for.period, period_is, renewed_end due.members m moment made_for.period due.used.early (period_below due.members made_for.period made_for.there) end_is);
      uses = uses_more sites d.grant links link asked refl d.uses (use_met sites ledger parent token links due.members due.site asked d due.used.named says);
    }

-- ---- a redirection

-- what the container of a redirection and that of its parent are
container_back : (sites : List SiteValue) (ledger : List Issue) (place parent edge moment route : ℕ) (uri made token : List ℕ) (links : List Issue) (m : Members) (earlier later : List ℕ)
    → slice_get ledger place ≡ Some (Resigned parent edge uri moment route made) → (due : IsRedirection sites ledger place parent (use_at edge uri moment) route made)
    → (d : Descends sites ledger parent token links due.members) → token_at ledger parent ≡ Some due.used.token → IsContained (Some uri) due.members → CarriesClaims made m
    → text_claim (codes "cdniuc") due.members ≡ Some earlier → text_claim (codes "cdniuc") m ≡ Some later
    → (to : List ℕ) → IsContained (Some to) m → (origin : List ℕ) × Origin ledger place to origin × IsContained (Some origin) d.grant
container_back sites ledger place parent edge moment route uri made token links m earlier later at due d from used c was now to h =
    let both : Contains ledger parent made earlier later
    = record { used = due.used.token; before = due.members; after = m; at = from; claims_before = due.used.claims; claims_after = c; container_before = was; container_after = now } in
    elim (tells (bytes_eq earlier later)) [
      | inl hit ↦
          let same : earlier ≡ later = (bytes_eq-Decides earlier later).0 hit in
          let back = d.container to (contained_same (Some to) m due.members (now ∙ (ap Some (sym same) ∙ sym was)) h) in
          (back.0, kept place parent edge moment route to back.0 uri made earlier later at both same back.1, back.2)
      | inr other ↦
          let back = d.container uri used in
          let apart : earlier ≢ later = λ e. let yes : bytes_eq earlier later ≡ true = (bytes_eq-Decides earlier later).1 e in let clash : true ≡ false = sym yes ∙ other in cc clash in
          (back.0, narrowed place parent edge moment route to back.0 uri made earlier later at both apart back.1, back.2)
    ]

-- the container text of claims that are signed again
later_text : (m n : Members) (earlier hash : List ℕ) → (claim (codes "cdniuc") n ≡ claim (codes "cdniuc") m) ⊎ (text_claim (codes "cdniuc") n ≡ Some hash) → text_claim (codes "cdniuc") m ≡ Some earlier
    → (later : List ℕ) × (text_claim (codes "cdniuc") n ≡ Some later)
later_text m n earlier hash (inl same) was = (earlier, ap (λ (x : Option Json). option_and_then Rattle.usp_json.specs.Scalars.text_in x) same ∙ was)
later_text m n earlier hash (inr is) was = (hash, is)

redirection_descends : (sites : List SiteValue) (ledger : List Issue) (place parent edge moment route : ℕ) (uri made token : List ℕ) (links : List Issue) (m : Members)
    → slice_get ledger place ≡ Some (Resigned parent edge uri moment route made) → IsRedirection sites ledger place parent (use_at edge uri moment) route made → Hands sites ledger parent token links
    → CarriesClaims made m → Descends sites ledger place token (links ++ Resigned parent edge uri moment route made ∷ []) m
redirection_descends sites ledger place parent edge moment route uri made token links m at due hands c =
    let link = Resigned parent edge uri moment route made in
    let asked = use_at edge uri moment in
    let from = first_has ledger due.used.token parent due.used.from.first in
    let d = hands due.used.token due.members from due.used.claims in
    let says = valid_says due.site.profile due.used.token asked due.members due.used.claims due.used.valid in
    let is : m ≡ due.resigned.claims = resigned_once due.members due.resigned.claims m due.used.token uri moment due.sent due.resigned.issuer due.resigned.audience due.used.early due.used.claims due.resigned.resigned
    (subst (λ (t : List ℕ). CarriesClaims t m) due.resigned.text c) in
    let sent_on : IsSentOn due.members due.sent (target_of uri due.sent) m
    = subst (λ (x : Members). IsSentOn due.members due.sent (target_of uri due.sent) x) (sym is) (resigns_says due.members uri moment due.sent due.resigned.claims due.resigned.resigned) in
    let later = later_text due.members m says.contained.container _ sent_on.container says.contained.claimed in
    let by : route_at sites (edge, route) ≡ Some due.sent = rw due.used.named due.by in
    record {
      grant = d.grant;
      claims = d.claims;
      container = container_back sites ledger place parent edge moment route uri made token links m says.contained.container later.0 at due d from says.contained c says.contained.claimed later.1;
      audience = rw (redirection_last None links link)
          (sent_by sites (edge, route) due.sent (claim (codes "aud") d.grant) (claim (codes "aud") due.members) (claim (codes "aud") m) by sent_on.aud
          (has_audience sites d.grant due.members (last_redirection links) d.audience));
      begins = sent_on.others (codes "nbf") refl refl refl refl ∙ d.begins;
      period = sent_on.others (codes "cdniets") refl refl refl refl ∙ d.period;
      transport = sent_on.others (codes "cdnistt") refl refl refl refl ∙ d.transport;
      ends = rw (renewal_last None links link) (end_same d.grant m due.members (last_renewal links) (sent_on.others (codes "exp") refl refl refl refl) d.ends);
      uses = uses_more sites d.grant links link asked refl d.uses (use_met sites ledger parent token links due.members due.site asked d due.used.named says);
    }

-- ---- each token

link_descends : (sites : List SiteValue) (ledger : List Issue) (place parent : ℕ) (token : List ℕ) (links : List Issue) (link : Issue) (m : Members)
    → slice_get ledger place ≡ Some link → Some parent ≡ parent_of link → IsDue sites ledger place link → Hands sites ledger parent token links → CarriesClaims (token_of link) m
    → Descends sites ledger place token (links ++ link ∷ []) m
link_descends sites ledger place parent token links (Grant made) m at is due hands c = cc
link_descends sites ledger place parent token links (Renewed q edge uri moment made) m at is due hands c =
    let same : parent ≡ q = cc in
    renewal_descends sites ledger place q edge moment uri made token links m at due (subst (λ (n : ℕ). Hands sites ledger n token links) same hands) c
link_descends sites ledger place parent token links (Resigned q edge uri moment route made) m at is due hands c =
    let same : parent ≡ q = cc in
    redirection_descends sites ledger place q edge moment route uri made token links m at due (subst (λ (n : ℕ). Hands sites ledger n token links) same hands) c

-- the claims of what stands at a place
claims_of : (ledger : List Issue) (place : ℕ) (issue : Issue) (t : List ℕ) (m : Members) → slice_get ledger place ≡ Some issue → token_at ledger place ≡ Some t → CarriesClaims t m → CarriesClaims (token_of issue) m
claims_of ledger place issue t m at is c =
    let has : Some (token_of issue) ≡ Some t = sym (ap (λ (x : Option Issue). option_map token_of x) at) ∙ is in
    subst (λ (x : List ℕ). CarriesClaims x m) (sym (same_text (token_of issue) t has)) c

pub descends : (ledger : List Issue) (sites : List SiteValue) → Sound ledger sites → (place : ℕ) (places token : List ℕ) (links : List Issue) → Chain ledger place places token links
    → Hands sites ledger place token links
descends ledger sites sound _ _ _ _ (chain_granted place places token links at p l) t m is c =
    subst (λ (x : List Issue). Descends sites ledger place token x m) (sym l) (grant_descends sites ledger place token m at (claims_of ledger place (Grant token) t m at is c))
descends ledger sites sound _ _ _ _ (linked place parent places front token links before link at of chain p l) t m is c =
    subst (λ (x : List Issue). Descends sites ledger place token x m) (sym l)
    (link_descends sites ledger place parent token before link m at (sym of) (sound.each place link at) (λ u n has d. descends ledger sites sound parent front token before chain u n has d)
    (claims_of ledger place link t m at is c))

-- ---- a use that is valid met the grant

token_within : (ledger : List Issue) (place : ℕ) (token : List ℕ) → token_at ledger place ≡ Some token → place < length ledger
token_within ledger place token e = elim (slice_get_cases ledger place).1 [
  | inl at ↦ at.1
  | inr past ↦ let none : None ≡ Some token = sym (ap (λ (x : Option Issue). option_map token_of x) past.1) ∙ e in cc none
]

pub valid_met : (ledger : List Issue) (sites : List SiteValue) (site : SiteValue) (place : ℕ) (token : List ℕ) (asked : Use)
    → Sound ledger sites → token_at ledger place ≡ Some token → slice_get sites asked.edge ≡ Some site → Valid site.profile (presented_by asked token)
    → GrantMet ledger sites place asked
valid_met ledger sites site place token asked sound at named valid =
    let h = has_chain ledger place (sound_ordered ledger sites sound) (token_within ledger place token at) in
    let c = valid.1.1.1.0 in
    let d = descends ledger sites sound place h.0 h.1.token h.1.links h.1.chain token c.0 at c.1 in
    let says = valid_says site.profile token asked c.0 c.1 valid in
    let back = d.container asked.uri says.contained in
    record {
      places = h.0;
      token = h.1.token;
      links = h.1.links;
      chain = h.1.chain;
      grant = d.grant;
      claims = d.claims;
      origin = back.0;
      from = back.1;
      contained = back.2;
      earlier = d.uses;
      last = use_met sites ledger place h.1.token h.1.links c.0 site asked d named says;
    }
