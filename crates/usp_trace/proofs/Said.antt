-- What soundness and a met grant say, link by link.
use Rattle.std.proofs.Common.{◌≡◌, ℕ, true, false, codes, List, [], ◌∷◌, ◌++◌, Option, Some, None, IfSome, inl, inr, refl, sym, ap, ◌∙◌, subst}
use Rattle.std.specs.List.{slice_get}
use Rattle.std.specs.Option.{is_some, option_and_then}
use Rattle.usp_claims.specs.Table.{claim}
use Rattle.usp_issue.specs.Routes.{RouteValue}
use Rattle.usp_issue.specs.Sites.{SiteValue}
use Rattle.usp_json.specs.declared.value.Json.{Json}
use Rattle.usp_json.specs.declared.value.Members.{Members}
use Rattle.usp_jws.specs.Letters.{has_identity}
use Rattle.usp_rules.proofs.Single.{one_claims}
use Rattle.usp_rules.specs.Constraints.{IsContained, is_begun, is_for, is_unexpired}
use Rattle.usp_rules.specs.Tokens.{CarriesClaims}
use Rattle.usp_trace.specs.declared.issue.Issue.{Issue}
use Rattle.usp_trace.specs.declared.issue.Issue.TheVariants.{Grant, Renewed, Resigned}
use Rattle.usp_trace.specs.Chains.{Chain, granted, linked, IsChain}
use Rattle.usp_trace.specs.Grants.{GrantMet, IsForEdge, IsInTime, IsUseMet, Origin, last_redirection, last_renewal, redirection_behind, redirection_by, renewal_behind, renewal_by, route_at}
use Rattle.usp_trace.specs.Issues.{Use}
use Rattle.usp_trace.specs.Laws.{AreRenewedAt, AreSentBy, HasAudienceOfRoute, IsDirect, IsUnrenewed, IsUseBehind, IsWithinPeriod, WasRenewed, WasResigned, WasUsed}
use Rattle.usp_trace.specs.Sound.{IsUsed, Sound}
use Rattle.usp_trace.proofs.Chained.{one_grant}
use Rattle.usp_trace.proofs.Ordered.{first_has, first_least, get_front}
use Rattle.usp_trace.proofs.Origins.{one_origin}

-- ---- a chain begins with a grant

pub chain_begins : (ledger : List Issue) (place : ℕ) (places token : List ℕ) (links : List Issue) → Chain ledger place places token links
    → (first : ℕ) × (slice_get places 0 ≡ Some first) × (slice_get ledger first ≡ Some (Grant token))
chain_begins ledger _ _ _ _ (granted place places token links at p l) = (place, ap (λ (ps : List ℕ). slice_get ps 0) p, at)
chain_begins ledger _ _ _ _ (linked place parent places front token links before link at is chain p l) =
    let h = chain_begins ledger parent front token before chain in
    (h.0, ap (λ (ps : List ℕ). slice_get ps 0) p ∙ get_front front (place ∷ []) 0 h.0 h.1, h.2)

pub begins_with_grant : (ledger : List Issue) (place : ℕ) (places : List ℕ) → IsChain ledger place places
    → (first : ℕ) × (token : List ℕ) × (slice_get places 0 ≡ Some first) × (slice_get ledger first ≡ Some (Grant token))
begins_with_grant ledger place places h =
    let b = chain_begins ledger place places h.token h.links h.chain in
    (b.0, h.token, b.1, b.2)

-- ---- what soundness says

was_used_at : (sites : List SiteValue) (ledger : List Issue) (place parent : ℕ) (asked : Use) (site : SiteValue) (members : Members) → IsUsed sites ledger place parent asked site members
    → WasUsed sites ledger place parent asked
was_used_at sites ledger place parent asked site members h = record {
  site = site;
  token = h.token;
  from = record {
    below = h.from.below;
    has = first_has ledger h.token parent h.from.first;
    least = λ earlier lt at. first_least ledger h.token parent earlier h.from.first lt at;
  };
  named = h.named;
  valid = h.valid;
}

pub sound_used_to_renew : (ledger : List Issue) (sites : List SiteValue) (place parent : ℕ) (asked : Use) (token : List ℕ) → Sound ledger sites
    → slice_get ledger place ≡ Some (Renewed parent asked.edge asked.uri asked.moment token) → WasUsed sites ledger place parent asked
sound_used_to_renew ledger sites place parent asked token sound at =
    let due = sound.each place (Renewed parent asked.edge asked.uri asked.moment token) at in
    was_used_at sites ledger place parent asked due.site due.members due.used

pub sound_used_to_send : (ledger : List Issue) (sites : List SiteValue) (place parent : ℕ) (asked : Use) (route : ℕ) (token : List ℕ) → Sound ledger sites
    → slice_get ledger place ≡ Some (Resigned parent asked.edge asked.uri asked.moment route token) → WasUsed sites ledger place parent asked
sound_used_to_send ledger sites place parent asked route token sound at =
    let due = sound.each place (Resigned parent asked.edge asked.uri asked.moment route token) at in
    was_used_at sites ledger place parent asked due.site due.members due.used

pub sound_renewed : (ledger : List Issue) (sites : List SiteValue) (place parent edge : ℕ) (uri : List ℕ) (moment : ℕ) (token : List ℕ) → Sound ledger sites
    → slice_get ledger place ≡ Some (Renewed parent edge uri moment token) → WasRenewed sites ledger parent edge uri moment token
sound_renewed ledger sites place parent edge uri moment token sound at =
    let due = sound.each place (Renewed parent edge uri moment token) at in
    record {
      site = due.site;
      key = due.key;
      used = due.used.token;
      before = due.members;
      after = due.renewed.claims;
      named = due.used.named;
      own = due.own;
      at = first_has ledger due.used.token parent due.used.from.first;
      claims = due.used.claims;
      renewed = due.renewed.renewed;
      text = due.renewed.text;
    }

pub sound_resigned : (ledger : List Issue) (sites : List SiteValue) (place parent edge : ℕ) (uri : List ℕ) (moment route : ℕ) (token : List ℕ) → Sound ledger sites
    → slice_get ledger place ≡ Some (Resigned parent edge uri moment route token) → WasResigned sites ledger parent edge uri moment route token
sound_resigned ledger sites place parent edge uri moment route token sound at =
    let due = sound.each place (Resigned parent edge uri moment route token) at in
    record {
      site = due.site;
      sent = due.sent;
      used = due.used.token;
      before = due.members;
      after = due.resigned.claims;
      named = due.used.named;
      by = due.by;
      at = first_has ledger due.used.token parent due.used.from.first;
      claims = due.used.claims;
      resigned = due.resigned.resigned;
      text = due.resigned.text;
    }

-- ---- the last redirection and the last renewal

direct_stays : (last : Option (ℕ × ℕ)) (links : List Issue) → IsDirect links → redirection_behind last links ≡ last
direct_stays last [] h = refl
direct_stays last (Grant token ∷ links) h = direct_stays last links h
direct_stays last (Renewed parent edge uri moment token ∷ links) h = direct_stays last links h
direct_stays last (Resigned parent edge uri moment route token ∷ links) h = let clash : true ≡ false = h in cc clash

unrenewed_stays : (last : Option ℕ) (links : List Issue) → IsUnrenewed links → renewal_behind last links ≡ last
unrenewed_stays last [] h = refl
unrenewed_stays last (Grant token ∷ links) h = unrenewed_stays last links h
unrenewed_stays last (Renewed parent edge uri moment token ∷ links) h = let clash : true ≡ false = h in cc clash
unrenewed_stays last (Resigned parent edge uri moment route token ∷ links) h = unrenewed_stays last links h

redirection_joined : (last : Option (ℕ × ℕ)) (xs ys : List Issue) → redirection_behind last (xs ++ ys) ≡ redirection_behind (redirection_behind last xs) ys
redirection_joined last [] ys = refl
redirection_joined last (x ∷ xs) ys = redirection_joined (redirection_by last x) xs ys

renewal_joined : (last : Option ℕ) (xs ys : List Issue) → renewal_behind last (xs ++ ys) ≡ renewal_behind (renewal_behind last xs) ys
renewal_joined last [] ys = refl
renewal_joined last (x ∷ xs) ys = renewal_joined (renewal_by last x) xs ys

sent_last : (edge route : ℕ) (links : List Issue) → AreSentBy edge route links → last_redirection links ≡ Some (edge, route)
sent_last edge route links h =
    let link = Resigned h.2 edge h.3 h.4 route h.5 in
    ap (λ (l : List Issue). last_redirection l) h.6 ∙ (redirection_joined None h.0 (link ∷ h.1) ∙ direct_stays (Some (edge, route)) h.1 h.7)

renewed_last : (moment : ℕ) (links : List Issue) → AreRenewedAt moment links → last_renewal links ≡ Some moment
renewed_last moment links h =
    let link = Renewed h.2 h.3 h.4 moment h.5 in
    ap (λ (l : List Issue). last_renewal l) h.6 ∙ (renewal_joined None h.0 (link ∷ h.1) ∙ unrenewed_stays (Some moment) h.1 h.7)

-- ---- what a met grant says

-- each use of the chain met the grant, whichever chain and claims are shown
use_met_of : (ledger : List Issue) (sites : List SiteValue) (place : ℕ) (asked used : Use) (places token : List ℕ) (links before : List Issue) (grant : Members)
    → GrantMet ledger sites place asked → Chain ledger place places token links → CarriesClaims token grant → IsUseBehind links asked before used → IsUseMet sites grant before used
use_met_of ledger sites place asked used places token links before grant h chain claims at =
    let same = one_grant ledger place h.places places h.token token h.links links h.chain chain in
    let grants : h.grant ≡ grant = one_claims token h.grant grant (subst (λ (t : List ℕ). CarriesClaims t h.grant) same.0 h.claims) claims in
    subst (λ (g : Members). IsUseMet sites g before used) grants (elim at [
      | inl named ↦ h.earlier before named.2 (Renewed named.0 used.edge used.uri used.moment named.1) used (same.1 ∙ named.3) refl
      | inr other ↦ elim other [
        | inl named ↦ h.earlier before named.3 (Resigned named.0 used.edge used.uri used.moment named.1 named.2) used (same.1 ∙ named.4) refl
        | inr last ↦ subst (λ (l : List Issue). IsUseMet sites h.grant l used) (same.1 ∙ sym last.0) (subst (λ (u : Use). IsUseMet sites h.grant h.links u) (sym last.1) h.last)
      ]
    ])

pub met_container : (ledger : List Issue) (sites : List SiteValue) (place : ℕ) (asked : Use) (places token origin : List ℕ) (links : List Issue) (grant : Members)
    → GrantMet ledger sites place asked → Chain ledger place places token links → CarriesClaims token grant → Origin ledger place asked.uri origin → IsContained (Some origin) grant
met_container ledger sites place asked places token origin links grant h chain claims from =
    let same = one_grant ledger place h.places places h.token token h.links links h.chain chain in
    let grants : h.grant ≡ grant = one_claims token h.grant grant (subst (λ (t : List ℕ). CarriesClaims t h.grant) same.0 h.claims) claims in
    let origins : h.origin ≡ origin = one_origin ledger place asked.uri h.origin origin h.from from in
    subst (λ (o : List ℕ). IsContained (Some o) grant) origins (subst (λ (g : Members). IsContained (Some h.origin) g) grants h.contained)

pub met_direct : (ledger : List Issue) (sites : List SiteValue) (place : ℕ) (asked used : Use) (places token : List ℕ) (links before : List Issue) (grant : Members)
    → GrantMet ledger sites place asked → Chain ledger place places token links → CarriesClaims token grant → IsUseBehind links asked before used → IsDirect before
    → (site : SiteValue) × (slice_get sites used.edge ≡ Some site) × (is_for site.profile.audience grant ≡ true)
met_direct ledger sites place asked used places token links before grant h chain claims at direct =
    let m = use_met_of ledger sites place asked used places token links before grant h chain claims at in
    (m.site, m.named, subst (λ (o : Option (ℕ × ℕ)). IsForEdge sites grant m.site o) (direct_stays None before direct) m.audience)

route_found : (o : Option SiteValue) (route : ℕ) (sent : RouteValue) → option_and_then (λ site. slice_get site.routes route) o ≡ Some sent
    → (from : SiteValue) × (o ≡ Some from) × (slice_get from.routes route ≡ Some sent)
route_found None route sent e = cc
route_found (Some from) route sent e = (from, refl, e)

audience_of_route : (sites : List SiteValue) (site : SiteValue) (edge route : ℕ) (aud : Option Json) → is_some aud ≡ true
    → IfSome aud (λ aud. (sent : RouteValue) × (route_at sites (edge, route) ≡ Some sent) × (has_identity site.profile.audience sent.audience ≡ true)) → HasAudienceOfRoute sites edge route site
audience_of_route sites site edge route None there h = cc
audience_of_route sites site edge route (Some aud) there h =
    let r = route_found (slice_get sites edge) route h.0 h.1 in
    (r.0, h.0, r.1, r.2, h.2)

pub met_sent : (ledger : List Issue) (sites : List SiteValue) (place : ℕ) (asked used : Use) (places token : List ℕ) (links before : List Issue) (grant : Members) (edge route : ℕ)
    → GrantMet ledger sites place asked → Chain ledger place places token links → CarriesClaims token grant → IsUseBehind links asked before used → AreSentBy edge route before
    → is_some (claim (codes "aud") grant) ≡ true → (site : SiteValue) × (slice_get sites used.edge ≡ Some site) × HasAudienceOfRoute sites edge route site
met_sent ledger sites place asked used places token links before grant edge route h chain claims at sent there =
    let m = use_met_of ledger sites place asked used places token links before grant h chain claims at in
    let audience = subst (λ (o : Option (ℕ × ℕ)). IsForEdge sites grant m.site o) (sent_last edge route before sent) m.audience in
    (m.site, m.named, audience_of_route sites m.site edge route (claim (codes "aud") grant) there audience)

pub met_begun : (ledger : List Issue) (sites : List SiteValue) (place : ℕ) (asked used : Use) (places token : List ℕ) (links before : List Issue) (grant : Members)
    → GrantMet ledger sites place asked → Chain ledger place places token links → CarriesClaims token grant → IsUseBehind links asked before used → is_begun used.moment grant ≡ true
met_begun ledger sites place asked used places token links before grant h chain claims at =
    (use_met_of ledger sites place asked used places token links before grant h chain claims at).begun

pub met_unexpired : (ledger : List Issue) (sites : List SiteValue) (place : ℕ) (asked used : Use) (places token : List ℕ) (links before : List Issue) (grant : Members)
    → GrantMet ledger sites place asked → Chain ledger place places token links → CarriesClaims token grant → IsUseBehind links asked before used → IsUnrenewed before
    → is_unexpired used.moment grant ≡ true
met_unexpired ledger sites place asked used places token links before grant h chain claims at unrenewed =
    let m = use_met_of ledger sites place asked used places token links before grant h chain claims at in
    subst (λ (o : Option ℕ). IsInTime grant used.moment o) (unrenewed_stays None before unrenewed) m.timely

pub met_renewed : (ledger : List Issue) (sites : List SiteValue) (place : ℕ) (asked used : Use) (places token : List ℕ) (links before : List Issue) (grant : Members) (start : ℕ)
    → GrantMet ledger sites place asked → Chain ledger place places token links → CarriesClaims token grant → IsUseBehind links asked before used → AreRenewedAt start before
    → IsWithinPeriod grant start used.moment
met_renewed ledger sites place asked used places token links before grant start h chain claims at renewed =
    let m = use_met_of ledger sites place asked used places token links before grant h chain claims at in
    subst (λ (o : Option ℕ). IsInTime grant used.moment o) (renewed_last start before renewed) m.timely

pub met_there : (ledger : List Issue) (sites : List SiteValue) (place : ℕ) (asked : Use) → GrantMet ledger sites place asked
    → (places : List ℕ) × (token : List ℕ) × (links : List Issue) × (grant : Members) × (origin : List ℕ) × Chain ledger place places token links × CarriesClaims token grant × Origin ledger place asked.uri origin
met_there ledger sites place asked h = (h.places, h.token, h.links, h.grant, h.origin, h.chain, h.claims, h.from)
