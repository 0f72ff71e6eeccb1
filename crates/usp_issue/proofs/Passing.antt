-- A token that was renewed, or signed again, is valid.
use Rattle.std.proofs.Common.{◌≡◌, ℕ, ◌<◌, ◌≤◌, Bool, true, false, not, ◌&&◌, ◌||◌, ◌==◌, codes, List, [], ◌∷◌, ◌++◌, length, Option, Some, None, inl, inr, refl, sym, ap, ◌∙◌, subst, arith}
use Rattle.std.specs.Prelude.{nat_le, slice_get}
use Rattle.std.specs.List.{list_all, list_any}
use Rattle.std.specs.Option.{is_some, option_and_then, option_map, option_map_or}
use Rattle.std.specs.Str.{bytes_eq}
use Rattle.std.proofs.lemmas.Bool.{and_parts, leb-true}
use Rattle.std.proofs.lemmas.Slice.Eq.{bytes_eq-Decides}
use Rattle.usp_base.specs.declared.limits.TheConstants.{MOMENT_BOUND}
use Rattle.usp_claims.proofs.Decimals.{text_of}
use Rattle.usp_claims.proofs.Rows.{tells}
use Rattle.usp_claims.specs.Table.{claim, is_audience, whole_in}
use Rattle.usp_claims.specs.declared.limits.TheConstants.{MAX_NUMBER, MAX_PAYLOAD}
use Rattle.usp_json.proofs.ByteLaws.{reading_bytes}
use Rattle.usp_json.proofs.CanonLaws.{reads_back}
use Rattle.usp_json.proofs.KeepLaws.{reading_keeps}
use Rattle.usp_json.specs.Canon.{canon_members}
use Rattle.usp_json.specs.Entries.{entries}
use Rattle.usp_json.specs.Scalars.{text_in}
use Rattle.usp_json.specs.Spells.{given}
use Rattle.usp_json.specs.Values.{is_this, lists}
use Rattle.usp_json.specs.declared.limits.TheConstants.{MAX_MEMBERS}
use Rattle.usp_json.specs.declared.value.Json.{Json}
use Rattle.usp_json.specs.declared.value.Json.TheVariants.{Str}
use Rattle.usp_json.specs.declared.value.Members.{Members}
use Rattle.usp_jws.proofs.Naming.{sealed_place}
use Rattle.usp_jws.proofs.Sealing.{length-sealed, sealed_has_parts, sealed_header, sealed_payload, sealed_token}
use Rattle.usp_jws.proofs.Tokens.{same_bytes}
use Rattle.usp_jws.specs.Compact.{IsToken}
use Rattle.usp_jws.specs.Headers.{IsHeader}
use Rattle.usp_jws.specs.Keys.{KeyValue}
use Rattle.usp_jws.specs.Letters.{has_identity, is_identity, is_kid, is_kid_letter}
use Rattle.usp_jws.specs.Parts.{PartsValue, text_of as parts_text}
use Rattle.usp_jws.specs.Sealed.{sealed}
use Rattle.usp_jws.specs.declared.limits.TheConstants.{MAX_KID}
use Rattle.usp_rules.proofs.Firsts.{claims_here, header_here, verified_here}
use Rattle.usp_rules.proofs.Single.{one_claims}
use Rattle.usp_rules.specs.Asks.{Presented}
use Rattle.usp_rules.specs.Constraints.{IsContained, is_begun, is_critical_met, is_for, is_issued, is_plain, is_renewable, is_unexpired, is_version_1}
use Rattle.usp_rules.specs.Rules.{ConstraintHolds, Valid, Wants}
use Rattle.usp_rules.specs.Segment.{segment_of}
use Rattle.usp_rules.specs.Tokens.{CarriesClaims, HasClaims, HasHeader, IsVerified, SpellsClaims}
use Rattle.usp_rules.specs.declared.profile.Profile.{Profile}
use Rattle.usp_rules.specs.declared.rule.Rule.{Rule}
use Rattle.usp_rules.specs.declared.rule.Rule.TheVariants as rule
use Rattle.usp_issue.specs.Edges.{AreUsable, Knows}
use Rattle.usp_issue.specs.Renewals.{IsRenewed, for_period, renew}
use Rattle.usp_issue.specs.Resignings.{FindsTarget, IsResigned, Resigns, for_route, for_target, target_of}
use Rattle.usp_issue.specs.Routes.{RouteValue}
use Rattle.usp_issue.proofs.Keeping.{renewed_few, renewed_set, resigned_kept, resigned_set}
use Rattle.usp_issue.proofs.Replacing.{IsSentOn, kept_container, narrowed_container, renew_says, renewed_iss, renewed_other, resigns_says}

-- ---- a sealed token

-- a token with a header that names the key, that the key verifies, and with claims
record Carries (ring : List KeyValue) (token : List ℕ) (kid : Option (List ℕ)) (place : ℕ) (m : Members) : Type 0 where
  compact : IsToken token
  header : HasHeader token kid
  verified : IsVerified ring token place
  claims : CarriesClaims token m

carries_parts : (profile : Profile) (key : KeyValue) (payload : List ℕ) (m : Members) (parts : PartsValue) (k : Knows profile key) → SpellsClaims payload m → parts_text parts ≡ sealed key payload
    → IsToken (parts_text parts) → Carries profile.ring (parts_text parts) (Some key.kid) k.place m
carries_parts profile key payload m parts k spells is token =
    let header : IsHeader parts.header (Some key.kid) = sealed_header key payload parts k.named is in
    let has : HasClaims parts.payload m =
    record { bytes = payload; are_bytes = reading_bytes given payload m spells.reads; encoded = sealed_payload key payload parts is; claims = spells } in
    record {
      compact = token;
      header = header_here parts (Some key.kid) token header;
      verified = verified_here profile.ring parts (Some key.kid) k.place token header (sealed_place profile.ring k.place key payload parts k.apart k.there is);
      claims = claims_here parts m token has;
    }

kid_short : (kid : List ℕ) → is_kid kid ≡ true → length kid ≤ MAX_KID
kid_short kid e =
    let bounds = and_parts (nat_le 1 (length kid) && nat_le (length kid) MAX_KID) (list_all is_kid_letter kid) e in
    leb-true (length kid) MAX_KID (and_parts (nat_le 1 (length kid)) (nat_le (length kid) MAX_KID) bounds.0).1

sealed_is_token : (key : KeyValue) (payload : List ℕ) (m : Members) → is_kid key.kid ≡ true → SpellsClaims payload m → IsToken (sealed key payload)
sealed_is_token key payload m named spells =
    let short = kid_short key.kid named in
    let few = spells.short in
    let size = length-sealed key payload in
    sealed_token key payload named (reading_bytes given payload m spells.reads) (omega (arith, short, few, size))

carries_sealed : (profile : Profile) (key : KeyValue) (payload : List ℕ) (m : Members) (k : Knows profile key) → SpellsClaims payload m → Carries profile.ring (sealed key payload) (Some key.kid) k.place m
carries_sealed profile key payload m k spells =
    let p = sealed_has_parts key payload in
    subst (λ (t : List ℕ). Carries profile.ring t (Some key.kid) k.place m) p.1
    (carries_parts profile key payload m p.0 k spells p.1 (subst (λ (t : List ℕ). IsToken t) (sym p.1) (sealed_is_token key payload m k.named spells)))

-- ---- what the rules want

record AreWanted (profile : Profile) (issuer : List ℕ) (claims : Members) (content : List ℕ) (moment : ℕ) : Type 0 where
  version : is_version_1 claims ≡ true
  critical : is_critical_met profile.extensions (Some content) claims ≡ true
  plain : is_plain claims ≡ true
  issued : is_issued profile.issuers issuer claims ≡ true
  intended : is_for profile.audience claims ≡ true
  begun : is_begun moment claims ≡ true
  unexpired : is_unexpired moment claims ≡ true
  renewable : is_renewable claims ≡ true
  contained : IsContained (Some content) claims

abbrev shown_for : List ℕ → List ℕ → ℕ → Presented
shown_for token content moment = record { token = token; content = Some content; moment = moment }

meets_rule : (r : Rule) (profile : Profile) (key : KeyValue) (token content : List ℕ) (moment place : ℕ) (claims : Members) → CarriesClaims token claims → IsVerified profile.ring token place
    → slice_get profile.ring place ≡ Some key → Wants r profile key.issuer claims (Some content) moment → ConstraintHolds r profile (shown_for token content moment)
meets_rule r profile key token content moment place claims c v at w = record { members = claims; place = place; key = key; claims = c; verified = v; at = at; wants = w }

valid_carried : (profile : Profile) (key : KeyValue) (token content : List ℕ) (moment : ℕ) (claims : Members) (k : Knows profile key) → Carries profile.ring token (Some key.kid) k.place claims
    → AreWanted profile key.issuer claims content moment → Valid profile (shown_for token content moment)
valid_carried profile key token content moment claims k c w =
    let meets : (r : Rule) → Wants r profile key.issuer claims (Some content) moment → ConstraintHolds r profile (shown_for token content moment)
    = λ r want. meets_rule r profile key token content moment k.place claims c.claims c.verified k.there want in (
      c.compact,
      (
        (Some key.kid, c.header),
        (
          (k.place, c.verified),
          (
            (claims, c.claims),
            (
              meets rule.Version w.version,
              (
                meets rule.Critical w.critical,
                (
                  meets rule.Encrypted w.plain,
                  (
                    meets rule.Issuer w.issued,
                    (
                      meets rule.Audience w.intended,
                      (
                        meets rule.NotBefore w.begun,
                        (
                          meets rule.Expired w.unexpired,
                          (
                            meets rule.Renewal w.renewable,
                            (meets rule.Container w.contained, tt),
                          ),
                        ),
                      ),
                    ),
                  ),
                ),
              ),
            ),
          ),
        ),
      ),
    )

-- ---- what the old claims had

record Says (profile : Profile) (m : Members) : Type 0 where
  version : is_version_1 m ≡ true
  plain : is_plain m ≡ true
  intended : is_for profile.audience m ≡ true
  renewable : is_renewable m ≡ true

valid_says : (profile : Profile) (shown : Presented) (m : Members) → CarriesClaims shown.token m → Valid profile shown → Says profile m
valid_says profile shown m c v =
    let version = v.1.1.1.1.0 in
    let plain = v.1.1.1.1.1.1.0 in
    let aud = v.1.1.1.1.1.1.1.1.0 in
    let renewal = v.1.1.1.1.1.1.1.1.1.1.1.0 in
    record {
      version = subst (λ (x : Members). is_version_1 x ≡ true) (one_claims shown.token version.members m version.claims c) version.wants;
      plain = subst (λ (x : Members). is_plain x ≡ true) (one_claims shown.token plain.members m plain.claims c) plain.wants;
      intended = subst (λ (x : Members). is_for profile.audience x ≡ true) (one_claims shown.token aud.members m aud.claims c) aud.wants;
      renewable = subst (λ (x : Members). is_renewable x ≡ true) (one_claims shown.token renewal.members m renewal.claims c) renewal.wants;
    }

-- the claims that neither a renewal nor signing again changes
record AreHeirs (m claims : Members) : Type 0 where
  version : claim (codes "cdniv") claims ≡ claim (codes "cdniv") m
  sub : claim (codes "sub") claims ≡ claim (codes "sub") m
  ip : claim (codes "cdniip") claims ≡ claim (codes "cdniip") m
  stt : claim (codes "cdnistt") claims ≡ claim (codes "cdnistt") m
  ets : claim (codes "cdniets") claims ≡ claim (codes "cdniets") m

still_version_1 : (m claims : Members) → AreHeirs m claims → is_version_1 m ≡ true → is_version_1 claims ≡ true
still_version_1 m claims h e =
    subst (λ (o : Option Json). option_map_or (λ version. version == 1) (option_and_then (whole_in MAX_NUMBER) o) true ≡ true) (sym h.version) e

still_plain : (m claims : Members) → AreHeirs m claims → is_plain m ≡ true → is_plain claims ≡ true
still_plain m claims h e =
    subst (λ (o : Option Json). not (is_some o || is_some (claim (codes "cdniip") claims)) ≡ true) (sym h.sub)
    (subst (λ (o : Option Json). not (is_some (claim (codes "sub") m) || is_some o) ≡ true) (sym h.ip) e)

still_renewable : (m claims : Members) → AreHeirs m claims → is_renewable m ≡ true → is_renewable claims ≡ true
still_renewable m claims h e =
    subst (λ (o : Option Json). option_map_or (λ transport. transport == 0 || (transport == 1 && is_some (claim (codes "cdniets") claims))) (option_and_then (whole_in MAX_NUMBER) o) true ≡ true) (sym h.stt)
    (subst (λ (o : Option Json). option_map_or (λ transport. transport == 0 || (transport == 1 && is_some o)) (option_and_then (whole_in MAX_NUMBER) (claim (codes "cdnistt") m)) true ≡ true) (sym h.ets) e)

-- the issuer of the key, where there was one
issued_by : (issuers : List (List ℕ)) (issuer : List ℕ) (o : Option Json) → has_identity issuers issuer ≡ true
    → option_map_or (λ iss. has_identity issuers iss && bytes_eq issuer iss) (option_and_then text_in (option_map (λ old. Str issuer) o)) true ≡ true
issued_by issuers issuer None has = refl
issued_by issuers issuer (Some old) has =
    let same = same_bytes issuer issuer refl in
    ap (λ (o : Option (List ℕ)). option_map_or (λ iss. has_identity issuers iss && bytes_eq issuer iss) o true) (text_of issuer)
    ∙ (ap (λ (b : Bool). b && bytes_eq issuer issuer) has ∙ same)

is_issued_by : (issuers : List (List ℕ)) (issuer : List ℕ) (m claims : Members) → has_identity issuers issuer ≡ true → claim (codes "iss") claims ≡ option_map (λ old. Str issuer) (claim (codes "iss") m)
    → is_issued issuers issuer claims ≡ true
is_issued_by issuers issuer m claims has e =
    ap (λ (o : Option Json). option_map_or (λ iss. has_identity issuers iss && bytes_eq issuer iss) (option_and_then text_in o) true) e
    ∙ issued_by issuers issuer (claim (codes "iss") m) has

-- an audience that the edge has
or_true : (b : Bool) → (b || true) ≡ true
or_true true = refl
or_true false = refl

is_audience_of : (known audience : List ℕ) → bytes_eq known audience ≡ true → is_audience known (Str audience) ≡ true
is_audience_of known audience hit =
    let same : known ≡ audience = (bytes_eq-Decides known audience).0 hit in
    let this : is_this known (Str audience) ≡ true
    = ap (λ (o : Option (List ℕ)). option_map_or (λ other. bytes_eq other known) o false) (text_of audience) ∙ same_bytes audience known (sym same) in
    ap (λ (b : Bool). b || lists known (Str audience)) this

one_audience : (identities : List (List ℕ)) (audience : List ℕ) → has_identity identities audience ≡ true → list_any (λ identity. is_audience identity (Str audience)) identities ≡ true
one_audience [] audience has = has
one_audience (known ∷ identities) audience has = elim (tells (bytes_eq known audience)) [
  | inl hit ↦ ap (λ (b : Bool). b || list_any (λ identity. is_audience identity (Str audience)) identities) (is_audience_of known audience hit)
  | inr miss ↦
      let rest : has_identity identities audience ≡ true = sym (ap (λ (b : Bool). b || has_identity identities audience) miss) ∙ has in
      ap (λ (b : Bool). is_audience known (Str audience) || b) (one_audience identities audience rest) ∙ or_true (is_audience known (Str audience))
]

heard_by : (identities : List (List ℕ)) (audience : List ℕ) (o : Option Json) → has_identity identities audience ≡ true
    → option_map_or (λ aud. list_any (λ identity. is_audience identity aud) identities) (option_map (λ old. Str audience) o) true ≡ true
heard_by identities audience None has = refl
heard_by identities audience (Some old) has = one_audience identities audience has

is_for_route : (identities : List (List ℕ)) (audience : List ℕ) (m claims : Members) → has_identity identities audience ≡ true
    → claim (codes "aud") claims ≡ option_map (λ old. Str audience) (claim (codes "aud") m) → is_for identities claims ≡ true
is_for_route identities audience m claims has e =
    ap (λ (o : Option Json). option_map_or (λ aud. list_any (λ identity. is_audience identity aud) identities) o true) e ∙ heard_by identities audience (claim (codes "aud") m) has

still_for : (identities : List (List ℕ)) (m claims : Members) → claim (codes "aud") claims ≡ claim (codes "aud") m → is_for identities m ≡ true → is_for identities claims ≡ true
still_for identities m claims e h =
    ap (λ (o : Option Json). option_map_or (λ aud. list_any (λ identity. is_audience identity aud) identities) o true) e ∙ h

-- ---- a renewed token

period_heirs : (m : Members) (moment period : ℕ) (key : KeyValue) → AreHeirs m (for_period m moment key period)
period_heirs m moment period key = record {
  version = renewed_other m moment key period (codes "cdniv") refl refl refl;
  sub = renewed_other m moment key period (codes "sub") refl refl refl;
  ip = renewed_other m moment key period (codes "cdniip") refl refl refl;
  stt = renewed_other m moment key period (codes "cdnistt") refl refl refl;
  ets = renewed_other m moment key period (codes "cdniets") refl refl refl;
}

period_wanted : (profile : Profile) (m : Members) (moment period later : ℕ) (key : KeyValue) (content : List ℕ) → Says profile m → has_identity profile.issuers key.issuer ≡ true
    → IsContained (Some content) (for_period m moment key period) → AreUsable profile (for_period m moment key period) content later
    → AreWanted profile key.issuer (for_period m moment key period) content later
period_wanted profile m moment period later key content old issuer contained usable =
    let claims = for_period m moment key period in
    let heirs = period_heirs m moment period key in
    record {
      version = still_version_1 m claims heirs old.version;
      critical = usable.critical;
      plain = still_plain m claims heirs old.plain;
      issued = is_issued_by profile.issuers key.issuer m claims issuer (renewed_iss m moment key period);
      intended = still_for profile.audience m claims (renewed_other m moment key period (codes "aud") refl refl refl) old.intended;
      begun = usable.begun;
      unexpired = usable.unexpired;
      renewable = still_renewable m claims heirs old.renewable;
      contained = contained;
    }

renewed_wanted : (profile : Profile) (m claims : Members) (used content : List ℕ) (moment later : ℕ) (key : KeyValue) → renew m used moment key ≡ Some claims → Says profile m
    → has_identity profile.issuers key.issuer ≡ true → IsContained (Some content) claims → AreUsable profile claims content later
    → AreWanted profile key.issuer claims content later
renewed_wanted profile m claims used content moment later key e old issuer contained usable =
    let p = renew_says m used moment key claims e in
    subst (λ (x : Members). AreWanted profile key.issuer x content later) (sym p.is)
    (period_wanted profile m moment p.period later key content old issuer (subst (λ (x : Members). IsContained (Some content) x) p.is contained)
    (subst (λ (x : Members). AreUsable profile x content later) p.is usable))

renewed_spells : (m claims : Members) (token used : List ℕ) (moment : ℕ) (key : KeyValue) → is_identity key.issuer ≡ true → moment < MOMENT_BOUND → CarriesClaims token m
    → renew m used moment key ≡ Some claims → length (canon_members claims) ≤ MAX_PAYLOAD → length (entries claims) ≤ MAX_MEMBERS → SpellsClaims (canon_members claims) claims
renewed_spells m claims token used moment key issuer early c e short few = record {
  short = short;
  reads = reads_back claims (renewed_few m claims used moment key issuer early (reading_keeps c.claims.bytes m c.claims.claims.reads) e few);
  set = renewed_set m claims used moment key early c.claims.claims.set e;
}

pub renewed_passes : (profile : Profile) (shown : Presented) (m : Members) (key : KeyValue) (used token content : List ℕ) (later : ℕ) (r : IsRenewed m used shown.moment key token)
    → Valid profile shown → shown.moment < MOMENT_BOUND → CarriesClaims shown.token m → Knows profile key
    → length (canon_members r.claims) ≤ MAX_PAYLOAD → length (entries r.claims) ≤ MAX_MEMBERS
    → IsContained (Some content) r.claims → AreUsable profile r.claims content later
    → Valid profile (record { token = token; content = Some content; moment = later })
renewed_passes profile shown m key used token content later r valid early c k short few contained usable =
    let spells = renewed_spells m r.claims shown.token used shown.moment key r.issuer early c r.renewed short few in
    let wanted = renewed_wanted profile m r.claims used content shown.moment later key r.renewed (valid_says profile shown m c valid) k.issuer contained usable in
    subst (λ (t : List ℕ). Valid profile (shown_for t content later)) (sym r.text)
    (valid_carried profile key (sealed key (canon_members r.claims)) content later r.claims k (carries_sealed profile key (canon_members r.claims) r.claims k spells) wanted)

-- ---- a token signed again

sent_heirs : (m claims : Members) (route : RouteValue) (target : List ℕ) → IsSentOn m route target claims → AreHeirs m claims
sent_heirs m claims route target s = record {
  version = s.others (codes "cdniv") refl refl refl refl;
  sub = s.others (codes "sub") refl refl refl refl;
  ip = s.others (codes "cdniip") refl refl refl refl;
  stt = s.others (codes "cdnistt") refl refl refl refl;
  ets = s.others (codes "cdniets") refl refl refl refl;
}

-- the container of what is signed again meets the target
contained_kept : (m : Members) (moment : ℕ) (route : RouteValue) (target : List ℕ) → FindsTarget m target → IsContained (Some target) (for_route route moment m)
contained_kept m moment route target f = record {
  uri = target;
  container = f.0;
  there = refl;
  claimed = ap (λ (o : Option Json). option_and_then text_in o) (kept_container m moment route) ∙ f.1;
  meets = inr f.2;
}

contained_narrowed : (m : Members) (moment : ℕ) (route : RouteValue) (target : List ℕ) → IsContained (Some target) (for_route route moment (for_target target m))
contained_narrowed m moment route target = record {
  uri = target;
  container = codes "hash:" ++ segment_of target;
  there = refl;
  claimed = narrowed_container m moment route target;
  meets = inl refl;
}

contained_again : (m : Members) (content : List ℕ) (moment : ℕ) (route : RouteValue) (claims : Members) → Resigns m content moment route claims → IsContained (Some (target_of content route)) claims
contained_again m content moment route claims (inl kept) =
    subst (λ (x : Members). IsContained (Some (target_of content route)) x) (sym kept.1) (contained_kept m moment route (target_of content route) kept.0)
contained_again m content moment route claims (inr narrowed) =
    subst (λ (x : Members). IsContained (Some (target_of content route)) x) (sym narrowed.1) (contained_narrowed m moment route (target_of content route))

resigned_wanted : (profile there : Profile) (m : Members) (content : List ℕ) (moment later : ℕ) (route : RouteValue) (claims : Members) → Resigns m content moment route claims → Says profile m
    → has_identity there.issuers route.key.issuer ≡ true → has_identity there.audience route.audience ≡ true → AreUsable there claims (target_of content route) later
    → AreWanted there route.key.issuer claims (target_of content route) later
resigned_wanted profile there m content moment later route claims e old issuer audience usable =
    let s = resigns_says m content moment route claims e in
    let heirs = sent_heirs m claims route (target_of content route) s in
    record {
      version = still_version_1 m claims heirs old.version;
      critical = usable.critical;
      plain = still_plain m claims heirs old.plain;
      issued = is_issued_by there.issuers route.key.issuer m claims issuer s.iss;
      intended = is_for_route there.audience route.audience m claims audience s.aud;
      begun = usable.begun;
      unexpired = usable.unexpired;
      renewable = still_renewable m claims heirs old.renewable;
      contained = contained_again m content moment route claims e;
    }

resigned_spells : (m claims : Members) (token content : List ℕ) (moment : ℕ) (route : RouteValue) → is_identity route.key.issuer ≡ true → is_identity route.audience ≡ true → moment < MOMENT_BOUND
    → CarriesClaims token m → Resigns m content moment route claims → length (canon_members claims) ≤ MAX_PAYLOAD → SpellsClaims (canon_members claims) claims
resigned_spells m claims token content moment route issuer audience early c e short = record {
  short = short;
  reads = reads_back claims (resigned_kept m content moment route claims issuer audience early c.claims.claims.set (reading_keeps c.claims.bytes m c.claims.claims.reads) e);
  set = resigned_set m content moment route claims early c.claims.claims.set e;
}

pub resigned_passes : (profile there : Profile) (shown : Presented) (m : Members) (content token : List ℕ) (route : RouteValue) (later : ℕ) (r : IsResigned m content shown.moment route token)
    → Valid profile shown → shown.moment < MOMENT_BOUND → CarriesClaims shown.token m → Knows there route.key → has_identity there.audience route.audience ≡ true
    → length (canon_members r.claims) ≤ MAX_PAYLOAD → AreUsable there r.claims (target_of content route) later
    → Valid there (record { token = token; content = Some (target_of content route); moment = later })
resigned_passes profile there shown m content token route later r valid early c k audience short usable =
    let target = target_of content route in
    let spells = resigned_spells m r.claims shown.token content shown.moment route r.issuer r.audience early c r.resigned short in
    let wanted = resigned_wanted profile there m content shown.moment later route r.claims r.resigned (valid_says profile shown m c valid) k.issuer audience usable in
    subst (λ (t : List ℕ). Valid there (shown_for t target later)) (sym r.text)
    (valid_carried there route.key (sealed route.key (canon_members r.claims)) target later r.claims k (carries_sealed there route.key (canon_members r.claims) r.claims k spells) wanted)
