-- What passes was brought, and is valid.
use Rattle.std.proofs.Common.{◌≡◌, ℕ, List, Option, Some, None, refl, sym, ap, ◌∙◌, subst}
use Rattle.std.specs.Option.{option_map}
use Rattle.std.proofs.lemmas.Option.{same_Some}
use Rattle.usp_json.specs.declared.value.Members.{Members}
use Rattle.usp_package.specs.Package.{Package, package_of}
use Rattle.usp_rules.proofs.Verdicts.{passes, presents_valid}
use Rattle.usp_rules.specs.Asks.{AskValue, Presented, content_in, presented_in, token_in}
use Rattle.usp_rules.specs.Judging.{Admits, Judges, PassesWith}
use Rattle.usp_rules.specs.Rules.{Valid}
use Rattle.usp_rules.specs.Tokens.{CarriesClaims, IsVerified}
use Rattle.usp_rules.specs.declared.judged.Judged.TheVariants.{Passed}
use Rattle.usp_rules.specs.declared.profile.Profile.{Profile}

-- what an ask presents is its token, its content and its moment
record Presents (ask : AskValue) (pack : Package) (s : Presented) : Type 0 where
  brought : token_in pack ask.cookie ≡ Some s.token
  content : s.content ≡ content_in ask.uri pack
  moment : s.moment ≡ ask.moment

presents_by : (ask : AskValue) (pack : Package) (s : Presented) (o : Option (List ℕ)) → token_in pack ask.cookie ≡ o
    → option_map (λ token. record { token = token; content = content_in ask.uri pack; moment = ask.moment }) o ≡ Some s → Presents ask pack s
presents_by ask pack s None is e = let none : None ≡ Some s = e in cc none
presents_by ask pack s (Some token) is e =
    let whole : record { token = token; content = content_in ask.uri pack; moment = ask.moment } ≡ s = same_Some _ s e in
    record {
      brought = is ∙ ap Some (ap (λ (x : Presented). x.token) whole);
      content = sym (ap (λ (x : Presented). x.content) whole);
      moment = sym (ap (λ (x : Presented). x.moment) whole);
    }

abbrev presents : List ℕ → Option (List ℕ) → ℕ → Presented
presents token content moment = record { token = token; content = content; moment = moment }

same_parts : (t u : List ℕ) (c d : Option (List ℕ)) (m n : ℕ) → t ≡ u → c ≡ d → m ≡ n → presents t c m ≡ presents u d n
same_parts t u c d m n a b e = cc

valid_of : (profile : Profile) (s : Presented) (token content : List ℕ) (moment : ℕ) → s.token ≡ token → s.content ≡ Some content → s.moment ≡ moment → Valid profile s
    → Valid profile (presents token (Some content) moment)
valid_of profile s token content moment same of when valid =
    subst (λ (x : Presented). Valid profile x) (same_parts s.token token s.content (Some content) s.moment moment same of when) valid

pub admits : (profile : Profile) (ask : AskValue) (content token : List ℕ) (members : Members) (place : ℕ)
    → Judges profile ask (Passed content token members place) → Admits profile ask content token members place
admits profile ask content token members place h =
    let pack = package_of profile.attribute ask.uri in
    let told : PassesWith profile ask pack content token members place = h.1 in
    let v = presents_valid profile ask (passes profile ask h.0) in
    let same : v.0 ≡ told.shown = same_Some v.0 told.shown (sym v.1 ∙ told.presents) in
    let p = presents_by ask pack told.shown (token_in pack ask.cookie) refl told.presents in
    let valid : Valid profile told.shown = subst (λ (x : Presented). Valid profile x) same v.2 in
    record {
      brought = p.brought ∙ ap Some told.tells.text;
      of = sym p.content ∙ told.tells.uri;
      valid = valid_of profile told.shown token content ask.moment told.tells.text told.tells.uri p.moment valid;
      claims = subst (λ (t : List ℕ). CarriesClaims t members) told.tells.text told.tells.claims;
      verified = subst (λ (t : List ℕ). IsVerified profile.ring t place) told.tells.text told.tells.verified;
    }
