-- What is judged of a request is judged of its ask.
use Rattle.std.proofs.Common.{◌≡◌, ◌∙◌, subst, ℕ, List, Option}
use Rattle.usp_conf.specs.Values.{ConfValue}
use Rattle.usp_http.specs.declared.head.Head.{Head}
use Rattle.usp_package.specs.Package.{package_of}
use Rattle.usp_rules.specs.Asks.{AskValue, token_in}
use Rattle.usp_rules.specs.Judging.{Judges}
use Rattle.usp_rules.specs.declared.judged.Judged.{Judged}
use Rattle.usp_rules.specs.declared.profile.Profile.{Profile}
use Rattle.usp_uri.specs.Origin.{request_text}
use Rattle.usp_edge.specs.Asks.{ask_of, brought, cookie_in}

-- what was read of a request: its URI, and its cookie under the attribute of a profile
pub record Reads (conf : ConfValue) (head : Head) (profile : Profile) (uri : List ℕ)
    (cookie : Option (List ℕ)) : Type 0 where
  pub rows : List (List ℕ)
  pub own : profile ≡ conf.site.profile
  pub cookies : rows ≡ head.cookies
  pub asked : uri ≡ request_text conf.scheme head.host head.target
  pub found : cookie ≡ cookie_in profile.attribute rows

cookie_is : (conf : ConfValue) (head : Head) (profile : Profile) (uri : List ℕ) (cookie : Option (List ℕ))
    → Reads conf head profile uri cookie → cookie ≡ cookie_in conf.site.profile.attribute head.cookies
cookie_is conf head profile uri cookie reads =
    reads.found ∙ (λ i. cookie_in (reads.own i).attribute (reads.cookies i))

pub token_is : (conf : ConfValue) (head : Head) (moment : ℕ) (profile : Profile) (uri : List ℕ)
    (cookie token : Option (List ℕ)) → Reads conf head profile uri cookie
    → token ≡ token_in (package_of profile.attribute uri) cookie → token ≡ brought conf (ask_of conf head moment)
token_is conf head moment profile uri cookie token reads is =
    is
    ∙ (λ i. token_in (package_of (reads.own i).attribute (reads.asked i)) (cookie_is conf head profile uri cookie reads i))

pub judged_ask : (conf : ConfValue) (head : Head) (moment : ℕ) (profile : Profile) (uri : List ℕ)
    (cookie : Option (List ℕ)) (ask : AskValue) (judged : Judged) → Reads conf head profile uri cookie → ask.uri ≡ uri
    → ask.cookie ≡ cookie → ask.moment ≡ moment → Judges profile ask judged
    → Judges conf.site.profile (ask_of conf head moment) judged
judged_ask conf head moment profile uri cookie ask judged reads has_uri has_cookie has_moment judges =
    subst (λ (p : Profile). Judges p (ask_of conf head moment) judged) reads.own
    (subst (λ (a : AskValue). Judges profile a judged) same judges)
  where
    same : ask ≡ ask_of conf head moment
    same = λ i. record {
      uri = (has_uri ∙ reads.asked) i;
      cookie = (has_cookie ∙ cookie_is conf head profile uri cookie reads) i;
      moment = has_moment i;
    }
