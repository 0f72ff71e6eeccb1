-- Routes.
use Rattle.std.specs.Prelude.{ℕ, Bool, false, ◌&&◌, ◌==◌, nat_le, nat_lt, List, [], ◌∷◌, length, Result, Ok, Err}
use Rattle.std.specs.List.{list_all}
use Rattle.serde_json.specs.Data.{Data}
use Rattle.usp_jws.specs.Keys.{KeyValue}
use Rattle.usp_uri.specs.Origin.{Origin, origin_of, origin_text}
use Rattle.usp_uri.specs.declared.fault.UriFault.{UriFault}
use Rattle.usp_issue.specs.Routes.{RouteValue}
use Rattle.usp_conf.specs.Answers.{and_then}
use Rattle.usp_conf.specs.Texts.{required, optional, text_of, text_that, identity_of}
use Rattle.usp_conf.specs.Lists.{rows_of, object_of}
use Rattle.usp_conf.specs.Keys.{key_in}
use Rattle.usp_issue.specs.declared.limits.TheConstants.{MAX_ROUTES}
use Rattle.usp_conf.specs.declared.limits.TheConstants.{MAX_PREFIX}
use Rattle.usp_conf.specs.declared.fault.ConfFault.{ConfFault}
use Rattle.usp_conf.specs.declared.fault.ConfFault.TheVariants as fault
use Rattle.usp_conf.specs.declared.member.Member.TheVariants as member

-- `/`
abbrev pub slash : ℕ
slash = 47

abbrev pub begins_with_slash : List ℕ → Bool
begins_with_slash [] = false
begins_with_slash (b ∷ bytes) = b == slash

abbrev pub is_ascii : List ℕ → Bool
is_ascii text = list_all (λ b. nat_lt b 128) text

-- the front of a path: at most `MAX_PREFIX` bytes of ASCII, of which the first is `/`
abbrev pub is_prefix : List ℕ → Bool
is_prefix text = begins_with_slash text && nat_le (length text) MAX_PREFIX && is_ascii text

-- the place of a scheme and an authority
abbrev pub place_value : Result Origin UriFault → Result Origin ConfFault
place_value (Ok place) = Ok place
place_value (Err found) = Err (fault.Range member.Authority)

abbrev pub authority_value : List ℕ → Data → Result Origin ConfFault
authority_value scheme value =
    and_then (text_of member.Authority value) (λ authority.
    place_value (origin_of (origin_text scheme authority)))

abbrev pub route : List ℕ → Origin → KeyValue → List ℕ → RouteValue
route prefix place key audience =
    record { prefix = prefix; place = place; key = key; audience = audience }

abbrev pub prefix_of : Data → Result (List ℕ) ConfFault
prefix_of = required member.Prefix (text_that is_prefix member.Prefix)

abbrev pub scheme_of : Data → Result (List ℕ) ConfFault
scheme_of = required member.Scheme (text_of member.Scheme)

abbrev pub authority_of : List ℕ → Data → Result Origin ConfFault
authority_of scheme = required member.Authority (authority_value scheme)

abbrev pub place_of : Data → Result Origin ConfFault
place_of fields = and_then (scheme_of fields) (λ scheme. authority_of scheme fields)

abbrev pub audience_of : Data → Result (List ℕ) ConfFault
audience_of = required member.Audience (identity_of member.Audience)

-- the route of an object
abbrev pub route_in : Data → Result RouteValue ConfFault
route_in fields =
    and_then (prefix_of fields) (λ prefix.
    and_then (place_of fields) (λ place.
    and_then (key_in fields) (λ key.
    and_then (audience_of fields) (λ audience. Ok (route prefix place key audience)))))

abbrev pub routes_value : Data → Result (List RouteValue) ConfFault
routes_value = rows_of member.Routes 0 MAX_ROUTES (object_of member.Routes route_in)

abbrev pub routes_of : Data → Result (List RouteValue) ConfFault
routes_of = optional member.Routes [] routes_value
