-- The rows of a configuration, in the order in which they are tried.
use Rattle.std.specs.Prelude.{ℕ, List, Result, Ok}
use Rattle.serde_json.specs.Data.{Data}
use Rattle.usp_ext.specs.declared.kinds.Extension.{Extension}
use Rattle.usp_jws.specs.Keys.{KeyValue}
use Rattle.usp_rules.specs.declared.profile.Profile.{Profile}
use Rattle.usp_issue.specs.Sites.{site}
use Rattle.usp_conf.specs.Answers.{and_then}
use Rattle.usp_conf.specs.Texts.{edge_of, scheme_of, attribute_of, room_of, enforce_of}
use Rattle.usp_conf.specs.Lists.{identities_of}
use Rattle.usp_conf.specs.Keys.{keys_of, sign_of}
use Rattle.usp_conf.specs.Claims.{extensions_of}
use Rattle.usp_conf.specs.Routes.{routes_of}
use Rattle.usp_conf.specs.Values.{ConfValue, conf}
use Rattle.usp_conf.specs.declared.fault.ConfFault.{ConfFault}
use Rattle.usp_conf.specs.declared.member.Member.TheVariants as member

abbrev pub profile : List KeyValue → List (List ℕ) → List (List ℕ) → List ℕ → List Extension
    → Profile
profile keys issuers audience attribute extensions = record {
  ring = keys;
  issuers = issuers;
  audience = audience;
  attribute = attribute;
  extensions = extensions;
}

-- the configuration that a value of JSON is, or the fault of the first row that fails
abbrev pub conf_of : Data → Result ConfValue ConfFault
conf_of fields =
    and_then (edge_of fields) (λ edge.
    and_then (scheme_of fields) (λ scheme.
    and_then (attribute_of fields) (λ attribute.
    and_then (keys_of fields) (λ keys.
    and_then (identities_of member.Issuers fields) (λ issuers.
    and_then (identities_of member.Audience fields) (λ audience.
    and_then (sign_of keys issuers fields) (λ sign.
    and_then (room_of fields) (λ room.
    and_then (extensions_of fields) (λ extensions.
    and_then (routes_of fields) (λ routes.
    and_then (enforce_of fields) (λ on.
    Ok (conf edge scheme room
    (site (profile keys issuers audience attribute extensions) sign routes)))))))))))))
