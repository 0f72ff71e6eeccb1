-- Keys, and the edge's own.
use Rattle.std.specs.Prelude.{ℕ, nat_lt, nat_le, List, length, Option, Result, Ok, Err, if◌then◌else◌}
use Rattle.std.specs.Option.{option_map_or, is_some}
use Rattle.serde_json.specs.Data.{Data}
use Rattle.usp_jws.specs.Base64url.{b64u_bytes}
use Rattle.usp_jws.specs.Keys.{KeyValue, first_repeat, place_named}
use Rattle.usp_jws.specs.Letters.{is_kid}
use Rattle.usp_issue.specs.Sites.{is_own}
use Rattle.usp_conf.specs.Answers.{and_then}
use Rattle.usp_conf.specs.Texts.{required, text_of, tested, text_that, identity_of}
use Rattle.usp_conf.specs.Lists.{rows_of, object_of}
use Rattle.usp_jws.specs.declared.limits.TheConstants.{MAX_KEYS, MAX_SECRET, MIN_SECRET}
use Rattle.usp_conf.specs.declared.fault.ConfFault.{ConfFault}
use Rattle.usp_conf.specs.declared.fault.ConfFault.TheVariants as fault
use Rattle.usp_conf.specs.declared.member.Member.TheVariants as member

abbrev pub key : List ℕ → List ℕ → List ℕ → KeyValue
key kid issuer secret = record { kid = kid; issuer = issuer; secret = secret }

-- a secret of `MIN_SECRET` to `MAX_SECRET` bytes (RFC 7518 section 3.2, RFC 2104 section 2)
abbrev pub secret_of_length : List ℕ → List ℕ → Result (List ℕ) ConfFault
secret_of_length kid bytes =
    if nat_lt (length bytes) MIN_SECRET then Err (fault.ShortKey kid)
    else tested member.Secret (nat_le (length bytes) MAX_SECRET) bytes

-- the bytes that a text is in base64url (RFC 4648 section 5)
abbrev pub secret_bytes : List ℕ → Option (List ℕ) → Result (List ℕ) ConfFault
secret_bytes kid bytes =
    option_map_or (secret_of_length kid) bytes (Err (fault.Range member.Secret))

abbrev pub secret_value : List ℕ → Data → Result (List ℕ) ConfFault
secret_value kid value =
    and_then (text_of member.Secret value) (λ text. secret_bytes kid (b64u_bytes text))

abbrev pub secret_of : List ℕ → Data → Result (List ℕ) ConfFault
secret_of kid = required member.Secret (secret_value kid)

abbrev pub kid_of : Data → Result (List ℕ) ConfFault
kid_of = required member.Kid (text_that is_kid member.Kid)

abbrev pub issuer_of : Data → Result (List ℕ) ConfFault
issuer_of = required member.Issuer (identity_of member.Issuer)

-- the key of an object
abbrev pub key_in : Data → Result KeyValue ConfFault
key_in fields =
    and_then (kid_of fields) (λ kid.
    and_then (issuer_of fields) (λ issuer.
    and_then (secret_of kid fields) (λ secret. Ok (key kid issuer secret))))

-- no two of one name
abbrev pub distinct_keys : List KeyValue → Result (List KeyValue) ConfFault
distinct_keys keys = if is_some (first_repeat keys) then Err (fault.Repeat member.Kid) else Ok keys

abbrev pub keys_value : Data → Result (List KeyValue) ConfFault
keys_value value =
    and_then (rows_of member.Keys 1 MAX_KEYS (object_of member.Keys key_in) value) distinct_keys

abbrev pub keys_of : Data → Result (List KeyValue) ConfFault
keys_of = required member.Keys keys_value

-- the place of the key of that name, whose issuer is one of the issuers
abbrev pub place_of : List KeyValue → List (List ℕ) → List ℕ → Result ℕ ConfFault
place_of keys issuers kid =
    option_map_or (λ place. tested member.SignKid (is_own keys issuers place) place)
    (place_named keys kid)
    (Err (fault.Range member.SignKid))

abbrev pub sign_value : List KeyValue → List (List ℕ) → Data → Result ℕ ConfFault
sign_value keys issuers value = and_then (text_of member.SignKid value) (place_of keys issuers)

abbrev pub sign_of : List KeyValue → List (List ℕ) → Data → Result ℕ ConfFault
sign_of keys issuers = required member.SignKid (sign_value keys issuers)
