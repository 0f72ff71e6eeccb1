-- No row has the fault of a text that is no JSON.
use Rattle.std.proofs.Common.{◌≡◌, ℕ, Bool, true, false, List, Option, Some, None, Result, Ok, Err, if◌then◌else◌, nat_le, nat_lt, length, ◌&&◌, []}
use Rattle.std.specs.Option.{option_map_or, is_some}
use Rattle.std.specs.Prelude.{position}
use Rattle.std.specs.Str.{bytes_eq}
use Rattle.serde_json.specs.Data.{Data, Num, unsigned, negative, float, Items, no_items, item}
use Rattle.serde_json.specs.Find.{get, as_str, as_number, as_bool, as_null, as_array, as_object}
use Rattle.usp_jws.specs.Base64url.{b64u_bytes}
use Rattle.usp_jws.specs.Keys.{KeyValue, first_repeat, place_named}
use Rattle.usp_jws.specs.Letters.{is_identity, is_kid}
use Rattle.usp_uri.specs.Origin.{Origin, origin_of, origin_text}
use Rattle.usp_uri.specs.declared.fault.UriFault.{UriFault}
use Rattle.usp_package.specs.Name.{is_attr_name}
use Rattle.usp_issue.specs.Sites.{is_own}
use Rattle.usp_ext.specs.declared.kinds.TestKind.{TestKind}
use Rattle.usp_ext.specs.declared.kinds.TestKind.TheVariants as kind
use Rattle.usp_conf.specs.Answers.{and_then}
use Rattle.usp_conf.specs.Claims as claims
use Rattle.usp_conf.specs.Conf.{conf_of}
use Rattle.usp_conf.specs.Keys as keys
use Rattle.usp_conf.specs.Letters.{is_scheme}
use Rattle.usp_conf.specs.Lists.{each, has_length, rows_of, object_of, identities_of}
use Rattle.usp_conf.specs.Members.{name_of}
use Rattle.usp_conf.specs.Routes as routes
use Rattle.usp_conf.specs.Texts.{required, optional, text_of, tested, text_that, identity_of, edge_of, scheme_of, attribute_of, within, number_of, room_of, enforce_value, enforce_of}
use Rattle.usp_issue.specs.declared.limits.TheConstants.{MAX_ROUTES}
use Rattle.usp_jws.specs.declared.limits.TheConstants.{MAX_KEYS, MAX_SECRET, MIN_SECRET}
use Rattle.usp_claims.specs.declared.limits.TheConstants.{MAX_NUMBER}
use Rattle.usp_conf.specs.declared.limits.TheConstants.{MAX_EXTENSIONS, MAX_IDENTITIES}
use Rattle.usp_nonce.specs.declared.limits.TheConstants.{MAX_ROOM}
use Rattle.usp_conf.specs.declared.fault.ConfFault.{ConfFault}
use Rattle.usp_conf.specs.declared.fault.ConfFault.TheVariants as fault
use Rattle.usp_conf.specs.declared.member.Member.{Member}
use Rattle.usp_conf.specs.declared.member.Member.TheVariants as member

abbrev IsRow : ConfFault → Type 0
IsRow fault.Json = ⊥
IsRow found = Unit {0}

abbrev IsOfRow : {A : Type 0} → Result A ConfFault → Type 0
IsOfRow (Ok value) = Unit {0}
IsOfRow (Err found) = IsRow found

record NamesRow {A : Type 0} (result : Result A ConfFault) : Type 0 where
  row : IsOfRow result

right : {A : Type 0} (value : A) → NamesRow (Ok value)
right value = record { row = tt }

wrong : {A : Type 0} (found : ConfFault) → IsRow found → NamesRow {A = A} (Err found)
wrong found is = record { row = is }

bound : {A B : Type 0} (first : Result A ConfFault) (next : A → Result B ConfFault) → NamesRow first → ((value : A) → NamesRow (next value)) → NamesRow (and_then first next)
bound (Ok value) next one more = more value
bound (Err found) next one more = record { row = one.row }

chosen : {A B : Type 0} (there : Option A) (read : A → Result B ConfFault) (without : Result B ConfFault) → ((value : A) → NamesRow (read value)) → NamesRow without
    → NamesRow (option_map_or read there without)
chosen None read without one more = more
chosen (Some value) read without one more = one value

tried : {A : Type 0} (test : Bool) (hit miss : Result A ConfFault) → NamesRow hit → NamesRow miss → NamesRow (if test then hit else miss)
tried true hit miss one more = one
tried false hit miss one more = more

needs : {A : Type 0} (of : Member) (read : Data → Result A ConfFault) (fields : Data) → ((value : Data) → NamesRow (read value)) → NamesRow (required of read fields)
needs of read fields one = chosen (get (name_of of) fields) read (Err (fault.Missing of)) one (wrong (fault.Missing of) tt)

may_have : {A : Type 0} (of : Member) (without : A) (read : Data → Result A ConfFault) (fields : Data) → ((value : Data) → NamesRow (read value)) → NamesRow (optional of without read fields)
may_have of without read fields one = chosen (get (name_of of) fields) read (Ok without) one (right without)

text : (of : Member) (value : Data) → NamesRow (text_of of value)
text of value = chosen (as_str value) (λ text. Ok text) (Err (fault.Kind of)) (λ text. right text) (wrong (fault.Kind of) tt)

ranged : {A : Type 0} (of : Member) (passes : Bool) (value : A) → NamesRow (tested of passes value)
ranged of passes value = tried passes (Ok value) (Err (fault.Range of)) (right value) (wrong (fault.Range of) tt)

passing : (of : Member) (test : List ℕ → Bool) (value : Data) → NamesRow (text_that test of value)
passing of test value = bound (text_of of value) (λ text. tested of (test text) text) (text of value) (λ text. ranged of (test text) text)

inside : (of : Member) (least most : ℕ) (n : Num) → NamesRow (within of least most n)
inside of least most (unsigned n) = ranged of (nat_le least n && nat_le n most) n
inside of least most (negative z) = wrong (fault.Range of) tt
inside of least most (float x) = wrong (fault.Range of) tt

number : (of : Member) (least most : ℕ) (value : Data) → NamesRow (number_of of least most value)
number of least most value = chosen (as_number value) (within of least most) (Err (fault.Kind of)) (inside of least most) (wrong (fault.Kind of) tt)

all : {A : Type 0} (read : Data → Result A ConfFault) → ((value : Data) → NamesRow (read value)) → (values : Items) → NamesRow (each read values)
all read one no_items = record { row = tt }
all read one (item value values) = bound (read value) _ (one value) (λ first. bound (each read values) _ (all read one values) (λ others. record { row = tt }))

rows : {A : Type 0} (of : Member) (least most : ℕ) (read : Data → Result A ConfFault) (value : Data) → ((value : Data) → NamesRow (read value)) → NamesRow (rows_of of least most read value)
rows of least most read value one = chosen (as_array value) _ (Err (fault.Kind of))
    (λ items. tried (has_length least most items) (each read items) (Err (fault.Range of)) (all read one items) (wrong (fault.Range of) tt)) (wrong (fault.Kind of) tt)

object : {A : Type 0} (list : Member) (read : Data → Result A ConfFault) → ((value : Data) → NamesRow (read value)) → (value : Data) → NamesRow (object_of list read value)
object list read one value = chosen (as_object value) (λ members. read value) (Err (fault.Kind list)) (λ members. one value) (wrong (fault.Kind list) tt)

texts : (of : Member) (fields : Data) → NamesRow (identities_of of fields)
texts of fields = may_have of _ _ fields (λ value. rows of 0 MAX_IDENTITIES (identity_of of) value (passing of is_identity))

long_enough : (kid bytes : List ℕ) → NamesRow (keys.secret_of_length kid bytes)
long_enough kid bytes = tried (nat_lt (length bytes) MIN_SECRET) _ _ (wrong (fault.ShortKey kid) tt) (ranged member.Secret (nat_le (length bytes) MAX_SECRET) bytes)

secret : (kid : List ℕ) (value : Data) → NamesRow (keys.secret_value kid value)
secret kid value = bound (text_of member.Secret value) _ (text member.Secret value) (λ text. chosen (b64u_bytes text) (keys.secret_of_length kid) _ (long_enough kid) (wrong (fault.Range member.Secret) tt))

key : (fields : Data) → NamesRow (keys.key_in fields)
key fields = bound (keys.kid_of fields) _ (needs member.Kid _ fields (passing member.Kid is_kid)) (λ kid.
    bound (keys.issuer_of fields) _ (needs member.Issuer _ fields (passing member.Issuer is_identity)) (λ issuer.
    bound (keys.secret_of kid fields) _ (needs member.Secret (keys.secret_value kid) fields (secret kid)) (λ secret. record { row = tt })))

ring : (value : Data) → NamesRow (keys.keys_value value)
ring value = bound (rows_of member.Keys 1 MAX_KEYS (object_of member.Keys keys.key_in) value) keys.distinct_keys
    (rows member.Keys 1 MAX_KEYS _ value (object member.Keys keys.key_in key))
    (λ keys. tried (is_some (first_repeat keys)) _ _ (wrong (fault.Repeat member.Kid) tt) (right keys))

place : (all : List KeyValue) (issuers : List (List ℕ)) (kid : List ℕ) → NamesRow (keys.place_of all issuers kid)
place all issuers kid = chosen (place_named all kid) _ _
    (λ place. ranged member.SignKid (is_own all issuers place) place) (wrong (fault.Range member.SignKid) tt)

sign : (all : List KeyValue) (issuers : List (List ℕ)) (value : Data) → NamesRow (keys.sign_value all issuers value)
sign all issuers value = bound (text_of member.SignKid value) (keys.place_of all issuers) (text member.SignKid value) (place all issuers)

nothing : (value : Data) → NamesRow (claims.nothing_of value)
nothing value = chosen (as_null value) _ _ (λ null. record { row = tt }) (wrong (fault.Kind member.Setting) tt)

json_text : (value : Data) → NamesRow (claims.json_text_of value)
json_text value = bound (text_of member.Setting value) _ (text member.Setting value) (λ text. record { row = tt })

several : (value : Data) → NamesRow (claims.several_of value)
several value = chosen (as_array value) _ _
    (λ values. bound (claims.texts_of values) _ (bound (each claims.json_text_of values) _ (all claims.json_text_of json_text values) (λ texts. record { row = tt })) (λ texts. record { row = tt }))
    (wrong (fault.Kind member.Setting) tt)

setting : (test : TestKind) (value : Data) → NamesRow (claims.setting_value test value)
setting kind.Any value = nothing value
setting kind.Equals value = bound (text_of member.Setting value) _ (text member.Setting value) (λ text. record { row = tt })
setting kind.OneOf value = several value
setting kind.AtMost value = bound (number_of member.Setting 0 MAX_NUMBER value) _ (number member.Setting 0 MAX_NUMBER value) (λ most. record { row = tt })
setting kind.PathPrefix value = nothing value

test : (value : Data) → NamesRow (claims.kind_of value)
test value = bound (text_of member.Test value) claims.kind_value (text member.Test value)
    (λ name. chosen (claims.kind_named name) _ _ (λ kind. right kind) (wrong (fault.Range member.Test) tt))

extension : (fields : Data) → NamesRow (claims.extension_in fields)
extension fields = bound (claims.claim_of fields) _ (needs member.Claim _ fields (passing member.Claim claims.is_free)) (λ claim.
    bound (claims.test_of fields) _ (needs member.Test claims.kind_of fields test) (λ kind.
    bound (claims.setting_of kind fields) _ (needs member.Setting (claims.setting_value kind) fields (setting kind)) (λ told. record { row = tt })))

extensions : (value : Data) → NamesRow (claims.extensions_value value)
extensions value = bound (rows_of member.Extensions 0 MAX_EXTENSIONS (object_of member.Extensions claims.extension_in) value) claims.distinct_extensions
    (rows member.Extensions 0 MAX_EXTENSIONS _ value (object member.Extensions claims.extension_in extension))
    (λ listed. tried (claims.repeats_behind [] listed) _ _ (wrong (fault.Repeat member.Claim) tt) (right listed))

origin : (place : Result Origin UriFault) → NamesRow (routes.place_value place)
origin (Ok found) = record { row = tt }
origin (Err found) = wrong (fault.Range member.Authority) tt

authority : (scheme : List ℕ) (value : Data) → NamesRow (routes.authority_value scheme value)
authority scheme value = bound (text_of member.Authority value) _ (text member.Authority value) (λ text. origin (origin_of (origin_text scheme text)))

somewhere : (fields : Data) → NamesRow (routes.place_of fields)
somewhere fields = bound (routes.scheme_of fields) _ (needs member.Scheme _ fields (text member.Scheme))
    (λ scheme. needs member.Authority (routes.authority_value scheme) fields (authority scheme))

route : (fields : Data) → NamesRow (routes.route_in fields)
route fields = bound (routes.prefix_of fields) _ (needs member.Prefix _ fields (passing member.Prefix routes.is_prefix)) (λ prefix.
    bound (routes.place_of fields) _ (somewhere fields) (λ place.
    bound (keys.key_in fields) _ (key fields) (λ key.
    bound (routes.audience_of fields) _ (needs member.Audience _ fields (passing member.Audience is_identity)) (λ audience. record { row = tt }))))

enforced : (value : Data) → NamesRow (enforce_value value)
enforced value = chosen (as_bool value) _ _ (λ on. ranged member.Enforce on true) (wrong (fault.Kind member.Enforce) tt)

whole : (fields : Data) → NamesRow (conf_of fields)
whole fields =
    bound (edge_of fields) _ (needs member.Edge _ fields (passing member.Edge is_identity)) (λ edge.
    bound (scheme_of fields) _ (needs member.Scheme _ fields (passing member.Scheme is_scheme)) (λ scheme.
    bound (attribute_of fields) _ (may_have member.Attribute _ _ fields (passing member.Attribute is_attr_name)) (λ attribute.
    bound (keys.keys_of fields) _ (needs member.Keys keys.keys_value fields ring) (λ all.
    bound (identities_of member.Issuers fields) _ (texts member.Issuers fields) (λ issuers.
    bound (identities_of member.Audience fields) _ (texts member.Audience fields) (λ audience.
    bound (keys.sign_of all issuers fields) _ (needs member.SignKid (keys.sign_value all issuers) fields (sign all issuers)) (λ sign.
    bound (room_of fields) _ (may_have member.Room _ _ fields (number member.Room 1 MAX_ROOM)) (λ room.
    bound (claims.extensions_of fields) _ (may_have member.Extensions _ _ fields extensions) (λ extensions.
    bound (routes.routes_of fields) _ (may_have member.Routes _ _ fields
    (λ value. rows member.Routes 0 MAX_ROUTES _ value (object member.Routes routes.route_in route))) (λ routes.
    bound (enforce_of fields) _ (may_have member.Enforce _ _ fields enforced) (λ on. record { row = tt })))))))))))

json_is_none : {A : Type 0} (result : Result A ConfFault) → NamesRow result → result ≡ Err fault.Json → ⊥
json_is_none result names is = let none = rw is at names in none.row

-- a value of JSON has another fault, or is a configuration
pub never_json : (fields : Data) → conf_of fields ≡ Err fault.Json → ⊥
never_json fields is = json_is_none (conf_of fields) (whole fields) is
