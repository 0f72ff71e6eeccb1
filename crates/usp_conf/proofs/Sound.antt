-- What every configuration keeps: the name of its attribute, and the names of its keys.
use Rattle.std.proofs.Common.{◌≡◌, ℕ, Bool, true, false, List, [], ◌∷◌, Option, Some, None, Result, Ok, Err, if◌then◌else◌, IfOk, codes, refl, sym, ap, ◌∙◌, arith}
use Rattle.std.specs.Prelude.{position}
use Rattle.std.specs.Option.{option_map_or, is_some}
use Rattle.std.specs.List.{find, All, AllByRecursion}
use Rattle.std.specs.Str.{bytes_eq}
use Rattle.std.proofs.lemmas.List.Elements.{All-from_recursion}
use Rattle.serde_json.specs.Data.{Data, Items, no_items, item}
use Rattle.serde_json.specs.Find.{get, as_str, as_array, as_object}
use Rattle.std.specs.Option.{option_or}
use Rattle.std.proofs.lemmas.List.Folds.{find-append}
use Rattle.std.proofs.lemmas.Option.{none-some}
use Rattle.usp_base.proofs.Facts.{same_some}
use Rattle.usp_jws.specs.Keys.{KeyValue, first_repeat, key_named}
use Rattle.usp_jws.specs.Letters.{is_kid}
use Rattle.usp_package.specs.Name.{is_attr_name}
use Rattle.usp_conf.specs.Answers.{and_then}
use Rattle.usp_conf.specs.Claims as claims
use Rattle.usp_conf.specs.Conf.{conf_of}
use Rattle.usp_conf.specs.Keys as keys
use Rattle.usp_conf.specs.Lists.{each, has_length, rows_of, object_of, identities_of}
use Rattle.usp_conf.specs.Members.{name_of}
use Rattle.usp_conf.specs.Readings.{Configures}
use Rattle.usp_conf.specs.Routes as routes
use Rattle.usp_conf.specs.Texts.{required, optional, text_of, tested, text_that, edge_of, scheme_of, attribute_of, room_of, enforce_of}
use Rattle.usp_conf.specs.Values.{ConfValue}
use Rattle.usp_jws.specs.declared.limits.TheConstants.{MAX_KEYS}
use Rattle.usp_conf.specs.declared.fault.ConfFault.{ConfFault}
use Rattle.usp_conf.specs.declared.fault.ConfFault.TheVariants as fault
use Rattle.usp_conf.specs.declared.member.Member.{Member}
use Rattle.usp_conf.specs.declared.member.Member.TheVariants as member

-- what is read keeps the fact
record Keeps {A : Type 0} (P : A → Type 0) (result : Result A ConfFault) : Type 0 where
  kept : IfOk result P

record IsNamed (key : KeyValue) : Type 0 where
  kid : is_kid key.kid ≡ true

record AreNamed (keys : List KeyValue) : Type 0 where
  each : AllByRecursion IsNamed keys

record AreKeys (keys : List KeyValue) : Type 0 where
  named : AreNamed keys
  apart : first_repeat keys ≡ None

record IsAKid (kid : List ℕ) : Type 0 where
  is : is_kid kid ≡ true

record IsAttribute (name : List ℕ) : Type 0 where
  lettered : is_attr_name name ≡ true

record IsSound (value : ConfValue) : Type 0 where
  attribute : IsAttribute value.site.profile.attribute
  keys : AreKeys value.site.profile.ring

record Anything {A : Type 0} (value : A) : Type 0 where
  nothing : Unit {0}

anything : {A : Type 0} (result : Result A ConfFault) → Keeps Anything result
anything (Ok value) = record { kept = record { nothing = tt } }
anything (Err found) = record { kept = tt }

right : {A : Type 0} (P : A → Type 0) (value : A) → P value → Keeps P (Ok value)
right P value is = record { kept = is }

wrong : {A : Type 0} (P : A → Type 0) (found : ConfFault) → Keeps P (Err found)
wrong P found = record { kept = tt }

bound : {A B : Type 0} (P : A → Type 0) (Q : B → Type 0) (first : Result A ConfFault) (next : A → Result B ConfFault)
    → Keeps P first → ((value : A) → P value → Keeps Q (next value)) → Keeps Q (and_then first next)
bound P Q (Ok value) next one more = more value one.kept
bound P Q (Err found) next one more = record { kept = tt }

chosen : {A B : Type 0} (P : B → Type 0) (there : Option A) (read : A → Result B ConfFault) (without : Result B ConfFault)
    → ((value : A) → Keeps P (read value)) → Keeps P without → Keeps P (option_map_or read there without)
chosen P None read without one more = more
chosen P (Some value) read without one more = one value

if_passed : (P : List ℕ → Type 0) (of : Member) (test : List ℕ → Bool) (text : List ℕ) (b : Bool) → test text ≡ b
    → ((text : List ℕ) → test text ≡ true → P text) → Keeps P (tested of b text)
if_passed P of test text true is means = right P text (means text is)
if_passed P of test text false is means = wrong P (fault.Range of)

passing : (P : List ℕ → Type 0) (of : Member) (test : List ℕ → Bool) (value : Data)
    → ((text : List ℕ) → test text ≡ true → P text) → Keeps P (text_that test of value)
passing P of test value means = bound Anything P (text_of of value) (λ text. tested of (test text) text)
    (anything (text_of of value)) (λ text _. if_passed P of test text (test text) refl means)

kid : (fields : Data) → Keeps IsAKid (keys.kid_of fields)
kid fields = chosen IsAKid (get (name_of member.Kid) fields) (text_that is_kid member.Kid) (Err (fault.Missing member.Kid))
    (λ value. passing IsAKid member.Kid is_kid value (λ text is. record { is = is })) (wrong IsAKid (fault.Missing member.Kid))

key : (fields : Data) → Keeps IsNamed (keys.key_in fields)
key fields = bound IsAKid IsNamed (keys.kid_of fields) _ (kid fields) (λ kid is.
    bound Anything IsNamed (keys.issuer_of fields) _ (anything (keys.issuer_of fields)) (λ issuer _.
    bound Anything IsNamed (keys.secret_of kid fields) _ (anything (keys.secret_of kid fields)) (λ secret _.
    right IsNamed (keys.key kid issuer secret) (record { kid = is.is }))))

object : (value : Data) → Keeps IsNamed (object_of member.Keys keys.key_in value)
object value = chosen IsNamed (as_object value) (λ members. keys.key_in value) (Err (fault.Kind member.Keys))
    (λ members. key value) (wrong IsNamed (fault.Kind member.Keys))

all : (values : Items) → Keeps AreNamed (each (object_of member.Keys keys.key_in) values)
all no_items = right AreNamed [] (record { each = tt })
all (item value values) = bound IsNamed AreNamed (object_of member.Keys keys.key_in value) _ (object value) (λ first is.
    bound AreNamed AreNamed (each (object_of member.Keys keys.key_in) values) _ (all values) (λ others are.
    right AreNamed (first ∷ others) (record { each = (is, are.each) })))

sized : (b : Bool) (values : Items) → Keeps AreNamed (if b then each (object_of member.Keys keys.key_in) values else Err (fault.Range member.Keys))
sized true values = all values
sized false values = wrong AreNamed (fault.Range member.Keys)

listed : (value : Data) → Keeps AreNamed (rows_of member.Keys 1 MAX_KEYS (object_of member.Keys keys.key_in) value)
listed value = chosen AreNamed (as_array value) _ (Err (fault.Kind member.Keys))
    (λ values. sized (has_length 1 MAX_KEYS values) values) (wrong AreNamed (fault.Kind member.Keys))

no_repeat : (keys : List KeyValue) (o : Option ℕ) → first_repeat keys ≡ o → AreNamed keys
    → Keeps AreKeys (if is_some o then Err (fault.Repeat member.Kid) else Ok keys)
no_repeat keys None is named = right AreKeys keys (record { named = named; apart = is })
no_repeat keys (Some place) is named = wrong AreKeys (fault.Repeat member.Kid)

ring : (value : Data) → Keeps AreKeys (keys.keys_value value)
ring value = bound AreNamed AreKeys (rows_of member.Keys 1 MAX_KEYS (object_of member.Keys keys.key_in) value) keys.distinct_keys
    (listed value) (λ ring named. no_repeat ring (first_repeat ring) refl named)

all_keys : (fields : Data) → Keeps AreKeys (keys.keys_of fields)
all_keys fields = chosen AreKeys (get (name_of member.Keys) fields) keys.keys_value (Err (fault.Missing member.Keys)) ring
    (wrong AreKeys (fault.Missing member.Keys))

name : (fields : Data) → Keeps IsAttribute (attribute_of fields)
name fields = chosen IsAttribute (get (name_of member.Attribute) fields) (text_that is_attr_name member.Attribute) (Ok (codes "URISigningPackage"))
    (λ value. passing IsAttribute member.Attribute is_attr_name value (λ text is. record { lettered = is }))
    (right IsAttribute (codes "URISigningPackage") (record { lettered = refl }))

whole : (fields : Data) → Keeps IsSound (conf_of fields)
whole fields =
    bound Anything IsSound (edge_of fields) _ (anything (edge_of fields)) (λ edge _.
    bound Anything IsSound (scheme_of fields) _ (anything (scheme_of fields)) (λ scheme _.
    bound IsAttribute IsSound (attribute_of fields) _ (name fields) (λ attribute is.
    bound AreKeys IsSound (keys.keys_of fields) _ (all_keys fields) (λ ring are.
    bound Anything IsSound (identities_of member.Issuers fields) _ (anything (identities_of member.Issuers fields)) (λ issuers _.
    bound Anything IsSound (identities_of member.Audience fields) _ (anything (identities_of member.Audience fields)) (λ audience _.
    bound Anything IsSound (keys.sign_of ring issuers fields) _ (anything (keys.sign_of ring issuers fields)) (λ sign _.
    bound Anything IsSound (room_of fields) _ (anything (room_of fields)) (λ room _.
    bound Anything IsSound (claims.extensions_of fields) _ (anything (claims.extensions_of fields)) (λ extensions _.
    bound Anything IsSound (routes.routes_of fields) _ (anything (routes.routes_of fields)) (λ routes _.
    bound Anything IsSound (enforce_of fields) _ (anything (enforce_of fields)) (λ on _.
    record { kept = record { attribute = is; keys = are } })))))))))))

of_ok : (result : Result ConfValue ConfFault) (value : ConfValue) → Keeps IsSound result → result ≡ Ok value → IsSound value
of_ok result value keeps is = let ok = rw is at keeps in ok.kept

sound : (text : List ℕ) (value : ConfValue) → Configures text value → IsSound value
sound text value is = of_ok (conf_of is.json) value (whole is.json) is.defined

pub attribute : (text : List ℕ) (value : ConfValue) → Configures text value → is_attr_name value.site.profile.attribute ≡ true
attribute text value is = (sound text value is).attribute.lettered

pub apart : (text : List ℕ) (value : ConfValue) → Configures text value → first_repeat value.site.profile.ring ≡ None
apart text value is = (sound text value is).keys.apart

of_each : (keys : List KeyValue) → AllByRecursion IsNamed keys → AllByRecursion (λ key. is_kid key.kid ≡ true) keys
of_each [] are = tt
of_each (key ∷ keys) are = (are.0.kid, of_each keys are.1)

pub named : (text : List ℕ) (value : ConfValue) → Configures text value → All (λ key. is_kid key.kid ≡ true) value.site.profile.ring
named text value is = All-from_recursion (λ key. is_kid key.kid ≡ true) value.site.profile.ring
    (of_each value.site.profile.ring (sound text value is).keys.named.each)

first_of : (p : KeyValue → Bool) (key : KeyValue) (b : Bool) → p key ≡ b → find p (key ∷ []) ≡ (if b then Some key else None)
first_of p key true is = rw is refl
first_of p key false is = rw is refl

either : (b : Bool) (first key : KeyValue) (rest : Option KeyValue) → option_or (if b then Some first else None) rest ≡ Some key
    → IsNamed first → (rest ≡ Some key → IsNamed key) → IsNamed key
either true first key rest is one more = rw (sym (same_some first key is)) one
either false first key rest is one more = more is

named_first : (p : KeyValue → Bool) (keys : List KeyValue) (key : KeyValue) → AllByRecursion IsNamed keys → find p keys ≡ Some key → IsNamed key
named_first p [] key are is = absurd (none-some key is)
named_first p (first ∷ keys) key are is =
    either (p first) first key (find p keys)
    (sym (ap (λ o. option_or o (find p keys)) (first_of p first (p first) refl)) ∙ sym (find-append p (first ∷ []) keys) ∙ is)
    are.0 (λ later. named_first p keys key are.1 later)

pub found : (text kid : List ℕ) (value : ConfValue) (key : KeyValue) → Configures text value
    → key_named value.site.profile.ring kid ≡ Some key → is_kid key.kid ≡ true
found text kid value key is at =
    (named_first (λ key. bytes_eq key.kid kid) value.site.profile.ring key (sound text value is).keys.named.each at).kid
