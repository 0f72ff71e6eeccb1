-- Each name stands once, beside one value, also with one claim changed.
use Rattle.std.proofs.Common.{◌≡◌, ℕ, suc, ◌<◌, ◌≤◌, false, List, [], ◌∷◌, ◌++◌, length, get_or, set, Option, Some, None, refl, sym, ◌∙◌, subst, arith, length-append, length-set}
use Rattle.std.specs.List.{zip}
use Rattle.std.specs.Str.{bytes_eq, IsUtf8}
use Rattle.std.proofs.lemmas.Slice.Zip.{length-zip}
use lib.Utf8.{encode}
use Rattle.usp_json.specs.declared.value.Json.{Json}
use Rattle.usp_json.specs.declared.value.Members.{Members}
use Rattle.usp_json.specs.declared.limits.TheConstants.{MAX_MEMBERS}
use Rattle.usp_json.specs.Entries.{entries, members_of, place_of, IsPaired}
use Rattle.usp_json.specs.Kept.{Keeps, KeepMembers, members, KeepsLimits}
use Rattle.usp_json.specs.Spells.{given, has_name, IsReading}
use Rattle.usp_json.proofs.GrowLaws.{apart_snoc}
use Rattle.usp_json.proofs.KeepLaws.{reading_keeps, set_keeps, push_keeps}
use Rattle.usp_claims.specs.Table.{name_of}
use Rattle.usp_claims.specs.Changes.{AreNamed, with_claim}
use Rattle.usp_claims.specs.declared.table.ClaimName.{ClaimName}
use Rattle.usp_claims.specs.declared.table.ClaimName.TheVariants.{Iss, Sub, Aud, Exp, Nbf, Iat, Jti, Version, Crit, Ip, Uc, Ets, Stt, Std}
use Rattle.usp_claims.proofs.Changed.{whole, none_at, present, absent}

pub keeps : (payload : List ℕ) (m : Members) → IsReading payload m → KeepsLimits m
keeps payload m r = reading_keeps payload m r

named_lists : (n : ℕ) (names : List (List ℕ)) (values : List Json) → KeepMembers given n names values → AreNamed (members_of names values)
named_lists _ _ _ (members n names values same u apart few k) = record { paired = same; apart = apart }

pub kept_named : (m : Members) → KeepsLimits m → AreNamed m
kept_named m k = rw k.is (named_lists given.levels k.names k.values k.kept)

pub named : (payload : List ℕ) (m : Members) → IsReading payload m → AreNamed m
named payload m r = kept_named m (reading_keeps payload m r)

-- what the members are with that value
pub data HasShape (name : ClaimName) (value : Json) (m : Members) : Type 0 where
  in_place : (place : ℕ) → with_claim name value m ≡ members_of m.names (set m.values place value) → HasShape name value m
  at_the_end : place_of (name_of name) m.names ≡ None → with_claim name value m ≡ members_of (m.names ++ name_of name ∷ []) (m.values ++ value ∷ []) → HasShape name value m

shape_by : (name : ClaimName) (value : Json) (m : Members) → IsPaired m → (o : Option ℕ) → place_of (name_of name) m.names ≡ o → HasShape name value m
shape_by name value m paired (Some place) h = in_place place (sym (present name value m (members_of m.names (set m.values place value)) place paired h refl refl))
shape_by name value m paired None h = at_the_end h (sym (absent name value m (members_of (m.names ++ name_of name ∷ []) (m.values ++ value ∷ [])) paired h refl refl))

pub shape : (name : ClaimName) (value : Json) (m : Members) → IsPaired m → HasShape name value m
shape name value m paired = shape_by name value m paired (place_of (name_of name) m.names) refl

pub has_none : (name : List ℕ) (names : List (List ℕ)) → ((k : ℕ) → k < length names → bytes_eq (get_or names k []) name ≡ false) → has_name name names ≡ false
has_none name [] miss = refl
has_none name (n ∷ names) miss =
    let is : bytes_eq n name ≡ false = miss 0 (omega arith) in
    rw is (has_none name names (λ k lt. miss (suc k) (omega arith)))

pub fresh : (name : ClaimName) (m : Members) → place_of (name_of name) m.names ≡ None → has_name (name_of name) m.names ≡ false
fresh name m h = has_none (name_of name) m.names (none_at (name_of name) m.names h)

pub still_named : (name : ClaimName) (value : Json) (m : Members) → AreNamed m → AreNamed (with_claim name value m)
still_named name value m n = elim (shape name value m n.paired) [
  | in_place place is ↦ rw is (record { paired = n.paired ∙ sym (length-set m.values place value); apart = n.apart })
  | at_the_end none is ↦
      rw is (record {
        paired = omega (arith, n.paired, length-append m.names (name_of name ∷ []), length-append m.values (value ∷ []));
        apart = apart_snoc given [] m.names (name_of name) n.apart (fresh name m none);
      })
]

pub utf8_name : (name : ClaimName) → IsUtf8 (name_of name)
unfolding encode
utf8_name Iss = (name_of Iss, (refl, refl))
utf8_name Sub = (name_of Sub, (refl, refl))
utf8_name Aud = (name_of Aud, (refl, refl))
utf8_name Exp = (name_of Exp, (refl, refl))
utf8_name Nbf = (name_of Nbf, (refl, refl))
utf8_name Iat = (name_of Iat, (refl, refl))
utf8_name Jti = (name_of Jti, (refl, refl))
utf8_name Version = (name_of Version, (refl, refl))
utf8_name Crit = (name_of Crit, (refl, refl))
utf8_name Ip = (name_of Ip, (refl, refl))
utf8_name Uc = (name_of Uc, (refl, refl))
utf8_name Ets = (name_of Ets, (refl, refl))
utf8_name Stt = (name_of Stt, (refl, refl))
utf8_name Std = (name_of Std, (refl, refl))

few_names : (names : List (List ℕ)) (values : List Json) → length names ≡ length values → length (zip names values) ≤ MAX_MEMBERS → length names ≤ MAX_MEMBERS
few_names names values same h = let n = length-zip names values in omega (arith, n, same, h)

kept_shape : (name : ClaimName) (value : Json) (m : Members) → AreNamed m → KeepsLimits (members_of m.names m.values) → Keeps given given.levels value → length (entries (with_claim name value m)) ≤ MAX_MEMBERS → HasShape name value m
    → KeepsLimits (with_claim name value m)
kept_shape name value m n k v few (in_place place is) = rw is (set_keeps m.names m.values place value k v)
kept_shape name value m n k v few (at_the_end none is) =
    let paired : length (m.names ++ name_of name ∷ []) ≡ length (m.values ++ value ∷ []) = omega (arith, n.paired, length-append m.names (name_of name ∷ []), length-append m.values (value ∷ [])) in
    let count = subst (λ (x : Members). length (entries x) ≤ MAX_MEMBERS) is few in
    let l = few_names (m.names ++ name_of name ∷ []) (m.values ++ value ∷ []) paired count in
    let room : length m.names < MAX_MEMBERS = omega (arith, l, length-append m.names (name_of name ∷ [])) in
    rw is (push_keeps m.names m.values (name_of name) value k v (utf8_name name) (fresh name m none) room)

pub still_kept : (name : ClaimName) (value : Json) (m : Members) → KeepsLimits m → Keeps given given.levels value → length (entries (with_claim name value m)) ≤ MAX_MEMBERS → KeepsLimits (with_claim name value m)
still_kept name value m k v few =
    let n = kept_named m k in
    kept_shape name value m n (subst (λ (x : Members). KeepsLimits x) (sym (whole m)) k) v few (shape name value m n.paired)
