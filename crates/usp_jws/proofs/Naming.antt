-- Of keys whose names are apart, the first that agrees with a token is the one that sealed it.
use Rattle.std.proofs.Common.{◌≡◌, ℕ, zero, suc, ◌<◌, Bool, true, false, cond, ◌||◌, List, [], ◌∷◌, ◌++◌, length, Option, Some, None, refl, sym, ap, ◌∙◌, arith, ltb, lt-ltb}
use Rattle.std.specs.Prelude.{slice_get}
use Rattle.std.specs.List.{position, position_or_len}
use Rattle.std.specs.Str.{bytes_eq}
use Rattle.std.proofs.lemmas.List.Folds.{list_any-append, find_at}
use Rattle.std.proofs.lemmas.Slice.Eq.{bytes_eq-Decides}
use Rattle.usp_jws.specs.Keys.{KeyValue, agrees, has_kid, key_named, place_named, repeat_behind, first_repeat}
use Rattle.usp_jws.specs.Parts.{PartsValue, signed_of, text_of}
use Rattle.usp_jws.specs.Sealed.{sealed}
use Rattle.usp_jws.proofs.Tokens.{sealed_agrees, same_bytes}

no_repeat : (b : Bool) (n : ℕ) (later : Option ℕ) → cond b (Some n) later ≡ None → (b ≡ false) × (later ≡ None)
no_repeat true n later e = cc
no_repeat false n later e = (refl, e)

neither : (a b : Bool) → (a || b) ≡ false → (a ≡ false) × (b ≡ false)
neither true b e = cc
neither false b e = (refl, e)

other_way : (a b : List ℕ) → bytes_eq a b ≡ false → bytes_eq b a ≡ false
other_way a b e = by_test (bytes_eq b a) refl
  where
    by_test : (t : Bool) → bytes_eq b a ≡ t → t ≡ false
    by_test false is = refl
    by_test true is = let same = same_bytes a b (sym ((bytes_eq-Decides b a).0 is)) in cc

-- the place of the named key, behind keys of other names
record IsPlace (test : KeyValue → Bool) (earlier keys : List KeyValue) (kid : List ℕ) (i : ℕ) : Type 0 where
  fresh : has_kid earlier kid ≡ false
  inside : i < length keys
  first : position_or_len test keys ≡ i

passes_here : (test : KeyValue → Bool) (key : KeyValue) (keys : List KeyValue) → test key ≡ true → position_or_len test (key ∷ keys) ≡ 0
passes_here test key keys e = rw e refl

fails_here : (test : KeyValue → Bool) (key : KeyValue) (keys : List KeyValue) (i : ℕ) → test key ≡ false → position_or_len test keys ≡ i → position_or_len test (key ∷ keys) ≡ suc i
fails_here test key keys i e is = rw (e, is) (omega arith)

other_name : (kid signed signature : List ℕ) (key : KeyValue) → bytes_eq key.kid kid ≡ false → agrees (Some kid) signed signature key ≡ false
other_name kid signed signature key e = rw (other_way key.kid kid e) refl

named_place : (earlier keys : List KeyValue) (i : ℕ) (key : KeyValue) (signed signature : List ℕ) → repeat_behind earlier keys ≡ None → slice_get keys i ≡ Some key
    → agrees (Some key.kid) signed signature key ≡ true → IsPlace (agrees (Some key.kid) signed signature) earlier keys key.kid i
named_place earlier [] i key signed signature apart here agreed = cc
named_place earlier (k ∷ keys) zero key signed signature apart here agreed =
    let same : k ≡ key = cc in
    let fresh = no_repeat (has_kid earlier k.kid) (length earlier) (repeat_behind (earlier ++ k ∷ []) keys) apart in
    record {
      fresh = ap (λ (x : KeyValue). has_kid earlier x.kid) (sym same) ∙ fresh.0;
      inside = omega arith;
      first = passes_here (agrees (Some key.kid) signed signature) k keys (ap (agrees (Some key.kid) signed signature) same ∙ agreed);
    }
named_place earlier (k ∷ keys) (suc i) key signed signature apart here agreed =
    let later = (no_repeat (has_kid earlier k.kid) (length earlier) (repeat_behind (earlier ++ k ∷ []) keys) apart).1 in
    let p = named_place (earlier ++ k ∷ []) keys i key signed signature later here agreed in
    let both = neither (has_kid earlier key.kid) (has_kid (k ∷ []) key.kid) (sym (list_any-append (λ (x : KeyValue). bytes_eq x.kid key.kid) earlier (k ∷ [])) ∙ p.fresh) in
    let other = (neither (bytes_eq k.kid key.kid) false both.1).0 in
    record {
      fresh = both.0;
      inside = let inside = p.inside in omega arith;
      first = fails_here (agrees (Some key.kid) signed signature) k keys i (other_name key.kid signed signature k other) p.first;
    }

-- The ring's answer about a sealed token is the place of its key.
pub sealed_place : (keys : List KeyValue) (i : ℕ) (key : KeyValue) (payload : List ℕ) (parts : PartsValue) → first_repeat keys ≡ None → slice_get keys i ≡ Some key
    → text_of parts ≡ sealed key payload → position (agrees (Some key.kid) (signed_of parts) parts.signature) keys ≡ Some i
sealed_place keys i key payload parts apart here is =
    let p = named_place [] keys i key (signed_of parts) parts.signature apart here (sealed_agrees key payload parts is).1 in
    rw (p.first, lt-ltb i (length keys) p.inside) refl

place_of : (b : Bool) (found place : ℕ) → cond b (Some found) None ≡ Some place → place ≡ found
place_of true found place e = cc
place_of false found place e = cc

-- The key of a name stands at the place of that name.
pub named_at : (keys : List KeyValue) (kid : List ℕ) (place : ℕ) → place_named keys kid ≡ Some place → slice_get keys place ≡ key_named keys kid
named_at keys kid place e =
    let test : KeyValue → Bool = λ key. bytes_eq key.kid kid in
    let at = position_or_len test keys in
    ap (slice_get keys) (place_of (ltb at (length keys)) at place e) ∙ sym (find_at test keys)
