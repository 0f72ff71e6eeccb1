-- Rows and their hashes.
use Rattle.std.proofs.Common.{◌≡◌, ℕ, zero, suc, ◌+◌, ◌-◌, ◌<◌, ◌≤◌, nat_lt, Bool, true, false, ◌&&◌, ◌||◌, List, [], ◌∷◌, Option, Some, None, length, map, get_or, refl, ap, sym, ◌∙◌, subst, arith, if◌then◌else◌}
use Rattle.std.specs.List.{list_any, filter}
use Rattle.std.specs.Prelude.{slice_get, All}
use Rattle.std.proofs.lemmas.Bool.{true≢false}
use Rattle.std.proofs.lemmas.Bool.Decides.{nat_tests}
use Rattle.std.proofs.lemmas.Slice.Eq.{bytes_eq-Decides}
use Rattle.std.proofs.lemmas.Option.{slice_get-get_or}
use Rattle.std.specs.Str.{bytes_eq}
use Rattle.usp_nonce.specs.Nonces.{Nonce, is_same_nonce}
use Rattle.usp_nonce.specs.Table.{Holding, is_above}
use Rattle.usp_nonce.specs.Hash.{hash_of, hashes_of}
use Rattle.usp_nonce.specs.Index.{OnChain}
use Rattle.usp_nonce.proofs.IndexLemmas.{chain_ends}

pub left : (a b : Bool) → a && b ≡ true → a ≡ true
left true b e = refl
left false b e = e

right : (a b : Bool) → a && b ≡ true → b ≡ true
right true b e = e
right false b e = absurd (true≢false (sym e))

same_parts : (j k u v : List ℕ) → j ≡ k → u ≡ v → hash_of (record { jti = j; uri = u }) ≡ hash_of (record { jti = k; uri = v })
same_parts j k u v p q = rw (p, q) refl

-- the same nonce has the same hash
pub same_hash : (a b : Nonce) → is_same_nonce a b ≡ true → hash_of a ≡ hash_of b
same_hash a b same =
    same_parts a.jti b.jti a.uri b.uri
    ((bytes_eq-Decides a.jti b.jti).0 (left (bytes_eq a.jti b.jti) (bytes_eq a.uri b.uri) same))
    ((bytes_eq-Decides a.uri b.uri).0 (right (bytes_eq a.jti b.jti) (bytes_eq a.uri b.uri) same))

-- a nonce of another hash is another nonce
pub other_hash : (key : Nonce) (moment : ℕ) (row : Holding) → (hash_of row.nonce ≡ hash_of key → ⊥) → false ≡ is_same_nonce key row.nonce && is_above moment row
other_hash key moment row differs = go (is_same_nonce key row.nonce) refl
  where
    go : (same : Bool) → is_same_nonce key row.nonce ≡ same → false ≡ same && is_above moment row
    go true e = absurd (differs (sym (same_hash key row.nonce e)))
    go false e = refl

pub hashed_at : (rows : List Holding) (r : ℕ) (row : Holding) → slice_get rows r ≡ Some row → slice_get (hashes_of rows) r ≡ Some (hash_of row.nonce)
hashed_at [] r row e = cc
hashed_at (x ∷ rows) zero row e = let same : x ≡ row = cc in ap (λ (z : Holding). Some (hash_of z.nonce)) same
hashed_at (x ∷ rows) (suc r) row e = hashed_at rows r row e

-- a place within a list has a row
pub some_at : (rows : List Holding) (k : ℕ) → k < length rows → (row : Holding) × (slice_get rows k ≡ Some row)
some_at [] k lt = absurd (omega arith)
some_at (x ∷ rows) zero lt = (x, refl)
some_at (x ∷ rows) (suc k) lt = some_at rows k (omega arith)

pub any_at : (test : Holding → Bool) (rows : List Holding) (r : ℕ) (row : Holding) → slice_get rows r ≡ Some row → test row ≡ true → list_any test rows ≡ true
any_at test [] r row e h = cc
any_at test (x ∷ rows) zero row e h = let same : x ≡ row = cc in ap (λ b. b || list_any test rows) (ap test same ∙ h)
any_at test (x ∷ rows) (suc r) row e h = later (test x) (any_at test rows r row e h)
  where
    later : (b : Bool) → list_any test rows ≡ true → b || list_any test rows ≡ true
    later true e = refl
    later false e = e

none_with : (test : Holding → Bool) (x : Holding) (rows : List Holding) (b : Bool) → test x ≡ b → (test x ≡ true → ⊥) → list_any test rows ≡ false → b || list_any test rows ≡ false
none_with test x rows true e never rest = absurd (never e)
none_with test x rows false e never rest = rest

pub any_none : (test : Holding → Bool) (rows : List Holding) → ((r : ℕ) (row : Holding) → slice_get rows r ≡ Some row → test row ≡ true → ⊥) → list_any test rows ≡ false
any_none test [] none = refl
any_none test (x ∷ rows) none = none_with test x rows (test x) refl (none 0 x refl) (any_none test rows (λ r row e h. none (suc r) row e h))
