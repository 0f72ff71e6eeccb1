-- A row of another hash is of another nonce.
use Rattle.std.proofs.Common.{◌≡◌, ℕ, ◌-◌, ◌&&◌, List, Some, ap, sym, ◌∙◌, get_or}
use Rattle.std.specs.Prelude.{slice_get}
use Rattle.std.proofs.lemmas.Option.{get_or_from_slice_get}
use Rattle.usp_nonce.specs.Nonces.{is_same_nonce}
use Rattle.usp_nonce.specs.Table.{Holding, is_above}
use Rattle.usp_nonce.specs.Hash.{hash_of}
use Rattle.usp_nonce.proofs.HashLemmas.{hashed_at, other_hash}
use Rattle.usp_nonce.proofs.table.is_held_at.Goals as goal

pub returns-then-hash_at-hash : goal.returns-then-hash_at-hash
returns-then-hash_at-hash c = λ row at. other_hash c.args.key.now c.args.moment row (λ same.
    let place = c.args.number - 1 in
    let told : Some c.hash_at.result ≡ Some (hash_of row.nonce) =
    sym c.hash_at.ensures ∙ ap (λ (l : List ℕ). slice_get l place) c.requires.indexed ∙ hashed_at c.args.rows.now place row at in
    let is : c.hash_at.result ≡ hash_of row.nonce = cc in
    c.if-hash_at-hash.true (is ∙ same ∙ sym c.hash.ensures))

pub returns : goal.returns
returns c = λ row at.
    let found = c.index-rows-number.result in
    let is : found ≡ row = c.index-rows-number.is ∙ get_or_from_slice_get c.args.rows.now (c.args.number - 1) row found at in
    c.is_held.ensures ∙ ap (λ (r : Holding). is_same_nonce c.args.key.now r.nonce && is_above c.args.moment r) is
