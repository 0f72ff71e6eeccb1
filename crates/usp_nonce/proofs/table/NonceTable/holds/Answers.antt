use Rattle.std.proofs.Common.{◌≡◌, ◌<◌, ◌≤◌, ◌+◌, ◌-◌, ◌∙◌, ◌&&◌, ℕ, List, true, false, Some, length, get_or, refl, ap, sym, subst, arith}
use Rattle.std.specs.Prelude.{slice_get}
use Rattle.std.specs.List.{list_any}
use Rattle.std.proofs.lemmas.List.{length-map}
use Rattle.std.proofs.lemmas.Bool.{true≢false}
use Rattle.std.proofs.lemmas.Option.{slice_get-get_or}
use Rattle.usp_nonce.specs.Nonces.{is_same_nonce}
use Rattle.usp_nonce.specs.Table.{Holding, Table}
use Rattle.usp_nonce.specs.Hash.{hash_of, hashes_of}
use Rattle.usp_nonce.specs.Index.{OnChain}
use Rattle.usp_nonce.proofs.IndexLemmas.{chain_ends}
use Rattle.usp_nonce.proofs.HashLemmas.{left, same_hash, hashed_at, any_at, any_none, some_at}
use Rattle.usp_nonce.proofs.CountedLemmas.{any_held}
use Rattle.usp_nonce.specs.Table.{is_above}
use Rattle.usp_nonce.proofs.table.NonceTable.holds.Goals as goal

pub loop-number-init : goal.loop-number-init
loop-number-init c =
    let rows = c.self.inside.rows.items in
    record {
      within = omega (arith, c.first-number.ensures.within, ap length c.self.invariant.indexed, length-map rows (λ (row : Holding). hash_of row.nonce));
      ahead = λ r row e same. c.first-number.ensures.listed r
          (ap (λ l. slice_get l r) c.self.invariant.indexed ∙ hashed_at rows r row e ∙ ap (λ h. Some h) (sym (same_hash c.args.key.now row.nonce (left _ (is_above c.self.inside.moment row) same)) ∙ sym c.hash.ensures));
    }

pub returns-then-is_held_at : goal.returns-then-is_held_at
returns-then-is_held_at c =
    let rows = c.self.inside.rows.items in
    let moment = c.self.inside.moment in
    let k = c.loop-number.number - 1 in
    let row = some_at rows k (omega (arith, c.loop-number.invariant.within, c.loop-number-test.true)) in
    let told = c.is_held_at.ensures row.0 (ap (λ (l : List Holding). slice_get l k) c.deref.ensures.value ∙ row.1) in
    let hit = any_at (λ (r : Holding). is_same_nonce c.args.key.now r.nonce && is_above moment r) rows k row.0 row.1 (sym told ∙ c.if-is_held_at.true) in
    sym (ap (λ (t : Table). list_any (λ (r : Holding). is_same_nonce c.args.key.now r.nonce) t.rows) (sym c.self.view_is)
    ∙ any_held (λ (r : Holding). is_same_nonce c.args.key.now r.nonce) moment rows ∙ hit)

pub behind-number-requires-clause-within : goal.behind-number-requires-clause-within
behind-number-requires-clause-within c =
    omega (arith, c.loop-number.invariant.within, ap length c.self.invariant.indexed, length-map c.self.inside.rows.items (λ (row : Holding). hash_of row.nonce))

pub loop-number-preserved : goal.loop-number-preserved
loop-number-preserved c =
    let k = c.loop-number.number - 1 in
    record {
      within = omega (arith, c.behind-number.ensures.falls, c.loop-number.invariant.within);
      ahead = λ r row e same. c.behind-number.ensures.goes r (c.loop-number.invariant.ahead r row e same)
          (λ hit.
          let place : k ≡ r = omega (arith, hit) in
          let told = c.is_held_at.ensures row (ap (λ (l : List Holding). slice_get l k) c.deref.ensures.value ∙ ap (slice_get c.self.inside.rows.items) place ∙ e) in
          true≢false (sym same ∙ sym told ∙ c.if-is_held_at.false));
    }

pub returns : goal.returns
returns c =
    let rows = c.self.inside.rows.items in
    let none = any_none (λ (r : Holding). is_same_nonce c.args.key.now r.nonce && is_above c.self.inside.moment r) rows
    (λ r row e same. chain_ends c.self.inside.index.next r (subst (λ n. OnChain c.self.inside.index.next n r) c.loop-number-test.false (c.loop-number.invariant.ahead r row e same))) in
    sym (ap (λ (t : Table). list_any (λ (r : Holding). is_same_nonce c.args.key.now r.nonce) t.rows) (sym c.self.view_is)
    ∙ any_held (λ (r : Holding). is_same_nonce c.args.key.now r.nonce) c.self.inside.moment rows ∙ none)
