-- What a seat has in hand.
use Rattle.std.proofs.Common.{◌≡◌, ℕ, [], ◌∷◌, sym, ap, ◌∙◌}
use Rattle.std.specs.Prelude.{Option, Some}
use Rattle.atomic_table.specs.Table.{rest}
use Rattle.usp_nonce.specs.Table.{Table}
use Rattle.usp_shared.proofs.Keeps.{Hand}

-- a hand with one slot is that slot and nothing behind it
pub only_one : (hand : Hand) (table : Table) → hand ≡ (0, Some table) ∷ [] → hand ≡ (0, Some table) ∷ rest hand
only_one hand table e = e ∙ ap (λ (hs : Hand). (0, Some table) ∷ rest hs) (sym e)

-- the value that was taken out is the one in hand
pub taken_out : (hand : Hand) (r : Option Table) (a b : Table) → hand ≡ (0, r) ∷ rest hand → r ≡ Some a → hand ≡ (0, Some b) ∷ [] → a ≡ b
taken_out hand r a b e is held =
    let P : ℕ × Option Table = (0, r) in
    let Q : ℕ × Option Table = (0, Some b) in
    let pair : P ≡ Q = cc (e, held) in
    let both : r ≡ Some b = ap (λ (z : ℕ × Option Table). z.1) pair in
    cc (is, both)
