-- The laws of what a nonce table gains.
use Rattle.std.specs.Prelude.{◌≡◌, refl, ℕ, ◌+◌, List, [], ◌∷◌, ◌++◌, length}
use Rattle.std.proofs.Common.{sym, ap, ◌∙◌, subst, add-zero, add_assoc, add_comm, one-add, length-append, append-nil, append_assoc}
use Rattle.std.proofs.lemmas.List.{map-append}
use Rattle.usp_nonce.specs.History.{Call, IsLegal}
use Rattle.usp_nonce.specs.Stands.{StandsFor}
use Rattle.usp_nonce.specs.Table.{Table}
use Rattle.usp_edge.specs.Calls.{ArePlaces, Placed, calls_of}
use Rattle.usp_edge.specs.Gains.{TableGains, table_left}

pub table_gains_none : (a : Table) → TableGains a a []
table_gains_none a = record {
  legal = λ history stands legal. subst (IsLegal a.room) (sym (append-nil history)) legal;
  stands = λ history stands legal. subst (StandsFor a) (sym (append-nil history)) stands;
  places = tt;
  count = sym (add-zero a.calls);
  room = refl;
  fallen = add-zero (table_left a);
}

places_both : (from : ℕ) (x y : List Placed) → ArePlaces from x → ArePlaces (from + length x) y
    → ArePlaces from (x ++ y)
places_both from [] y before after = subst (λ n. ArePlaces n y) (add-zero from) after
places_both from (of ∷ x) y (here, before) after = (
  here,
  places_both (from + 1) x y before
      (subst (λ n. ArePlaces n y)
      (ap (λ n. from + n) (sym (one-add (length x))) ∙ sym (add_assoc from 1 (length x))) after),
)

calls_both : (history : List Call) (x y : List Placed)
    → (history ++ calls_of x) ++ calls_of y ≡ history ++ calls_of (x ++ y)
calls_both history x y =
    append_assoc history (calls_of x) (calls_of y) ∙ ap (λ t. history ++ t) (sym (map-append (λ of. of.call) x y))

left_both : (a b c : ℕ) (x y : List Placed) → b + length x ≡ a → c + length y ≡ b → c + length (x ++ y) ≡ a
left_both a b c x y first second =
    ap (λ n. c + n) (length-append x y ∙ add_comm (length x) (length y))
    ∙ (sym (add_assoc c (length y) (length x)) ∙ (ap (λ n. n + length x) second ∙ first))

count_both : (a b c : ℕ) (x y : List Placed) → b ≡ a + length x → c ≡ b + length y → c ≡ a + length (x ++ y)
count_both a b c x y first second =
    second
    ∙ (ap (λ n. n + length y) first ∙ (add_assoc a (length x) (length y) ∙ ap (λ n. a + n) (sym (length-append x y))))

pub table_gains_both : (a b c : Table) (x y : List Placed) → TableGains a b x → TableGains b c y
    → TableGains a c (x ++ y)
table_gains_both a b c x y first second = record {
  legal = λ history stands legal.
      subst (IsLegal a.room) (calls_both history x y)
      (subst (λ room. IsLegal room ((history ++ calls_of x) ++ calls_of y)) first.room
      (second.legal (history ++ calls_of x) (first.stands history stands legal)
      (subst (λ room. IsLegal room (history ++ calls_of x)) (sym first.room) (first.legal history stands legal))));
  stands = λ history stands legal.
      subst (StandsFor c) (calls_both history x y)
      (second.stands (history ++ calls_of x) (first.stands history stands legal)
      (subst (λ room. IsLegal room (history ++ calls_of x)) (sym first.room) (first.legal history stands legal)));
  places = places_both a.calls x y first.places (subst (λ n. ArePlaces n y) first.count second.places);
  count = count_both a.calls b.calls c.calls x y first.count second.count;
  room = second.room ∙ first.room;
  fallen = left_both (table_left a) (table_left b) (table_left c) x y first.fallen second.fallen;
}

pub table_gains_left : (a b : Table) (x : List Placed) → TableGains a b x → table_left b + length x ≡ table_left a
table_gains_left a b x gains = gains.fallen
