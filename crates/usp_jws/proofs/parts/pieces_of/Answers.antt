use Rattle.std.proofs.Common.{◌≡◌, ◌∷◌, ◌++◌, arith, refl}
use Rattle.usp_jws.specs.Compact.{dots}
use Rattle.usp_jws.proofs.Dots.{none_of, three_dots, two_dots}
use Rattle.usp_jws.proofs.parts.pieces_of.Goals as goal

pub returns-then-is_some-clause-refused : goal.returns-then-is_some-clause-refused
returns-then-is_some-clause-refused c = (
  omega arith,
  three_dots c.cut_at_dot-3.result (λ cut. cut.0.now) (λ cut. cut.1.now) c.args.text.now c.in-Some.header.now c.in-Some.rest.now c.in-Some-cut_at_dot.payload.now c.in-Some-cut_at_dot.signature.now
      c.in-Some.ensures.0 c.in-Some-cut_at_dot.ensures.0 c.if-is_some.ensures c.cut_at_dot-3.ensures,
)

pub returns-clause-ok : goal.returns-clause-ok
returns-clause-ok c =
    let last = none_of c.cut_at_dot-3.result _ (λ cut. (c.in-Some-cut_at_dot.signature.now ≡ cut.0.now ++ 46 ∷ cut.1.now) × (dots cut.0.now ≡ 0)) c.if-is_some.ensures c.cut_at_dot-3.ensures in
    record {
      short = omega arith;
      whole = rw (c.in-Some.ensures.0, c.in-Some-cut_at_dot.ensures.0) refl;
      two = two_dots _ _ _ _ _ c.in-Some.ensures.0 c.in-Some.ensures.1 c.in-Some-cut_at_dot.ensures.0 c.in-Some-cut_at_dot.ensures.1 last;
    }
