use Rattle.std.proofs.Common.{◌≡◌, ℕ, Option, Some, None, sym, ◌∙◌, arith}
use Rattle.usp_base.specs.Numbers.{number_of}
use Rattle.usp_script.proofs.Numerals.{spelled, spelled_back, unspelled}
use Rattle.usp_script.proofs.reading.label.number_in.Goals as goal

pub returns-in_err-number : goal.returns-in_err-number
returns-in_err-number c =
    let none : number_of c.args.most c.args.text.now ≡ None = sym c.in_err-number.ensures in
    rw c.from_residual.ensures (λ n is one le. unspelled c.args.most c.args.text.now (omega arith) none n is le)

pub returns-then-number-eq0 : goal.returns-then-number-eq0
returns-then-number-eq0 c = λ n is one le.
    let there = spelled_back c.args.most c.args.text.now n (omega arith) is le in
    let both : ◌≡◌ {A = Option ℕ} (Some c.in_ok-number.number) (Some n) = c.in_ok-number.ensures ∙ there in
    let same : c.in_ok-number.number ≡ n = cc in
    omega arith

pub returns : goal.returns
returns c =
    let p = spelled c.args.most c.args.text.now c.in_ok-number.number (omega arith) (sym c.in_ok-number.ensures) in
    (p.0, omega arith, p.1)
