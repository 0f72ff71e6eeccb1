-- What stands at the front of bytes.
use Rattle.std.proofs.Common.{◌≡◌, ap, subst, ℕ, ◌≤◌, List, length, take, arith}
use Rattle.std.proofs.lemmas.List.{length-map, length-take}
use Rattle.httparse.specs.Grammar.{Field}
use Rattle.httparse.specs.Spans.{AreFieldsAt, header_bytes, name_and_value}
use Rattle.httparse.specs.declared.spans.HeaderSpan.{HeaderSpan}
use Rattle.usp_http.specs.Fronts.{IsFront}
use Rattle.usp_http.specs.declared.front.Front.{Front}

pub front_same : (a b : List ℕ) (front : Front) → a ≡ b → IsFront a front → IsFront b front
front_same a b front same is = subst (λ bytes. IsFront bytes front) same is

-- no more fields were found than there is room for
pub few_fields : (bytes : List ℕ) (spans : List HeaderSpan) (count : ℕ) (fields : List Field)
    → AreFieldsAt bytes spans count fields → length fields ≤ length spans
few_fields bytes spans count fields are =
    omega (arith, ap length are, length-map (take count spans) (header_bytes bytes), length-map fields name_and_value, length-take count spans)
