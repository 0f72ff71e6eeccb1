-- How many fields have room in a head.
use Rattle.std.proofs.Common.{◌≡◌, ℕ, ◌+◌, ◌*◌, ◌<◌, ◌≤◌, List, [], ◌∷◌, ◌++◌, length, All, arith, length-append, ap, flat_map}
use Rattle.std.proofs.lemmas.List.Elements.{All-head, All-tail}
use Rattle.httparse.specs.Grammar.{Field, IsField, LineEnd, crlf, lf, print_blank, print_end, print_field, print_request, print_section, print_version, RequestHead}
use Rattle.httparse.specs.Spans.{RequestExceeds}

length_cons : (x : ℕ) (xs : List ℕ) → length (x ∷ xs) ≡ length xs + 1
length_cons x xs = omega arith

end_length : (e : LineEnd) → 1 ≤ length (print_end e)
end_length crlf = omega arith
end_length lf = omega arith

three : (name raw end : List ℕ) → 0 < length name → 1 ≤ length end → 3 ≤ length (name ++ 58 ∷ raw ++ end)
three name raw end some one = simp (length-append, length_cons) (omega (arith, some, one))

field_length : (f : Field) → IsField f → 3 ≤ length (print_field f)
field_length f is = three f.name f.raw (print_end f.end) is.name.0 (end_length f.end)

fields_length : (fields : List Field) → All IsField fields → 3 * length fields ≤ length (flat_map print_field fields)
fields_length [] all = omega arith
fields_length (f ∷ fields) all =
    omega (
      arith,
      field_length f (All-head IsField f fields all),
      fields_length fields (All-tail IsField f fields all),
      length-append (print_field f) (flat_map print_field fields),
    )

last_part : (a b c d e f : List ℕ) → length f ≤ length (a ++ b ++ 32 ∷ c ++ 32 ∷ d ++ e ++ f)
last_part a b c d e f = simp (length-append, length_cons) (omega arith)

request_length : (h : RequestHead) → length (print_section h.fields h.last) ≤ length (print_request h)
unfolding print_request
request_length h = last_part (print_blank h.blank) h.method h.target (print_version h.minor) (print_end h.line_end) (print_section h.fields h.last)

too_long : (bytes front rest head more : List ℕ) (n : ℕ) → length bytes ≤ 16384 → bytes ≡ front ++ rest → front ++ 10 ∷ [] ≡ head ++ more
    → 3 * n + 1 ≤ length head → 5461 < n → ⊥
too_long bytes front rest head more n short cut is fits many =
    omega (arith, ap length cut, length-append front rest, ap length is, length-append front (10 ∷ []), length-append head more)

-- A head's bytes and a line end hold no head of more fields than there is room for.
pub room_is_enough : (bytes : List ℕ) (room : ℕ) → length bytes ≤ 16384 → 5461 ≤ room → RequestExceeds room bytes → ⊥
room_is_enough bytes room short is (front, rest, cut, h, reads, more) =
    too_long bytes front rest (print_request h) [] (length h.fields) short cut reads.1
    (omega (arith, fields_length h.fields reads.0.fields, request_length h, length-append (flat_map print_field h.fields) (print_end h.last), end_length h.last))
    (omega (arith, is, more))

-- a head is not empty
pub request_some : (h : RequestHead) → 0 < length (print_request h)
request_some h = omega (arith, request_length h, length-append (flat_map print_field h.fields) (print_end h.last), end_length h.last)
