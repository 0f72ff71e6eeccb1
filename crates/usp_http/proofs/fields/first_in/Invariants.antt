use Rattle.std.proofs.Common.{◌≡◌, map, drop}
use Rattle.httparse.specs.Spans.{header_bytes}
use Rattle.usp_http.specs.Fields.{first_of, values_of}
use Rattle.usp_http.proofs.fields.first_in.Given as goal

-- no field so far has the name
abbrev pub invariant-loop-span : goal.invariant-loop-span
invariant-loop-span l =
    first_of (values_of l.name (map (header_bytes l.bytes) (drop l.span-index l.spans)))
    ≡ first_of (values_of l.name (map (header_bytes l.bytes) l.spans))
