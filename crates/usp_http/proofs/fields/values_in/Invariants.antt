use Rattle.std.proofs.Common.{◌≡◌, ◌++◌, map, drop}
use Rattle.httparse.specs.Spans.{header_bytes}
use Rattle.usp_http.specs.Fields.{values_of}
use Rattle.usp_http.proofs.fields.values_in.Given as goal

-- those so far, and those of the fields behind
abbrev pub invariant-loop-span : goal.invariant-loop-span
invariant-loop-span l =
    l.values.items ++ values_of l.name (map (header_bytes l.bytes) (drop l.span-index l.spans))
    ≡ values_of l.name (map (header_bytes l.bytes) l.spans)
