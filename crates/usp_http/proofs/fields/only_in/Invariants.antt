use Rattle.std.proofs.Common.{◌≡◌, map, drop}
use Rattle.httparse.specs.Spans.{header_bytes}
use Rattle.usp_http.specs.Fields.{only, values_of}
use Rattle.usp_http.proofs.Hosts.{host_behind}
use Rattle.usp_http.proofs.fields.only_in.Given as goal

-- the only value, by the one found so far
abbrev pub invariant-loop-span : goal.invariant-loop-span
invariant-loop-span l =
    host_behind (values_of l.name (map (header_bytes l.bytes) (drop l.span-index l.spans))) l.found l.value
    ≡ only (values_of l.name (map (header_bytes l.bytes) l.spans))
