use Rattle.std.proofs.Common.{subst, ◌≤◌, length}
use Rattle.usp_http.proofs.Heads.{few_fields}
use Rattle.usp_http.proofs.front.whole_of.Goals as goal

pub returns-in-Ok : goal.returns-in-Ok
returns-in-Ok c =
    let h = c.requires.found.0 in
    let at = c.requires.found.1 in
    record {
      whole = h;
      reads = at.reads;
      few = subst (λ n. length h.fields ≤ n) c.requires.room (few_fields c.args.bytes.now c.args.spans.now c.args.at.headers h.fields at.fields);
      parts = c.in-Ok.ensures h at;
      within = c.requires.within.section.len_fits;
    }
