use Rattle.std.proofs.Common.{◌≤◌, length, sym, ◌∙◌}
use Rattle.usp_uri.specs.ComponentSlices.{components}
use Rattle.usp_uri.proofs.LengthLaws.{stays_short, is_some_length}
use Rattle.usp_uri.proofs.lengths.outgrows.Goals as goal

pub returns-else-is_empty : goal.returns-else-is_empty
returns-else-is_empty c =
    let some : 1 ≤ length c.args.slices.now.path.now = is_some_length c.args.slices.now.path.now (sym c.is_empty.ensures ∙ c.if-is_empty.false) in
    c.if-is_empty.false ∙ sym (stays_short (components c.args.slices.now) c.requires.path some c.requires.short)
