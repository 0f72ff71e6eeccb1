use Rattle.std.proofs.Common.{rules, drop, take}
use Rattle.usp_http.proofs.Buffers.{count_read, filled}
use Rattle.usp_http.proofs.reader.HeadReader.fill.Goals as goal

pub returns-in-Ok-clause-taken : goal.returns-in-Ok-clause-taken
returns-in-Ok-clause-taken g c = (
  take c.in-Ok.count (drop c.self.inside.len c.read_behind.new.bytes),
  count_read c.self.inside.len c.in-Ok.count c.read_behind.new.bytes c.in-Ok.ensures.within,
  filled c.self.inside.bytes.len c.self.inside.len c.self.inside.start c.in-Ok.count c.self.inside.bytes.items c.deref_mut.result.now c.move_to_front.new.bytes c.deref_mut-2.result.now c.read_behind.new.bytes c.args.self.now.held
      (search rules) c.deref_mut.ensures.value c.move_to_front.ensures.len c.move_to_front.ensures.moved c.deref_mut-2.ensures.value c.read_behind.ensures.len c.read_behind.ensures.kept (search rules),
  c.in-Ok.ensures.taken,
)
