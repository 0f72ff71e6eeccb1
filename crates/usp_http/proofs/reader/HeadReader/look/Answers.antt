use Rattle.std.proofs.Common.{rules, ◌-◌, drop, length, take}
use Rattle.usp_http.proofs.Buffers.{held_part}
use Rattle.usp_http.proofs.Heads.{front_same}
use Rattle.usp_http.proofs.reader.HeadReader.look.Goals as goal

pub returns-clause-front : goal.returns-clause-front
returns-clause-front c =
    let all = c.deref.result.now in
    let start = c.self.inside.start in
    front_same (take c.self.inside.len (take (length all - start) (drop start all))) c.args.self.now.held c.front_of.result
    (held_part c.self.inside.len start all c.self.inside.bytes.items c.args.self.now.held c.deref.ensures.value (search rules)) c.front_of.ensures
