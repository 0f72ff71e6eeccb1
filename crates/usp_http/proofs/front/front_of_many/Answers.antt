use Rattle.std.proofs.Common.{ap, Err, rules}
use Rattle.usp_http.proofs.Rooms.{room_is_enough}
use Rattle.usp_http.proofs.front.front_of_many.Goals as goal

pub returns-in-Err : goal.returns-in-Err
returns-in-Err c =
    c.in-Err.ensures.invalid (λ is. room_is_enough c.args.bytes.now _ c.requires.short (search rules) (c.in-Err.ensures.too_many (ap Err is)))
