use Rattle.std.proofs.Common.{subst}
use Rattle.usp_jws.proofs.Tokens.{no_token}
use Rattle.usp_jws.specs.Compact.{Refuses}
use Rattle.usp_lab.proofs.running.tokens.copy_of.Goals as goal

pub unreachable-requires : goal.unreachable-requires
unreachable-requires c =
    no_token c.in-Err.field-0 c.args.token.now
    (subst (Refuses c.in-Err.field-0) c.text.ensures.text c.in-Err.ensures.refused) c.text.ensures.token
