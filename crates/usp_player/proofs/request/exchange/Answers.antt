use Rattle.usp_player.proofs.Exchanging.{no_reply}
use Rattle.usp_player.proofs.request.exchange.Goals as goal

pub returns-in-Err-BadReply-clause-told : goal.returns-in-Err-BadReply-clause-told
returns-in-Err-BadReply-clause-told g c =
    no_reply _ _ _ _ c.in-Ok.bytes.items c.deref.result.now _ c.in-Ok.ensures.told c.deref.ensures.value
    c.in-Err-BadReply.ensures c.in-Err-BadReply.field-0-is
