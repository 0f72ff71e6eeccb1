use Rattle.std.proofs.Common.{Some}
use Rattle.usp_player.proofs.Urls.{no_text, url_given, url_refused}
use Rattle.usp_player.proofs.request.resolve.Goals as goal

pub returns-in-Ok-join : goal.returns-in-Ok-join
returns-in-Ok-join c =
    url_given (Some c.args.base.now) c.args.text.now c.in-Ok.text.now _ c.in-Ok.ensures.cases c.in-Ok-join.ensures

pub returns-in-Err-join : goal.returns-in-Err-join
returns-in-Err-join c =
    url_refused (Some c.args.base.now) c.args.text.now c.in-Ok.text.now _ _ c.in-Ok.ensures.cases
    c.in-Err-join.ensures c.url_fault.ensures

pub returns-in-Err : goal.returns-in-Err
returns-in-Err c = no_text (Some c.args.base.now) c.args.text.now c.in-Err.ensures.cases.0
