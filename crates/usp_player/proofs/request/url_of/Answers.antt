use Rattle.std.proofs.Common.{None}
use Rattle.usp_player.proofs.Urls.{no_text, url_given, url_refused}
use Rattle.usp_player.proofs.request.url_of.Goals as goal

pub returns-in-Ok-parse : goal.returns-in-Ok-parse
returns-in-Ok-parse c =
    url_given None c.args.text.now c.in-Ok.text.now _ c.in-Ok.ensures.cases c.in-Ok-parse.ensures

pub returns-in-Err-parse : goal.returns-in-Err-parse
returns-in-Err-parse c =
    url_refused None c.args.text.now c.in-Ok.text.now _ _ c.in-Ok.ensures.cases
    c.in-Err-parse.ensures c.url_fault.ensures

pub returns-in-Err : goal.returns-in-Err
returns-in-Err c = no_text None c.args.text.now c.in-Err.ensures.cases.0
