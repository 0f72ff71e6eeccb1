use Rattle.usp_tool.proofs.Playing.{plays_for}
use Rattle.usp_tool.specs.Play.Words.{words_value}
use Rattle.usp_tool.proofs.play.command.outcome_for.Goals as goal

pub returns-clause-answered : goal.returns-clause-answered
returns-clause-answered g c = record {
  map = c.deref.result.now;
  loaded = rw c.deref.ensures.value c.in_ok-text.ensures.found;
  has = c.in_ok-outcome_under.ensures.has;
}

pub returns-in_err-outcome_under-clause-untold : goal.returns-in_err-outcome_under-clause-untold
returns-in_err-outcome_under-clause-untold g c = λ wants.
    plays_for (words_value c.args.words.now) (g.F.Files.files c.args.files.now) c.deref.result.now
    (g.L.Link.asks c.args.link.now) (g.L.Link.asks c.outcome_under.new.link)
    (rw c.deref.ensures.value c.in_ok-text.ensures.found) c.in_err-outcome_under.ensures.untold
