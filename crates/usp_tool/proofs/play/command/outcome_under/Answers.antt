use Rattle.std.proofs.Common.{Err, subst}
use Rattle.usp_player.specs.Maps.{ReadsMap, map_of}
use Rattle.usp_tool.proofs.Playing.{has_no_map, has_played, plays_under}
use Rattle.usp_tool.specs.Play.Words.{words_value}
use Rattle.usp_tool.proofs.play.command.outcome_under.Goals as goal

pub returns-in-Err-Line-clause-has : goal.returns-in-Err-Line-clause-has
returns-in-Err-Line-clause-has g c =
    has_no_map (words_value c.args.words.now) c.args.text.now (g.L.Link.asks c.args.link.now) c.in-Err-Line.line c.map_refusal.result
    (subst (λ f. ReadsMap (Err f) (map_of c.args.text.now)) c.in-Err-Line.field-0-is c.in-Err-Line.ensures) c.map_refusal.ensures

pub returns-clause-has : goal.returns-clause-has
returns-clause-has g c =
    has_played (words_value c.args.words.now) c.args.text.now (g.L.Link.asks c.args.link.now) (g.L.Link.asks c.play-played.new.link)
    c.in-Ok.map c.play-played.result c.play_outcome.result c.in-Ok.ensures
    (rw (← c.as_bytes.ensures.value) c.play-played.ensures.way) c.play_outcome.ensures

pub returns-clause-untold : goal.returns-clause-untold
returns-clause-untold g c =
    plays_under (words_value c.args.words.now) c.args.text.now (g.L.Link.asks c.args.link.now) (g.L.Link.asks c.play-played.new.link)
    c.in-Ok.map c.play-played.result c.play_outcome.result c.in-Ok.ensures (rw (← c.as_bytes.ensures.value) c.play-played.ensures.way)
