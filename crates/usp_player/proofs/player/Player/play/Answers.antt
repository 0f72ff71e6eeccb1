use Rattle.std.proofs.Common.{[]}
use Rattle.usp_player.proofs.Following.{began, began_with, behind_playlist, next_is, not_given, plays_halts, plays_no_list}
use Rattle.usp_player.specs.Playing as playing
use Rattle.usp_player.proofs.player.Player.play.Goals as goal

pub returns-in_err-url-clause-way : goal.returns-in_err-url-clause-way
returns-in_err-url-clause-way g c =
    plays_halts _ _ _ _ _ c.from_residual.result c.in_err-url.field-0.0 c.from_residual.ensures.1
    (not_given _ _ _ _ _ _ 0 [] playing.first c.in_err-url.field-0.0 (began _ _ _ _ c.requires.steps)
    c.in_err-url.ensures)

pub returns-in_err-reached-clause-way : goal.returns-in_err-reached-clause-way
returns-in_err-reached-clause-way g c =
    plays_halts _ _ _ _ _ c.from_residual-in_err-reached.result c.in_err-reached.field-0.0
    c.from_residual-in_err-reached.ensures.1
    (c.in_err-reached.ensures.way _ _ playing.first
    (began_with _ _ _ _ _ _ c.requires.steps c.requires.jar c.in_ok-url.ensures))

pub returns-in_err-list-clause-way : goal.returns-in_err-list-clause-way
returns-in_err-list-clause-way g c =
    plays_no_list _ _ _ _ _ _ _ _ c.bytes.result.now c.in_err-list.field-0.0 c.from_residual-in_err-list.result
    (c.in_ok-reached.ensures.way _ _ playing.first
    (began_with _ _ _ _ _ _ c.requires.steps c.requires.jar c.in_ok-url.ensures))
    c.bytes.ensures c.in_err-list.ensures c.from_residual-in_err-list.ensures.1

pub returns-clause-way : goal.returns-clause-way
returns-clause-way g c =
    c.play_segments.ensures.way _ _
    (next_is _ _ _ _ _ _ _
    (c.in_ok-reached.ensures.way _ _ playing.first
    (began_with _ _ _ _ _ _ c.requires.steps c.requires.jar c.in_ok-url.ensures))
    (behind_playlist _ _ _ _ c.bytes.result.now c.in_ok-list.list _ c.bytes.ensures c.in_ok-list.ensures
    c.rows.ensures))
