use Rattle.std.proofs.Common.{◌+◌, ◌∙◌, drop}
use Rattle.usp_player.proofs.Following.{later_more, next_is, not_given, plays_halts, toward_given, toward_segment}
use Rattle.usp_player.specs.Playing as playing
use Rattle.usp_player.specs.Playing.{uris_of}
use Rattle.usp_player.proofs.player.Player.play_segments.Goals as goal

pub returns-in_err-url-clause-way : goal.returns-in_err-url-clause-way
returns-in_err-url-clause-way g c = λ start told way.
    plays_halts _ _ _ _ _ c.from_residual.result c.in_err-url.field-0.0 c.from_residual.ensures.1
    (not_given _ start told _ _ _ 0 _
    (playing.segment c.args.base.now (uris_of (drop (c.loop-segment.segment-index + 1) c.args.segments.now)))
    c.in_err-url.field-0.0
    (next_is _ _ _ _ _ _ _ (c.loop-segment.invariant.way start told way)
    (toward_segment _ _ _ _ _ c.segment-item.result c.bytes.result.now c.loop-segment-test.true
    c.segment-item.is c.bytes.ensures))
    c.in_err-url.ensures)

pub returns-in_err-follow-clause-way : goal.returns-in_err-follow-clause-way
returns-in_err-follow-clause-way g c = λ start told way.
    plays_halts _ _ _ _ _ c.from_residual-in_err-follow.result c.in_err-follow.field-0.0
    c.from_residual-in_err-follow.ensures.1
    (c.in_err-follow.ensures.way start told
    (playing.segment c.args.base.now (uris_of (drop (c.loop-segment.segment-index + 1) c.args.segments.now)))
    (next_is _ _ _ _ _ _ _ (c.loop-segment.invariant.way start told way)
    (toward_segment _ _ _ _ _ c.segment-item.result c.bytes.result.now c.loop-segment-test.true
    c.segment-item.is c.bytes.ensures
    ∙ toward_given _ _ c.in_ok-url.url 0 _ _ c.in_ok-url.ensures)))

pub loop-segment-preserved : goal.loop-segment-preserved
loop-segment-preserved g c = record {
  way = λ start told way. c.in_ok-follow.ensures.way start told
      (playing.segment c.args.base.now (uris_of (drop (c.loop-segment.segment-index + 1) c.args.segments.now)))
      (next_is _ _ _ _ _ _ _ (c.loop-segment.invariant.way start told way)
      (toward_segment _ _ _ _ _ c.segment-item.result c.bytes.result.now c.loop-segment-test.true
      c.segment-item.is c.bytes.ensures
      ∙ toward_given _ _ c.in_ok-url.url 0 _ _ c.in_ok-url.ensures));
  later = later_more _ _ _ c.loop-segment.invariant.later c.follow.ensures.cause.later;
}
