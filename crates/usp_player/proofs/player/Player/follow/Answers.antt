use Rattle.std.proofs.Common.{arith}
use Rattle.usp_player.proofs.Following.{IsMoved, follows_halts, later_more, moved_on, next_is, not_given, toward_given, url_is_text}
use Rattle.usp_player.proofs.player.Player.follow.Goals as goal

pub returns-in_err-reply-clause-way : goal.returns-in_err-reply-clause-way
returns-in_err-reply-clause-way g c = λ start told aim way.
    follows_halts _ _ _ _ _ _ _ c.from_residual.result c.in_err-reply.field-0.0 c.from_residual.ensures.1
    (c.in_err-reply.ensures.way start told c.redirections.redirections aim
    (c.redirections.invariant.way start told aim way))

pub returns-in_err-url-clause-way : goal.returns-in_err-url-clause-way
returns-in_err-url-clause-way g c = λ start told aim way.
    let moved : IsMoved c.in_ok-reply.reply c.redirections.redirections c.in-Some.location = record {
      other = c.if-status-eq200.false;
      moved = c.if-status-ne302.false;
      has = c.in-Some.is;
      few = c.if-redirections-ge-MAX_REDIRECTIONS.false;
    } in
    follows_halts _ _ _ _ _ _ _ c.from_residual-in_err-url.result c.in_err-url.field-0.0
    c.from_residual-in_err-url.ensures.1
    (not_given _ start told _ _ _ _ _ aim c.in_err-url.field-0.0
    (moved_on _ start told _ _ _ _ aim c.in_ok-reply.reply _ c.in-Some.location
    (c.in_ok-reply.ensures.way start told c.redirections.redirections aim
    (c.redirections.invariant.way start told aim way)) moved)
    (url_is_text _ _ c.bytes.result.now _ c.bytes.ensures c.in_err-url.ensures))

pub redirections-preserved : goal.redirections-preserved
redirections-preserved g c =
    let moved : IsMoved c.in_ok-reply.reply c.redirections.redirections c.in-Some.location = record {
      other = c.if-status-eq200.false;
      moved = c.if-status-ne302.false;
      has = c.in-Some.is;
      few = c.if-redirections-ge-MAX_REDIRECTIONS.false;
    } in
    record {
      few = omega (arith, c.if-redirections-ge-MAX_REDIRECTIONS.false);
      way = λ start told aim way.
          next_is _ start told _ _ _ _
          (moved_on _ start told _ _ _ _ aim c.in_ok-reply.reply _ c.in-Some.location
          (c.in_ok-reply.ensures.way start told c.redirections.redirections aim
          (c.redirections.invariant.way start told aim way)) moved)
          (toward_given _ _ c.in_ok-url.url _ _ aim
          (url_is_text _ _ c.bytes.result.now _ c.bytes.ensures c.in_ok-url.ensures));
      later = later_more _ _ _ c.redirections.invariant.later c.request.ensures.cause.later;
    }
