use Rattle.std.proofs.Common.{◌≡◌, ◌≤◌, ◌+◌, length}
use Rattle.usp_cookie.specs.Jars.{sent, sent_below}
use Rattle.usp_cookie.specs.Joining.{joined_all}
use Rattle.usp_cookie.proofs.jar.Jar.push_sent.Given as goal

-- the pairs so far, and those of the cookies with shorter paths
abbrev pub invariant-loop-size : goal.invariant-loop-size
invariant-loop-size l = record {
  so_far : joined_all l.text.items (sent_below l.target.authority.now l.target.path.now l.size l.self)
      ≡ joined_all l.fn.text.items (sent l.target.authority.now l.target.path.now l.self);
  within : l.size ≤ length l.target.path.now + 1;
}

abbrev pub decreases-loop-size : goal.decreases-loop-size
decreases-loop-size l = l.size
