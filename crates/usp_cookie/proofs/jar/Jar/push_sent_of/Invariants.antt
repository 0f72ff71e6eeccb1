use Rattle.std.proofs.Common.{◌≡◌, drop, filter}
use Rattle.usp_cookie.specs.Jars.{is_sent_of}
use Rattle.usp_cookie.specs.Joining.{joined_all}
use Rattle.usp_cookie.proofs.jar.Jar.push_sent_of.Given as goal

-- the pairs so far, and those of the cookies behind
abbrev pub invariant-loop-cookie : goal.invariant-loop-cookie
invariant-loop-cookie l =
    joined_all l.text.items (filter (is_sent_of l.target.authority.now l.target.path.now l.size) (drop l.cookie-index l.self))
    ≡ joined_all l.fn.text.items (filter (is_sent_of l.target.authority.now l.target.path.now l.size) l.self)
