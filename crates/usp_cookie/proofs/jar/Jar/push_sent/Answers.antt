use Rattle.std.proofs.Common.{◌∙◌, arith}
use Rattle.usp_cookie.proofs.Headers.{sent_more}
use Rattle.usp_cookie.proofs.jar.Jar.push_sent.Goals as goal

pub loop-size-preserved : goal.loop-size-preserved
loop-size-preserved c = record {
  so_far = sent_more c.args.target.now.authority.now c.args.target.now.path.now c.args.self.now c.loop-size.size c.loop-size.text.items c.push_sent_of.new.text.items c.loop-size-test.true c.in_ok-push_sent_of.ensures
      ∙ c.loop-size.invariant.so_far;
  within = omega arith;
}
