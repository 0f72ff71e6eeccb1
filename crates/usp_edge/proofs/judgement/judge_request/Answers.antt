use Rattle.std.proofs.Common.{◌∙◌, ap, refl, subst}
use Rattle.usp_issue.specs.Sites.{SiteValue}
use Rattle.usp_rules.specs.Judging.{Judges}
use Rattle.usp_rules.specs.declared.judged.Judged.{Judged}
use Rattle.usp_edge.specs.Asks.{ask_of}
use Rattle.usp_edge.proofs.Judging.{Reads, judged_ask, token_is}
use Rattle.usp_edge.proofs.judgement.judge_request.Goals as goal

pub returns-in-Denied : goal.returns-in-Denied
returns-in-Denied g c =
    let r = c.args.request.now in
    let reads : Reads r.conf.now r.head.now c.profile-profile.result.now c.args.uri.now _ = record {
      rows = c.rows.result.now;
      own = c.profile-profile.ensures ∙ ap (λ (s : SiteValue). s.profile) c.site.ensures;
      cookies = c.rows.ensures;
      asked = c.requires.uri;
      found = c.cookie_in-cookie.ensures;
    } in
    record {
      token = token_is r.conf.now r.head.now c.args.moment _ _ _ _ reads c.in_ok-token.ensures;
      passed =
          subst (λ (j : Judged). Judges r.conf.now.site.profile (ask_of r.conf.now r.head.now c.args.moment) j) c.in-Denied.is
          (judged_ask r.conf.now r.head.now c.args.moment _ _ _ _ _ reads c.new-ask.ensures.uri c.new-ask.ensures.cookie c.new-ask.ensures.moment c.in_ok-judged.ensures);
    }

pub returns-in-Passed : goal.returns-in-Passed
returns-in-Passed g c =
    let r = c.args.request.now in
    let reads : Reads r.conf.now r.head.now c.profile-profile.result.now c.args.uri.now _ = record {
      rows = c.rows.result.now;
      own = c.profile-profile.ensures ∙ ap (λ (s : SiteValue). s.profile) c.site.ensures;
      cookies = c.rows.ensures;
      asked = c.requires.uri;
      found = c.cookie_in-cookie.ensures;
    } in
    record {
      token = token_is r.conf.now r.head.now c.args.moment _ _ _ _ reads c.in_ok-token.ensures;
      passed = record {
        token = c.in-Passed.token;
        key = c.in-Passed.key;
        judges =
            subst (λ (j : Judged). Judges r.conf.now.site.profile (ask_of r.conf.now r.head.now c.args.moment) j) c.in-Passed.is
            (judged_ask r.conf.now r.head.now c.args.moment _ _ _ _ _ reads c.new-ask.ensures.uri c.new-ask.ensures.cookie c.new-ask.ensures.moment c.in_ok-judged.ensures);
        moment = refl;
      };
    }
