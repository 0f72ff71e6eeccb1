use Rattle.std.proofs.Common.{◌++◌, ◌∙◌, ap}
use Rattle.usp_uri.proofs.DotLemmas.{cut_path}
use Rattle.usp_cookie.proofs.Keeping.{kept_done, kept_more}
use Rattle.usp_cookie.proofs.path.push_kept.Goals as goal

pub loop-rest-preserved : goal.loop-rest-preserved
loop-rest-preserved c =
    let rest = c.loop-rest.rest.now in
    let segment = c.cut_at_slash.result.0.now in
    let next = c.cut_at_slash.result.1.now in
    let cut = cut_path rest segment next c.in-len1-up.len_at_least c.cut_at_slash.ensures.front c.cut_at_slash.ensures.back in
    kept_more c.loop-rest.out.items c.extend_from_slice.new.self.items _ c.loop-rest.left rest segment next cut (c.keeps.ensures.more c.if-not-keeps.false)
    (c.in_ok-extend_from_slice.ensures.items ∙ ap (λ out. out ++ segment) c.in_ok-push.ensures.items) c.loop-rest.invariant

pub returns-then-not-keeps : goal.returns-then-not-keeps
returns-then-not-keeps c =
    let rest = c.loop-rest.rest.now in
    let segment = c.cut_at_slash.result.0.now in
    let next = c.cut_at_slash.result.1.now in
    let cut = cut_path rest segment next c.in-len1-up.len_at_least c.cut_at_slash.ensures.front c.cut_at_slash.ensures.back in
    kept_done c.loop-rest.out.items _ c.loop-rest.left rest segment next cut (c.keeps.ensures.none c.if-not-keeps.true) c.loop-rest.invariant
