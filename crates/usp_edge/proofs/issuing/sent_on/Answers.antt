use Rattle.std.proofs.Common.{◌<◌, ◌∙◌, ap, arith, sym}
use Rattle.usp_issue.specs.Sites.{SiteValue}
use Rattle.usp_edge.proofs.Routing.{place_fits, sends_nowhere}
use Rattle.usp_edge.proofs.issuing.sent_on.Goals as goal

pub returns-then-is_empty : goal.returns-then-is_empty
returns-then-is_empty g c =
    sends_nowhere _ _ _ _ c.rows.result.now c.args.request.now.conf.now.site.routes (sym c.is_empty.ensures ∙ c.if-is_empty.true)
    (c.rows.ensures ∙ (c.routes.ensures.value ∙ ap (λ (s : SiteValue). s.routes) c.site-site.ensures))

pub overflow_cast-result : goal.overflow_cast-result
overflow_cast-result g c =
    let below : c.in-Some.place < 65536 =
    place_fits _ _ _ _ _ _ c.in-Some.place c.in-Some.signed c.in_ok-redirect.ensures.sent c.in-Some.is c.routes.ensures.few in
    omega (arith, below)
