use Rattle.std.proofs.Common.{◌+◌, ◌∷◌, ℕ, Option, Some, None, drop, ap, ◌∙◌}
use Rattle.usp_rules.specs.declared.profile.Profile.{Profile}
use Rattle.usp_issue.specs.Redirections.{SendsFrom}
use Rattle.usp_issue.specs.declared.signed.Signed.{Signed}
use Rattle.usp_issue.proofs.Refusing.{none_left, of_site, passed, sent_here}
use Rattle.usp_issue.proofs.redirecting.redirect.Goals as goal

pub returns-in-Some-clause-sent : goal.returns-in-Some-clause-sent
returns-in-Some-clause-sent c =
    let name = c.profile.result.now.attribute in
    let m = c.args.used.now.claims.now in
    let content = c.args.used.now.content.now in
    let moment = c.args.used.now.moment in
    let rows = c.rows-routes.result.now in
    let place = c.loop-place.place in
    let route = c.index-routes-place.result in
    let by : SendsFrom name m content moment place (route ∷ drop (place + 1) rows) (Some (place, c.in-Some.signed)) = rw c.in-Some.is at (c.in_ok-signed.ensures.sent place (drop (place + 1) rows)) in
    of_site name c.args.site.now.profile.attribute m content moment rows c.args.site.now.routes (Some (place, c.in-Some.signed))
    (ap (λ (p : Profile). p.attribute) c.profile.ensures) (c.rows-routes.ensures ∙ c.routes.ensures.value)
    (sent_here name m content moment rows place route c.in-Some.signed c.loop-place-test.true c.index-routes-place.is by c.loop-place.invariant)

pub loop-place-preserved : goal.loop-place-preserved
loop-place-preserved c =
    let name = c.profile.result.now.attribute in
    let m = c.args.used.now.claims.now in
    let content = c.args.used.now.content.now in
    let moment = c.args.used.now.moment in
    let rows = c.rows-routes.result.now in
    let place = c.loop-place.place in
    let route = c.index-routes-place.result in
    let by : (found : Option (ℕ × Signed)) → SendsFrom name m content moment (place + 1) (drop (place + 1) rows) found → SendsFrom name m content moment place (route ∷ drop (place + 1) rows) found
    = rw c.in_default.is at (c.in_ok-signed.ensures.sent place (drop (place + 1) rows)) in
    passed name m content moment rows place route c.loop-place-test.true c.index-routes-place.is by c.loop-place.invariant

pub returns-clause-sent : goal.returns-clause-sent
returns-clause-sent c =
    let name = c.profile.result.now.attribute in
    let m = c.args.used.now.claims.now in
    let content = c.args.used.now.content.now in
    let moment = c.args.used.now.moment in
    let rows = c.rows-routes.result.now in
    of_site name c.args.site.now.profile.attribute m content moment rows c.args.site.now.routes None
    (ap (λ (p : Profile). p.attribute) c.profile.ensures) (c.rows-routes.ensures ∙ c.routes.ensures.value)
    (none_left name m content moment rows c.loop-place.place c.loop-place-test.false c.loop-place.invariant)
