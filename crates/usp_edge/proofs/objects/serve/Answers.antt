use Rattle.std.proofs.Common.{subst, sym}
use Rattle.usp_edge.specs.Requests.{ServesReply}
use Rattle.usp_edge.specs.declared.prepared.Prepared.{Prepared}
use Rattle.usp_edge.proofs.Answering.{redirects, shows_prepared}
use Rattle.usp_edge.proofs.objects.serve.Goals as goal

pub returns-in-Redirect : goal.returns-in-Redirect
returns-in-Redirect g c =
    let o = g.O.Objects.objects c.args.objects.now in
    let f = g.O.Objects.object_count c.args.objects.now in
    subst (λ (p : Prepared). ServesReply c.args.request.now.head.now c.args.request.now.last c.args.content.now p o o f f c.redirection.result)
    (sym c.in-Redirect.is) (redirects _ _ _ c.in-Redirect.place c.in-Redirect.signed o f _ c.redirection.ensures)

pub returns-in-Show : goal.returns-in-Show
returns-in-Show g c =
    let o = g.O.Objects.objects c.args.objects.now in
    let o2 = g.O.Objects.objects c.show.new.objects in
    let f = g.O.Objects.object_count c.args.objects.now in
    let f2 = g.O.Objects.object_count c.show.new.objects in
    subst (λ (p : Prepared). ServesReply c.args.request.now.head.now c.args.request.now.last c.args.content.now p o o2 f f2 c.show.result)
    (sym c.in-Show.is) (shows_prepared _ _ _ _ _ _ _ _ _ c.show.ensures)
