use Rattle.std.proofs.Common.{Some, None, ℕ, List, Err, ap, ◌∙◌, arith, subst}
use Rattle.std.specs.Prelude.{IfSome, ◌≡◌}
use Rattle.usp_base.specs.declared.fault.LoadFault.{LoadFault}
use Rattle.usp_edge.specs.Outcomes.{failed, object}
use Rattle.usp_edge.proofs.objects.show.Goals as goal

pub returns-in-Ok-Some : goal.returns-in-Ok-Some
returns-in-Ok-Some g c = record {
  found = object (Some c.in-Ok-Some.bytes.items);
  reads = record {
    found = (
      subst (λ (uri : List ℕ). IfSome (g.O.Objects.objects c.args.objects.now) (λ of. Some c.in-Ok-Some.bytes.items ≡ of uri)) c.text.ensures.value
          (rw c.in-Ok-Some.field-0-is at c.in-Ok-Some.ensures.found),
      tt,
    );
    same = c.read.ensures.same;
    later = c.read.ensures.cause.later;
    failed_most = omega (arith, c.read.ensures.cause.later);
  };
  shows = c.showing.ensures;
}

pub returns-in-Ok-None : goal.returns-in-Ok-None
returns-in-Ok-None g c = record {
  found = object None;
  reads = record {
    found = (
      subst (λ (uri : List ℕ). IfSome (g.O.Objects.objects c.args.objects.now) (λ of. None ≡ of uri)) c.text.ensures.value
          (rw c.in-Ok-None.field-0-is at c.in-Ok-None.ensures.found),
      tt,
    );
    same = c.read.ensures.same;
    later = c.read.ensures.cause.later;
    failed_most = omega (arith, c.read.ensures.cause.later);
  };
  shows = c.absence.ensures;
}

pub returns-in-Err-Failed : goal.returns-in-Err-Failed
returns-in-Err-Failed g c = record {
  found = failed;
  reads = record {
    found = (tt, tt);
    same = c.read.ensures.same;
    later = c.read.ensures.cause.later;
    failed_most = omega (arith, c.read.ensures.cause.failed (c.in-Err-Failed.is ∙ ap (λ (e : LoadFault). Err e) c.in-Err-Failed.field-0-is));
  };
  shows = c.absence-in-Err-Failed.ensures;
}
