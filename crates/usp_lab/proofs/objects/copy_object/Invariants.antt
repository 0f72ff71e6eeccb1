use Rattle.std.proofs.Common.{◌≡◌, drop}
use Rattle.usp_script.specs.Script.{object_at}
use Rattle.usp_lab.proofs.objects.copy_object.Given as goal

abbrev pub invariant-loop-object : goal.invariant-loop-object
invariant-loop-object l = object_at l.objects l.edge l.uri ≡ object_at (drop l.object-index l.objects) l.edge l.uri
