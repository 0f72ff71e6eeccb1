use Rattle.std.proofs.Common.{◌≡◌, ℕ, true, List, Option, Ok, Err, refl, sym, ap, ◌∙◌, subst, arith}
use Rattle.std.specs.Option.{is_some}
use Rattle.std.proofs.lemmas.Result.{err_from_is_err_and}
use Rattle.usp_base.specs.Lines.{lines_of}
use Rattle.usp_base.specs.declared.fault.LoadFault.{LoadFault}
use Rattle.usp_base.specs.declared.files.MemoryFile.{MemoryFile}
use Rattle.usp_script.specs.Drafts.{Draft}
use Rattle.usp_script.specs.Reading.{AreFiles, Loaded, Reads, Refuses, Takes}
use Rattle.usp_script.specs.Script.{ScriptValue}
use Rattle.usp_script.proofs.Progress.{SoFar, cause_later, empty_is, so_far_asked, so_far_done, so_far_first, so_far_more, so_far_refused, so_far_stopped, unlined, unloaded_by}
use Rattle.usp_script.proofs.reading.read_script.Goals as goal

pub loop-rest-init : goal.loop-rest-init
loop-rest-init g c = record {
  so_far = subst (λ (d : Draft). SoFar (g.F.Files.files c.args.files.now) (g.F.Files.asked c.args.files.now) (g.F.Files.asked c.args.files.now) c.args.input.now c.args.input.now 1 d)
      (sym c.new-draft.ensures) (so_far_first (g.F.Files.files c.args.files.now) (g.F.Files.asked c.args.files.now) c.args.input.now);
  same = refl;
  later = omega arith;
}

pub returns-in_err-next-clause-refused : goal.returns-in_err-next-clause-refused
returns-in_err-next-clause-refused g c =
    let p = err_from_is_err_and c.from_residual.result c.from_residual.ensures.1 in
    unlined c.in_err-next.field-0.0 p.0 c.from_residual.result
    (λ (n : ℕ). (x : List Loaded) × AreFiles (g.F.Files.files c.args.files.now) x × Reads (lines_of c.args.input.now) x (Err n)) p.1 p.2

pub returns-in_err-next-clause-unloaded : goal.returns-in_err-next-clause-unloaded
returns-in_err-next-clause-unloaded g c unloaded =
    let p = err_from_is_err_and c.from_residual.result c.from_residual.ensures.1 in
    let failed = unloaded_by c.in_err-next.field-0.0 p.0 c.from_residual.result p.1 p.2 unloaded in
    so_far_stopped (g.F.Files.files c.args.files.now) (g.F.Files.asked c.args.files.now) (g.F.Files.asked c.loop-rest.files) (g.F.Files.asked c.take_line.new.files)
    c.args.input.now c.loop-rest.rest.now c.first_line.result.0.now c.first_line.result.1.now c.loop-rest.number c.loop-rest.draft c.loop-rest.invariant.so_far c.first_line.ensures.lines
    (c.in_err-next.ensures.unloaded (ap (λ (f : LoadFault). Err f) failed))

pub returns-in_err-next-clause-asked : goal.returns-in_err-next-clause-asked
returns-in_err-next-clause-asked g c =
    so_far_asked (g.F.Files.files c.args.files.now) (g.F.Files.asked c.args.files.now) (g.F.Files.asked c.loop-rest.files) (g.F.Files.asked c.take_line.new.files)
    c.args.input.now c.loop-rest.rest.now c.first_line.result.0.now c.first_line.result.1.now c.loop-rest.number c.loop-rest.draft c.loop-rest.invariant.so_far c.first_line.ensures.lines
    c.take_line.ensures.asked

pub returns-in_err-next-clause-cause : goal.returns-in_err-next-clause-cause
returns-in_err-next-clause-cause g c =
    let p = err_from_is_err_and c.from_residual.result c.from_residual.ensures.1 in
    cause_later (g.F.Files.file_count c.args.files.now) (g.F.Files.file_count c.loop-rest.files) (g.F.Files.file_count c.take_line.new.files) c.in_err-next.field-0.0 p.0 c.from_residual.result
    c.loop-rest.invariant.later c.in_err-next.ensures.cause p.1 p.2

pub returns-in_default-clause-refused : goal.returns-in_default-clause-refused
returns-in_default-clause-refused g c =
    let t : (x : List Loaded) × AreFiles (g.F.Files.files c.loop-rest.files) x × Refuses c.loop-rest.draft c.first_line.result.0.now x = rw c.in_default.is at c.in_ok-next.ensures.taken in
    so_far_refused (g.F.Files.files c.args.files.now) (g.F.Files.asked c.args.files.now) (g.F.Files.asked c.loop-rest.files) (g.F.Files.asked c.take_line.new.files)
    c.args.input.now c.loop-rest.rest.now c.first_line.result.0.now c.first_line.result.1.now c.loop-rest.number c.loop-rest.draft c.loop-rest.invariant.so_far c.first_line.ensures.lines
    (subst (λ (fs : Option (List MemoryFile)). (x : List Loaded) × AreFiles fs x × Refuses c.loop-rest.draft c.first_line.result.0.now x) c.loop-rest.invariant.same t)

pub returns-in_default-clause-asked : goal.returns-in_default-clause-asked
returns-in_default-clause-asked g c =
    so_far_asked (g.F.Files.files c.args.files.now) (g.F.Files.asked c.args.files.now) (g.F.Files.asked c.loop-rest.files) (g.F.Files.asked c.take_line.new.files)
    c.args.input.now c.loop-rest.rest.now c.first_line.result.0.now c.first_line.result.1.now c.loop-rest.number c.loop-rest.draft c.loop-rest.invariant.so_far c.first_line.ensures.lines
    c.take_line.ensures.asked

pub loop-rest-preserved : goal.loop-rest-preserved
loop-rest-preserved g c =
    let t : (x : List Loaded) × AreFiles (g.F.Files.files c.loop-rest.files) x × Takes c.loop-rest.draft c.first_line.result.0.now x c.in-Some.next = rw c.in-Some.is at c.in_ok-next.ensures.taken in
    let some : is_some c.in_ok-next.field-0 ≡ true = ap is_some c.in-Some.is in
    record {
      so_far = so_far_more (g.F.Files.files c.args.files.now) (g.F.Files.asked c.args.files.now) (g.F.Files.asked c.loop-rest.files) (g.F.Files.asked c.take_line.new.files)
          c.args.input.now c.loop-rest.rest.now c.first_line.result.0.now c.first_line.result.1.now c.loop-rest.number c.loop-rest.draft c.loop-rest.invariant.so_far c.first_line.ensures.lines
          c.in-Some.next c.first_line.ensures.shorter
          (subst (λ (fs : Option (List MemoryFile)). (x : List Loaded) × AreFiles fs x × Takes c.loop-rest.draft c.first_line.result.0.now x c.in-Some.next) c.loop-rest.invariant.same t)
          (c.in_ok-next.ensures.whole some);
      same = c.take_line.ensures.same ∙ c.loop-rest.invariant.same;
      later = omega (arith, c.loop-rest.invariant.later, c.take_line.ensures.cause.later);
    }

pub returns-clause-ok : goal.returns-clause-ok
returns-clause-ok g c =
    subst (λ (s : ScriptValue). (x : List Loaded) × AreFiles (g.F.Files.files c.args.files.now) x × Reads (lines_of c.args.input.now) x (Ok s)) (sym c.in_ok-into_script.ensures)
    (so_far_done (g.F.Files.files c.args.files.now) (g.F.Files.asked c.args.files.now) (g.F.Files.asked c.loop-rest.files) c.args.input.now c.loop-rest.rest.now c.loop-rest.number c.loop-rest.draft
    c.loop-rest.invariant.so_far (empty_is c.loop-rest.rest.now (sym c.is_empty.ensures ∙ c.loop-rest-test.false)))
