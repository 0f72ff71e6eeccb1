use Rattle.std.proofs.Common.{◌≡◌, ℕ, List, [], ◌∷◌, None, Vec, Global, refl, sym, ap, ◌∙◌, subst}
use Rattle.std.proofs.lemmas.Result.{err_from_is_err_and}
use Rattle.usp_conf.specs.Readings.{Configures}
use Rattle.usp_conf.specs.Values.{ConfValue}
use Rattle.usp_script.specs.Reading.{AddsEdge, Loaded, an_edge, edge_at}
use Rattle.usp_script.proofs.Progress.{asked_in_vain, asks_for_it, names_its_file, other_taken, other_whole, refused_by_file}
use Rattle.usp_script.proofs.reading.line.take_line.Goals as goal

pub returns-in_default-clause-taken : goal.returns-in_default-clause-taken
returns-in_default-clause-taken g c =
    other_taken (g.F.Files.files c.args.files.now) (g.F.Files.asked c.args.files.now) c.args.draft c.args.line.now c.in_ok-take_other.field-0 c.in_default.ensures c.in_ok-take_other.ensures

pub returns-in_default-clause-whole : goal.returns-in_default-clause-whole
returns-in_default-clause-whole g c =
    other_whole (g.F.Files.files c.args.files.now) (g.F.Files.asked c.args.files.now) c.args.draft c.args.line.now c.in_ok-take_other.field-0 c.in_ok-take_other.ensures

pub returns-in_err-text-clause-asked : goal.returns-in_err-text-clause-asked
returns-in_err-text-clause-asked g c =
    asks_for_it c.args.line.now c.in-Some.name.now (g.F.Files.asked c.args.files.now) (g.F.Files.asked c.load.new.self) c.load.result
    (names_its_file c.args.line.now c.in-Some.name.now c.in-Some.ensures.fields) c.load.ensures.asked

pub returns-in_err-text-clause-unloaded : goal.returns-in_err-text-clause-unloaded
returns-in_err-text-clause-unloaded g c unloaded =
    let p = err_from_is_err_and c.from_residual-in_err-text.result c.from_residual-in_err-text.ensures.1 in (
      c.in-Some.name.now,
      c.in-Some.ensures,
      asked_in_vain (Vec ℕ Global) c.in-Some.name.now (g.F.Files.asked c.args.files.now) (g.F.Files.asked c.load.new.self) c.in_err-text.field-0.0 p.0 c.from_residual-in_err-text.result
          c.in_err-text.ensures.asked p.1 p.2 unloaded,
    )

pub returns-in_err-edge-clause-asked : goal.returns-in_err-edge-clause-asked
returns-in_err-edge-clause-asked g c =
    asks_for_it c.args.line.now c.in-Some.name.now (g.F.Files.asked c.args.files.now) (g.F.Files.asked c.load.new.self) c.load.result
    (names_its_file c.args.line.now c.in-Some.name.now c.in-Some.ensures.fields) c.load.ensures.asked

pub returns-in_default-2-clause-taken : goal.returns-in_default-2-clause-taken
returns-in_default-2-clause-taken g c =
    let loaded : Loaded = record { name = c.in-Some.name.now; text = c.in_ok-text.text.items } in
    let never : (edge : ConfValue) → Configures c.deref.result.now edge → edge_at c.edges.result.now edge.edge ≡ None → ⊥ = rw c.in_default-2.is at c.in_ok-edge.ensures in (
      loaded ∷ [],
      (c.in_ok-text.ensures.found, tt),
      refused_by_file c.args.draft c.args.line.now loaded c.in-Some.ensures
          (λ edge configures unused. never edge (subst (λ (t : List ℕ). Configures t edge) (sym c.deref.ensures.value) configures)
          (ap (λ (es : List ConfValue). edge_at es edge.edge) c.edges.ensures.edges ∙ unused)),
    )

pub returns-in_default-2-clause-asked : goal.returns-in_default-2-clause-asked
returns-in_default-2-clause-asked g c =
    asks_for_it c.args.line.now c.in-Some.name.now (g.F.Files.asked c.args.files.now) (g.F.Files.asked c.load.new.self) c.load.result
    (names_its_file c.args.line.now c.in-Some.name.now c.in-Some.ensures.fields) c.load.ensures.asked

pub returns-in_err-with_edge-clause-asked : goal.returns-in_err-with_edge-clause-asked
returns-in_err-with_edge-clause-asked g c =
    asks_for_it c.args.line.now c.in-Some.name.now (g.F.Files.asked c.args.files.now) (g.F.Files.asked c.load.new.self) c.load.result
    (names_its_file c.args.line.now c.in-Some.name.now c.in-Some.ensures.fields) c.load.ensures.asked

pub returns-clause-taken : goal.returns-clause-taken
returns-clause-taken g c =
    let loaded : Loaded = record { name = c.in-Some.name.now; text = c.in_ok-text.text.items } in
    let edge = c.in-Some-2.edge in
    let found : Configures c.deref.result.now edge × (edge_at c.edges.result.now edge.edge ≡ None) = rw c.in-Some-2.is at c.in_ok-edge.ensures in
    let adds : AddsEdge c.args.draft c.args.line.now loaded edge = record {
      names = c.in-Some.ensures;
      configures = subst (λ (t : List ℕ). Configures t edge) c.deref.ensures.value found.0;
      unused = ap (λ (es : List ConfValue). edge_at es edge.edge) (sym c.edges.ensures.edges) ∙ found.1;
    } in
    (loaded ∷ [], (c.in_ok-text.ensures.found, tt), an_edge loaded edge adds refl c.in_ok-with_edge.ensures)

pub returns-clause-asked : goal.returns-clause-asked
returns-clause-asked g c =
    asks_for_it c.args.line.now c.in-Some.name.now (g.F.Files.asked c.args.files.now) (g.F.Files.asked c.load.new.self) c.load.result
    (names_its_file c.args.line.now c.in-Some.name.now c.in-Some.ensures.fields) c.load.ensures.asked
