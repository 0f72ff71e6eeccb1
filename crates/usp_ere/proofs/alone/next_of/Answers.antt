use Rattle.std.proofs.Common.{◌≡◌, ◌<◌, ◌∙◌, Some, true, length, get_or, refl, sym, ap}
use Rattle.std.specs.Prelude.{slice_get, slice_index}
use Rattle.std.proofs.lemmas.Option.{slice_get-get_or}
use Rattle.usp_ere.specs.declared.nodes.Node.{Node}
use Rattle.usp_ere.specs.declared.nodes.Node.TheVariants.{Accept, Split}
use Rattle.usp_ere.specs.Alone.{takes, listed}
use Rattle.usp_ere.specs.NodeSets.{with_all}
use Rattle.usp_ere.specs.Walk.{IsBelow}
use Rattle.usp_ere.proofs.AloneLemmas.{follows_fork, follows_taker, inside_both, inside_one, next_one}
use Rattle.usp_ere.proofs.alone.next_of.Goals as goal

pub returns-then-takes-clause-next : goal.returns-then-takes-clause-next
returns-then-takes-clause-next g c =
    let text = c.args.course.now.text.now in
    let nodes = c.args.course.now.nodes.now in
    let start = c.args.course.now.start in
    let node = get_or nodes c.args.number Accept in
    let h : takes node ≡ true = sym c.takes.ensures ∙ c.if-takes.true in
    next_one text nodes start c.args.at c.args.number c.one-found.result (listed c.target.result) c.one-found.ensures
    (follows_taker text nodes start c.args.at c.args.number (slice_index text c.args.at) node c.target.result c.requires.within c.requires.course.accepting refl
    (slice_get-get_or nodes c.args.number Accept c.requires.number) h c.target.ensures)

pub returns-then-takes-clause-inside : goal.returns-then-takes-clause-inside
returns-then-takes-clause-inside g c =
    let text = c.args.course.now.text.now in
    let nodes = c.args.course.now.nodes.now in
    let node = get_or nodes c.args.number Accept in
    inside_one c.one-found.result node (Some (slice_index text c.args.at)) (listed c.target.result) (length nodes) c.one-found.ensures c.target.ensures
    (c.requires.course.below.by c.args.number node (slice_get-get_or nodes c.args.number Accept c.requires.number))

pub bounds-course-left : goal.bounds-course-left
bounds-course-left g c =
    let nodes = c.args.course.now.nodes.now in
    (c.requires.course.below.by c.args.number (Split c.in-Split.left c.in-Split.right)
    (slice_get-get_or nodes c.args.number Accept c.requires.number ∙ ap (λ (n : Node). Some n) c.in-Split.is)).0

pub bounds-course-right : goal.bounds-course-right
bounds-course-right g c =
    let nodes = c.args.course.now.nodes.now in
    (c.requires.course.below.by c.args.number (Split c.in-Split.left c.in-Split.right)
    (slice_get-get_or nodes c.args.number Accept c.requires.number ∙ ap (λ (n : Node). Some n) c.in-Split.is)).1

pub returns-clause-next : goal.returns-clause-next
returns-clause-next g c =
    let text = c.args.course.now.text.now in
    let nodes = c.args.course.now.nodes.now in
    let start = c.args.course.now.start in
    let a = c.in-Split.left in
    let b = c.in-Split.right in
    let is : slice_get nodes c.args.number ≡ Some (Split a b) = slice_get-get_or nodes c.args.number Accept c.requires.number ∙ ap (λ (n : Node). Some n) c.in-Split.is in
    let under = c.requires.course.below.by c.args.number (Split a b) is in
    let x = get_or nodes a Accept in
    let y = get_or nodes b Accept in
    let h : takes x ≡ true = sym c.takes-else-left-right.ensures ∙ c.if-not-takes.false in
    let k : takes y ≡ true = sym c.takes-else-not-takes.ensures ∙ c.if-not-takes-2.false in
    next_one text nodes start c.args.at c.args.number c.both-found.result (with_all (listed c.target-2.result) (listed c.target-3.result)) c.both-found.ensures
    (follows_fork text nodes start c.args.at c.args.number a b (slice_index text c.args.at) x y c.target-2.result c.target-3.result c.requires.within c.requires.course.accepting refl is
    (slice_get-get_or nodes a Accept under.0) (slice_get-get_or nodes b Accept under.1) h k c.if-left-right.false c.target-2.ensures c.target-3.ensures)

pub returns-clause-inside : goal.returns-clause-inside
returns-clause-inside g c =
    let text = c.args.course.now.text.now in
    let nodes = c.args.course.now.nodes.now in
    let a = c.in-Split.left in
    let b = c.in-Split.right in
    let is : slice_get nodes c.args.number ≡ Some (Split a b) = slice_get-get_or nodes c.args.number Accept c.requires.number ∙ ap (λ (n : Node). Some n) c.in-Split.is in
    let under = c.requires.course.below.by c.args.number (Split a b) is in
    let x = get_or nodes a Accept in
    let y = get_or nodes b Accept in
    inside_both c.both-found.result x y (Some (slice_index text c.args.at)) (listed c.target-2.result) (listed c.target-3.result) (length nodes) c.both-found.ensures c.target-2.ensures c.target-3.ensures
    (c.requires.course.below.by a x (slice_get-get_or nodes a Accept under.0)) (c.requires.course.below.by b y (slice_get-get_or nodes b Accept under.1))
