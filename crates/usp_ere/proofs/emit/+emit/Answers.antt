use Rattle.std.proofs.Common.{◌≡◌, refl, ◌+◌, ◌-◌, ◌*◌, ◌<◌, ◌≤◌, sym, ap, ◌∙◌, arith, Some, None, Option, IfOk, Result, Ok, Err, ℕ, subst, length}
use Rattle.usp_ere.specs.Shape.{expr_of}
use Rattle.usp_ere.specs.Expression.{byte, any, set, at_begin, at_end, either, repeat, nodes_of, size_of_repeat}
use Rattle.usp_ere.specs.Nodes.{Block}
use Rattle.usp_ere.specs.declared.limits.TheConstants.{MAX_SIZE}
use Rattle.usp_ere.specs.declared.nodes.Node.TheVariants.{Byte, Any, OneOf, Begin, End}
use Rattle.usp_ere.proofs.RepeatLemmas.{height_of}
use Rattle.usp_ere.specs.Kept.{nodes_of_rest, Writes, WritesRest, WritesCopies}
use Rattle.usp_ere.specs.declared.tree.Tree.{Tree}
use Rattle.usp_ere.proofs.EmitLemmas.{writes_either, either_of, writes_repeat, repeat_of, copies_next, copies_stop, options_next, writes_loop, one_of, takes_of, copies_take_of, options_take_of, rest_takes_of, repeat_parts, one_more}
use Rattle.usp_ere.proofs.emit.+emit.Goals as goal

pub emit-returns-in_ok-second-in-Either : goal.emit-returns-in_ok-second-in-Either
emit-returns-in_ok-second-in-Either t c =
    let first = subst (λ (x : Tree). Writes c.args.nodes.now.items c.emit-in-Either.new.nodes.items (expr_of x) c.in_ok-first-in-Either.first c.args.exit) c.deref-in-Either.ensures c.in_ok-first-in-Either.ensures in
    let second = subst (λ (y : Tree). Writes c.emit-in-Either.new.nodes.items c.emit-in-Either-2.new.nodes.items (expr_of y) c.in_ok-second-in-Either.second c.args.exit) c.deref-in-Either-2.ensures c.in_ok-second-in-Either.ensures in
    rw c.in-Either.is (either_of _ _ _ _ _ _ _ _ _ _ first second c.push-in-Either.ensures)

pub emit-returns-in_ok-behind-in-Repeat : goal.emit-returns-in_ok-behind-in-Repeat
emit-returns-in_ok-behind-in-Repeat t c =
    let here = c.in-Repeat in
    let behind = c.in_ok-behind-in-Repeat in
    let first = subst (λ (x : Tree). WritesRest c.args.nodes.now.items c.emit_rest.new.nodes.items (expr_of x) here.least here.most behind.behind c.args.exit) c.deref-in-Repeat.ensures behind.ensures in
    let second = subst (λ (x : Tree). IfOk c.emit_copies.result (λ entry. WritesCopies c.emit_rest.new.nodes.items c.emit_copies.new.nodes.items (expr_of x) here.least entry behind.behind)) c.deref-in-Repeat-2.ensures c.emit_copies.ensures in
    rw here.is (repeat_of _ _ _ (expr_of here.x.value) here.least here.most _ _ _ first second)

pub emit_copies-returns-then-len-before : goal.emit_copies-returns-then-len-before
emit_copies-returns-then-len-before t c =
    copies_stop _ _ _ _ c.loop-copy.copy c.args.count _ _ _ c.loop-copy.invariant c.in_ok-entry.ensures (omega arith)
    (omega (arith, c.if-len-before.true, c.len.ensures, c.len-before.ensures, c.emit.new.nodes.ok.0, c.loop-copy.nodes.ok.0))

pub emit_copies-loop-copy-preserved : goal.emit_copies-loop-copy-preserved
emit_copies-loop-copy-preserved t c = copies_next _ _ _ _ _ _ _ _ c.loop-copy.invariant c.in_ok-entry.ensures

pub emit_loop-returns : goal.emit_loop-returns
emit_loop-returns t c = let e = c.in_ok-entry.ensures in let f = c.in_ok-first.ensures in writes_loop _ _ _ _ _ _ _ _ e.0 e.1 f refl

pub emit_options-loop-copy-preserved : goal.emit_options-loop-copy-preserved
emit_options-loop-copy-preserved t c = let e = c.in_ok-first.ensures in let f = c.in_ok-entry.ensures in options_next _ _ _ _ _ _ _ _ _ _ c.loop-copy.invariant e f.0 f.1

-- one node

pub emit-returns-in-Byte : goal.emit-returns-in-Byte
emit-returns-in-Byte t c =
    let new = c.push.new.nodes.items in
    rw c.in-Byte.is (one_of c.args.nodes.now.items new (Byte c.in-Byte.byte c.args.exit) (Block new (byte c.in-Byte.byte)) c.push.result c.args.exit (λ entry s. s) c.push.ensures)

pub emit-returns-in-Any : goal.emit-returns-in-Any
emit-returns-in-Any t c =
    let new = c.push-in-Any.new.nodes.items in
    rw c.in-Any.is (one_of c.args.nodes.now.items new (Any c.args.exit) (Block new any) c.push-in-Any.result c.args.exit (λ entry s. s) c.push-in-Any.ensures)

pub emit-returns-in-OneOf : goal.emit-returns-in-OneOf
emit-returns-in-OneOf t c =
    let new = c.push-in-OneOf.new.nodes.items in
    let s = c.in-OneOf.set in
    rw c.in-OneOf.is (one_of c.args.nodes.now.items new (OneOf s.bytes c.args.exit) (Block new (set s.negated s.elements)) c.push-in-OneOf.result c.args.exit
    (λ entry h. (s.bytes, s.held, h)) c.push-in-OneOf.ensures)

pub emit-returns-in-Begin : goal.emit-returns-in-Begin
emit-returns-in-Begin t c =
    let new = c.push-in-Begin.new.nodes.items in
    rw c.in-Begin.is (one_of c.args.nodes.now.items new (Begin c.args.exit) (Block new at_begin) c.push-in-Begin.result c.args.exit (λ entry s. s) c.push-in-Begin.ensures)

pub emit-returns-in-End : goal.emit-returns-in-End
emit-returns-in-End t c =
    let new = c.push-in-End.new.nodes.items in
    rw c.in-End.is (one_of c.args.nodes.now.items new (End c.args.exit) (Block new at_end) c.push-in-End.result c.args.exit (λ entry s. s) c.push-in-End.ensures)

-- there is room

pub emit-emit-requires-in-Both : goal.emit-emit-requires-in-Both
emit-emit-requires-in-Both t c =
    let x = expr_of c.in-Both.x.value in
    let y = expr_of c.in-Both.y.value in
    let old = c.args.nodes.now.items in
    let new = c.emit.new.nodes.items in
    let tall : height_of (expr_of c.args.tree.now) ≡ height_of x + height_of y + 1 = ap (λ (r : Tree). height_of (expr_of r)) c.in-Both.is in
    let low : height_of (expr_of c.deref-in-Both.result.now) ≡ height_of x = ap (λ (r : Tree). height_of (expr_of r)) c.deref-in-Both.ensures in
    let many : nodes_of (expr_of c.args.tree.now) ≡ nodes_of x + nodes_of y = ap (λ (r : Tree). nodes_of (expr_of r)) c.in-Both.is in
    let first : nodes_of (expr_of c.deref-in-Both.result.now) ≡ nodes_of x = ap (λ (r : Tree). nodes_of (expr_of r)) c.deref-in-Both.ensures in
    let second : nodes_of (expr_of c.deref.result.now) ≡ nodes_of y = ap (λ (r : Tree). nodes_of (expr_of r)) c.deref.ensures in
    let took : length new ≡ length old + nodes_of (expr_of c.deref.result.now) = takes_of _ _ _ _ _ c.in_ok-behind-in-Both.ensures in
    (omega (arith, c.decreases, tall, low), omega (arith, c.requires, many, first, second, took))

pub emit-emit-requires-in-Either-2 : goal.emit-emit-requires-in-Either-2
emit-emit-requires-in-Either-2 t c =
    let x = expr_of c.in-Either.x.value in
    let y = expr_of c.in-Either.y.value in
    let old = c.args.nodes.now.items in
    let new = c.emit-in-Either.new.nodes.items in
    let tall : height_of (expr_of c.args.tree.now) ≡ height_of x + height_of y + 1 = ap (λ (r : Tree). height_of (expr_of r)) c.in-Either.is in
    let low : height_of (expr_of c.deref-in-Either-2.result.now) ≡ height_of y = ap (λ (r : Tree). height_of (expr_of r)) c.deref-in-Either-2.ensures in
    let many : nodes_of (expr_of c.args.tree.now) ≡ nodes_of x + nodes_of y + 1 = ap (λ (r : Tree). nodes_of (expr_of r)) c.in-Either.is in
    let first : nodes_of (expr_of c.deref-in-Either.result.now) ≡ nodes_of x = ap (λ (r : Tree). nodes_of (expr_of r)) c.deref-in-Either.ensures in
    let second : nodes_of (expr_of c.deref-in-Either-2.result.now) ≡ nodes_of y = ap (λ (r : Tree). nodes_of (expr_of r)) c.deref-in-Either-2.ensures in
    let took : length new ≡ length old + nodes_of (expr_of c.deref-in-Either.result.now) = takes_of _ _ _ _ _ c.in_ok-first-in-Either.ensures in
    (omega (arith, c.decreases, tall, low), omega (arith, c.requires, many, first, second, took))

pub emit-push-requires-in-Either : goal.emit-push-requires-in-Either
emit-push-requires-in-Either t c =
    let x = expr_of c.in-Either.x.value in
    let y = expr_of c.in-Either.y.value in
    let old = c.args.nodes.now.items in
    let middle = c.emit-in-Either.new.nodes.items in
    let new = c.emit-in-Either-2.new.nodes.items in
    let many : nodes_of (expr_of c.args.tree.now) ≡ nodes_of x + nodes_of y + 1 = ap (λ (r : Tree). nodes_of (expr_of r)) c.in-Either.is in
    let first : nodes_of (expr_of c.deref-in-Either.result.now) ≡ nodes_of x = ap (λ (r : Tree). nodes_of (expr_of r)) c.deref-in-Either.ensures in
    let second : nodes_of (expr_of c.deref-in-Either-2.result.now) ≡ nodes_of y = ap (λ (r : Tree). nodes_of (expr_of r)) c.deref-in-Either-2.ensures in
    let took : length middle ≡ length old + nodes_of (expr_of c.deref-in-Either.result.now) = takes_of _ _ _ _ _ c.in_ok-first-in-Either.ensures in
    let more : length new ≡ length middle + nodes_of (expr_of c.deref-in-Either-2.result.now) = takes_of _ _ _ _ _ c.in_ok-second-in-Either.ensures in
    omega (arith, c.requires, many, first, second, took, more)

pub emit-emit_copies-requires : goal.emit-emit_copies-requires
emit-emit_copies-requires t c =
    let here = c.in-Repeat in
    let x = expr_of here.x.value in
    let s = nodes_of x in
    let old = c.args.nodes.now.items in
    let new = c.emit_rest.new.nodes.items in
    let tall : height_of (expr_of c.args.tree.now) ≡ height_of x + 1 = ap (λ (r : Tree). height_of (expr_of r)) here.is in
    let low : height_of (expr_of c.deref-in-Repeat-2.result.now) ≡ height_of x = ap (λ (r : Tree). height_of (expr_of r)) c.deref-in-Repeat-2.ensures in
    let many : nodes_of (expr_of c.args.tree.now) ≡ size_of_repeat s here.least here.most = ap (λ (r : Tree). nodes_of (expr_of r)) here.is in
    let behind = c.in_ok-behind-in-Repeat in
    let wrote = subst (λ (r : Tree). WritesRest old new (expr_of r) here.least here.most behind.behind c.args.exit) c.deref-in-Repeat.ensures behind.ensures in
    let took : length new ≡ length old + nodes_of_rest s here.least here.most = rest_takes_of _ _ _ _ _ _ _ wrote in
    let parts : size_of_repeat s here.least here.most ≡ here.least * s + nodes_of_rest s here.least here.most = repeat_parts s here.least here.most in
    let room : length new + here.least * s ≤ MAX_SIZE = omega (arith, c.requires, many, parts, took) in
    (omega (arith, c.decreases, tall, low), subst (λ (r : Tree). length new + here.least * nodes_of (expr_of r) ≤ MAX_SIZE) (sym c.deref-in-Repeat-2.ensures) room)

pub emit_copies-emit-requires : goal.emit_copies-emit-requires
emit_copies-emit-requires t c =
    let s = nodes_of (expr_of c.args.tree.now) in
    let old = c.args.nodes.now.items in
    let new = c.loop-copy.nodes.items in
    let took : length new ≡ length old + c.loop-copy.copy * s = copies_take_of _ _ _ _ _ _ c.loop-copy.invariant in
    let more : c.loop-copy.copy * s + s ≤ c.args.count * s = one_more c.loop-copy.copy c.args.count s (omega (arith, c.loop-copy-test.true)) in
    (omega (arith, c.decreases), omega (arith, c.requires, took, more))

pub emit_options-emit-requires : goal.emit_options-emit-requires
emit_options-emit-requires t c =
    let s = nodes_of (expr_of c.args.tree.now) in
    let old = c.args.nodes.now.items in
    let new = c.loop-copy.nodes.items in
    let took : length new ≡ length old + c.loop-copy.copy * (s + 1) = options_take_of _ _ _ _ _ _ c.loop-copy.invariant in
    let more : c.loop-copy.copy * (s + 1) + (s + 1) ≤ c.args.count * (s + 1) = one_more c.loop-copy.copy c.args.count (s + 1) (omega (arith, c.loop-copy-test.true)) in
    (omega (arith, c.decreases), omega (arith, c.requires, took, more))

pub emit_options-push-requires : goal.emit_options-push-requires
emit_options-push-requires t c =
    let s = nodes_of (expr_of c.args.tree.now) in
    let old = c.args.nodes.now.items in
    let middle = c.loop-copy.nodes.items in
    let new = c.emit.new.nodes.items in
    let took : length middle ≡ length old + c.loop-copy.copy * (s + 1) = options_take_of _ _ _ _ _ _ c.loop-copy.invariant in
    let copy : length new ≡ length middle + s = takes_of _ _ _ _ _ c.in_ok-first.ensures in
    let more : c.loop-copy.copy * (s + 1) + (s + 1) ≤ c.args.count * (s + 1) = one_more c.loop-copy.copy c.args.count (s + 1) (omega (arith, c.loop-copy-test.true)) in
    omega (arith, c.requires, took, copy, more)
