use Rattle.std.proofs.Common.{refl, sym, ap, ◌∙◌, ◌≡◌, ◌<◌, ◌%◌, ◌+◌, ◌∷◌, [], length, map, arith}
use Rattle.std.specs.Prelude.{slice_index_or}
use Rattle.std.proofs.lemmas.List.{length-set}
use Rattle.usp_lab.specs.Jobs.{deed_by, used_of}
use Rattle.usp_lab.specs.Shares.{part_by}
use Rattle.usp_lab.proofs.Rounds.Collecting.{lines_next, notes_next, parted_next, tells_used}
use Rattle.usp_lab.proofs.round.gathering.gather.Goals as goal

pub loop-place-preserved : goal.loop-place-preserved
loop-place-preserved g c =
    let left = g.B.Line.Source.left in
    let told = g.B.Line.Sink.told in
    let p = part_by left told in
    let inv = c.loop-place.invariant in
    let place = c.loop-place.place in
    let now = c.loop-place.shares in
    let n = length c.args.shares.now in
    let turn = place % length now in
    let d0 = c.index-shares-turn.result in
    let old = slice_index_or now turn d0 in
    let x = record old { done = c.pop_front.new.self } in
    let first = deed_by left told c.in-Some.done in
    let rest = map (deed_by left told) c.pop_front.new.self.items in
    record {
      many = length-set now turn x ∙ inv.many;
      out = omega (arith, c.back.ensures.out, inv.out);
      gathered = λ deeds many parted.
          let so = inv.gathered deeds many parted in
          let lt : place < length deeds = omega (arith, many, c.loop-place-test.true) in
          let at : turn ≡ place % n = ap (λ k. place % k) inv.many in
          let made = ap (map (deed_by left told)) c.in-Some.ensures.items in (
            c.in_ok-push.ensures.items ∙ notes_next p n place turn c.requires.some now x d0 inv.many at first rest made refl deeds lt so.2 c.loop-place.notes.items so.0,
            lines_next p n place turn c.requires.some now x d0 inv.many at first rest made refl deeds lt so.2 (g.B.Bench.given_back c.args.bench.now) (g.B.Bench.given_back c.loop-place.bench)
                (g.B.Bench.given_back c.back.new.self) so.1 (c.back.ensures.back (used_of first) (tells_used first c.tell.ensures)),
            parted_next p n place turn c.requires.some now x d0 inv.many at first rest made refl deeds lt so.2,
          );
    }
