use Rattle.std.proofs.Common.{◌≤◌, ◌+◌, ◌∙◌, ◌==◌, take, refl, sym, ap, subst, arith}
use Rattle.std.specs.Io.KnownBytes.{append_known}
use Rattle.usp_http.specs.declared.next.Next.TheVariants as next
use Rattle.usp_edge.proofs.Counting.{few_more, room_for_head, served_behind}
use Rattle.usp_edge.proofs.Going.{asked_next, asked_on, breaks_at, closes, ends_at, ends_unsaid, goes_at, going_first, starves_at, starves_between, starves_going}
use Rattle.usp_edge.proofs.Steps.{runs_keep}
use Rattle.usp_edge.specs.declared.limits.TheConstants.{MAX_HEADS}
use Rattle.usp_edge.proofs.connection.serve_connection.Goals as goal

pub returns-in_default : goal.returns-in_default
returns-in_default g c =
    starves_going _ _ _ _ _ _ _ _ _ _ _ _ _ _ _ (going_first _ _ _ _ _ _ (g.met.N.Nonces.gains_none c.args.nonces.now) refl)

pub heads-init : goal.heads-init
heads-init g c = record {
  going = going_first _ _ _ _ _ _ (g.met.N.Nonces.gains_none c.args.nonces.now) c.in-Ok.ensures.0;
  fault = c.in-Ok.ensures.1;
  few = omega arith;
  reads = omega arith;
  puts = omega arith;
}

pub returns-in-Ended : goal.returns-in-Ended
returns-in-Ended g c =
    ends_unsaid _ _ _ _ _ _ next.Ended _ _
    (asked_next _ _ _ _ _ _ _ _ _ _ _ _ _ _ _ (g.W.Sink.put_count c.args.wire.now) (g.W.Sink.put_count c.next_head.new.source) c.heads.invariant.going refl c.heads.invariant.reads
    (runs_keep g.W.Source.reads g.W.Sink.told (λ a b step. (g.met.W.Wire.read_apart a b step).0) _ _ c.next_head.ensures.steps)
    (c.in-Ended.ensures.answers c.heads.invariant.fault)) refl

pub returns-in-ReadFault : goal.returns-in-ReadFault
returns-in-ReadFault g c =
    ends_unsaid _ _ _ _ _ _ next.ReadFault _ _
    (asked_next _ _ _ _ _ _ _ _ _ _ _ _ _ _ _ (g.W.Sink.put_count c.args.wire.now) (g.W.Sink.put_count c.next_head.new.source) c.heads.invariant.going refl c.heads.invariant.reads
    (runs_keep g.W.Source.reads g.W.Sink.told (λ a b step. (g.met.W.Wire.read_apart a b step).0) _ _ c.next_head.ensures.steps)
    (c.in-ReadFault.ensures.answers c.heads.invariant.fault)) refl

pub returns-in-NoMemory : goal.returns-in-NoMemory
returns-in-NoMemory g c =
    starves_between _ _ _ _ _ _ next.NoMemory _
    (asked_next _ _ _ _ _ _ _ _ _ _ _ _ _ _ _ (g.W.Sink.put_count c.args.wire.now) (g.W.Sink.put_count c.next_head.new.source) c.heads.invariant.going refl c.heads.invariant.reads
    (runs_keep g.W.Source.reads g.W.Sink.told (λ a b step. (g.met.W.Wire.read_apart a b step).0) _ _ c.next_head.ensures.steps)
    (c.in-NoMemory.ensures.answers c.heads.invariant.fault))

pub returns-in-CutShort : goal.returns-in-CutShort
returns-in-CutShort g c =
    closes _ _ _ _ _ _ next.CutShort _ _ _ _ _
    (asked_on _ _ _ _ _ _ _ _ _ _ _ _ _ _ _ _ _ _ _ (runs_keep g.W.Sink.puts g.W.Source.left (λ a b step. (g.met.W.Wire.put_apart a b step).0) _ _ c.close.ensures.steps)
    (runs_keep g.W.Sink.puts g.W.Source.ended (λ a b step. (g.met.W.Wire.put_apart a b step).1) _ _ c.close.ensures.steps)
    (runs_keep g.W.Sink.puts g.W.Source.read_count (λ a b step. (g.met.W.Wire.put_apart a b step).2) _ _ c.close.ensures.steps)
    (asked_next _ _ _ _ _ _ _ _ _ _ _ _ _ _ _ (g.W.Sink.put_count c.args.wire.now) (g.W.Sink.put_count c.next_head.new.source) c.heads.invariant.going refl c.heads.invariant.reads
    (runs_keep g.W.Source.reads g.W.Sink.told (λ a b step. (g.met.W.Wire.read_apart a b step).0) _ _ c.next_head.ensures.steps)
    (c.in-CutShort.ensures.answers c.heads.invariant.fault))) refl
    (subst (λ n. g.W.Sink.put_count c.args.wire.now ≤ n) (sym (runs_keep g.W.Source.reads g.W.Sink.put_count (λ a b step. (g.met.W.Wire.read_apart a b step).1) _ _ c.next_head.ensures.steps))
    c.heads.invariant.puts) c.close.ensures.closes (λ whole. whole)

pub returns-in-BadHead : goal.returns-in-BadHead
returns-in-BadHead g c =
    closes _ _ _ _ _ _ next.BadHead _ _ _ _ _
    (asked_on _ _ _ _ _ _ _ _ _ _ _ _ _ _ _ _ _ _ _ (runs_keep g.W.Sink.puts g.W.Source.left (λ a b step. (g.met.W.Wire.put_apart a b step).0) _ _ c.close-in-BadHead.ensures.steps)
    (runs_keep g.W.Sink.puts g.W.Source.ended (λ a b step. (g.met.W.Wire.put_apart a b step).1) _ _ c.close-in-BadHead.ensures.steps)
    (runs_keep g.W.Sink.puts g.W.Source.read_count (λ a b step. (g.met.W.Wire.put_apart a b step).2) _ _ c.close-in-BadHead.ensures.steps)
    (asked_next _ _ _ _ _ _ _ _ _ _ _ _ _ _ _ (g.W.Sink.put_count c.args.wire.now) (g.W.Sink.put_count c.next_head.new.source) c.heads.invariant.going refl c.heads.invariant.reads
    (runs_keep g.W.Source.reads g.W.Sink.told (λ a b step. (g.met.W.Wire.read_apart a b step).0) _ _ c.next_head.ensures.steps)
    (c.in-BadHead.ensures.answers c.heads.invariant.fault))) refl
    (subst (λ n. g.W.Sink.put_count c.args.wire.now ≤ n) (sym (runs_keep g.W.Source.reads g.W.Sink.put_count (λ a b step. (g.met.W.Wire.read_apart a b step).1) _ _ c.next_head.ensures.steps))
    c.heads.invariant.puts) c.close-in-BadHead.ensures.closes (λ whole. whole)

pub returns-in-HeadTooLong : goal.returns-in-HeadTooLong
returns-in-HeadTooLong g c =
    closes _ _ _ _ _ _ next.HeadTooLong _ _ _ _ _
    (asked_on _ _ _ _ _ _ _ _ _ _ _ _ _ _ _ _ _ _ _ (runs_keep g.W.Sink.puts g.W.Source.left (λ a b step. (g.met.W.Wire.put_apart a b step).0) _ _ c.close-in-HeadTooLong.ensures.steps)
    (runs_keep g.W.Sink.puts g.W.Source.ended (λ a b step. (g.met.W.Wire.put_apart a b step).1) _ _ c.close-in-HeadTooLong.ensures.steps)
    (runs_keep g.W.Sink.puts g.W.Source.read_count (λ a b step. (g.met.W.Wire.put_apart a b step).2) _ _ c.close-in-HeadTooLong.ensures.steps)
    (asked_next _ _ _ _ _ _ _ _ _ _ _ _ _ _ _ (g.W.Sink.put_count c.args.wire.now) (g.W.Sink.put_count c.next_head.new.source) c.heads.invariant.going refl c.heads.invariant.reads
    (runs_keep g.W.Source.reads g.W.Sink.told (λ a b step. (g.met.W.Wire.read_apart a b step).0) _ _ c.next_head.ensures.steps)
    (c.in-HeadTooLong.ensures.answers c.heads.invariant.fault))) refl
    (subst (λ n. g.W.Sink.put_count c.args.wire.now ≤ n) (sym (runs_keep g.W.Source.reads g.W.Sink.put_count (λ a b step. (g.met.W.Wire.read_apart a b step).1) _ _ c.next_head.ensures.steps))
    c.heads.invariant.puts) c.close-in-HeadTooLong.ensures.closes (λ whole. whole)

pub returns-in-ManyHeaders : goal.returns-in-ManyHeaders
returns-in-ManyHeaders g c =
    closes _ _ _ _ _ _ next.ManyHeaders _ _ _ _ _
    (asked_on _ _ _ _ _ _ _ _ _ _ _ _ _ _ _ _ _ _ _ (runs_keep g.W.Sink.puts g.W.Source.left (λ a b step. (g.met.W.Wire.put_apart a b step).0) _ _ c.close-in-ManyHeaders.ensures.steps)
    (runs_keep g.W.Sink.puts g.W.Source.ended (λ a b step. (g.met.W.Wire.put_apart a b step).1) _ _ c.close-in-ManyHeaders.ensures.steps)
    (runs_keep g.W.Sink.puts g.W.Source.read_count (λ a b step. (g.met.W.Wire.put_apart a b step).2) _ _ c.close-in-ManyHeaders.ensures.steps)
    (asked_next _ _ _ _ _ _ _ _ _ _ _ _ _ _ _ (g.W.Sink.put_count c.args.wire.now) (g.W.Sink.put_count c.next_head.new.source) c.heads.invariant.going refl c.heads.invariant.reads
    (runs_keep g.W.Source.reads g.W.Sink.told (λ a b step. (g.met.W.Wire.read_apart a b step).0) _ _ c.next_head.ensures.steps)
    (c.in-ManyHeaders.ensures.answers c.heads.invariant.fault))) refl
    (subst (λ n. g.W.Sink.put_count c.args.wire.now ≤ n) (sym (runs_keep g.W.Source.reads g.W.Sink.put_count (λ a b step. (g.met.W.Wire.read_apart a b step).1) _ _ c.next_head.ensures.steps))
    c.heads.invariant.puts) c.close-in-ManyHeaders.ensures.closes (λ whole. whole)

pub work_on-requires : goal.work_on-requires
work_on-requires g c =
    room_for_head g.N.Nonces.gains g.N.Nonces.calls_left g.met.N.Nonces.gains_left _ _ _
    _ _ _ _
    (asked_next _ _ _ _ _ _ _ _ _ _ _ _ _ _ _ (g.W.Sink.put_count c.args.wire.now) (g.W.Sink.put_count c.next_head.new.source) c.heads.invariant.going refl c.heads.invariant.reads
    (runs_keep g.W.Source.reads g.W.Sink.told (λ a b step. (g.met.W.Wire.read_apart a b step).0) _ _ c.next_head.ensures.steps)
    (c.in-Found.ensures.answers c.heads.invariant.fault)) c.requires c.heads.invariant.few

pub returns-in-Err : goal.returns-in-Err
returns-in-Err g c =
    starves_at _ _ g.met.N.Nonces.gains_both _ _ _ _ _ _ _
    (asked_next _ _ _ _ _ _ _ _ _ _ _ _ _ _ _ (g.W.Sink.put_count c.args.wire.now) (g.W.Sink.put_count c.next_head.new.source) c.heads.invariant.going refl c.heads.invariant.reads
    (runs_keep g.W.Source.reads g.W.Sink.told (λ a b step. (g.met.W.Wire.read_apart a b step).0) _ _ c.next_head.ensures.steps)
    (c.in-Found.ensures.answers c.heads.invariant.fault)) c.in-Err.ensures

pub returns-in-Err-put : goal.returns-in-Err-put
returns-in-Err-put g c =
    breaks_at _ _ g.met.N.Nonces.gains_both _ _ _ _ _ _ _ _ _ _ _ _ _
    (asked_on _ _ _ _ _ _ _ _ _ _ _ _ _ _ _ _ _ _ _ (g.met.W.Wire.put_apart _ _ c.put.ensures.step).0 (g.met.W.Wire.put_apart _ _ c.put.ensures.step).1 (g.met.W.Wire.put_apart _ _ c.put.ensures.step).2
    (asked_next _ _ _ _ _ _ _ _ _ _ _ _ _ _ _ (g.W.Sink.put_count c.args.wire.now) (g.W.Sink.put_count c.next_head.new.source) c.heads.invariant.going refl c.heads.invariant.reads
    (runs_keep g.W.Source.reads g.W.Sink.told (λ a b step. (g.met.W.Wire.read_apart a b step).0) _ _ c.next_head.ensures.steps)
    (c.in-Found.ensures.answers c.heads.invariant.fault))) refl c.is_last.ensures c.in-Ok-work_on.ensures
    (subst (λ n. g.W.Sink.put_count c.args.wire.now ≤ n) (sym (runs_keep g.W.Source.reads g.W.Sink.put_count (λ a b step. (g.met.W.Wire.read_apart a b step).1) _ _ c.next_head.ensures.steps))
    c.heads.invariant.puts) (c.in-Err-put.ensures.cause.failed refl)
    (c.in-Err-put.ensures.part.1 ∙ ap (λ t. append_known (g.W.Sink.told c.next_head.new.source) (take c.in-Err-put.ensures.part.0 t)) c.bytes.ensures)

pub returns-in-Some : goal.returns-in-Some
returns-in-Some g c =
    served_behind _ _ _ _ _ c.in-Found.head (c.heads.heads + 1 == MAX_HEADS) _ (sym c.end_behind.ensures ∙ c.in-Some.is)
    (ends_at _ _ g.met.N.Nonces.gains_both _ _ _ _ _ _ _ _ _ _ _ _ _
    (asked_on _ _ _ _ _ _ _ _ _ _ _ _ _ _ _ _ _ _ _ (g.met.W.Wire.put_apart _ _ c.put.ensures.step).0 (g.met.W.Wire.put_apart _ _ c.put.ensures.step).1 (g.met.W.Wire.put_apart _ _ c.put.ensures.step).2
    (asked_next _ _ _ _ _ _ _ _ _ _ _ _ _ _ _ (g.W.Sink.put_count c.args.wire.now) (g.W.Sink.put_count c.next_head.new.source) c.heads.invariant.going refl c.heads.invariant.reads
    (runs_keep g.W.Source.reads g.W.Sink.told (λ a b step. (g.met.W.Wire.read_apart a b step).0) _ _ c.next_head.ensures.steps)
    (c.in-Found.ensures.answers c.heads.invariant.fault))) refl c.is_last.ensures c.in-Ok-work_on.ensures (c.in-Ok-put.ensures.whole ∙ ap (append_known (g.W.Sink.told c.next_head.new.source)) c.bytes.ensures)
    (sym c.end_behind.ensures ∙ c.in-Some.is))

pub heads-preserved : goal.heads-preserved
heads-preserved g c = record {
  going = goes_at _ _ g.met.N.Nonces.gains_both _ _ _ _ _ _ _ _ _ _ _ _
      (asked_on _ _ _ _ _ _ _ _ _ _ _ _ _ _ _ _ _ _ _ (g.met.W.Wire.put_apart _ _ c.put.ensures.step).0 (g.met.W.Wire.put_apart _ _ c.put.ensures.step).1 (g.met.W.Wire.put_apart _ _ c.put.ensures.step).2
      (asked_next _ _ _ _ _ _ _ _ _ _ _ _ _ _ _ (g.W.Sink.put_count c.args.wire.now) (g.W.Sink.put_count c.next_head.new.source) c.heads.invariant.going refl c.heads.invariant.reads
      (runs_keep g.W.Source.reads g.W.Sink.told (λ a b step. (g.met.W.Wire.read_apart a b step).0) _ _ c.next_head.ensures.steps)
      (c.in-Found.ensures.answers c.heads.invariant.fault))) refl c.is_last.ensures c.in-Ok-work_on.ensures (c.in-Ok-put.ensures.whole ∙ ap (append_known (g.W.Sink.told c.next_head.new.source)) c.bytes.ensures) refl
      (sym c.end_behind.ensures ∙ c.in_default-end_behind.is);
  fault = c.in-Found.ensures.fault;
  few = few_more c.in-Found.head (c.heads.heads + 1 == MAX_HEADS) c.heads.heads (sym c.end_behind.ensures ∙ c.in_default-end_behind.is) refl c.heads.invariant.few;
  reads = omega (arith, c.heads.invariant.reads, c.next_head.ensures.later, (g.met.W.Wire.put_apart _ _ c.put.ensures.step).2);
  puts = omega (arith, c.heads.invariant.puts, (runs_keep g.W.Source.reads g.W.Sink.put_count (λ a b step. (g.met.W.Wire.read_apart a b step).1) _ _ c.next_head.ensures.steps), c.put.ensures.cause.later);
}
