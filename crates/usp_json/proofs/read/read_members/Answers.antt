use Rattle.std.proofs.Common.{Some, arith}
use Rattle.usp_json.specs.Spells.{given}
use Rattle.usp_json.specs.Machine.{state_of}
use Rattle.usp_json.proofs.FaultLaws.{sound, refused, run_next, cut_short, one_frame, all_read}
use Rattle.usp_json.proofs.read.read_members.Goals as goal

pub advance-requires : goal.advance-requires
advance-requires c = sound c.args.text.now c.loop-i.i c.loop-i.expect c.loop-i.got.items c.loop-i.frames.items c.loop-i.invariant

pub returns-in-None-clause-fault : goal.returns-in-None-clause-fault
returns-in-None-clause-fault c =
    rw c.fault_of.ensures (refused c.args.text.now c.loop-i.i c.loop-i.expect c.loop-i.got.items c.loop-i.frames.items (omega arith) c.loop-i.invariant (rw c.in-None.is at c.in_ok-advance.ensures))

pub loop-i-preserved : goal.loop-i-preserved
loop-i-preserved c =
    run_next given c.args.text.now c.loop-i.i (state_of c.loop-i.expect c.loop-i.got.items c.loop-i.frames.items) (Some (state_of c.in-Some.next c.advance.new.got.items c.advance.new.frames.items)) (omega arith) c.loop-i.invariant
    (rw c.in-Some.is at c.in_ok-advance.ensures)

pub returns-in_default : goal.returns-in_default
returns-in_default c = record {
  ok = tt;
  fault = cut_short c.args.text.now c.loop-i.i c.loop-i.expect c.loop-i.got.items c.loop-i.frames.items (omega arith) c.in_default.not-End c.loop-i.invariant;
}

pub returns-in-Some-last_members-clause-ok : goal.returns-in-Some-last_members-clause-ok
returns-in-Some-last_members-clause-ok c =
    let run = rw c.in-End.is at c.loop-i.invariant in
    let one = one_frame c.args.text.now c.loop-i.i c.loop-i.got.items c.loop-i.frames.items run in
    rw (c.in-Some-last_members.ensures one.0 one.1 one.2) (all_read c.args.text.now c.loop-i.i c.loop-i.got.items c.loop-i.frames.items one.0 one.1 (omega arith) run one.2)

pub returns-clause-fault : goal.returns-clause-fault
returns-clause-fault c =
    let run = rw c.in-End.is at c.loop-i.invariant in
    let one = one_frame c.args.text.now c.loop-i.i c.loop-i.got.items c.loop-i.frames.items run in
    absurd (c.in-None-last_members.ensures one.0 one.1 one.2)
