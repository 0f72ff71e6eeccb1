use Rattle.std.proofs.Common.{◌≡◌, ◌+◌, ◌++◌, ◌<◌, List, ℕ, length, map}
use Rattle.std.specs.Prelude.{slice_index_or}
use Rattle.usp_lab.specs.Jobs.{tasks_from}
use Rattle.usp_lab.specs.Shares.{part_by, share_of}
use Rattle.usp_lab.proofs.Rounds.Handing.{Dealing}
use Rattle.usp_lab.proofs.round.dealing.deal.Given as goal

-- the heads from a place on were dealt
abbrev pub invariant-loop-head : goal.invariant-loop-head
invariant-loop-head g l =
    let p = part_by g.B.Line.Source.left g.B.Line.Sink.told in
    record {
      dealt : Dealing p (map (λ head. head.items) l.fn.heads.items) (map (λ head. head.items) l.heads.items) l.fn.shares l.shares;
      out : g.B.Bench.lines_out l.bench + length l.heads.items ≡ g.B.Bench.lines_out l.fn.bench + length l.fn.heads.items;
      back : g.B.Bench.given_back l.bench ≡ g.B.Bench.given_back l.fn.bench;
    }

abbrev pub decreases-loop-head : goal.decreases-loop-head
decreases-loop-head g l = length l.heads.items
