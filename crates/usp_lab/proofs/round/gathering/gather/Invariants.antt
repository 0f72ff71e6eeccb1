use Rattle.std.proofs.Common.{◌≡◌, ◌+◌, ◌<◌, List, ℕ, length, map, take, drop}
use Rattle.usp_lab.specs.Benches.{append_used}
use Rattle.usp_lab.specs.Jobs.{Deed, note_of, used_of}
use Rattle.usp_lab.specs.Shares.{part_by}
use Rattle.usp_lab.proofs.Rounds.Handing.{IsParted}
use Rattle.usp_lab.proofs.round.gathering.gather.Given as goal

-- so many deeds were gathered, and the others are those of the shares
abbrev pub invariant-loop-place : goal.invariant-loop-place
invariant-loop-place g l =
    let p = part_by g.B.Line.Source.left g.B.Line.Sink.told in
    record {
      many : length l.shares ≡ length l.fn.shares;
      out : g.B.Bench.lines_out l.bench + l.place ≡ g.B.Bench.lines_out l.fn.bench;
      gathered : (deeds : List Deed) → length deeds ≡ l.count → IsParted p (length l.fn.shares) 0 l.fn.shares deeds
          → (l.notes.items ≡ map note_of (take l.place deeds))
          × (g.B.Bench.given_back l.bench ≡ append_used (g.B.Bench.given_back l.fn.bench) (map used_of (take l.place deeds)))
          × IsParted p (length l.fn.shares) l.place l.shares (drop l.place deeds);
    }
