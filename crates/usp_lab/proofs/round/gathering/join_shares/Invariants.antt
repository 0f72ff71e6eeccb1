use Rattle.std.proofs.Common.{◌≡◌, ◌<◌, ◌≤◌, ℕ, length, map, take}
use Rattle.std.specs.Prelude.{slice_index_or}
use Rattle.usp_lab.specs.Shares.{TakenIn, seat_in}
use Rattle.usp_lab.specs.Tables.{shared_of}
use Rattle.usp_lab.proofs.round.gathering.join_shares.Given as goal

-- the seats of so many shares were taken
abbrev pub invariant-shares : goal.invariant-shares
invariant-shares g l = record {
  shared : map shared_of l.tables ≡ map shared_of l.fn.tables;
  taken : (edge : ℕ) (d : _) (e : _) → edge < length l.fn.tables
      → TakenIn (slice_index_or l.fn.tables edge d).seat (map (seat_in edge e) (take l.share-index l.fn.shares)) (slice_index_or l.tables edge d).seat;
  done : map (λ share. share.done) l.shares ≡ map (λ share. share.done) l.fn.shares;
  whole : map (λ share. share.whole) l.shares ≡ map (λ share. share.whole) l.fn.shares;
  ahead : (w : ℕ) (d : _) → l.share-index ≤ w → slice_index_or l.shares w d ≡ slice_index_or l.fn.shares w d;
}
