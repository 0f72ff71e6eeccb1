use Rattle.std.proofs.Common.{refl, sym, ◌∙◌, ◌≡◌, Result, true}
use Rattle.std.specs.Prelude.{Ok, Err, OnOk, is_ok}
use Rattle.usp_lab.specs.Shares.{part_by}
use Rattle.usp_lab.proofs.Rounds.Behind.{done_same}
use Rattle.usp_lab.proofs.round.duty.RoundDuty.serve.Goals as goal

on_ok_when : {T E : Type 0} (P : Type 0) (r : Result T E) → is_ok r ≡ true → OnOk r P → P
on_ok_when P (Ok t) is on = on
on_ok_when P (Err e) is on = absurd (cc is)

pub returns : goal.returns
returns g c =
    let p = part_by g.L.Source.left g.L.Sink.told in
    record {
      tables = c.serve_jobs.ensures.tables;
      done = λ whole issued known own.
          done_same c.args.self.now.script.now issued known c.args.self.now.asks.now (p c.args.share.now) (p c.serve_jobs.new.share) _ refl refl
          (on_ok_when _ c.serve_jobs.result (sym c.is_ok-share.ensures.value ∙ whole) c.serve_jobs.ensures.done issued known own);
    }
