-- How many nonce calls a connection makes at most.
use Rattle.std.proofs.Common.{◌≡◌, refl, ap, ℕ, ◌+◌, ◌≤◌, ◌<◌, List, ◌++◌, length, length-append, Bool, arith}
use Rattle.usp_conf.specs.Values.{ConfValue}
use Rattle.usp_http.specs.Finding.{Stop}
use Rattle.usp_http.specs.declared.head.Head.{Head}
use Rattle.usp_edge.specs.Halts.{BrokenSession, Part, StarvedSession, Starves, at_head, between, closing, noted, reply, unnoted}
use Rattle.usp_edge.specs.Session as session
use Rattle.usp_edge.specs.Session.{Goes, Progress, Session, further, is_full, start}
use Rattle.usp_edge.specs.Work.{Work, Works}
use Rattle.usp_edge.specs.declared.end.End.{End}
use Rattle.usp_edge.specs.declared.limits.TheConstants.{MAX_HEADS}
use Rattle.usp_edge.proofs.Counting.{few_more, goes_few, works_few}

-- one more head may come where none of those before ends the connection
goes_heads : (conf : ConfValue) (bytes : List ℕ) (progress : Progress) → Goes conf bytes progress → progress.heads < 100
goes_heads conf bytes progress (start progress1 is) = omega (arith, ap (λ f. f.heads) is)
goes_heads conf bytes progress (further before progress1 head after work goes head_is works behind is) =
    omega (
      arith,
      ap (λ f. f.heads) is,
      few_more head (is_full before) before.heads behind refl (goes_heads conf bytes before goes),
    )

before_few : (conf : ConfValue) (bytes : List ℕ) (progress : Progress) → Goes conf bytes progress
    → length progress.calls + 1 ≤ 100
before_few conf bytes progress goes =
    omega (arith, goes_few conf bytes progress goes, goes_heads conf bytes progress goes)

worked_few : (conf : ConfValue) (bytes : List ℕ) (before : Progress) (head : Head) (work : Work) (last : Bool)
    → Goes conf bytes before → Works conf last head work → length (before.calls ++ work.calls) ≤ 100
worked_few conf bytes before head work last goes works =
    omega (
      arith,
      length-append before.calls work.calls,
      before_few conf bytes before goes,
      works_few conf last head work works,
    )

pub session_few : (conf : ConfValue) (bytes : List ℕ) (stop : Stop) (progress : Progress) (ends : End)
    → Session conf bytes stop progress ends → length progress.calls ≤ MAX_HEADS
session_few conf bytes stop progress ends (session.at_head before head after work goes head_is works behind is) =
    let few : length progress.calls ≤ 100 =
    omega (arith, ap (λ f. length f.calls) is, worked_few conf bytes before head work _ goes works) in few
session_few conf bytes stop progress ends (session.at_rest before result after text goes finds end_is is) =
    let few : length progress.calls ≤ 100 =
    omega (arith, ap (λ f. length f.calls) is, before_few conf bytes before goes) in few

pub broken_few : (conf : ConfValue) (bytes : List ℕ) (stop : Stop) (progress : Progress) (text : List ℕ)
    → BrokenSession conf bytes stop progress text → length progress.calls ≤ MAX_HEADS
broken_few conf bytes stop progress text (reply before head after work goes head_is works is text_is) =
    let few : length progress.calls ≤ 100 =
    omega (arith, ap (λ f. length f.calls) is, worked_few conf bytes before head work _ goes works) in few
broken_few conf bytes stop progress text (closing before result after ends goes finds end_is is text_is) =
    let few : length progress.calls ≤ 100 =
    omega (arith, ap (λ f. length f.calls) is, before_few conf bytes before goes) in few

starves_few : (conf : ConfValue) (head : Head) (part : Part) → Starves conf head part → length part.calls ≤ 1
starves_few conf head part (unnoted moments finds calls notes) = omega (arith, ap length calls)
starves_few conf head part (noted moment content token members key of judges made moments calls few notes) =
    omega (arith, ap length calls)

pub starved_few : (conf : ConfValue) (bytes : List ℕ) (progress : Progress) → StarvedSession conf bytes progress
    → length progress.calls ≤ MAX_HEADS
starved_few conf bytes progress (between goes) =
    let few : length progress.calls ≤ 100 = omega (arith, before_few conf bytes progress goes) in few
starved_few conf bytes progress (at_head before head after part goes head_is starves is) =
    let few : length progress.calls ≤ 100 =
    omega (
      arith,
      ap (λ f. length f.calls) is,
      length-append before.calls part.calls,
      before_few conf bytes before goes,
      starves_few conf head part starves,
    ) in few
