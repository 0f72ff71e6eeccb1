-- What a worker's seats gain, ask by ask.
use Rattle.std.proofs.Common.{◌≡◌, ◌≢◌, refl, sym, ap, ◌∙◌, subst, ℕ, zero, suc, ◌+◌, ◌*◌, ◌<◌, ◌≤◌, Bool, true, false, List, [], ◌∷◌, ◌++◌, length, map, set, append-nil, if◌then◌else◌, arith}
use Rattle.std.specs.Prelude.{All, slice_index_or, ◌==◌}
use Rattle.std.proofs.lemmas.Bool.{eq-eqb, eqb-true, eqb-false, ne_eqb}
use Rattle.std.proofs.lemmas.List.{get_or-set_same, get_or-set_other}
use Rattle.usp_edge.specs.SeatLaws.{seat_gains_both, seat_gains_none}
use Rattle.usp_edge.specs.Seats.{SeatGains}
use Rattle.usp_shared.specs.Seats.{Seated}
use Rattle.usp_lab.specs.Rounds.{Served, calls_at}
use Rattle.usp_lab.specs.Shares.{AllGain, LessBy}
use Rattle.usp_lab.proofs.Rounds.Calling.{calls_both}
use Rattle.usp_lab.proofs.Rounds.Picking.{get_any}

pub gain_none : (seats : List Seated) → AllGain seats seats []
gain_none seats edge d lt = seat_gains_none (slice_index_or seats edge d)

pub gain_more : (old mid new : List Seated) (all : List Served) (served : Served) → length mid ≡ length old → AllGain old mid all → AllGain mid new (served ∷ [])
    → AllGain old new (all ++ served ∷ [])
gain_more old mid new all served long first second edge d lt =
    subst (SeatGains (slice_index_or old edge d) (slice_index_or new edge d)) (sym (calls_both edge all (served ∷ [])))
    (seat_gains_both (slice_index_or old edge d) (slice_index_or mid edge d) (slice_index_or new edge d) (calls_at edge all) (calls_at edge (served ∷ []))
    (first edge d lt) (second edge d (omega (arith, lt, long))))

-- The seat at the ask's edge gained its calls.
module _ (seats : List Seated) (place : ℕ) (seat d0 : Seated) (served : Served) (at : served.ask.edge ≡ place) (lt : place < length seats)
    (gains : SeatGains (slice_index_or seats place d0) seat served.calls) where
  gain_here : (d : Seated) → SeatGains (slice_index_or seats place d) (slice_index_or (set seats place seat) place d) (calls_at place (served ∷ []))
  gain_here d =
      subst (λ s. SeatGains (slice_index_or seats place d) s (calls_at place (served ∷ []))) (sym (get_or-set_same seats place seat d lt))
      (subst (SeatGains (slice_index_or seats place d) seat) (sym (append-nil served.calls) ∙ ap (λ b. (if b then served.calls else []) ++ []) (sym (eq-eqb served.ask.edge place at)))
      (subst (λ s. SeatGains s seat served.calls) (get_any seats place d0 d lt) gains))

  gain_other : (edge : ℕ) (d : Seated) → edge ≢ place → SeatGains (slice_index_or seats edge d) (slice_index_or (set seats place seat) edge d) (calls_at edge (served ∷ []))
  gain_other edge d apart =
      subst (λ s. SeatGains (slice_index_or seats edge d) s (calls_at edge (served ∷ []))) (sym (get_or-set_other seats place edge seat d apart))
      (subst (SeatGains (slice_index_or seats edge d) (slice_index_or seats edge d))
      (ap (λ b. (if b then served.calls else []) ++ []) (sym (ne_eqb served.ask.edge edge (λ is. apart (sym is ∙ at)))))
      (seat_gains_none (slice_index_or seats edge d)))

  gain_by : (edge : ℕ) (d : Seated) (same : Bool) → (edge == place) ≡ same → SeatGains (slice_index_or seats edge d) (slice_index_or (set seats place seat) edge d) (calls_at edge (served ∷ []))
  gain_by edge d true is =
      subst (λ k. SeatGains (slice_index_or seats k d) (slice_index_or (set seats place seat) k d) (calls_at k (served ∷ []))) (sym (eqb-true edge place is)) (gain_here d)
  gain_by edge d false is = gain_other edge d (eqb-false edge place is)

  pub gain_one : AllGain seats (set seats place seat) (served ∷ [])
  gain_one edge d less = gain_by edge d (edge == place) refl

-- ---- calls that are left

less_by : (most place : ℕ) (seats : List Seated) (seat d0 : Seated) → place < length seats → (slice_index_or seats place d0).left ≤ seat.left + most
    → (edge : ℕ) (d : Seated) (same : Bool) → (edge == place) ≡ same → (slice_index_or seats edge d).left ≤ (slice_index_or (set seats place seat) edge d).left + most
less_by most place seats seat d0 lt less edge d true is =
    let at = eqb-true edge place is in
    let new = ap (λ s. s.left) (get_or-set_same seats place seat d lt) in
    let old = ap (λ s. s.left) (get_any seats place d d0 lt) in
    subst (λ k. (slice_index_or seats k d).left ≤ (slice_index_or (set seats place seat) k d).left + most) (sym at) (omega (arith, new, old, less))
less_by most place seats seat d0 lt less edge d false is =
    let same = ap (λ s. s.left) (get_or-set_other seats place edge seat d (eqb-false edge place is)) in omega (arith, same)

pub less_one : (most place : ℕ) (seats : List Seated) (seat d0 : Seated) → place < length seats → (slice_index_or seats place d0).left ≤ seat.left + most
    → LessBy most seats (set seats place seat)
less_one most place seats seat d0 lt less edge d within = less_by most place seats seat d0 lt less edge d (edge == place) refl

pub enough_next : (most n m : ℕ) (old new : List Seated) → n ≡ m + 1 → length new ≡ length old → LessBy most old new
    → All (λ seat. most * n ≤ seat.left) old → All (λ seat. most * m ≤ seat.left) new
enough_next most n m old new is long less enough edge d lt =
    let had = enough edge d (omega (arith, lt, long)) in
    let fell = less edge d (omega (arith, lt, long)) in
    let more : most * n ≡ most * m + most = ap (λ k. most * k) is ∙ (let e : most * (m + 1) ≡ most * m + most = omega arith in e) in
    omega (arith, had, fell, more)
