-- Lines in their grammar are answered.
use Rattle.std.proofs.Common.{◌≡◌, ◌⊎◌, inl, inr, ℕ, suc, ◌+◌, true, List, ◌∷◌, Option, refl, sym, ap, ◌∙◌, subst, arith}
use Rattle.std.specs.List.{All}
use Rattle.std.specs.Option.{is_some}
use Rattle.usp_base.specs.declared.fault.Status.{Status}
use Rattle.usp_base.specs.declared.fault.Status.TheVariants.{Done, Denials}
use Rattle.usp_jws.specs.Keys.{KeyValue}
use Rattle.usp_nonce.specs.History.{Call}
use Rattle.usp_rules.specs.Asks.{AskValue}
use Rattle.usp_rules.specs.declared.profile.Profile.{Profile}
use Rattle.usp_tool.specs.Check.{Checks, ChecksAsk, done, line, decides, stops}
use Rattle.usp_tool.specs.Check.Line.{ask_of}
use Rattle.usp_tool.specs.Check.Verdicts.{status_with}
use Rattle.usp_tool.specs.Outcome.{Outcome}
use Rattle.usp_tool.specs.Sign.{SignsAll, done as signed_done, stops as signed_stops, signs}
use Rattle.usp_tool.specs.Sign.Line.{SignsLine}
use Rattle.usp_tool.specs.declared.check.verdict.Verdict.{Verdict}
use Rattle.usp_tool.specs.declared.check.verdict.Verdict.TheVariants.{Admitted, Denied}

first_of_all : (P : List ℕ → Type 0) (first : List ℕ) (lines : List (List ℕ)) → All P (first ∷ lines) → P first
first_of_all P first lines all = all 0 first (omega arith)

rest_of_all : (P : List ℕ → Type 0) (first : List ℕ) (lines : List (List ℕ)) → All P (first ∷ lines) → All P lines
rest_of_all P first lines all = λ k d lt. all (suc k) d (omega arith)

abbrev IsWhole : Status → Type 0
IsWhole status = (status ≡ Done) ⊎ (status ≡ Denials)

still_whole : (verdict : Verdict) (status : Status) → IsWhole status → IsWhole (status_with verdict status)
still_whole (Admitted content) status h = h
still_whole (Denied rule) status (inl h) = rw h (inr refl)
still_whole (Denied rule) status (inr h) = rw h (inr refl)

mutual
  pub all_judged : (profile : Profile) (room number : ℕ) (calls after : List Call) (lines : List (List ℕ)) (outcome : Outcome)
      → All (λ line. is_some (ask_of line) ≡ true) lines → Checks profile room number calls lines outcome after → IsWhole outcome.status
  all_judged profile room _ _ _ _ _ all (done number calls after outcome is same) = inl (ap (λ (o : Outcome). o.status) is)
  all_judged profile room _ _ _ _ _ all (line number calls after first lines outcome checks) =
      all_asked profile room number calls after (ask_of first) lines outcome (first_of_all (λ line. is_some (ask_of line) ≡ true) first lines all)
      (rest_of_all (λ line. is_some (ask_of line) ≡ true) first lines all) checks

  all_asked : (profile : Profile) (room number : ℕ) (calls after : List Call) (ask : Option AskValue) (lines : List (List ℕ)) (outcome : Outcome)
      → is_some ask ≡ true → All (λ line. is_some (ask_of line) ≡ true) lines → ChecksAsk profile room number calls ask lines outcome after → IsWhole outcome.status
  all_asked profile room _ _ _ _ _ _ some all (stops number calls after lines outcome is same) = absurd cc
  all_asked profile room _ _ _ _ _ _ some all (decides number calls between after ask lines outcome more verdict decided checks is) =
      subst IsWhole (sym (ap (λ (o : Outcome). o.status) is)) (still_whole verdict more.status (all_judged profile room (number + 1) between after lines more all checks))

pub all_signed : (attribute : List ℕ) (key : KeyValue) (number : ℕ) (lines : List (List ℕ)) (outcome : Outcome)
    → All (λ line. (text : List ℕ) × SignsLine attribute key line text) lines → SignsAll attribute key number lines outcome → outcome.status ≡ Done
all_signed attribute key _ _ _ all (signed_done number outcome is) = ap (λ (o : Outcome). o.status) is
all_signed attribute key _ _ _ all (signed_stops number first lines outcome never is) =
    let some : (text : List ℕ) × SignsLine attribute key first text = first_of_all (λ line. (text : List ℕ) × SignsLine attribute key line text) first lines all in
    absurd (never some.0 some.1)
all_signed attribute key _ _ _ all (signs number first text lines outcome more signed rest is) =
    ap (λ (o : Outcome). o.status) is
    ∙ all_signed attribute key (number + 1) lines more (rest_of_all (λ line. (text : List ℕ) × SignsLine attribute key line text) first lines all) rest
