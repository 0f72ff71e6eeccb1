-- The verdict on one ask, by all rules, and its line.
use Rattle.std.specs.Prelude.{◌≡◌, ℕ, List, [], ◌∷◌, ◌++◌, codes, Some, None}
use Rattle.std.specs.Fmt.{decimal}
use Rattle.std.specs.Option.{unwrap_or}
use Rattle.usp_base.specs.Lines.{line_feed}
use Rattle.usp_base.specs.declared.fault.Status.{Status}
use Rattle.usp_base.specs.declared.fault.Status.TheVariants.{Done, Denials}
use Rattle.usp_claims.specs.Table.{number_claim, text_claim}
use Rattle.usp_json.specs.declared.value.Members.{Members}
use Rattle.usp_nonce.specs.History.{Call, IsLegal, IsNext}
use Rattle.usp_nonce.specs.Stands.{StandsFor}
use Rattle.usp_nonce.specs.Table.{Table}
use Rattle.usp_nonce.specs.declared.answer.Answer.{Answer}
use Rattle.usp_nonce.specs.declared.limits.TheConstants.{MAX_UNTIL}
use Rattle.usp_nonce.specs.declared.answer.Answer.TheVariants.{Late, Seen, Full, Taken}
use Rattle.usp_rules.specs.Asks.{AskValue}
use Rattle.usp_rules.specs.Judging.{Judges}
use Rattle.usp_rules.specs.Names.{name_of, number_of}
use Rattle.usp_rules.specs.declared.judged.Judged.TheVariants as judged
use Rattle.usp_rules.specs.declared.profile.Profile.{Profile}
use Rattle.usp_rules.specs.declared.rule.Rule.TheVariants as rule
use Rattle.usp_tool.specs.Check.Line.{space}
use Rattle.usp_tool.specs.declared.check.verdict.Verdict.{Verdict}
use Rattle.usp_tool.specs.declared.check.verdict.Verdict.TheVariants.{Admitted, Denied}

-- The nonce call of a request that passes rules 1 to 15 (RFC 9246 section 2.1.7): at its moment, until `exp`, or as
-- long as can be without it.
pub record IsCall (ask : AskValue) (members : Members) (content jti : List ℕ) (call : Call)
    : Type 0 where
  pub nonce : call.nonce ≡ record { jti = jti; uri = content }
  pub now : call.now ≡ ask.moment
  pub until : call.until ≡ unwrap_or (number_claim (codes "exp") members) MAX_UNTIL

-- rules 16 to 18
abbrev pub verdict_by : List ℕ → Answer → Verdict
verdict_by content Taken = Admitted content
verdict_by content Late = Denied rule.Late
verdict_by content Seen = Denied rule.Seen
verdict_by content Full = Denied rule.Room

-- The verdict on an ask after the nonce calls that were made before it, and the calls with its own, which it makes
-- where rules 1 to 15 hold and there is a `jti`.
pub data Decides (profile : Profile) (room : ℕ) (ask : AskValue) (before : List Call)
    : Verdict → List Call → Type 0 where
  denied : (verdict : Verdict) (after : List Call) (rule : _)
      → Judges profile ask (judged.Denied rule) → verdict ≡ Denied rule → after ≡ before
      → Decides profile room ask before verdict after
  free : (verdict : Verdict) (after : List Call) (content token : List ℕ) (members : Members)
      (key : ℕ) → Judges profile ask (judged.Passed content token members key)
      → text_claim (codes "jti") members ≡ None → verdict ≡ Admitted content → after ≡ before
      → Decides profile room ask before verdict after
  called : (verdict : Verdict) (after : List Call) (content token jti : List ℕ) (members : Members)
      (key : ℕ) (call : Call) → Judges profile ask (judged.Passed content token members key)
      → text_claim (codes "jti") members ≡ Some jti → IsCall ask members content jti call
      → IsNext room before call → verdict ≡ verdict_by content call.answer
      → after ≡ before ++ call ∷ [] → Decides profile room ask before verdict after

-- the line of a verdict
abbrev pub verdict_line : ℕ → Verdict → List ℕ
verdict_line number (Admitted content) =
    decimal number ++ (codes " admitted " ++ (content ++ line_feed ∷ []))
verdict_line number (Denied rule) =
    decimal number
    ++ (codes " denied "
    ++ (decimal (number_of rule) ++ (space ∷ (name_of rule ++ line_feed ∷ []))))

-- a denial makes a run that would be done one with denials
abbrev pub status_with : Verdict → Status → Status
status_with (Denied rule) Done = Denials
status_with verdict status = status

-- the verdict, with a table that stands for the calls behind it
pub record IsDecided (profile : Profile) (room : ℕ) (ask : AskValue) (before : List Call)
    (verdict : Verdict) (table : Table) : Type 0 where
  pub after : List Call
  pub decides : Decides profile room ask before verdict after
  pub stands : StandsFor table after
  pub legal : IsLegal room after
