-- What the line of an ask shows.
use Rattle.std.specs.Prelude.{◌≡◌, ℕ, ◌-◌, ◌^◌, ◌<◌, true, List, ◌++◌, length, codes, Option, Some, None, IfSome, slice_get}
use Rattle.std.specs.Option.{option_map}
use Rattle.usp_edge.specs.declared.note.Verdict.{Verdict}
use Rattle.usp_edge.specs.declared.note.Verdict.TheVariants.{Admitted, Denied}
use Rattle.usp_jws.specs.Letters.{is_identity}
use Rattle.usp_nonce.specs.declared.answer.Turned.{Turned}
use Rattle.usp_trace.specs.Chains.{IsChain, token_at}
use Rattle.usp_trace.specs.declared.issue.Issue.TheVariants.{Grant}
use Rattle.usp_lab.specs.Entries.{Entry, ledger_of}
use Rattle.usp_lab.specs.LabText.{AreLinks}
use Rattle.usp_lab.specs.Rounds.{Served}

-- The text names the one chain of the place, which begins with a grant and ends with this token.
pub record NamesChain (entries : List Entry) (place : ℕ) (token : List ℕ) (text : List ℕ) : Type 0 where
  pub places : List ℕ
  pub links : List ℕ
  pub chain : IsChain (ledger_of entries) place places
  pub one : (others : List ℕ) → IsChain (ledger_of entries) place others → others ≡ places
  pub shown : AreLinks entries places links
  pub is : text ≡ codes " chain " ++ links
  pub grant : (first : ℕ) × (granted : List ℕ) × (slice_get places 0 ≡ Some first)
      × (slice_get (ledger_of entries) first ≡ Some (Grant granted))
  pub last : slice_get places (length places - 1) ≡ Some place
  pub has : token_at (ledger_of entries) place ≡ Some token

-- ---- what one line says

-- Which ask a line is of, and of which edge; the verdict, and the status where it was admitted; the place and the
-- moment of its nonce call, where there was one; and its chain.
pub record AskLine : Type 0 where
  pub number : ℕ
  pub edge : List ℕ
  pub verdict : Verdict
  pub status : Option ℕ
  pub turn : Option (ℕ × ℕ)
  pub origin : List ℕ

abbrev pub status_shown : (status : ℕ) → Verdict → Option ℕ
status_shown status Admitted = Some status
status_shown status (Denied rule) = None

abbrev pub turn_shown : Option Turned → Option (ℕ × ℕ)
turn_shown call = option_map (λ turned. (turned.place, turned.moment)) call

abbrev pub ask_line : (number : ℕ) → Served → (origin : List ℕ) → AskLine
ask_line number served origin = record {
  number = number;
  edge = served.edge.edge;
  verdict = served.note.verdict;
  status = status_shown served.note.status served.note.verdict;
  turn = turn_shown served.note.call;
  origin = origin;
}

-- The edge is named by an identity, and the numbers of the line have at most 64 bits.
pub record IsPrintable (number : ℕ) (served : Served) : Type 0 where
  pub edge : is_identity served.edge.edge ≡ true
  pub counted : number < 2 ^ 64
  pub status : served.note.status < 2 ^ 64
  pub call : IfSome served.note.call (λ turned. (turned.place < 2 ^ 64) × (turned.moment < 2 ^ 64))
