-- What the notes of a connection say, whatever it brought.
use Rattle.std.specs.Prelude.{◌≡◌, ◌⊎◌, ℕ, List, [], ◌∷◌, ◌++◌, Option, Some, None, IfSome, map, option_to_list, slice_get}
use Rattle.usp_conf.specs.Values.{ConfValue}
use Rattle.usp_issue.specs.Renewals.{IsRenewed}
use Rattle.usp_issue.specs.Resignings.{IsResigned}
use Rattle.usp_issue.specs.Routes.{RouteValue}
use Rattle.usp_json.specs.declared.value.Members.{Members}
use Rattle.usp_jws.specs.Keys.{KeyValue}
use Rattle.usp_nonce.specs.declared.answer.Answer.TheVariants.{Taken}
use Rattle.usp_nonce.specs.declared.answer.Turned.{Turned}
use Rattle.usp_package.specs.Package.{package_of}
use Rattle.usp_rules.specs.Asks.{AskValue, content_in}
use Rattle.usp_rules.specs.Rules.{First, Valid}
use Rattle.usp_rules.specs.Tokens.{CarriesClaims}
use Rattle.usp_rules.specs.declared.rule.Rule.{Rule}
use Rattle.usp_edge.specs.Asks.{attribute_of, brought}
use Rattle.usp_edge.specs.Calls.{Placed, turned_of}
use Rattle.usp_edge.specs.Outcomes.{verdict_by}
use Rattle.usp_edge.specs.declared.note.Note.{Note}
use Rattle.usp_edge.specs.declared.note.Verdict.TheVariants.{Admitted, Denied}

-- ---- verdicts

-- one of rules 1 to 15 is the first that fails, and no nonce call was made
abbrev pub IsDeniedBefore : ConfValue → AskValue → Note → Type 0
IsDeniedBefore conf ask note =
    (rule : Rule) × First conf.site.profile ask (Some rule) × (note.verdict ≡ Denied rule) × (note.call ≡ None)

-- rules 1 to 15 hold, and the nonce call decides, where there was one
abbrev pub IsDecidedBehind : ConfValue → AskValue → Note → Type 0
IsDecidedBehind conf ask note = First conf.site.profile ask None × (note.verdict ≡ verdict_by note.call)

-- The note is of an ask, and has its verdict.
pub record HasVerdict (conf : ConfValue) (note : Note) : Type 0 where
  pub ask : AskValue
  pub uri : note.uri ≡ ask.uri
  pub token : note.token ≡ brought conf ask
  pub moment : note.moment ≡ ask.moment
  pub verdict : IsDeniedBefore conf ask note ⊎ IsDecidedBehind conf ask note

-- ---- admissions and issues

-- The request brought a token with these claims, which is valid at the edge for this content, at the note's moment.
pub record IsAdmission (conf : ConfValue) (note : Note) : Type 0 where
  pub token : List ℕ
  pub content : List ℕ
  pub members : Members
  pub brought : note.token ≡ Some token
  pub of : content_in note.uri (package_of (attribute_of conf) note.uri) ≡ Some content
  pub valid : Valid conf.site.profile (record { token = token; content = Some content; moment = note.moment })
  pub claims : CarriesClaims token members

-- The token is these claims, renewed with the edge's own key, or signed again for the route at that place.
abbrev pub IsIssuedBy : ConfValue → Members → (content : List ℕ) → (moment : ℕ) → (route : Option ℕ)
    → (token : List ℕ) → Type 0
IsIssuedBy conf members content moment None token =
    (key : KeyValue) × (slice_get conf.site.profile.ring conf.site.sign ≡ Some key)
    × IsRenewed members content moment key token
IsIssuedBy conf members content moment (Some place) token =
    (route : RouteValue) × (slice_get conf.site.routes place ≡ Some route)
    × IsResigned members content moment route token

-- What was issued was issued to an admitted request, for its claims and its content.
pub record IsIssue (conf : ConfValue) (note : Note) (token : List ℕ) : Type 0 where
  pub admission : IsAdmission conf note
  pub issued : IsIssuedBy conf admission.members admission.content note.moment note.route token
  pub taken : IfSome note.call (λ turned. turned.answer ≡ Taken)

-- What is noted is what was done.
pub record IsHonest (conf : ConfValue) (note : Note) : Type 0 where
  pub decided : HasVerdict conf note
  pub admitted : note.verdict ≡ Admitted → IsAdmission conf note
  pub issued : (token : List ℕ) → note.issued ≡ Some token → IsIssue conf note token

abbrev pub AreHonest : ConfValue → List Note → Type 0
AreHonest conf [] = Unit {0}
AreHonest conf (note ∷ notes) = IsHonest conf note × AreHonest conf notes

-- ---- calls and moments

-- the nonce calls that notes show
abbrev pub turns_in : List Note → List Turned
turns_in [] = []
turns_in (note ∷ notes) = option_to_list note.call ++ turns_in notes

-- the nonce calls are those that the notes show, in their order
abbrev pub AreShown : List Placed → List Note → Type 0
AreShown calls notes = map turned_of calls ≡ turns_in notes

-- the moments are those of the notes
abbrev pub AreMoments : List ℕ → List Note → Type 0
AreMoments moments notes = moments ≡ map (λ note. note.moment) notes
