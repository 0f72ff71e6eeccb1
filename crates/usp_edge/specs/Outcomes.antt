-- What comes of a request: the first rule that fails, or what it is served.
use Rattle.std.specs.Prelude.{◌≡◌, ℕ, List, [], ◌∷◌, codes, Option, Some, None, slice_get}
use Rattle.std.specs.Option.{unwrap_or}
use Rattle.usp_claims.specs.Table.{number_claim, text_claim}
use Rattle.usp_conf.specs.Values.{ConfValue}
use Rattle.usp_cookie.specs.Cookies.{cookie_path, set_cookie}
use Rattle.usp_http.specs.declared.reply.Field.{Field}
use Rattle.usp_http.specs.declared.reply.Field.TheVariants as field
use Rattle.usp_issue.specs.Redirections.{SendsFrom}
use Rattle.usp_issue.specs.Renewals.{Renews}
use Rattle.usp_issue.specs.declared.signed.Signed.{Signed}
use Rattle.usp_json.specs.declared.value.Members.{Members}
use Rattle.usp_jws.specs.Keys.{KeyValue}
use Rattle.usp_nonce.specs.declared.answer.Answer.{Answer}
use Rattle.usp_nonce.specs.declared.answer.Answer.TheVariants as answer
use Rattle.usp_nonce.specs.declared.answer.Turned.{Turned}
use Rattle.usp_nonce.specs.declared.limits.TheConstants.{MAX_UNTIL}
use Rattle.usp_rules.specs.Asks.{AskValue}
use Rattle.usp_rules.specs.Judging.{Judges}
use Rattle.usp_rules.specs.declared.judged.Judged.TheVariants as judged
use Rattle.usp_rules.specs.declared.rule.Rule.{Rule}
use Rattle.usp_rules.specs.declared.rule.Rule.TheVariants as rule
use Rattle.usp_uri.specs.Segments.{segments_in}
use Rattle.usp_edge.specs.Asks.{attribute_of}
use Rattle.usp_edge.specs.Calls.{Placed, turned_of}
use Rattle.usp_edge.specs.Replies.{body_line, denial_body, denial_status}
use Rattle.usp_edge.specs.declared.note.Verdict.{Verdict}
use Rattle.usp_edge.specs.declared.note.Verdict.TheVariants as verdict

-- ---- the nonce call (RFC 9246 section 2.1.7)

-- The nonce is the `jti` with the content. It is held until `exp`, or for good without that.
pub record IsCall (members : Members) (content : List ℕ) (moment : ℕ) (jti : List ℕ) (of : Placed) : Type 0 where
  pub nonce : of.call.nonce ≡ record { jti = jti; uri = content }
  pub now : of.call.now ≡ moment
  pub until : of.call.until ≡ unwrap_or (number_claim (codes "exp") members) MAX_UNTIL

-- one call where there is a `jti`, and none else
abbrev pub CallsFor : (jti : Option (List ℕ)) → Members → (content : List ℕ) → (moment : ℕ) → List Placed → Type 0
CallsFor None members content moment calls = calls ≡ []
CallsFor (Some jti) members content moment calls =
    (of : Placed) × IsCall members content moment jti of × (calls ≡ of ∷ [])

abbrev pub Calls : Members → (content : List ℕ) → (moment : ℕ) → List Placed → Type 0
Calls members content moment calls = CallsFor (text_claim (codes "jti") members) members content moment calls

-- what rules 16 to 18 say
abbrev pub answer_verdict : Answer → Verdict
answer_verdict answer.Taken = verdict.Admitted
answer_verdict answer.Late = verdict.Denied rule.Late
answer_verdict answer.Seen = verdict.Denied rule.Seen
answer_verdict answer.Full = verdict.Denied rule.Room

-- the verdict of a call that was made, or of none
abbrev pub verdict_by : Option Turned → Verdict
verdict_by None = verdict.Admitted
verdict_by (Some turned) = answer_verdict turned.answer

abbrev pub verdict_of : List Placed → Verdict
verdict_of [] = verdict.Admitted
verdict_of (of ∷ calls) = answer_verdict of.call.answer

abbrev pub turn_of : List Placed → Option Turned
turn_of [] = None
turn_of (of ∷ calls) = Some (turned_of of)

-- ---- objects

-- what one read of the objects answered
pub data ObjectAnswer : Type 0 where
  object : Option (List ℕ) → ObjectAnswer
  failed no_memory : ObjectAnswer

-- one read of the objects
pub record Find : Type 0 where
  pub uri : List ℕ
  pub found : ObjectAnswer

abbrev pub find : List ℕ → ObjectAnswer → List Find
find uri found = record { uri = uri; found = found } ∷ []

-- ---- redirection and renewal (RFC 9246 sections 2 and 3)

-- the place of the first route that takes the request, and the content signed for it
abbrev pub Sends : ConfValue → Members → (content : List ℕ) → (moment : ℕ) → Option (ℕ × Signed) → Type 0
Sends conf members content moment to = SendsFrom (attribute_of conf) members content moment 0 conf.site.routes to

-- the token renewed with the edge's own key, where the claims are renewed
pub record RenewsWithOwn (conf : ConfValue) (members : Members) (content : List ℕ) (moment : ℕ)
    (issued : Option (List ℕ)) : Type 0 where
  pub key : KeyValue
  pub own : slice_get conf.site.profile.ring conf.site.sign ≡ Some key
  pub renews : Renews members content moment key issued

-- the cookie that carries the renewed token
abbrev pub cookie_for : ConfValue → Members → (content token : List ℕ) → List ℕ
cookie_for conf members content token =
    set_cookie (attribute_of conf) token
    (cookie_path (unwrap_or (number_claim (codes "cdnistd") members) 0) (segments_in content))

abbrev pub renewal_field : ConfValue → Members → (content : List ℕ) → (issued : Option (List ℕ)) → Field
renewal_field conf members content None = field.Plain
renewal_field conf members content (Some token) = field.SetCookie (cookie_for conf members content token)

-- ---- outcomes

-- What comes of a request: its nonce calls and its reads of objects, what is noted, and what is replied.
pub record Outcome : Type 0 where
  pub calls : List Placed
  pub finds : List Find
  pub verdict : Verdict
  pub route : Option ℕ
  pub issued : Option (List ℕ)
  pub status : ℕ
  pub field : Field
  pub body : List ℕ

abbrev pub denied : List Placed → Rule → Outcome
denied calls rule = record {
  calls = calls;
  finds = [];
  verdict = verdict.Denied rule;
  route = None;
  issued = None;
  status = denial_status rule;
  field = field.Plain;
  body = denial_body rule;
}

abbrev pub redirected : List Placed → (place : ℕ) → Signed → Outcome
redirected calls place signed = record {
  calls = calls;
  finds = [];
  verdict = verdict.Admitted;
  route = Some place;
  issued = Some signed.token;
  status = 302;
  field = field.Location signed.location;
  body = [];
}

abbrev pub shown : List Placed → List Find → (issued : Option (List ℕ)) → Field → (body : List ℕ) → Outcome
shown calls finds issued field body = record {
  calls = calls;
  finds = finds;
  verdict = verdict.Admitted;
  route = None;
  issued = issued;
  status = 200;
  field = field;
  body = body;
}

-- there is nothing to show
abbrev pub unshown : List Placed → List Find → (status : ℕ) → (line : List ℕ) → Outcome
unshown calls finds status line = record {
  calls = calls;
  finds = finds;
  verdict = verdict.Admitted;
  route = None;
  issued = None;
  status = status;
  field = field.Plain;
  body = body_line line;
}

-- A request that all rules admit is sent on, or its object is read. Only an object that is there comes with a
-- renewed token.
pub data Serves (conf : ConfValue) (members : Members) (content : List ℕ) (moment : ℕ) (calls : List Placed)
    (outcome : Outcome) : Type 0 where
  on : (place : ℕ) (signed : Signed) → Sends conf members content moment (Some (place, signed))
      → outcome ≡ redirected calls place signed → Serves conf members content moment calls outcome
  there : (bytes : List ℕ) (issued : Option (List ℕ)) → Sends conf members content moment None
      → RenewsWithOwn conf members content moment issued
      → outcome ≡ shown calls (find content (object (Some bytes))) issued
      (renewal_field conf members content issued) bytes
      → Serves conf members content moment calls outcome
  absent : Sends conf members content moment None
      → outcome ≡ unshown calls (find content (object None)) 404 (codes "no object")
      → Serves conf members content moment calls outcome
  unanswered : Sends conf members content moment None
      → outcome ≡ unshown calls (find content failed) 502 (codes "no answer")
      → Serves conf members content moment calls outcome

-- What comes of an ask by all rules. The nonce call is made where rules 1 to 15 hold, and not else.
pub data Decides (conf : ConfValue) (ask : AskValue) (outcome : Outcome) : Type 0 where
  by_judgement : (rule : Rule) → Judges conf.site.profile ask (judged.Denied rule) → outcome ≡ denied [] rule
      → Decides conf ask outcome
  by_nonce : (content token : List ℕ) (members : Members) (key : ℕ) (calls : List Placed) (rule : Rule)
      → Judges conf.site.profile ask (judged.Passed content token members key)
      → Calls members content ask.moment calls → verdict_of calls ≡ verdict.Denied rule
      → outcome ≡ denied calls rule → Decides conf ask outcome
  by_all : (content token : List ℕ) (members : Members) (key : ℕ) (calls : List Placed)
      → Judges conf.site.profile ask (judged.Passed content token members key)
      → Calls members content ask.moment calls → verdict_of calls ≡ verdict.Admitted
      → Serves conf members content ask.moment calls outcome → Decides conf ask outcome
