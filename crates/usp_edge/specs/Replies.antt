-- The replies to a request.
use Rattle.std.specs.Prelude.{ℕ, Bool, true, false, List, [], ◌∷◌, ◌++◌, codes}
use Rattle.std.specs.Fmt.{decimal}
use Rattle.usp_base.specs.Lines.{line_feed}
use Rattle.usp_http.specs.Replies.{reply_text}
use Rattle.usp_http.specs.declared.head.Head.{Head}
use Rattle.usp_http.specs.declared.head.Method.{Method}
use Rattle.usp_http.specs.declared.head.Method.TheVariants as method
use Rattle.usp_http.specs.declared.reply.Field.{Field}
use Rattle.usp_http.specs.declared.reply.Field.TheVariants as field
use Rattle.usp_http.specs.declared.reply.Reply.{Reply}
use Rattle.usp_rules.specs.Names.{name_of, number_of}
use Rattle.usp_rules.specs.declared.rule.Rule.{Rule}
use Rattle.usp_rules.specs.declared.rule.Rule.TheVariants as rule

-- A reply to HEAD is without its body (RFC 9110 section 9.3.2).
abbrev pub is_bare : Method → Bool
is_bare method.Bare = true
is_bare method.Get = false
is_bare method.Other = false

abbrev pub reply_to : Head → (last : Bool) → (status : ℕ) → Field → (body : List ℕ) → Reply
reply_to head last status field body =
    record { status = status; body = body; field = field; last = last; bare = is_bare head.method }

abbrev pub body_line : List ℕ → List ℕ
body_line text = text ++ line_feed ∷ []

-- the status of a denial
abbrev pub denial_status : Rule → ℕ
denial_status rule.Uri = 400
denial_status rule.Room = 503
denial_status other = 403

-- a denial tells the first rule that fails
abbrev pub denial_body : Rule → List ℕ
denial_body rule = body_line (codes "denied " ++ (decimal (number_of rule) ++ 32 ∷ name_of rule))

-- a head that announces a body
abbrev pub body_reply : Head → Reply
body_reply head = reply_to head true 400 field.Plain (body_line (codes "body"))

-- a method that is not served
abbrev pub method_reply : Head → (last : Bool) → Reply
method_reply head last = reply_to head last 405 field.Allow (body_line (codes "method"))

-- what is no head: never bare
abbrev pub closing_text : List ℕ
closing_text =
    reply_text (record {
      status = 400;
      body = body_line (codes "bad head");
      field = field.Plain;
      last = true;
      bare = false;
    })
