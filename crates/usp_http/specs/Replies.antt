-- The bytes of a reply (RFC 9112, section 4).
use Rattle.std.specs.Prelude.{ℕ, Bool, List, [], ◌∷◌, ◌++◌, ◌==◌, length, codes, if◌then◌else◌, ◌⊎◌, ◌≡◌}
use Rattle.std.specs.Fmt.{decimal}
use Rattle.usp_base.specs.Lines.{carriage_return, line_feed}
use Rattle.usp_http.specs.declared.reply.Field.{Field}
use Rattle.usp_http.specs.declared.reply.Field.TheVariants as field
use Rattle.usp_http.specs.declared.reply.Reply.{Reply}

-- each line of a reply ends in CR LF
abbrev pub line_end : List ℕ
line_end = carriage_return ∷ line_feed ∷ []

-- the eight that an edge answers
abbrev pub IsStatus : ℕ → Type 0
IsStatus status =
    (status ≡ 200) ⊎ (status ≡ 302) ⊎ (status ≡ 400) ⊎ (status ≡ 403)
    ⊎ (status ≡ 404) ⊎ (status ≡ 405) ⊎ (status ≡ 502) ⊎ (status ≡ 503)

-- what the status line says behind the version; a status that is none of the others is 503
abbrev pub status_text : ℕ → List ℕ
status_text status =
    if status == 200 then codes "200 OK"
    else if status == 302 then codes "302 Found"
    else if status == 400 then codes "400 Bad Request"
    else if status == 403 then codes "403 Forbidden"
    else if status == 404 then codes "404 Not Found"
    else if status == 405 then codes "405 Method Not Allowed"
    else if status == 502 then codes "502 Bad Gateway"
    else codes "503 Service Unavailable"

abbrev pub field_text : Field → List ℕ
field_text field.Plain = []
field_text (field.SetCookie cookie) = codes "Set-Cookie: " ++ (cookie ++ line_end)
field_text (field.Location location) = codes "Location: " ++ (location ++ line_end)
field_text field.Allow = codes "Allow: " ++ (codes "GET, HEAD" ++ line_end)

abbrev pub close_text : Bool → List ℕ
close_text last = if last then codes "Connection: close" ++ line_end else []

abbrev pub body_text : Bool → List ℕ → List ℕ
body_text bare body = if bare then [] else body

-- a reply to a request for the head alone has the length of the body, and no body
abbrev pub reply_text : Reply → List ℕ
reply_text reply =
    (((((((codes "HTTP/1.1 " ++ status_text reply.status)
    ++ codes "\r\nContent-Length: ") ++ decimal (length reply.body)) ++ line_end)
    ++ field_text reply.field) ++ close_text reply.last) ++ line_end) ++ body_text reply.bare reply.body
