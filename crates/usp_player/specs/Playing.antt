-- What a player asks for, and what it makes of the answers. It asks for the first URI, then for each segment of the
-- playlist that answers it, in order.
use Rattle.std.specs.Prelude.{◌≡◌, ℕ, ◌+◌, ◌==◌, nat_lt, List, [], ◌∷◌, ◌++◌, map, Option, Some, None, Result, Ok, Err, if◌then◌else◌}
use Rattle.url.specs.Parts.{Parts}
use Rattle.url.specs.Parser.{Parsed}
use Rattle.usp_base.specs.declared.link.Asked.{Asked}
use Rattle.usp_cookie.specs.Jars.{header_of, stored}
use Rattle.usp_cookie.specs.declared.cookie.Cookie.{Cookie}
use Rattle.usp_http.specs.Hearing.{Hears, HearsNothing}
use Rattle.usp_http.specs.declared.heard.Heard.{Heard}
use Rattle.usp_player.specs.Lists.{list_of}
use Rattle.usp_player.specs.Maps.{address_of}
use Rattle.usp_player.specs.Requests.{authority_of, head_of, is_web, url_of}
use Rattle.usp_player.specs.declared.fault.ListFault.{ListFault}
use Rattle.usp_player.specs.declared.fault.PlayFault.{PlayFault}
use Rattle.usp_player.specs.declared.fault.PlayFault.TheVariants as fault
use Rattle.usp_player.specs.declared.limits.TheConstants.{MAX_REDIRECTIONS}
use Rattle.usp_player.specs.declared.map.Place.{Place}
use Rattle.usp_player.specs.declared.playlist.Playlist.{Playlist}
use Rattle.usp_player.specs.declared.playlist.Segment.{Segment}
use Rattle.usp_player.specs.declared.transcript.Step.{Step}

-- What is asked for: the first URI, or a segment of the playlist that was answered at `base`, before these others.
pub data Aim : Type 0 where
  first : Aim
  segment : (base : Parts) → (others : List (List ℕ)) → Aim

-- one request: its URL and address, how many redirections led to it, and the cookies that are kept
pub record Turn : Type 0 where
  pub url : Parts
  pub address : List ℕ
  pub redirections : ℕ
  pub jar : List Cookie
  pub aim : Aim

-- what a player does next
pub data Next : Type 0 where
  ask : Turn → Next
  played : Next
  stopped : PlayFault → Next

-- ---- toward a request

abbrev pub turn_with : Parts → (address : List ℕ) → (redirections : ℕ) → List Cookie → Aim → Turn
turn_with url address redirections jar aim =
    record { url = url; address = address; redirections = redirections; jar = jar; aim = aim }

abbrev pub ask_at : (address : Option (List ℕ)) → Parts → (redirections : ℕ) → List Cookie → Aim → Next
ask_at None url redirections jar aim = stopped fault.NoAddress
ask_at (Some address) url redirections jar aim = ask (turn_with url address redirections jar aim)

-- A URL of the web is asked for at the address of its authority.
abbrev pub toward : List Place → Parts → (redirections : ℕ) → List Cookie → Aim → Next
toward places url redirections jar aim =
    if is_web url.scheme then ask_at (address_of places (authority_of url)) url redirections jar aim
    else stopped fault.BadUri

abbrev pub toward_url : List Place → Parsed Parts → (redirections : ℕ) → List Cookie → Aim → Next
toward_url places (Ok url) redirections jar aim = toward places url redirections jar aim
toward_url places (Err e) redirections jar aim = stopped fault.BadUri

-- A player begins with the first URI and no cookie.
abbrev pub begin : List Place → (uri : List ℕ) → Next
begin places uri = toward_url places (url_of None uri) 0 [] first

-- Each segment is resolved against the URL that the playlist was answered at.
abbrev pub toward_segments : List Place → List Cookie → (base : Parts) → (uris : List (List ℕ)) → Next
toward_segments places jar base [] = played
toward_segments places jar base (uri ∷ others) =
    toward_url places (url_of (Some base) uri) 0 jar (segment base others)

abbrev pub uris_of : List Segment → List (List ℕ)
uris_of segments = map (λ s. s.uri) segments

-- ---- behind a reply

abbrev pub after_playlist : List Place → List Cookie → (base : Parts) → Result Playlist ListFault → Next
after_playlist places jar base (Err bad) = stopped (fault.List bad)
after_playlist places jar base (Ok list) = toward_segments places jar base (uris_of list.segments)

-- The URL was answered with this body, which is the playlist where it is the first.
abbrev pub after_body : List Place → Aim → List Cookie → (url : Parts) → (body : List ℕ) → Next
after_body places first jar url body = after_playlist places jar url (list_of body)
after_body places (segment base others) jar url body = toward_segments places jar base others

-- A request is redirected so often at most, each time to a location that is resolved against the URL asked.
abbrev pub after_redirection : List Place → Parts → (redirections : ℕ) → Aim → List Cookie
    → (location : Option (List ℕ)) → Next
after_redirection places url redirections aim jar None = stopped fault.NoLocation
after_redirection places url redirections aim jar (Some location) =
    if nat_lt redirections MAX_REDIRECTIONS
    then toward_url places (url_of (Some url) location) (redirections + 1) jar aim
    else stopped fault.TooManyHops

-- the same by the status, where the cookies of the reply are in the jar
abbrev pub after_reply : List Place → Parts → (redirections : ℕ) → Aim → Heard → List Cookie → Next
after_reply places url redirections aim reply jar =
    if reply.status == 200 then after_body places aim jar url reply.body
    else if reply.status == 302 then after_redirection places url redirections aim jar reply.location
    else stopped fault.Denied

-- ---- one request

-- What an answer of the link says: that it failed, or bytes that are no reply, or a reply. There may be no memory to
-- read it.
pub data Reading : Type 0 where
  lost : Reading
  bad : Reading
  heard : Heard → Reading
  unread : Reading

abbrev pub Says : (answer : Option (List ℕ)) → Reading → Type 0
Says None lost = Unit {0}
Says (Some bytes) bad = HearsNothing bytes
Says (Some bytes) (heard reply) = Hears bytes reply
Says (Some bytes) unread = Unit {0}
Says answer other = ⊥

-- the jar with the values of Set-Cookie fields, in order
abbrev pub jar_with : (authority path : List ℕ) → (values : List (List ℕ)) → List Cookie → List Cookie
jar_with authority path [] jar = jar
jar_with authority path (value ∷ values) jar =
    jar_with authority path values (stored authority path value jar)

abbrev pub jar_after : Turn → Heard → List Cookie
jar_after turn reply = jar_with (authority_of turn.url) turn.url.path reply.cookies turn.jar

abbrev pub after : List Place → Turn → Reading → Next
after places turn lost = stopped fault.LinkFault
after places turn bad = stopped fault.BadReply
after places turn unread = stopped fault.NoMemory
after places turn (heard reply) =
    after_reply places turn.url turn.redirections turn.aim reply (jar_after turn reply)

abbrev pub step_with : (authority path : List ℕ) → (status : ℕ) → Step
step_with authority path status = record { authority = authority; path = path; status = status }

-- A request is answered where its reply is heard.
abbrev pub steps_of : Turn → Reading → List Step
steps_of turn (heard reply) = step_with (authority_of turn.url) turn.url.path reply.status ∷ []
steps_of turn other = []

-- the head of a request, with the cookies that go with it
abbrev pub sent_head : Turn → List ℕ
sent_head turn = head_of turn.url (header_of (authority_of turn.url) turn.url.path turn.jar)

-- ---- all requests

-- one ask of the link: its address and head are those of the request, and its answer says this
pub record Asks (turn : Turn) (asked : Asked) (reading : Reading) : Type 0 where
  pub address : asked.address ≡ turn.address
  pub head : asked.head ≡ sent_head turn
  pub says : Says asked.answer reading

-- What a player that begins so has asked, which of its requests were answered, and what it does next.
pub data Played (places : List Place) (start : Next) : List Asked → List Step → Next → Type 0 where
  begun : Played places start [] [] start
  more : (asks : List Asked) (steps : List Step) (turn : Turn) (asked : Asked) (reading : Reading)
      → Played places start asks steps (ask turn) → Asks turn asked reading
      → Played places start (asks ++ asked ∷ []) (steps ++ steps_of turn reading) (after places turn reading)

-- the answers of a link, of which None is one that failed
abbrev pub answers_of : List Asked → List (Option (List ℕ))
answers_of asks = map (λ asked. asked.answer) asks
