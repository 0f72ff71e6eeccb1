-- How a reply leads to the next request.
use Rattle.std.proofs.Common.{◌≡◌, ◌≤◌, ◌<◌, ◌+◌, ◌==◌, refl, sym, ap, ◌∙◌, subst, inl, inr, ℕ, if◌then◌else◌, List, [], ◌∷◌, append-nil, length, drop, get_or, Option, Some, None, Result, Ok, Err, arith}
use Rattle.std.specs.Prelude.{IsErrAnd}
use Rattle.std.proofs.lemmas.Bool.{eq-eqb, ne_eqb, le-ltb}
use Rattle.std.proofs.lemmas.List.{drop_more}
use borrow.Author.Tests.{lt-ltb}
use Rattle.url.specs.Parts.{Parts}
use Rattle.url.specs.Parser.{Parsed}
use Rattle.usp_base.specs.declared.link.Asked.{Asked}
use Rattle.usp_cookie.specs.declared.cookie.Cookie.{Cookie}
use Rattle.usp_http.specs.declared.heard.Heard.{Heard}
use Rattle.usp_player.specs.Calls.{GivesUrl}
use Rattle.usp_player.specs.Faults.{IsListFault}
use Rattle.usp_player.specs.Lists.{ReadsList, list_of}
use Rattle.usp_player.specs.Playing.{Aim, Next, after_body, after_playlist, after_redirection, after_reply, begin, begun, stopped, toward, toward_segments, toward_url, uris_of}
use Rattle.usp_player.specs.Playing as playing
use Rattle.usp_player.specs.Requests.{url_of}
use Rattle.usp_player.specs.Ways.{Follows, Halts, Plays, Requests, Way, with_asks}
use Rattle.usp_player.specs.declared.fault.ListFault.{ListFault}
use Rattle.usp_player.specs.declared.fault.PlayFault.{PlayFault}
use Rattle.usp_player.specs.declared.fault.PlayFault.TheVariants as fault
use Rattle.usp_player.specs.declared.limits.TheConstants.{MAX_REDIRECTIONS}
use Rattle.usp_player.specs.declared.map.Place.{Place}
use Rattle.usp_player.specs.declared.playlist.Playlist.{Playlist}
use Rattle.usp_player.specs.declared.player.Reached.{Reached}
use Rattle.usp_player.specs.declared.playlist.Segment.{Segment}
use Rattle.usp_player.specs.declared.transcript.Step.{Step}
use Rattle.usp_player.proofs.Going.{no_memory}

-- Whoever came to the one request came to the other.
abbrev pub Leads : List Place → (old now : Option (List Asked)) → (steps steps2 : List Step)
    → Parts → ℕ → List Cookie → Parts → ℕ → List Cookie → Type 0
Leads places old now steps steps2 url n jar url2 n2 jar2 =
    (start : Next) (told : Option (List Asked)) (aim : Aim)
    → Way places start told old steps (toward places url n jar aim)
    → Way places start told now steps2 (toward places url2 n2 jar2 aim)

pub next_is : (places : List Place) (start : Next) (told now : Option (List Asked)) (steps : List Step) (a b : Next)
    → Way places start told now steps a → a ≡ b → Way places start told now steps b
next_is places start told now steps a b way same = subst (λ n. Way places start told now steps n) same way

-- ---- the status

pub reply_found : (places : List Place) (url : Parts) (n : ℕ) (aim : Aim) (reply : Heard) (jar : List Cookie)
    → reply.status ≡ 200 → after_reply places url n aim reply jar ≡ after_body places aim jar url reply.body
reply_found places url n aim reply jar is =
    ap (λ b. if b then after_body places aim jar url reply.body
    else if reply.status == 302 then after_redirection places url n aim jar reply.location
    else stopped fault.Denied) (eq-eqb reply.status 200 is)

not_found : (places : List Place) (url : Parts) (n : ℕ) (aim : Aim) (reply : Heard) (jar : List Cookie)
    → (reply.status ≡ 200 → ⊥) → after_reply places url n aim reply jar
    ≡ (if reply.status == 302 then after_redirection places url n aim jar reply.location else stopped fault.Denied)
not_found places url n aim reply jar other =
    ap (λ b. if b then after_body places aim jar url reply.body
    else if reply.status == 302 then after_redirection places url n aim jar reply.location
    else stopped fault.Denied) (ne_eqb reply.status 200 other)

pub reply_denied : (places : List Place) (url : Parts) (n : ℕ) (aim : Aim) (reply : Heard) (jar : List Cookie)
    → (reply.status ≡ 200 → ⊥) → (reply.status ≡ 302 → ⊥)
    → after_reply places url n aim reply jar ≡ stopped fault.Denied
reply_denied places url n aim reply jar other moved =
    not_found places url n aim reply jar other
    ∙ ap (λ b. if b then after_redirection places url n aim jar reply.location else stopped fault.Denied)
    (ne_eqb reply.status 302 moved)

pub reply_moved : (places : List Place) (url : Parts) (n : ℕ) (aim : Aim) (reply : Heard) (jar : List Cookie)
    (location : Option (List ℕ)) → (reply.status ≡ 200 → ⊥) → reply.status ≡ 302 → reply.location ≡ location
    → after_reply places url n aim reply jar ≡ after_redirection places url n aim jar location
reply_moved places url n aim reply jar location other moved is =
    not_found places url n aim reply jar other
    ∙ ap (λ b. if b then after_redirection places url n aim jar reply.location else stopped fault.Denied)
    (eq-eqb reply.status 302 moved)
    ∙ ap (after_redirection places url n aim jar) is

pub redirected_on : (places : List Place) (url : Parts) (n : ℕ) (aim : Aim) (jar : List Cookie) (location : List ℕ)
    → n < MAX_REDIRECTIONS → after_redirection places url n aim jar (Some location)
    ≡ toward_url places (url_of (Some url) location) (n + 1) jar aim
redirected_on places url n aim jar location few =
    ap (λ b. if b then toward_url places (url_of (Some url) location) (n + 1) jar aim else stopped fault.TooManyHops)
    (lt-ltb n MAX_REDIRECTIONS few)

pub redirected_often : (places : List Place) (url : Parts) (n : ℕ) (aim : Aim) (jar : List Cookie) (location : List ℕ)
    → MAX_REDIRECTIONS ≤ n → after_redirection places url n aim jar (Some location) ≡ stopped fault.TooManyHops
redirected_often places url n aim jar location many =
    ap (λ b. if b then toward_url places (url_of (Some url) location) (n + 1) jar aim else stopped fault.TooManyHops)
    (le-ltb n MAX_REDIRECTIONS many)

-- ---- the URL

url_is : (url : Parts) (meant : Parsed Parts) → GivesUrl (Ok url) meant → meant ≡ Ok url
url_is url (Ok other) (inr is) = sym (cc is)
url_is url (Err e) (inr is) = absurd (cc is)
url_is url meant (inl is) = absurd (cc is)

pub toward_given : (places : List Place) (meant : Parsed Parts) (url : Parts) (n : ℕ) (jar : List Cookie) (aim : Aim)
    → GivesUrl (Ok url) meant → toward_url places meant n jar aim ≡ toward places url n jar aim
toward_given places meant url n jar aim gives = ap (λ m. toward_url places m n jar aim) (url_is url meant gives)

-- There is no URL, or no memory for it.
pub not_given : (places : List Place) (start : Next) (told now : Option (List Asked)) (steps : List Step)
    (meant : Parsed Parts) (n : ℕ) (jar : List Cookie) (aim : Aim) (e : PlayFault)
    → Way places start told now steps (toward_url places meant n jar aim) → GivesUrl (Err e) meant
    → Halts places start told now steps e
not_given places start told now steps meant n jar aim e way (inl is) =
    no_memory places start told now steps _ e way (cc is)
not_given places start told now steps (Ok url) n jar aim e way (inr is) = absurd (cc is)
not_given places start told now steps (Err refused) n jar aim e way (inr is) =
    let same : fault.BadUri ≡ e = cc is in subst (λ f. Halts places start told now steps f) same way

pub url_is_text : (base : Option Parts) (answer : Result Parts PlayFault) (text own : List ℕ) → text ≡ own
    → GivesUrl answer (url_of base text) → GivesUrl answer (url_of base own)
url_is_text base answer text own same gives = subst (λ t. GivesUrl answer (url_of base t)) same gives

-- ---- the first request

no_asks : (told : Option (List Asked)) → told ≡ with_asks told []
no_asks None = refl
no_asks (Some all) = ap Some (sym (append-nil all))

-- Nothing was asked.
pub began : (places : List Place) (start : Next) (told : Option (List Asked)) (steps : List Step) → steps ≡ []
    → Way places start told told steps start
began places start told steps none =
    subst (λ s. Way places start told told s start) (sym none)
    (record { asks = []; grows = no_asks told; plays = begun })

pub began_with : (places : List Place) (uri : List ℕ) (told : Option (List Asked)) (steps : List Step) (url : Parts)
    (jar : List Cookie) → steps ≡ [] → jar ≡ [] → GivesUrl (Ok url) (url_of None uri)
    → Way places (begin places uri) told told steps (toward places url 0 jar playing.first)
began_with places uri told steps url jar none empty gives =
    subst (λ j. Way places (begin places uri) told told steps (toward places url 0 j playing.first)) (sym empty)
    (next_is _ _ _ _ _ _ _ (began places (begin places uri) told steps none)
    (toward_given places (url_of None uri) url 0 [] playing.first gives))

-- ---- the segments

drop_is : (segments : List Segment) (i : ℕ) (s : Segment) → i < length segments → s ≡ get_or segments i s
    → drop i segments ≡ s ∷ drop (i + 1) segments
drop_is segments i s lt is = drop_more segments i s lt ∙ ap (λ x. x ∷ drop (i + 1) segments) (sym is)

-- the URL of the segment at this place
pub toward_segment : (places : List Place) (jar : List Cookie) (base : Parts) (segments : List Segment) (i : ℕ)
    (s : Segment) (text : List ℕ) → i < length segments → s ≡ get_or segments i s → text ≡ s.uri
    → toward_segments places jar base (uris_of (drop i segments))
    ≡ toward_url places (url_of (Some base) text) 0 jar (playing.segment base (uris_of (drop (i + 1) segments)))
toward_segment places jar base segments i s text lt is same =
    ap (λ l. toward_segments places jar base (uris_of l)) (drop_is segments i s lt is)
    ∙ ap (λ t. toward_url places (url_of (Some base) t) 0 jar
    (playing.segment base (uris_of (drop (i + 1) segments)))) (sym same)

-- ---- the playlist

-- There is no playlist in the body, or no memory for it.
no_playlist : (places : List Place) (start : Next) (told now : Option (List Asked)) (steps : List Step)
    (jar : List Cookie) (url : Parts) (body text : List ℕ) (bad : ListFault) (e : PlayFault)
    → Way places start told now steps (after_body places playing.first jar url body) → text ≡ body
    → ReadsList (Err bad) (list_of text) → IsListFault bad e → Halts places start told now steps e
no_playlist places start told now steps jar url body text bad e way same reads (inl told_as) =
    no_memory places start told now steps _ e way told_as.1
no_playlist places start told now steps jar url body text bad e way same (inl is) (inr told_as) =
    absurd (told_as.0 (cc is))
no_playlist places start told now steps jar url body text bad e way same (inr is) (inr told_as) =
    subst (λ f. Halts places start told now steps f) (sym told_as.1)
    (next_is _ _ _ _ _ _ _ way (ap (λ t. after_playlist places jar url (list_of t)) (sym same)
    ∙ ap (after_playlist places jar url) (sym is)))

pub behind_playlist : (places : List Place) (jar : List Cookie) (url : Parts) (body text : List ℕ) (list : Playlist)
    (segments : List Segment) → text ≡ body → ReadsList (Ok list) (list_of text) → segments ≡ list.segments
    → after_body places playing.first jar url body ≡ toward_segments places jar url (uris_of segments)
behind_playlist places jar url body text list segments same (inl is) rows = absurd (cc is)
behind_playlist places jar url body text list segments same (inr is) rows =
    ap (λ t. after_playlist places jar url (list_of t)) (sym same)
    ∙ ap (after_playlist places jar url) (sym is)
    ∙ ap (λ s. toward_segments places jar url (uris_of s)) (sym rows)

-- ---- a fault that is handed on

pub requests_halts : (places : List Place) (start : Next) (told now : Option (List Asked)) (steps : List Step)
    (url : Parts) (n : ℕ) (aim : Aim) (jar : List Cookie) (result : Result Heard PlayFault) (e : PlayFault)
    → IsErrAnd result (λ f. f ≡ e) → Halts places start told now steps e
    → Requests places start told now steps url n aim jar result
requests_halts places start told now steps url n aim jar (Ok reply) e is halts = absurd is
requests_halts places start told now steps url n aim jar (Err f) e is halts =
    subst (λ x. Halts places start told now steps x) (sym is) halts

pub follows_halts : (places : List Place) (start : Next) (told now : Option (List Asked)) (steps : List Step)
    (aim : Aim) (jar : List Cookie) (result : Result Reached PlayFault) (e : PlayFault)
    → IsErrAnd result (λ f. f ≡ e) → Halts places start told now steps e
    → Follows places start told now steps aim jar result
follows_halts places start told now steps aim jar (Ok reached) e is halts = absurd is
follows_halts places start told now steps aim jar (Err f) e is halts =
    subst (λ x. Halts places start told now steps x) (sym is) halts

pub plays_halts : (places : List Place) (start : Next) (told now : Option (List Asked)) (steps : List Step)
    (result : Result Unit PlayFault) (e : PlayFault) → IsErrAnd result (λ f. f ≡ e)
    → Halts places start told now steps e → Plays places start told now steps result
plays_halts places start told now steps (Ok done) e is halts = absurd is
plays_halts places start told now steps (Err f) e is halts =
    subst (λ x. Halts places start told now steps x) (sym is) halts

pub plays_no_list : (places : List Place) (start : Next) (told now : Option (List Asked)) (steps : List Step)
    (jar : List Cookie) (url : Parts) (body text : List ℕ) (bad : ListFault) (result : Result Unit PlayFault)
    → Way places start told now steps (after_body places playing.first jar url body) → text ≡ body
    → ReadsList (Err bad) (list_of text) → IsErrAnd result (λ f. IsListFault bad f)
    → Plays places start told now steps result
plays_no_list places start told now steps jar url body text bad (Ok done) way same reads is = absurd is
plays_no_list places start told now steps jar url body text bad (Err f) way same reads is =
    no_playlist places start told now steps jar url body text bad f way same reads is

-- ---- a redirection

-- a reply that is followed
pub record IsMoved (reply : Heard) (n : ℕ) (location : List ℕ) : Type 0 where
  pub other : reply.status ≡ 200 → ⊥
  pub moved : reply.status ≡ 302
  pub has : reply.location ≡ Some location
  pub few : n < MAX_REDIRECTIONS

pub moved_on : (places : List Place) (start : Next) (told now : Option (List Asked)) (steps : List Step)
    (url : Parts) (n : ℕ) (aim : Aim) (reply : Heard) (jar : List Cookie) (location : List ℕ)
    → Way places start told now steps (after_reply places url n aim reply jar) → IsMoved reply n location
    → Way places start told now steps (toward_url places (url_of (Some url) location) (n + 1) jar aim)
moved_on places start told now steps url n aim reply jar location way is =
    next_is places start told now steps _ _ way
    (reply_moved places url n aim reply jar (Some location) is.other is.moved is.has
    ∙ redirected_on places url n aim jar location is.few)

pub later_more : (a b c : ℕ) → a ≤ b → b ≤ c → a ≤ c
later_more a b c first second = omega arith
