-- How a request adds to what a link tells.
use Rattle.std.proofs.Common.{◌≡◌, ◌++◌, ℕ, true, List, [], ◌∷◌, Option, Some, None, Ok, Err, refl, sym, ap, subst, if◌then◌else◌, ◌∙◌, arith, append-nil, append_assoc, inl, inr}
use Rattle.url.specs.Parts.{Parts}
use Rattle.usp_base.specs.Links.{asked_with, grown}
use Rattle.usp_base.specs.declared.link.Asked.{Asked}
use Rattle.usp_cookie.specs.Jars.{header_of}
use Rattle.usp_cookie.specs.declared.cookie.Cookie.{Cookie}
use Rattle.usp_http.specs.declared.heard.Heard.{Heard}
use Rattle.usp_player.specs.Calls.{Exchanges}
use Rattle.usp_player.specs.Maps.{address_of}
use Rattle.usp_player.specs.Playing.{Aim, Asks, Next, Reading, Says, Turn, after, after_reply, ask, ask_at, bad, heard, jar_with, lost, more, step_with, steps_of, stopped, toward, turn_with, unread}
use Rattle.usp_player.specs.Requests.{authority_of, head_of, is_web}
use Rattle.usp_player.specs.Ways.{Halts, LacksLast, Way, with_asks}
use Rattle.usp_player.specs.declared.fault.PlayFault.{PlayFault}
use Rattle.usp_player.specs.declared.fault.PlayFault.TheVariants as fault
use Rattle.usp_player.specs.declared.map.Place.{Place}
use Rattle.usp_player.specs.declared.transcript.Step.{Step}

-- a URL that can be asked for, its address, and the head that is sent
pub record IsMade (places : List Place) (url : Parts) (jar : List Cookie) (address head : List ℕ) : Type 0 where
  pub web : is_web url.scheme ≡ true
  pub at : address_of places (authority_of url) ≡ Some address
  pub sends : head ≡ head_of url (header_of (authority_of url) url.path jar)

grown_more : (told : Option (List Asked)) (asks : List Asked) (asked : Asked)
    → grown (with_asks told asks) asked ≡ with_asks told (asks ++ asked ∷ [])
grown_more None asks asked = refl
grown_more (Some all) asks asked = ap Some (append_assoc all asks (asked ∷ []))

-- one more ask
way_more : (places : List Place) (start : Next) (told old now : Option (List Asked)) (steps : List Step)
    (turn : Turn) (asked : Asked) (reading : Reading)
    → Way places start told old steps (ask turn) → now ≡ grown old asked → Asks turn asked reading
    → Way places start told now (steps ++ steps_of turn reading) (after places turn reading)
way_more places start told old now steps turn asked reading way grows asks = record {
  asks = way.asks ++ asked ∷ [];
  grows = grows ∙ ap (λ o. grown o asked) way.grows ∙ grown_more told way.asks asked;
  plays = more way.asks steps turn asked reading way.plays asks;
}

toward_asks : (places : List Place) (url : Parts) (n : ℕ) (jar : List Cookie) (aim : Aim) (address head : List ℕ)
    → IsMade places url jar address head → toward places url n jar aim ≡ ask (turn_with url address n jar aim)
toward_asks places url n jar aim address head made =
    ap (λ b. if b then ask_at (address_of places (authority_of url)) url n jar aim else stopped fault.BadUri) made.web
    ∙ ap (λ o. ask_at o url n jar aim) made.at

-- one more ask, of a URL that can be asked for
asked_more : (places : List Place) (start : Next) (told old now : Option (List Asked)) (steps : List Step)
    (url : Parts) (n : ℕ) (jar : List Cookie) (aim : Aim) (address head : List ℕ)
    (answer : Option (List ℕ)) (reading : Reading)
    → Way places start told old steps (toward places url n jar aim) → IsMade places url jar address head
    → now ≡ grown old (asked_with address head answer) → Says answer reading
    → Way places start told now (steps ++ steps_of (turn_with url address n jar aim) reading)
    (after places (turn_with url address n jar aim) reading)
asked_more places start told old now steps url n jar aim address head answer reading way made grows says =
    way_more places start told old now steps (turn_with url address n jar aim) (asked_with address head answer) reading
    (subst (λ next. Way places start told old steps next) (toward_asks places url n jar aim address head made) way)
    grows (record { address = refl; head = made.sends; says = says })

-- ---- want of memory

-- all steps are kept
pub lacks_none : (places : List Place) (start : Next) (told now : Option (List Asked)) (steps : List Step) (next : Next)
    → Way places start told now steps next → LacksLast places start told now steps
lacks_none places start told now steps next way = record {
  last = [];
  next = next;
  one = omega arith;
  way = subst (λ s. Way places start told now s next) (sym (append-nil steps)) way;
}

pub no_memory : (places : List Place) (start : Next) (told now : Option (List Asked)) (steps : List Step) (next : Next)
    (e : PlayFault) → Way places start told now steps next → e ≡ fault.NoMemory → Halts places start told now steps e
no_memory places start told now steps next e way is =
    subst (λ f. Halts places start told now steps f) (sym is) (lacks_none places start told now steps next way)

-- ---- behind an ask

heard_way : (places : List Place) (start : Next) (told old now : Option (List Asked)) (steps : List Step)
    (url : Parts) (n : ℕ) (jar : List Cookie) (aim : Aim) (address head : List ℕ) (reply : Heard)
    → Way places start told old steps (toward places url n jar aim) → IsMade places url jar address head
    → Exchanges old now address head (Ok reply)
    → Way places start told now (steps ++ step_with (authority_of url) url.path reply.status ∷ [])
    (after_reply places url n aim reply (jar_with (authority_of url) url.path reply.cookies jar))
heard_way places start told old now steps url n jar aim address head reply way made came =
    asked_more places start told old now steps url n jar aim address head (Some came.0) (heard reply)
    way made came.1 came.2

-- nothing was heard
pub unheard : (places : List Place) (start : Next) (told old now : Option (List Asked)) (steps : List Step)
    (url : Parts) (n : ℕ) (jar : List Cookie) (aim : Aim) (address head : List ℕ) (e : PlayFault)
    → Way places start told old steps (toward places url n jar aim) → IsMade places url jar address head
    → Exchanges old now address head (Err e) → Halts places start told now steps e
unheard places start told old now steps url n jar aim address head fault.LinkFault way made came =
    subst (λ s. Way places start told now s (stopped fault.LinkFault)) (append-nil steps)
    (asked_more places start told old now steps url n jar aim address head None lost way made came tt)
unheard places start told old now steps url n jar aim address head fault.BadReply way made came =
    subst (λ s. Way places start told now s (stopped fault.BadReply)) (append-nil steps)
    (asked_more places start told old now steps url n jar aim address head (Some came.0) bad way made came.1 came.2)
unheard places start told old now steps url n jar aim address head fault.NoMemory way made (inl same) =
    lacks_none places start told now steps _
    (subst (λ t. Way places start told t steps (toward places url n jar aim)) (sym same) way)
unheard places start told old now steps url n jar aim address head fault.NoMemory way made (inr came) =
    lacks_none places start told now steps (stopped fault.NoMemory)
    (subst (λ s. Way places start told now s (stopped fault.NoMemory)) (append-nil steps)
    (asked_more places start told old now steps url n jar aim address head (Some came.0) unread way made came.1 tt))
unheard places start told old now steps url n jar aim address head fault.BadUri way made came = absurd came
unheard places start told old now steps url n jar aim address head fault.NoAddress way made came = absurd came
unheard places start told old now steps url n jar aim address head fault.NoLocation way made came = absurd came
unheard places start told old now steps url n jar aim address head fault.TooManyHops way made came = absurd came
unheard places start told old now steps url n jar aim address head fault.Denied way made came = absurd came
unheard places start told old now steps url n jar aim address head (fault.List refused) way made came = absurd came

-- A reply was heard, and its cookies and its step are kept.
pub heard_kept : (places : List Place) (start : Next) (told old now : Option (List Asked)) (steps steps2 : List Step)
    (url : Parts) (n : ℕ) (jar jar2 : List Cookie) (aim : Aim) (address head : List ℕ) (reply : Heard)
    → Way places start told old steps (toward places url n jar aim) → IsMade places url jar address head
    → Exchanges old now address head (Ok reply)
    → jar2 ≡ jar_with (authority_of url) url.path reply.cookies jar
    → steps2 ≡ steps ++ step_with (authority_of url) url.path reply.status ∷ []
    → Way places start told now steps2 (after_reply places url n aim reply jar2)
heard_kept places start told old now steps steps2 url n jar jar2 aim address head reply way made came stores pushes =
    subst (λ j. Way places start told now steps2 (after_reply places url n aim reply j)) (sym stores)
    (subst (λ s. Way places start told now s
    (after_reply places url n aim reply (jar_with (authority_of url) url.path reply.cookies jar))) (sym pushes)
    (heard_way places start told old now steps url n jar aim address head reply way made came))

lacks_last : (places : List Place) (start : Next) (told now : Option (List Asked)) (steps : List Step) (step : Step)
    (next : Next) → Way places start told now (steps ++ step ∷ []) next → LacksLast places start told now steps
lacks_last places start told now steps step next way =
    record { last = step ∷ []; next = next; one = omega arith; way = way }

-- A reply was heard, and there was no memory for its cookies or its step.
pub heard_lost : (places : List Place) (start : Next) (told old now : Option (List Asked)) (steps steps2 : List Step)
    (url : Parts) (n : ℕ) (jar : List Cookie) (aim : Aim) (address head : List ℕ) (reply : Heard) (e : PlayFault)
    → Way places start told old steps (toward places url n jar aim) → IsMade places url jar address head
    → Exchanges old now address head (Ok reply) → steps2 ≡ steps → e ≡ fault.NoMemory
    → Halts places start told now steps2 e
heard_lost places start told old now steps steps2 url n jar aim address head reply e way made came same is =
    subst (λ f. Halts places start told now steps2 f) (sym is)
    (subst (λ s. LacksLast places start told now s) (sym same)
    (lacks_last places start told now steps (step_with (authority_of url) url.path reply.status) _
    (heard_way places start told old now steps url n jar aim address head reply way made came)))
