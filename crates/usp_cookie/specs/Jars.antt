-- What a jar of cookies keeps and gives (RFC 6265, sections 5.3 and 5.4).
use Rattle.std.specs.Prelude.{ℕ, zero, suc, ◌+◌, ◌==◌, nat_lt, Bool, true, false, ◌&&◌, ◌||◌, List, [], ◌∷◌, ◌++◌, length, drop, filter, reverse, codes, Option, Some, None, if◌then◌else◌}
use Rattle.std.specs.List.{flat_map}
use Rattle.std.specs.Str.{byte, bytes_eq}
use Rattle.usp_base.specs.Cuts.{after_prefix}
use Rattle.usp_cookie.specs.SetCookies.{begins_with_slash, cookie_of}
use Rattle.usp_cookie.specs.declared.cookie.Cookie.{Cookie}
use Rattle.usp_cookie.specs.declared.limits.TheConstants.{MAX_COOKIES}

-- ---- what it keeps

abbrev pub is_same : Cookie → Cookie → Bool
is_same a b = bytes_eq a.authority b.authority && bytes_eq a.name b.name && bytes_eq a.path b.path

-- The first cookie of the same authority, name and path is replaced in its place. Where there is none, the new one goes
-- last.
abbrev pub put_in : Cookie → List Cookie → List Cookie
put_in new [] = new ∷ []
put_in new (old ∷ jar) = if is_same old new then new ∷ jar else old ∷ put_in new jar

-- the first goes where there is one too many
abbrev pub without_excess : List Cookie → List Cookie
without_excess jar = if nat_lt MAX_COOKIES (length jar) then drop 1 jar else jar

abbrev pub kept_with : Option Cookie → List Cookie → List Cookie
kept_with None jar = jar
kept_with (Some cookie) jar = without_excess (put_in cookie jar)

-- the jar after a Set-Cookie value in an answer of this authority to a request for this path
unfoldable pub stored : (authority asked value : List ℕ) → List Cookie → List Cookie
stored authority asked value jar = kept_with (cookie_of authority asked value) jar

-- ---- what it gives

abbrev pub ends_with_slash : List ℕ → Bool
ends_with_slash text = begins_with_slash (reverse text)

abbrev pub covers_rest : (own : List ℕ) → (rest : Option (List ℕ)) → Bool
covers_rest own None = false
covers_rest own (Some []) = true
covers_rest own (Some (c ∷ rest)) = c == byte "/" || ends_with_slash own

-- A cookie's path is the one asked for, or a prefix of it that ends in '/' or that '/' follows (section 5.1.4).
abbrev pub covers : (own asked : List ℕ) → Bool
covers own asked = covers_rest own (after_prefix own asked)

-- the cookie goes with a request to that authority for that path
abbrev pub is_sent : (authority asked : List ℕ) → Cookie → Bool
is_sent authority asked cookie = bytes_eq cookie.authority authority && covers cookie.path asked

-- it goes with the request, and its own path has so many bytes
abbrev pub is_sent_of : (authority asked : List ℕ) → ℕ → Cookie → Bool
is_sent_of authority asked size cookie = length cookie.path == size && is_sent authority asked cookie

-- the cookies that go with the request and whose paths have fewer bytes than this: longer paths first, and earlier
-- cookies first among equals
abbrev pub sent_below : (authority asked : List ℕ) → ℕ → List Cookie → List Cookie
sent_below authority asked zero jar = []
sent_below authority asked (suc size) jar =
    filter (is_sent_of authority asked size) jar ++ sent_below authority asked size jar

-- No path that covers the one asked for is longer than that.
abbrev pub sent : (authority asked : List ℕ) → List Cookie → List Cookie
sent authority asked jar = sent_below authority asked (length asked + 1) jar

abbrev pub pair_text : Cookie → List ℕ
pair_text cookie = cookie.name ++ (codes "=" ++ cookie.value)

-- the pairs, joined by `; `; None where there are none
abbrev pub header_text : List Cookie → Option (List ℕ)
header_text [] = None
header_text (cookie ∷ cookies) = Some (pair_text cookie ++ flat_map (λ other. codes "; " ++ pair_text other) cookies)

-- the Cookie field of a request to that authority for that path
unfoldable pub header_of : (authority asked : List ℕ) → List Cookie → Option (List ℕ)
header_of authority asked jar = header_text (sent authority asked jar)
