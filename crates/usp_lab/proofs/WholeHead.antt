-- A lab's head is a whole head.
use Rattle.std.proofs.Common.{◌≡◌, ℕ, zero, suc, leb, ◌+◌, ◌<◌, ◌≤◌, Bool, true, false, eqb, ◌||◌, All, List, [], ◌∷◌, ◌++◌, length, reverse, Option, Some, None, Ok, refl, sym, ap, subst, ◌∙◌, append_assoc, append-nil, length-append, arith}
use Rattle.std.specs.Prelude.{codes, IfSome, IsTrue, map}
use Rattle.std.specs.List.{list_all}
use Rattle.std.specs.Str.{IsAscii}
use Rattle.std.proofs.lemmas.Bool.Decides.{nat_tests}
use Rattle.std.proofs.lemmas.List.{reverse-append}
use Rattle.std.proofs.lemmas.List.Elements.{All-cons, All-nil}
use Rattle.std.proofs.lemmas.Str.{IsUtf8-from_ascii}
use Rattle.httparse.proofs.GrammarLemmas.{print_request-append}
use Rattle.httparse.proofs.OnLiterals.{httparse_on_literals}
use Rattle.httparse.proofs.TrimLemmas.{trim_ows_space}
use Rattle.httparse.specs.Grammar.{AllPass, Field, IsField, IsRequestHead, IsToken, RequestHead, crlf, is_token_byte, is_uri_byte, is_value_byte, print_request, print_section, skip_ows, trim_ows}
use Rattle.usp_conf.specs.Values.{ConfValue}
use Rattle.usp_http.specs.Finding.{IsHead}
use Rattle.usp_http.specs.Heads.{head_of, head_with}
use Rattle.usp_http.specs.declared.head.Head.{Head}
use Rattle.usp_http.specs.declared.head.Method.TheVariants.{Get}
use Rattle.usp_jws.specs.Letters.{is_token_letter}
use Rattle.usp_package.specs.Name.{is_attr_name, is_name_byte}
use Rattle.usp_package.specs.Package.{embedded, joint}
use Rattle.usp_script.specs.Script.{attribute_of}
use Rattle.usp_script.specs.declared.ask.Carried.{Carried}
use Rattle.usp_script.specs.declared.ask.Carried.TheVariants.{InCookie, InQuery, Nothing}
use Rattle.usp_script.specs.declared.ask.LabAsk.{LabAsk}
use Rattle.usp_uri.specs.Components.{after_authority, authority_in, query_in}
use Rattle.usp_uri.specs.Faults.{normal_of}
use Rattle.usp_uri.proofs.ComponentLaws.{both}
use Rattle.usp_lab.specs.LabHead.{IsBorne, asked_uri, cookie_line, cookie_of, cookie_pair, cookies_of, lab_head, lab_parts}
use Rattle.usp_lab.proofs.Targets.{AreVisible, HasParts, after_more, authority_visible, has_parts, is_visible, none_visible, one_visible, parts_short, target_some, target_visible, visible_both, visible_from}

-- ---- what visible bytes may be

target_byte : (c : ℕ) → is_visible c ≡ true → is_uri_byte c ≡ true
target_byte c e = grind (arith, nat_tests)

value_byte : (c : ℕ) → is_visible c ≡ true → is_value_byte c ≡ true
value_byte c e = grind (arith, nat_tests)

no_blank : (c : ℕ) → is_visible c ≡ true → (eqb c 32 || eqb c 9) ≡ false
no_blank c e = grind (arith, nat_tests)

below : (c : ℕ) → is_visible c ≡ true → c < 128
below c e = grind (arith, nat_tests)

passes : (test : ℕ → Bool) → ((c : ℕ) → is_visible c ≡ true → test c ≡ true) → (text : List ℕ) → AreVisible text
    → AllPass test text
passes test good [] are = All-nil (λ b. IsTrue (test b))
passes test good (c ∷ text) are =
    let parts = both (is_visible c) (list_all is_visible text) are.all in
    All-cons (λ b. IsTrue (test b)) c text (good c parts.0) (passes test good text (record { all = parts.1 }))

ascii : (text : List ℕ) → AreVisible text → IsAscii text
ascii [] are i = omega arith
ascii (c ∷ text) are zero = below c (both (is_visible c) (list_all is_visible text) are.all).0
ascii (c ∷ text) are (suc i) = ascii text (record { all = (both (is_visible c) (list_all is_visible text) are.all).1 }) i

-- no blank stands at the front
unblanked : (text : List ℕ) → AreVisible text → skip_ows text ≡ text
unblanked [] are = refl
unblanked (c ∷ text) are = rw (no_blank c (both (is_visible c) (list_all is_visible text) are.all).0) refl

visible_reverse : (text : List ℕ) → AreVisible text → AreVisible (reverse text)
visible_reverse [] are = none_visible
visible_reverse (c ∷ text) are =
    let parts = both (is_visible c) (list_all is_visible text) are.all in
    subst AreVisible (sym (reverse-append (c ∷ []) text))
    (visible_both (reverse text) (c ∷ []) (visible_reverse text (record { all = parts.1 }))
    (one_visible c [] parts.0 none_visible))

-- a value behind a space is read without it
trimmed : (value : List ℕ) → AreVisible value → trim_ows (32 ∷ value) ≡ value
trimmed value are = trim_ows_space value (unblanked value are) (unblanked (reverse value) (visible_reverse value are))

-- ---- fields

abbrev field : (name value : List ℕ) → Field
field name value = record { name = name; raw = 32 ∷ value; end = crlf }

is_field : (name value : List ℕ) → IsToken name → AreVisible value → IsField (field name value)
is_field name value token are = record {
  name = token;
  raw = All-cons (λ b. IsTrue (is_value_byte b)) 32 value refl (passes is_value_byte value_byte value are);
}

token_from : (text : List ℕ) → list_all is_token_byte text ≡ true → AllPass is_token_byte text
token_from [] e = All-nil (λ b. IsTrue (is_token_byte b))
token_from (c ∷ text) e =
    let parts = both (is_token_byte c) (list_all is_token_byte text) e in
    All-cons (λ b. IsTrue (is_token_byte b)) c text parts.0 (token_from text parts.1)

host_token : IsToken (codes "Host")
unfolding httparse_on_literals
host_token = (omega arith, token_from (codes "Host") refl)

cookie_token : IsToken (codes "Cookie")
unfolding httparse_on_literals
cookie_token = (omega arith, token_from (codes "Cookie") refl)

get_token : IsToken (codes "GET")
unfolding httparse_on_literals
get_token = (omega arith, token_from (codes "GET") refl)

abbrev cookie_fields : List (List ℕ) → List Field
cookie_fields [] = []
cookie_fields (value ∷ values) = field (codes "Cookie") value ∷ cookie_fields values

-- the head with this target and this host, and a Cookie field for each of these values
abbrev whole_of : (target host : List ℕ) → (cookies : List (List ℕ)) → RequestHead
whole_of target host cookies = record {
  blank = [];
  method = codes "GET";
  target = target;
  minor = 1;
  line_end = crlf;
  fields = field (codes "Host") host ∷ cookie_fields cookies;
  last = crlf;
}

is_head : (target host : List ℕ) (cookies : List (List ℕ)) → AreVisible target → 0 < length target → AreVisible host
    → All IsField (cookie_fields cookies) → IsRequestHead (whole_of target host cookies)
is_head target host cookies seen some seen_host fields = record {
  method = get_token;
  target = (some, passes is_uri_byte target_byte target seen);
  target_text = IsUtf8-from_ascii target (ascii target seen);
  minor = omega arith;
  fields = All-cons IsField (field (codes "Host") host) (cookie_fields cookies)
      (is_field (codes "Host") host host_token seen_host) fields;
}

-- ---- how it is written

abbrev pub written : (target host line : List ℕ) → List ℕ
written target host line =
    codes "GET " ++ (target ++ (codes " HTTP/1.1\r\nHost: " ++ (host ++ (codes "\r\n" ++ (line ++ codes "\r\n")))))

section_plain : (host : List ℕ)
    → print_section (field (codes "Host") host ∷ []) crlf ++ [] ≡ codes "Host: " ++ (host ++ (codes "\r\n" ++ codes "\r\n"))
section_plain host = ap (λ (t : List ℕ). codes "Host: " ++ t) (flat host (codes "\r\n"))
  where
    flat : (a b : List ℕ) → (((a ++ b) ++ []) ++ b) ++ [] ≡ a ++ (b ++ b)
    flat a b = simp (append_assoc, append-nil)

section_cookie : (host pair : List ℕ)
    → print_section (field (codes "Host") host ∷ field (codes "Cookie") pair ∷ []) crlf ++ []
    ≡ codes "Host: " ++ (host ++ (codes "\r\n" ++ ((codes "Cookie: " ++ (pair ++ codes "\r\n")) ++ codes "\r\n")))
section_cookie host pair =
    ap (λ (t : List ℕ). codes "Host: " ++ t) (flat host (codes "\r\n") (codes "Cookie: " ++ (pair ++ codes "\r\n")))
  where
    flat : (a b c : List ℕ) → (((a ++ b) ++ (c ++ [])) ++ b) ++ [] ≡ a ++ (b ++ (c ++ b))
    flat a b c = simp (append_assoc, append-nil)

abbrev front : List ℕ → List ℕ → List ℕ
front target section = codes "GET " ++ (target ++ (codes " HTTP/1.1\r\n" ++ section))

prints_plain : (target host : List ℕ) → written target host [] ≡ print_request (whole_of target host []) ++ []
prints_plain target host =
    sym (print_request-append (whole_of target host []) [] ∙ ap (front target) (section_plain host))

prints_cookie : (target host pair : List ℕ)
    → written target host (codes "Cookie: " ++ (pair ++ codes "\r\n"))
    ≡ print_request (whole_of target host (pair ∷ [])) ++ []
prints_cookie target host pair =
    sym (print_request-append (whole_of target host (pair ∷ [])) [] ∙ ap (front target) (section_cookie host pair))

-- ---- how it is read

abbrev parts_with : (target host : List ℕ) → (cookies : List (List ℕ)) → Head
parts_with target host cookies =
    head_with (codes "GET") target 1 ((codes "Host", host) ∷ map (λ value. (codes "Cookie", value)) cookies)

reads_plain : (target host : List ℕ) → AreVisible host
    → head_of (whole_of target host []) ≡ parts_with target host []
reads_plain target host seen = ap (λ (t : List ℕ). parts_with target t []) (trimmed host seen)

reads_cookie : (target host pair : List ℕ) → AreVisible host → AreVisible pair
    → head_of (whole_of target host (pair ∷ [])) ≡ parts_with target host (pair ∷ [])
reads_cookie target host pair seen seen_pair =
    ap (λ (t : List ℕ). parts_with target t (trim_ows (32 ∷ pair) ∷ [])) (trimmed host seen)
    ∙ ap (λ (t : List ℕ). parts_with target host (t ∷ [])) (trimmed pair seen_pair)

-- ---- lengths

length_written : (target host line : List ℕ)
    → length (written target host line) ≡ length target + length host + length line + 25
length_written target host line =
    omega (
      arith,
      length-append target (codes " HTTP/1.1\r\nHost: " ++ (host ++ (codes "\r\n" ++ (line ++ codes "\r\n")))),
      length-append host (codes "\r\n" ++ (line ++ codes "\r\n")),
      length-append line (codes "\r\n"),
    )

length_printed : (text printed : List ℕ) → text ≡ printed ++ [] → length printed ≡ length text
length_printed text printed e = ap length (sym (append-nil printed) ∙ sym e)

-- ---- heads

plain_head : (target host : List ℕ) → AreVisible target → 0 < length target → AreVisible host
    → length target + length host ≤ 16000 → IsHead (parts_with target host []) (written target host []) []
plain_head target host seen some seen_host short = record {
  whole = whole_of target host [];
  reads = (is_head target host [] seen some seen_host (All-nil IsField), prints_plain target host);
  short = omega (arith, short, length_printed _ _ (prints_plain target host), length_written target host []);
  few = omega arith;
  parts = sym (reads_plain target host seen_host);
}

cookie_head : (target host pair : List ℕ) → AreVisible target → 0 < length target → AreVisible host → AreVisible pair
    → length target + length host + length pair ≤ 16000
    → IsHead (parts_with target host (pair ∷ [])) (written target host (codes "Cookie: " ++ (pair ++ codes "\r\n"))) []
cookie_head target host pair seen some seen_host seen_pair short = record {
  whole = whole_of target host (pair ∷ []);
  reads = (
    is_head target host (pair ∷ []) seen some seen_host
        (All-cons IsField (field (codes "Cookie") pair) [] (is_field (codes "Cookie") pair cookie_token seen_pair) (All-nil IsField)),
    prints_cookie target host pair,
  );
  short = omega (
    arith,
    short,
    length_printed _ _ (prints_cookie target host pair),
    length_written target host (codes "Cookie: " ++ (pair ++ codes "\r\n")),
    length-append pair (codes "\r\n"),
  );
  few = omega arith;
  parts = sym (reads_cookie target host pair seen_host seen_pair);
}

-- ---- asks

name_visible : (c : ℕ) → is_name_byte c ≡ true → is_visible c ≡ true
name_visible c e = grind (arith, nat_tests)

letter_visible : (c : ℕ) → is_token_letter c ≡ true → is_visible c ≡ true
letter_visible c e = grind (arith, nat_tests)

record IsName (name : List ℕ) : Type 0 where
  seen : AreVisible name
  short : length name ≤ 64

is_name : (name : List ℕ) → is_attr_name name ≡ true → IsName name
is_name name e =
    let one = both _ _ e in
    let two = both _ _ one.1 in
    record { seen = visible_from is_name_byte name_visible name two.1; short = within (length name) two.0 }
  where
    within : (n : ℕ) → leb n 64 ≡ true → n ≤ 64
    within n e = grind (arith, nat_tests)

token_visible : (token : List ℕ) → IsBorne token → AreVisible token
token_visible token borne = visible_from is_token_letter letter_visible token borne.letters

pair_visible : (name token : List ℕ) → IsName name → IsBorne token → AreVisible (cookie_pair name token)
pair_visible name token named borne =
    visible_both name (61 ∷ token) named.seen (one_visible 61 token refl (token_visible token borne))

joint_visible : (query : Option (List ℕ)) → is_visible (joint query) ≡ true
joint_visible None = refl
joint_visible (Some query) = refl

plain_ask : (name uri : List ℕ) → IsName name → HasParts uri
    → IsHead (parts_with (after_authority uri) (authority_in uri) []) (written (after_authority uri) (authority_in uri) []) []
plain_ask name uri named of =
    plain_head (after_authority uri) (authority_in uri) (target_visible uri of) (target_some uri of)
    (authority_visible uri of) (omega (arith, parts_short uri of, of.short))

query_ask : (name uri token : List ℕ) → IsName name → HasParts uri → IsBorne token
    → IsHead (parts_with (after_authority (embedded name uri (query_in uri) token)) (authority_in uri) [])
    (written (after_authority (embedded name uri (query_in uri) token)) (authority_in uri) []) []
query_ask name uri token named of borne =
    let more = joint (query_in uri) ∷ cookie_pair name token in
    let same : after_authority (embedded name uri (query_in uri) token) ≡ after_authority uri ++ more = after_more uri more of in
    subst (λ (t : List ℕ). IsHead (parts_with t (authority_in uri) []) (written t (authority_in uri) []) []) (sym same)
    (plain_head (after_authority uri ++ more) (authority_in uri)
    (visible_both (after_authority uri) more (target_visible uri of)
    (one_visible (joint (query_in uri)) (cookie_pair name token) (joint_visible (query_in uri)) (pair_visible name token named borne)))
    (omega (arith, length-append (after_authority uri) more, target_some uri of))
    (authority_visible uri of)
    (omega (
      arith,
      length-append (after_authority uri) more,
      length-append name (61 ∷ token),
      parts_short uri of,
      of.short,
      named.short,
      borne.short,
    )))

cookie_ask : (name uri token : List ℕ) → IsName name → HasParts uri → IsBorne token
    → IsHead (parts_with (after_authority uri) (authority_in uri) (cookie_pair name token ∷ []))
    (written (after_authority uri) (authority_in uri) (cookie_line name (Some token))) []
cookie_ask name uri token named of borne =
    cookie_head (after_authority uri) (authority_in uri) (cookie_pair name token) (target_visible uri of)
    (target_some uri of) (authority_visible uri of) (pair_visible name token named borne)
    (omega (
      arith,
      length-append name (61 ∷ token),
      parts_short uri of,
      of.short,
      named.short,
      borne.short,
    ))

-- The head of an ask, by how it carries its token.
head_by : (name uri : List ℕ) (carried : Carried) (token : Option (List ℕ)) → IsName name → HasParts uri → IfSome token IsBorne
    → IsHead (parts_with (after_authority (asked_uri name uri carried token)) (authority_in uri) (cookies_of name carried token))
    (written (after_authority (asked_uri name uri carried token)) (authority_in uri) (cookie_of name carried token)) []
head_by name uri Nothing token named of borne = plain_ask name uri named of
head_by name uri (InQuery label) None named of borne = plain_ask name uri named of
head_by name uri (InQuery label) (Some token) named of borne = query_ask name uri token named of borne
head_by name uri (InCookie label) None named of borne = plain_ask name uri named of
head_by name uri (InCookie label) (Some token) named of borne = cookie_ask name uri token named of borne

cookies_read : (target host name : List ℕ) (carried : Carried) (token : Option (List ℕ))
    → parts_with target host (cookies_of name carried token)
    ≡ record {
      method = Get;
      target = target;
      host = host;
      cookies = cookies_of name carried token;
      last = false;
      body = false;
    }
cookies_read target host name Nothing token = refl
cookies_read target host name (InQuery label) None = refl
cookies_read target host name (InQuery label) (Some token) = refl
cookies_read target host name (InCookie label) None = refl
cookies_read target host name (InCookie label) (Some token) = refl

-- The head of an ask is a whole head, with these parts and nothing behind it.
pub whole_head : (edge : ConfValue) (ask : LabAsk) (token : Option (List ℕ)) → is_attr_name (attribute_of edge) ≡ true
    → normal_of ask.uri ≡ Ok ask.uri → IfSome token IsBorne → IsHead (lab_parts edge ask token) (lab_head edge ask token) []
whole_head edge ask token attr normal borne =
    let name = attribute_of edge in
    let target = after_authority (asked_uri name ask.uri ask.carried token) in
    subst (λ (h : Head). IsHead h (lab_head edge ask token) []) (cookies_read target (authority_in ask.uri) name ask.carried token)
    (head_by name ask.uri ask.carried token (is_name name attr) (has_parts ask.uri normal) borne)

-- the asked URI begins with the ask's own
pub asked_begins : (name uri : List ℕ) (carried : Carried) (token : Option (List ℕ)) → (more : List ℕ) × (asked_uri name uri carried token ≡ uri ++ more)
asked_begins name uri Nothing token = ([], sym (append-nil uri))
asked_begins name uri (InQuery label) None = ([], sym (append-nil uri))
asked_begins name uri (InQuery label) (Some token) = (joint (query_in uri) ∷ cookie_pair name token, refl)
asked_begins name uri (InCookie label) token = ([], sym (append-nil uri))

-- it is written piece by piece
pub written_by : (target host line a b c d e f g h : List ℕ) → a ≡ [] → b ≡ a ++ codes "GET " → c ≡ b ++ target
    → d ≡ c ++ codes " HTTP/1.1\r\nHost: " → e ≡ d ++ host → f ≡ e ++ codes "\r\n" → g ≡ f ++ line → h ≡ g ++ codes "\r\n"
    → h ≡ written target host line
written_by target host line a b c d e f g h begun first second third fourth fifth sixth last =
    last
    ∙ ap (λ (t : List ℕ). t ++ codes "\r\n")
    (sixth
    ∙ ap (λ (t : List ℕ). t ++ line)
    (fifth
    ∙ ap (λ (t : List ℕ). t ++ codes "\r\n")
    (fourth
    ∙ ap (λ (t : List ℕ). t ++ host)
    (third
    ∙ ap (λ (t : List ℕ). t ++ codes " HTTP/1.1\r\nHost: ")
    (second ∙ ap (λ (t : List ℕ). t ++ target) (first ∙ ap (λ (t : List ℕ). t ++ codes "GET ") begun))))))
    ∙ flat (codes "GET ") target (codes " HTTP/1.1\r\nHost: ") host (codes "\r\n") line (codes "\r\n")
  where
    flat : (p q r s t u v : List ℕ) → ((((((([] ++ p) ++ q) ++ r) ++ s) ++ t) ++ u) ++ v) ≡ p ++ (q ++ (r ++ (s ++ (t ++ (u ++ v)))))
    flat p q r s t u v = simp (append_assoc)
