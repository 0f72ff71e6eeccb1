-- The header of the cookies that go with a request, pair by pair.
use Rattle.std.proofs.Common.{◌≡◌, ◌≤◌, ◌<◌, ◌+◌, ◌-◌, zero, suc, refl, sym, ap, ◌∙◌, ℕ, Bool, true, false, ◌&&◌, eqb, subst, List, [], ◌∷◌, ◌++◌, length, take, drop, cond, filter, codes, Option, Some, None, arith, append_assoc, append-nil, length-append, flat_map}
use Rattle.std.specs.Str.{bytes_eq}
use Rattle.std.proofs.lemmas.Bool.{eqb-true}
use Rattle.std.proofs.lemmas.List.{length-take}
use Rattle.std.proofs.lemmas.Slice.Eq.{bytes_eq-Decides}
use Rattle.usp_cookie.specs.Jars.{covers, covers_rest, header_of, header_text, is_sent, is_sent_of, pair_text, sent, sent_below}
use Rattle.usp_cookie.specs.Joining.{joined, joined_all, opened}
use Rattle.usp_cookie.specs.declared.cookie.Cookie.{Cookie}

pub opened_none : (text : List ℕ) → length text ≡ 0 → opened text ≡ text
opened_none [] is = refl
opened_none (c ∷ text) is = absurd (omega (arith, is))

pub opened_some : (text : List ℕ) → 0 < length text → opened text ≡ text ++ codes "; "
opened_some [] lt = absurd (omega (arith, lt))
opened_some (c ∷ text) lt = refl

-- ---- all pairs behind a text

joined_both : (text : List ℕ) (front back : List Cookie) → joined_all (joined_all text front) back ≡ joined_all text (front ++ back)
joined_both text [] back = refl
joined_both text (cookie ∷ front) back = joined_both (joined text (pair_text cookie)) front back

abbrev next_pair : Cookie → List ℕ
next_pair cookie = codes "; " ++ pair_text cookie

all_behind : (c : ℕ) (text : List ℕ) (cookies : List Cookie) → joined_all (c ∷ text) cookies ≡ (c ∷ text) ++ flat_map next_pair cookies
all_behind c text [] = sym (append-nil (c ∷ text))
all_behind c text (cookie ∷ cookies) =
    let more = flat_map next_pair cookies in
    all_behind c ((text ++ codes "; ") ++ pair_text cookie) cookies
    ∙ ap (λ l. c ∷ l) (append_assoc (text ++ codes "; ") (pair_text cookie) more ∙ append_assoc text (codes "; ") (pair_text cookie ++ more))

first_pair : (name value : List ℕ) (cookies : List Cookie)
    → joined_all (name ++ 61 ∷ value) cookies ≡ (name ++ 61 ∷ value) ++ flat_map next_pair cookies
first_pair [] value cookies = all_behind 61 value cookies
first_pair (c ∷ name) value cookies = all_behind c (name ++ 61 ∷ value) cookies

some_pair : (name value : List ℕ) (cookies : List Cookie) → length (joined_all (name ++ 61 ∷ value) cookies) ≡ 0 → ⊥
some_pair name value cookies is =
    omega (arith, is, ap length (first_pair name value cookies), length-append (name ++ 61 ∷ value) (flat_map next_pair cookies), length-append name (61 ∷ value))

none_joined : (cookies : List Cookie) → length (joined_all [] cookies) ≡ 0 → header_text cookies ≡ None
none_joined [] is = refl
none_joined (cookie ∷ cookies) is = absurd (some_pair cookie.name cookie.value cookies is)

some_joined : (cookies : List Cookie) → 0 < length (joined_all [] cookies) → header_text cookies ≡ Some (joined_all [] cookies)
some_joined [] lt = absurd (omega (arith, lt))
some_joined (cookie ∷ cookies) lt = ap Some (sym (first_pair cookie.name cookie.value cookies))

pub no_header : (authority asked : List ℕ) (jar : List Cookie) → length (joined_all [] (sent authority asked jar)) ≡ 0
    → header_of authority asked jar ≡ None
no_header authority asked jar is = unfold header_of in none_joined (sent authority asked jar) is

pub some_header : (authority asked : List ℕ) (jar : List Cookie) → 0 < length (joined_all [] (sent authority asked jar))
    → header_of authority asked jar ≡ Some (joined_all [] (sent authority asked jar))
some_header authority asked jar lt = unfold header_of in some_joined (sent authority asked jar) lt

-- ---- size by size

below : (authority asked : List ℕ) (jar : List Cookie) (size : ℕ) → 0 < size
    → sent_below authority asked size jar ≡ filter (is_sent_of authority asked (size - 1)) jar ++ sent_below authority asked (size - 1) jar
below authority asked jar zero lt = absurd (omega (arith, lt))
below authority asked jar (suc size) lt =
    let back : size ≡ suc size - 1 = omega arith in
    ap (λ n. filter (is_sent_of authority asked n) jar ++ sent_below authority asked n jar) back

pub sent_more : (authority asked : List ℕ) (jar : List Cookie) (size : ℕ) (text now : List ℕ) → 0 < size
    → now ≡ joined_all text (filter (is_sent_of authority asked (size - 1)) jar)
    → joined_all now (sent_below authority asked (size - 1) jar) ≡ joined_all text (sent_below authority asked size jar)
sent_more authority asked jar size text now lt is =
    ap (λ t. joined_all t (sent_below authority asked (size - 1) jar)) is
    ∙ joined_both text (filter (is_sent_of authority asked (size - 1)) jar) (sent_below authority asked (size - 1) jar)
    ∙ ap (joined_all text) (sym (below authority asked jar size lt))

pub sent_none : (authority asked : List ℕ) (jar : List Cookie) (size : ℕ) (text : List ℕ) → size ≤ 0
    → joined_all text (sent_below authority asked size jar) ≡ text
sent_none authority asked jar zero text le = refl
sent_none authority asked jar (suc size) text le = absurd (omega (arith, le))

-- ---- the paths that cover

covers_by : (own asked : List ℕ) (b : Bool) → bytes_eq (take (length own) asked) own ≡ b
    → covers_rest own (cond b (Some (drop (length own) asked)) None) ≡ true → length own ≤ length asked
covers_by own asked true is covered =
    let front : take (length own) asked ≡ own = (bytes_eq-Decides (take (length own) asked) own).0 is in
    omega (arith, ap length front, length-take (length own) asked)
covers_by own asked false is covered = absurd (cc covered)

pub no_longer : (own asked : List ℕ) → covers own asked ≡ true → length own ≤ length asked
no_longer own asked covered = covers_by own asked (bytes_eq (take (length own) asked) own) refl covered

-- ---- a size of which no cookie goes

and_false : (b : Bool) → b && false ≡ false
and_false true = refl
and_false false = refl

uncovered_by : (own asked : List ℕ) (b : Bool) → bytes_eq (take (length own) asked) own ≡ b
    → covers_rest (take (length own) asked) (Some (drop (length own) asked)) ≡ false
    → covers_rest own (cond b (Some (drop (length own) asked)) None) ≡ false
uncovered_by own asked true is none =
    subst (λ front. covers_rest front (Some (drop (length own) asked)) ≡ false) ((bytes_eq-Decides (take (length own) asked) own).0 is) none
uncovered_by own asked false is none = refl

uncovered : (own asked : List ℕ) (size : ℕ) → length own ≡ size → covers_rest (take size asked) (Some (drop size asked)) ≡ false
    → covers own asked ≡ false
uncovered own asked size is none =
    uncovered_by own asked (bytes_eq (take (length own) asked) own) refl
    (subst (λ n. covers_rest (take n asked) (Some (drop n asked)) ≡ false) (sym is) none)

unsent_by : (authority asked : List ℕ) (size : ℕ) (cookie : Cookie) (b : Bool) → eqb (length cookie.path) size ≡ b
    → covers_rest (take size asked) (Some (drop size asked)) ≡ false → b && is_sent authority asked cookie ≡ false
unsent_by authority asked size cookie true is none =
    ap (λ c. bytes_eq cookie.authority authority && c) (uncovered cookie.path asked size (eqb-true (length cookie.path) size is) none)
    ∙ and_false (bytes_eq cookie.authority authority)
unsent_by authority asked size cookie false is none = refl

filter_by : (authority asked : List ℕ) (size : ℕ) (cookie : Cookie) (jar : List Cookie) → is_sent_of authority asked size cookie ≡ false
    → filter (is_sent_of authority asked size) (cookie ∷ jar) ≡ filter (is_sent_of authority asked size) jar
filter_by authority asked size cookie jar is =
    ap (λ b. cond b (cookie ∷ filter (is_sent_of authority asked size) jar) (filter (is_sent_of authority asked size) jar)) is

-- Where the front of a size does not cover the path, no cookie of that size goes.
pub none_sent : (authority asked : List ℕ) (size : ℕ) (jar : List Cookie) → covers_rest (take size asked) (Some (drop size asked)) ≡ false
    → filter (is_sent_of authority asked size) jar ≡ []
none_sent authority asked size [] none = refl
none_sent authority asked size (cookie ∷ jar) none =
    filter_by authority asked size cookie jar (unsent_by authority asked size cookie (eqb (length cookie.path) size) refl none)
    ∙ none_sent authority asked size jar none
