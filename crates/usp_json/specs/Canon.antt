-- The one canonical spelling (RFC 8259): no white space, and in texts only what section 7 says must be escaped.
use Rattle.std.specs.Prelude.{ℕ, ◌+◌, ◌/◌, ◌%◌, ◌==◌, nat_lt, List, [], ◌∷◌, ◌++◌, codes, map, if◌then◌else◌}
use Rattle.std.specs.List.{zip}
use Rattle.usp_json.specs.declared.value.Json.{Json}
use Rattle.usp_json.specs.declared.value.Json.TheOpen.{Json-F, Items-F, Members-F}
use Rattle.usp_json.specs.declared.value.Json.TheOpen as level
use Rattle.usp_json.specs.declared.value.Json.TheFolds.{fold-Json, fold-Items, fold-Members}
use Rattle.usp_json.specs.declared.value.Items.{Items}
use Rattle.usp_json.specs.declared.value.Members.{Members}
use Rattle.usp_json.specs.Spells.{word_of}
use Rattle.usp_json.specs.Signs.{quotation_mark, backslash, space, tab, line_feed, carriage_return, backspace, form_feed, value_separator, name_separator, begin_array, end_array, begin_object, end_object}

-- a hexadecimal digit, in lower case
abbrev pub hex_digit : ℕ → ℕ
hex_digit d = if nat_lt d 10 then 48 + d else 87 + d

-- a byte of a text: quote, backslash and control characters are escaped
abbrev pub escape_of : ℕ → List ℕ
escape_of b =
    if b == quotation_mark then codes "\\\"" else (if b == backslash then codes "\\\\"
    else (if b == backspace then codes "\\b" else (if b == tab then codes "\\t"
    else (if b == line_feed then codes "\\n" else (if b == form_feed then codes "\\f"
    else (if b == carriage_return then codes "\\r"
    else (if nat_lt b space then codes "\\u00" ++ hex_digit (b / 16) ∷ hex_digit (b % 16) ∷ [] else b ∷ [])))))))

abbrev pub escaped_text : List ℕ → List ℕ
escaped_text [] = []
escaped_text (b ∷ bytes) = escape_of b ++ escaped_text bytes

-- a text in quotes
abbrev pub canon_text : List ℕ → List ℕ
canon_text bytes = quotation_mark ∷ (escaped_text bytes ++ quotation_mark ∷ [])

-- spellings with a comma before each
abbrev pub behind : List (List ℕ) → List ℕ
behind [] = []
behind (text ∷ texts) = value_separator ∷ (text ++ behind texts)

-- spellings with commas between them
abbrev pub commas : List (List ℕ) → List ℕ
commas [] = []
commas (text ∷ texts) = text ++ behind texts

-- a name, a colon, and the spelling of its value
abbrev pub member_of : List ℕ × List ℕ → List ℕ
member_of m = canon_text m.0 ++ name_separator ∷ m.1

-- one level, with the spelling of each value inside in its place: there is no white space
abbrev pub canon_step : Json-F (List ℕ) (List ℕ) (List ℕ) → List ℕ
canon_step level.Null = codes "null"
canon_step (level.Bool b) = word_of b
canon_step (level.Num spelled) = spelled
canon_step (level.Str bytes) = canon_text bytes
canon_step (level.List items) = items
canon_step (level.Obj members) = members

abbrev pub items_step : Items-F (List ℕ) (List ℕ) (List ℕ) → List ℕ
items_step items = begin_array ∷ (commas items.values ++ end_array ∷ [])

abbrev pub members_step : Members-F (List ℕ) (List ℕ) (List ℕ) → List ℕ
members_step members = begin_object ∷ (commas (map member_of (zip members.names members.values)) ++ end_object ∷ [])

-- the canonical spelling of a value, and of an object
abbrev pub canon : Json → List ℕ
canon = fold-Json (List ℕ) (List ℕ) (List ℕ) canon_step items_step members_step

abbrev pub canon_items : Items → List ℕ
canon_items = fold-Items (List ℕ) (List ℕ) (List ℕ) canon_step items_step members_step

abbrev pub canon_members : Members → List ℕ
canon_members = fold-Members (List ℕ) (List ℕ) (List ℕ) canon_step items_step members_step
