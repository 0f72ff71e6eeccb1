-- The classes of bytes: those that RFC 3986 names in sections 2.2 and 2.3, and those that this product allows in a
-- host, a path and a query.
use Rattle.std.specs.Prelude.{ℕ, ◌+◌, ◌*◌, Bool, ◌||◌, ◌==◌, List, codes}
use Rattle.std.specs.List.{list_any}
use Rattle.std.specs.Str.{byte}
use Rattle.std.specs.Char.{is_ascii_alphanumeric, digit_value}

abbrev pub is_one_of : List ℕ → ℕ → Bool
is_one_of letters c = list_any (λ letter. c == letter) letters

abbrev pub is_unreserved : ℕ → Bool
is_unreserved c = is_ascii_alphanumeric c || is_one_of (codes "-._~") c

abbrev pub is_sub_delim : ℕ → Bool
is_sub_delim c = is_one_of (codes "!$&'()*+,;=") c

abbrev pub is_gen_delim : ℕ → Bool
is_gen_delim c = is_one_of (codes ":/?#[]@") c

abbrev pub is_reserved : ℕ → Bool
is_reserved c = is_gen_delim c || is_sub_delim c

-- a host is a name of unreserved bytes: no escape, no sub-delim, no address in brackets
abbrev pub is_host_byte : ℕ → Bool
is_host_byte c = is_unreserved c

-- what stands for itself in a path and in a query. A '?' ends the path, so it is here for the query.
abbrev pub is_literal : ℕ → Bool
is_literal c = is_unreserved c || is_sub_delim c || is_one_of (codes ":@/?") c

-- the byte that an escape with these two digits stands for
abbrev pub escaped_byte : ℕ → ℕ → ℕ
escaped_byte high low = 16 * digit_value high + digit_value low

abbrev pub is_colon : ℕ → Bool
is_colon c = c == byte ":"

abbrev pub is_slash : ℕ → Bool
is_slash c = c == byte "/"

-- what ends an authority: '/', '?' or '#'
abbrev pub ends_authority : ℕ → Bool
ends_authority c = is_one_of (codes "/?#") c

-- what ends a path: '?' or '#'
abbrev pub ends_path : ℕ → Bool
ends_path c = is_one_of (codes "?#") c

abbrev pub is_hash : ℕ → Bool
is_hash c = c == byte "#"
