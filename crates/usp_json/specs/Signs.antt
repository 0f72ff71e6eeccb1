-- The signs and letters of JSON text (RFC 8259 sections 2, 3, 6 and 7).
use Rattle.std.specs.Prelude.{ℕ}

-- `[` and `]`
abbrev pub begin_array : ℕ
begin_array = 91

abbrev pub end_array : ℕ
end_array = 93

-- `{` and `}`
abbrev pub begin_object : ℕ
begin_object = 123

abbrev pub end_object : ℕ
end_object = 125

-- `:` and `,`
abbrev pub name_separator : ℕ
name_separator = 58

abbrev pub value_separator : ℕ
value_separator = 44

-- `"`, `\` and `/`
abbrev pub quotation_mark : ℕ
quotation_mark = 34

abbrev pub backslash : ℕ
backslash = 92

abbrev pub slash : ℕ
slash = 47

-- `-`, `+` and `.`
abbrev pub minus_sign : ℕ
minus_sign = 45

abbrev pub plus_sign : ℕ
plus_sign = 43

abbrev pub decimal_point : ℕ
decimal_point = 46

-- white space: space, tab, line feed and carriage return
abbrev pub space : ℕ
space = 32

abbrev pub tab : ℕ
tab = 9

abbrev pub line_feed : ℕ
line_feed = 10

abbrev pub carriage_return : ℕ
carriage_return = 13

-- the other controls that have a short escape
abbrev pub backspace : ℕ
backspace = 8

abbrev pub form_feed : ℕ
form_feed = 12

-- the letters of escapes, of words, of hexadecimal digits and of exponents
abbrev pub letter_a : ℕ
letter_a = 97

abbrev pub letter_b : ℕ
letter_b = 98

abbrev pub letter_e : ℕ
letter_e = 101

abbrev pub letter_f : ℕ
letter_f = 102

abbrev pub letter_n : ℕ
letter_n = 110

abbrev pub letter_r : ℕ
letter_r = 114

abbrev pub letter_t : ℕ
letter_t = 116

abbrev pub letter_u : ℕ
letter_u = 117

abbrev pub capital_a : ℕ
capital_a = 65

abbrev pub capital_e : ℕ
capital_e = 69

abbrev pub capital_f : ℕ
capital_f = 70
