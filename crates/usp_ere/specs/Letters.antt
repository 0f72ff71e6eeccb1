-- The characters that expressions know, by names that POSIX gives them (Base Definitions, section 6.1).
use Rattle.std.specs.Prelude.{ℕ}

abbrev pub tab : ℕ
tab = 9

abbrev pub carriage_return : ℕ
carriage_return = 13

abbrev pub unit_separator : ℕ
unit_separator = 31

abbrev pub space : ℕ
space = 32

abbrev pub exclamation_mark : ℕ
exclamation_mark = 33

abbrev pub dollar_sign : ℕ
dollar_sign = 36

abbrev pub left_parenthesis : ℕ
left_parenthesis = 40

abbrev pub right_parenthesis : ℕ
right_parenthesis = 41

abbrev pub asterisk : ℕ
asterisk = 42

abbrev pub plus_sign : ℕ
plus_sign = 43

abbrev pub hyphen : ℕ
hyphen = 45

abbrev pub period : ℕ
period = 46

abbrev pub slash : ℕ
slash = 47

abbrev pub colon : ℕ
colon = 58

abbrev pub question_mark : ℕ
question_mark = 63

abbrev pub commercial_at : ℕ
commercial_at = 64

abbrev pub capital_a : ℕ
capital_a = 65

abbrev pub capital_f : ℕ
capital_f = 70

abbrev pub capital_z : ℕ
capital_z = 90

abbrev pub left_square_bracket : ℕ
left_square_bracket = 91

abbrev pub backslash : ℕ
backslash = 92

abbrev pub right_square_bracket : ℕ
right_square_bracket = 93

abbrev pub circumflex : ℕ
circumflex = 94

abbrev pub grave_accent : ℕ
grave_accent = 96

abbrev pub small_a : ℕ
small_a = 97

abbrev pub small_f : ℕ
small_f = 102

abbrev pub small_z : ℕ
small_z = 122

abbrev pub left_brace : ℕ
left_brace = 123

abbrev pub vertical_line : ℕ
vertical_line = 124

abbrev pub tilde : ℕ
tilde = 126

abbrev pub delete : ℕ
delete = 127
