-- The worked rows against the definitions: each is computed.
use Rattle.std.specs.Prelude.{◌≡◌, refl, codes, [], ◌∷◌, Some, None}
use Rattle.usp_ere.specs.Expression.{byte, at_begin, at_end, both, either, repeat, size_of}
use Rattle.usp_ere.specs.Marks.{IsReading}
use Rattle.usp_ere.specs.declared.fault.EreFault.TheVariants.{Syntax, Undefined, Repeat}
use Rattle.usp_ere.specs.Faults.{fault_of}

count_above_255 : fault_of (codes "a{256}") ≡ Some (Repeat 1)
count_above_255 = refl

repeat_first : fault_of (codes "*a") ≡ Some (Undefined 0)
repeat_first = refl

empty_group : fault_of (codes "()") ≡ Some (Undefined 1)
empty_group = refl

empty_branch : fault_of (codes "a||b") ≡ Some (Undefined 2)
empty_branch = refl

repeat_of_a_repeat : fault_of (codes "a**") ≡ Some (Undefined 2)
repeat_of_a_repeat = refl

escaped_letter : fault_of (codes "a\\d") ≡ Some (Undefined 1)
escaped_letter = refl

group_without_end : fault_of (codes "(a") ≡ Some (Syntax 2)
group_without_end = refl

range_falls : fault_of (codes "[z-a]") ≡ Some (Syntax 1)
range_falls = refl

closing_alone : fault_of (codes "a)") ≡ None
closing_alone = refl

closing_bracket_first : fault_of (codes "[]a]") ≡ None
closing_bracket_first = refl

backslash_in_a_set : fault_of (codes "[a\\]") ≡ None
backslash_in_a_set = refl

empty_text : fault_of [] ≡ Some (Undefined 0)
empty_text = refl

opening_at_the_end : fault_of (codes "(") ≡ Some (Syntax 1)
opening_at_the_end = refl

bar_in_an_open_group : fault_of (codes "(a|") ≡ Some (Syntax 3)
bar_in_an_open_group = refl

bar_at_the_end : fault_of (codes "a|") ≡ Some (Undefined 2)
bar_at_the_end = refl

bar_and_closing : fault_of (codes "a|)") ≡ None
bar_and_closing = refl

closing_first : fault_of (codes ")") ≡ None
closing_first = refl

closing_repeated : fault_of (codes ")*") ≡ None
closing_repeated = refl

range_from_a_dash : fault_of (codes "[--a]") ≡ None
range_from_a_dash = refl

range_to_a_dash : fault_of (codes "[+--]") ≡ None
range_to_a_dash = refl

range_down_to_a_dash : fault_of (codes "[a--]") ≡ Some (Syntax 1)
range_down_to_a_dash = refl

dash_behind_a_range : fault_of (codes "[a-c-e]") ≡ Some (Undefined 4)
dash_behind_a_range = refl

dash_behind_a_range_last : fault_of (codes "[a-c-]") ≡ None
dash_behind_a_range_last = refl

dash_behind_a_range_at_the_end : fault_of (codes "[a-c-") ≡ Some (Undefined 4)
dash_behind_a_range_at_the_end = refl

two_dashes_behind_a_range : fault_of (codes "[a-c--]") ≡ Some (Undefined 4)
two_dashes_behind_a_range = refl

class_begins_a_range : fault_of (codes "[[:alpha:]-z]") ≡ Some (Syntax 1)
class_begins_a_range = refl

class_and_dash : fault_of (codes "[[:alpha:]-]") ≡ None
class_and_dash = refl

class_and_dash_at_the_end : fault_of (codes "[[:alpha:]-") ≡ Some (Syntax 11)
class_and_dash_at_the_end = refl

class_ends_a_range : fault_of (codes "[a-[:digit:]]") ≡ Some (Syntax 1)
class_ends_a_range = refl

class_without_end_ends_a_range : fault_of (codes "[a-[:") ≡ Some (Syntax 1)
class_without_end_ends_a_range = refl

unknown_class : fault_of (codes "[[:foo:]]") ≡ Some (Syntax 1)
unknown_class = refl

class_without_end : fault_of (codes "[[:alpha]") ≡ Some (Syntax 1)
class_without_end = refl

class_without_name : fault_of (codes "[[::]]") ≡ Some (Syntax 1)
class_without_name = refl

collating_symbol : fault_of (codes "[[.a.]]") ≡ Some (Undefined 1)
collating_symbol = refl

equivalence_class : fault_of (codes "[[=a=]]") ≡ Some (Undefined 1)
equivalence_class = refl

equivalence_ends_a_range : fault_of (codes "[a-[=a=]]") ≡ Some (Undefined 3)
equivalence_ends_a_range = refl

collating_ends_a_range : fault_of (codes "[a-[.b.]]") ≡ Some (Undefined 3)
collating_ends_a_range = refl

set_without_end : fault_of (codes "[a") ≡ Some (Syntax 2)
set_without_end = refl

range_without_end : fault_of (codes "[a-") ≡ Some (Syntax 3)
range_without_end = refl

bracket_alone : fault_of (codes "[") ≡ Some (Syntax 1)
bracket_alone = refl

negated_without_end : fault_of (codes "[^") ≡ Some (Syntax 2)
negated_without_end = refl

closing_bracket_alone : fault_of (codes "[]") ≡ Some (Syntax 2)
closing_bracket_alone = refl

negated_closing_bracket_alone : fault_of (codes "[^]") ≡ Some (Syntax 3)
negated_closing_bracket_alone = refl

range_to_a_last_bracket_falls : fault_of (codes "[a-[") ≡ Some (Syntax 1)
range_to_a_last_bracket_falls = refl

range_to_a_last_bracket : fault_of (codes "[+-[") ≡ Some (Syntax 4)
range_to_a_last_bracket = refl

bracket_before_closing : fault_of (codes "[[]") ≡ None
bracket_before_closing = refl

negated_closing_bracket : fault_of (codes "[^]]") ≡ None
negated_closing_bracket = refl

counts_out_of_order : fault_of (codes "a{2,1}") ≡ Some (Repeat 1)
counts_out_of_order = refl

count_without_least : fault_of (codes "a{,3}") ≡ Some (Syntax 1)
count_without_least = refl

count_with_a_leading_zero : fault_of (codes "a{01}") ≡ Some (Syntax 1)
count_with_a_leading_zero = refl

most_with_a_leading_zero : fault_of (codes "a{1,02}") ≡ Some (Syntax 1)
most_with_a_leading_zero = refl

count_0 : fault_of (codes "a{0}") ≡ None
count_0 = refl

counts_0 : fault_of (codes "a{0,0}") ≡ None
counts_0 = refl

count_without_end : fault_of (codes "a{300,") ≡ Some (Syntax 1)
count_without_end = refl

count_of_a_letter : fault_of (codes "a{x}") ≡ Some (Syntax 1)
count_of_a_letter = refl

count_255_and_more : fault_of (codes "a{255,}") ≡ None
count_255_and_more = refl

large_counts : fault_of (codes "a{70000,80000}") ≡ Some (Repeat 1)
large_counts = refl

large_least : fault_of (codes "a{256,}") ≡ Some (Repeat 1)
large_least = refl

brace_behind_an_anchor : fault_of (codes "^{x") ≡ Some (Undefined 1)
brace_behind_an_anchor = refl

brace_first : fault_of (codes "{1}") ≡ Some (Undefined 0)
brace_first = refl

brace_behind_a_repeat : fault_of (codes "a*{2}") ≡ Some (Undefined 2)
brace_behind_a_repeat = refl

brace_behind_a_bar : fault_of (codes "a|{2}") ≡ Some (Undefined 2)
brace_behind_a_bar = refl

brace_in_a_group : fault_of (codes "({2})") ≡ Some (Undefined 1)
brace_in_a_group = refl

closing_brace : fault_of (codes "a}") ≡ None
closing_brace = refl

backslash_last : fault_of (codes "\\") ≡ Some (Undefined 0)
backslash_last = refl

escaped_digit : fault_of (codes "\\1") ≡ Some (Undefined 0)
escaped_digit = refl

escaped_sign : fault_of (codes "\\<\\>\\`") ≡ None
escaped_sign = refl

escaped_backslash : fault_of (codes "\\\\") ≡ None
escaped_backslash = refl

group_opened_behind_a_closing : fault_of (codes "a)(") ≡ Some (Syntax 3)
group_opened_behind_a_closing = refl

anchor_repeated : fault_of (codes "^*") ≡ Some (Undefined 1)
anchor_repeated = refl

end_anchor_repeated : fault_of (codes "a$+") ≡ Some (Undefined 2)
end_anchor_repeated = refl

anchor_group_repeated : fault_of (codes "(^)*") ≡ None
anchor_group_repeated = refl

two_anchors : fault_of (codes "^^$$") ≡ None
two_anchors = refl

nested_counts : fault_of (codes "((a?){200}){9}(a?){199}b") ≡ None
nested_counts = refl

folder : fault_of (codes "[^:]*\\://[^/]*/folder/quality_[^/]*/segment.{3}\\.mp4(\\?.*)?") ≡ None
folder = refl

places : fault_of (codes "^http://[ab][.]example/") ≡ None
places = refl

too_many_nodes : fault_of (codes "(a{255}){255}") ≡ None
too_many_nodes = refl

range_below_a_dash : fault_of (codes "[%--]") ≡ None
range_below_a_dash = refl

anchors : fault_of (codes "^a|b$") ≡ None
anchors = refl

digit_or_dash : fault_of (codes "[[:digit:]-]") ≡ None
digit_or_dash = refl

-- bytes from outside the printable ones

odd_in_a_falling_range : fault_of (91 ∷ 1 ∷ 45 ∷ 0 ∷ 93 ∷ []) ≡ Some (Syntax 1)
odd_in_a_falling_range = refl

odd_before_a_fault : fault_of (97 ∷ 1 ∷ 42 ∷ 42 ∷ []) ≡ Some (Undefined 1)
odd_before_a_fault = refl

odd_behind_a_fault : fault_of (42 ∷ 1 ∷ []) ≡ Some (Undefined 0)
odd_behind_a_fault = refl

odd_ends_a_range : fault_of (91 ∷ 97 ∷ 45 ∷ 127 ∷ 93 ∷ []) ≡ Some (Undefined 3)
odd_ends_a_range = refl

odd_ends_a_falling_range : fault_of (91 ∷ 97 ∷ 45 ∷ 9 ∷ 93 ∷ []) ≡ Some (Syntax 1)
odd_ends_a_falling_range = refl

odd_behind_a_backslash : fault_of (92 ∷ 200 ∷ []) ≡ Some (Undefined 1)
odd_behind_a_backslash = refl

odd_in_a_set_without_end : fault_of (91 ∷ 97 ∷ 10 ∷ []) ≡ Some (Undefined 2)
odd_in_a_set_without_end = refl

odd_space : fault_of (32 ∷ 126 ∷ 31 ∷ []) ≡ Some (Undefined 2)
odd_space = refl

-- what a text is read as, and how many nodes it has

anchors_read : IsReading (codes "^a|b$") (either (both at_begin (byte 97)) (both (byte 98) at_end))
anchors_read = refl

repeats_read : IsReading (codes "(a*)*b") (both (repeat (repeat (byte 97) 0 None) 0 None) (byte 98))
repeats_read = refl

repeats_size : size_of (both (repeat (repeat (byte 97) 0 None) 0 None) (byte 98)) ≡ 5
repeats_size = refl

counts_read : IsReading (codes "a{2,3}b+c?") (both (repeat (byte 97) 2 (Some 3)) (both (repeat (byte 98) 1 None) (repeat (byte 99) 0 (Some 1))))
counts_read = refl

counts_size : size_of (both (repeat (byte 97) 2 (Some 3)) (both (repeat (byte 98) 1 None) (repeat (byte 99) 0 (Some 1)))) ≡ 10
counts_size = refl
