-- The bytes that JSON's grammar names, as their codes in ASCII (RFC 8259).
use Rattle.std.specs.Prelude.{ℕ}

-- white space (section 2)
abbrev pub space : ℕ
space = 32

abbrev pub tab : ℕ
tab = 9

abbrev pub newline : ℕ
newline = 10

abbrev pub carriage_return : ℕ
carriage_return = 13

-- structure (section 2)
abbrev pub open_bracket : ℕ
open_bracket = 91

abbrev pub close_bracket : ℕ
close_bracket = 93

abbrev pub open_brace : ℕ
open_brace = 123

abbrev pub close_brace : ℕ
close_brace = 125

abbrev pub comma : ℕ
comma = 44

abbrev pub colon : ℕ
colon = 58

-- strings (section 7)
abbrev pub quotation_mark : ℕ
quotation_mark = 34

abbrev pub backslash : ℕ
backslash = 92

abbrev pub slash : ℕ
slash = 47

abbrev pub small_b : ℕ
small_b = 98

abbrev pub small_f : ℕ
small_f = 102

abbrev pub small_n : ℕ
small_n = 110

abbrev pub small_r : ℕ
small_r = 114

abbrev pub small_t : ℕ
small_t = 116

abbrev pub small_u : ℕ
small_u = 117

abbrev pub backspace : ℕ
backspace = 8

abbrev pub form_feed : ℕ
form_feed = 12

-- numbers (section 6)
abbrev pub digit_zero : ℕ
digit_zero = 48

abbrev pub digit_one : ℕ
digit_one = 49

abbrev pub digit_nine : ℕ
digit_nine = 57

abbrev pub minus : ℕ
minus = 45

abbrev pub plus : ℕ
plus = 43

abbrev pub point : ℕ
point = 46

abbrev pub small_e : ℕ
small_e = 101

abbrev pub large_e : ℕ
large_e = 69
