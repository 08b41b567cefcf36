-- The text that a leaf has in a feature, by the table of numbers that were given.
use Rattle.std.specs.Prelude.{◌&&◌, ℕ, Bool, List, bytes_eq, if◌then◌else◌, length, nat_lt, slice_index}
use Rattle.std.specs.Fmt.{decimal}
use Rattle.std.specs.Str.Parse.{digits_value}

-- it is the plain decimal text of a number below `count`
abbrev pub is_index : ℕ → List ℕ → Bool
is_index count text = bytes_eq text (decimal (digits_value 10 text)) && nat_lt (digits_value 10 text) count

-- a text that names no vertex stays as it is
abbrev pub own_text : List ℕ → List ℕ → List ℕ
own_text table text = if is_index (length table) text then decimal (slice_index table (digits_value 10 text)) else text
