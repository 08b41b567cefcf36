-- Reading as functions on lists, one for each function of the code: what each finds at the front of the bytes, and the
-- bytes after it. That these agree with the grammar is proved in `proofs/`, in both directions.
use Rattle.std.specs.Prelude.{◌==◌, ◌||◌, ◌&&◌, ℕ, zero, suc, Bool, true, false, List, [], ◌∷◌, Option, Some, None, option_and_then, codes, length, drop, nat_eq, nat_le, if◌then◌else◌}
use Rattle.std.specs.List.{starts_with}
use Rattle.city_json.specs.Bytes.{space, tab, newline, carriage_return, open_bracket, close_bracket, open_brace, close_brace, comma, colon, quotation_mark, minus, digit_zero, digit_nine, small_n, small_t, small_f}
use Rattle.byte_streams.specs.Limits.{max_depth}
use Rattle.city_json.specs.NumberAt.{number_at}
use Rattle.city_json.specs.ReadString.{string_at}
use Rattle.city_json.specs.Tree.{Tree, null, boolean, number, string, array, object, ItemTrees, no_items, item, MemberTrees, no_members, member}
use Rattle.city_json.specs.declared.reading.Start.{Start}
use Rattle.city_json.specs.declared.reading.Start.TheVariants as start
use Rattle.city_json.specs.declared.reading.AfterItem.{AfterItem}
use Rattle.city_json.specs.declared.reading.AfterItem.TheVariants as mark

infixl 10 ◌>>=◌
abbrev pub ◌>>=◌ : {A B : Type 0} → Option A → (A → Option B) → Option B
o >>= f = option_and_then f o

abbrev pub is_white : ℕ → Bool
is_white b = (b == space) || (b == tab) || (b == newline) || (b == carriage_return)

-- the bytes after white space
abbrev pub after_white : List ℕ → List ℕ
after_white [] = []
after_white (b ∷ bytes) = if is_white b then after_white bytes else b ∷ bytes

-- what kind of value a first byte begins
abbrev pub start_of : ℕ → Start
start_of b =
    if b == quotation_mark then start.Text
    else (if b == open_bracket then start.List
    else (if b == open_brace then start.Map
    else (if b == minus then start.Number
    else (if nat_le digit_zero b && nat_le b digit_nine then start.Number
    else (if b == small_n then start.Null
    else (if b == small_t then start.True
    else (if b == small_f then start.False
    else start.Other)))))))

-- a value that has but one spelling
abbrev pub word_at : List ℕ → Tree → List ℕ → Option (Tree × List ℕ)
word_at word value bytes = if starts_with nat_eq bytes word then Some (value, drop (length word) bytes) else None

abbrev pub number_value_at : List ℕ → Option (Tree × List ℕ)
number_value_at bytes = do
  found ← number_at bytes
  Some (number found.0, found.1)

-- `bytes` lie after the quotation mark
abbrev pub string_value_at : List ℕ → Option (Tree × List ℕ)
string_value_at bytes = do
  found ← string_at bytes
  Some (string found.0, found.1)

-- what ends an item or a member: a comma, the closing byte, or neither
abbrev pub mark_at : ℕ → List ℕ → AfterItem × List ℕ
mark_at close [] = (mark.Neither, [])
mark_at close (b ∷ bytes) =
    if b == comma then (mark.Comma, bytes)
    else (if b == close then (mark.Close, bytes)
    else (mark.Neither, b ∷ bytes))

-- the bytes after this byte, where they begin with it
abbrev pub after_byte : ℕ → List ℕ → Option (List ℕ)
after_byte wanted [] = None
after_byte wanted (b ∷ bytes) = if b == wanted then Some bytes else None

-- the items after a first one, by what stands after it: `more` reads the further ones
abbrev pub items_after : (List ℕ → Option (ItemTrees × List ℕ)) → Tree → AfterItem × List ℕ → Option (ItemTrees × List ℕ)
items_after more value (mark.Comma, bytes) = do
  others ← more (after_white bytes)
  Some (item value others.0, others.1)
items_after more value (mark.Close, bytes) = Some (item value no_items, bytes)
items_after more value (mark.Neither, bytes) = None

-- at most `count` items and the closing bracket, each item read by `value`
unfoldable pub items_at : (List ℕ → Option (Tree × List ℕ)) → ℕ → List ℕ → Option (ItemTrees × List ℕ)
items_at value zero bytes = None
items_at value (suc count) bytes = do
  first ← value bytes
  items_after (items_at value count) first.0 (mark_at close_bracket (after_white first.1))

-- an array, by what stands after its closing byte where it is empty
abbrev pub array_from : (List ℕ → Option (Tree × List ℕ)) → Option (List ℕ) → List ℕ → Option (Tree × List ℕ)
array_from value (Some rest) bytes = Some (array no_items, rest)
array_from value None bytes = do
  found ← items_at value (length bytes) bytes
  Some (array found.0, found.1)

-- after an opening bracket
abbrev pub array_at : (List ℕ → Option (Tree × List ℕ)) → List ℕ → Option (Tree × List ℕ)
array_at value bytes = array_from value (after_byte close_bracket (after_white bytes)) (after_white bytes)

-- a name, a colon and a value
abbrev pub member_at : (List ℕ → Option (Tree × List ℕ)) → List ℕ → Option ((List ℕ × Tree) × List ℕ)
member_at value bytes = do
  text ← after_byte quotation_mark bytes
  name ← string_at text
  after ← after_byte colon (after_white name.1)
  found ← value (after_white after)
  Some ((name.0, found.0), found.1)

abbrev pub members_after : (List ℕ → Option (MemberTrees × List ℕ)) → List ℕ × Tree → AfterItem × List ℕ
    → Option (MemberTrees × List ℕ)
members_after more named (mark.Comma, bytes) = do
  others ← more (after_white bytes)
  Some (member named.0 named.1 others.0, others.1)
members_after more named (mark.Close, bytes) = Some (member named.0 named.1 no_members, bytes)
members_after more named (mark.Neither, bytes) = None

-- at most `count` members and the closing brace
unfoldable pub members_at : (List ℕ → Option (Tree × List ℕ)) → ℕ → List ℕ → Option (MemberTrees × List ℕ)
members_at value zero bytes = None
members_at value (suc count) bytes = do
  first ← member_at value bytes
  members_after (members_at value count) first.0 (mark_at close_brace (after_white first.1))

-- an object, by what stands after its closing byte where it is empty
abbrev pub object_from : (List ℕ → Option (Tree × List ℕ)) → Option (List ℕ) → List ℕ → Option (Tree × List ℕ)
object_from value (Some rest) bytes = Some (object no_members, rest)
object_from value None bytes = do
  found ← members_at value (length bytes) bytes
  Some (object found.0, found.1)

-- after an opening brace
abbrev pub object_at : (List ℕ → Option (Tree × List ℕ)) → List ℕ → Option (Tree × List ℕ)
object_at value bytes = object_from value (after_byte close_brace (after_white bytes)) (after_white bytes)

-- the values that are no array and no object
abbrev pub scalar_at : Start → List ℕ → Option (Tree × List ℕ)
scalar_at start.Null bytes = word_at (codes "null") null bytes
scalar_at start.True bytes = word_at (codes "true") (boolean true) bytes
scalar_at start.False bytes = word_at (codes "false") (boolean false) bytes
scalar_at start.Number bytes = number_value_at bytes
scalar_at start.Text bytes = string_value_at (drop 1 bytes)
scalar_at start.List bytes = None
scalar_at start.Map bytes = None
scalar_at start.Other bytes = None

-- a value, where `inner` reads those in it
abbrev pub value_from : (List ℕ → Option (Tree × List ℕ)) → Start → List ℕ → Option (Tree × List ℕ)
value_from inner start.List bytes = array_at inner (drop 1 bytes)
value_from inner start.Map bytes = object_at inner (drop 1 bytes)
value_from inner first bytes = scalar_at first bytes

-- the first byte says which value it is
abbrev pub by_first : (Start → List ℕ → Option (Tree × List ℕ)) → List ℕ → Option (Tree × List ℕ)
by_first read [] = None
by_first read (b ∷ bytes) = read (start_of b) (b ∷ bytes)

-- a value of at most this depth
unfoldable pub value_at : ℕ → List ℕ → Option (Tree × List ℕ)
value_at zero = by_first scalar_at
value_at (suc levels) = by_first (value_from (value_at levels))

-- the value that all the bytes spell
abbrev pub text_at : List ℕ → Option Tree
text_at bytes = do
  found ← value_at max_depth (after_white bytes)
  if length (after_white found.1) == 0 then Some found.0 else None
