-- What the compactor has taken of a text, and what it has written for it.
use Rattle.std.specs.Prelude.{◌≡◌, ◌++◌, ◌≤◌, ◌+◌, ◌-◌, ℕ, suc, List, [], ◌∷◌, Some, length, drop, slice_range, slice_index, encode_utf8}
use Rattle.std.specs.List.{flat_map}
use Rattle.city_json.specs.Bytes.{comma, close_bracket, close_brace, colon, quotation_mark}
use Rattle.city_json.specs.Compact.{written, quoted, compact, compact_items, compact_members}
use Rattle.city_json.specs.Fits.{depth, items_depth, members_depth, IsDistinct, AreDistinctItems, AreDistinctMembers, HasDistinctNames}
use Rattle.city_json.specs.Grammar.{SpellsValue, SpellsItems, SpellsMoreItems, SpellsMembers, SpellsMember, IsBlank}
use Rattle.city_json.specs.Reading.{after_white}
use Rattle.city_json.specs.ReadString.{escape_at, decoded, string_at}
use Rattle.city_json.specs.Strings.{SpellsString}
use Rattle.city_json.specs.Tree.{Tree, ItemTrees, item, MemberTrees}
use Rattle.city_json.specs.Parts.{IsPart, AreParts}
use Rattle.city_json.specs.declared.compacting.places.MemberPlace.{MemberPlace}

-- what is written where the text up to `at` is taken: the line, and what is still to be copied to it
abbrev pub shown : List ℕ → List ℕ → ℕ → ℕ → List ℕ
shown line text from at = line ++ slice_range text from at

-- `b` is a value and then `rest`, and its compact text was written after `before`
pub record Taken (levels : ℕ) (b rest before after : List ℕ) : Type 0 where
  pub value : Tree
  pub text : List ℕ
  pub splits : b ≡ text ++ rest
  pub spells : SpellsValue value text
  pub within : depth value ≤ levels
  pub distinct : IsDistinct value
  pub is_shown : after ≡ before ++ compact value

-- the same after the opening bracket of an array
pub record TakenItems (levels : ℕ) (b rest before after : List ℕ) : Type 0 where
  pub items : ItemTrees
  pub inner : List ℕ
  pub splits : b ≡ inner ++ close_bracket ∷ rest
  pub spells : SpellsItems items inner
  pub within : items_depth items ≤ levels
  pub distinct : AreDistinctItems items
  pub is_shown : after ≡ before ++ (compact_items items ++ close_bracket ∷ [])

-- the same after the opening brace of an object
pub record TakenMembers (levels : ℕ) (b rest before after : List ℕ) : Type 0 where
  pub members : MemberTrees
  pub inner : List ℕ
  pub splits : b ≡ inner ++ close_brace ∷ rest
  pub spells : SpellsMembers members inner
  pub within : members_depth members ≤ levels
  pub names_differ : HasDistinctNames members
  pub distinct : AreDistinctMembers members
  pub is_shown : after ≡ before ++ (compact_members members ++ close_brace ∷ [])

-- `b` is a string and then `rest`, and the string's one spelling was written after `before`
pub record TakenString (content b rest before after : List ℕ) : Type 0 where
  pub inner : List ℕ
  pub splits : b ≡ quotation_mark ∷ inner ++ rest
  pub spells : SpellsString content (quotation_mark ∷ inner)
  pub is_shown : after ≡ before ++ quoted content

-- what stands after a backslash, as what is written for its character
pub record TakenEscape (b rest before after : List ℕ) : Type 0 where
  pub character : ℕ
  pub is_read : escape_at b ≡ Some (character, rest)
  pub is_shown : after ≡ before ++ flat_map written (encode_utf8 character)

-- a string between two places, of which it is known, too, that what stands after its opening mark is read as its
-- content
pub record TakenAnew (text : List ℕ) (at end : ℕ) (before after : List ℕ) : Type 0 where
  pub content : List ℕ
  pub is_read : decoded (drop (at + 1) text) ≡ Some (content, drop end text)
  pub closed : slice_index text (end - 1) ≡ quotation_mark
  pub taken : TakenString content (drop at text) (drop end text) before after

-- the same of a member's name, which was put after the names
pub record TakenName (b rest before after : List ℕ) (names_before names_after : List (List ℕ)) : Type 0 where
  pub name : List ℕ
  pub taken : TakenString name b rest before after
  pub names_are : names_after ≡ names_before ++ name ∷ []

-- a name, a colon, and the white space up to the value
pub record TakenStart (b rest before after : List ℕ) (names_before names_after : List (List ℕ)) : Type 0 where
  pub name : List ℕ
  pub inner : List ℕ
  pub left : List ℕ
  pub next : List ℕ
  pub splits : b ≡ quotation_mark ∷ inner ++ left
  pub spells : SpellsString name (quotation_mark ∷ inner)
  pub goes_on : after_white left ≡ colon ∷ next
  pub starts : rest ≡ after_white next
  pub is_shown : after ≡ before ++ (quoted name ++ colon ∷ [])
  pub names_are : names_after ≡ names_before ++ name ∷ []

-- a member, whose name was put after the names
pub record TakenMember (levels : ℕ) (b rest before after : List ℕ)
    (names_before names_after : List (List ℕ)) : Type 0 where
  pub name : List ℕ
  pub value : Tree
  pub text : List ℕ
  pub splits : b ≡ text ++ rest
  pub spells : SpellsMember name (SpellsValue value) text
  pub within : depth value ≤ levels
  pub distinct : IsDistinct value
  pub is_shown : after ≡ before ++ (quoted name ++ colon ∷ compact value)
  pub names_are : names_after ≡ names_before ++ name ∷ []

-- a scalar that stands in its compact spelling between two places
pub record IsScalarText (text : List ℕ) (at end : ℕ) : Type 0 where
  pub value : Tree
  pub spells : SpellsValue value (slice_range text at end)
  pub flat : depth value ≡ 0
  pub distinct : IsDistinct value
  pub compact : compact value ≡ slice_range text at end

-- a string without escapes, whose opening mark stands before `at` and whose closing one is at `close`
pub record IsPlainString (text : List ℕ) (at close : ℕ) : Type 0 where
  pub closed : slice_index text close ≡ quotation_mark
  pub is_read : string_at (drop at text) ≡ Some (slice_range text at close, drop (suc close) text)
  pub compact : flat_map written (slice_range text at close) ≡ slice_range text at close

-- What stands between the brackets, after them the rest: `inner` spells the items, also where white space, or a comma
-- and white space, stand before it.
pub record FoundItems (levels : ℕ) (items : ItemTrees) (b rest : List ℕ) : Type 0 where
  pub inner : List ℕ
  pub splits : b ≡ inner ++ close_bracket ∷ rest
  pub spells : (w : List ℕ) → IsBlank w → SpellsItems items (w ++ inner)
  pub more : (w : List ℕ) → IsBlank w → SpellsMoreItems items (comma ∷ (w ++ inner))
  pub within : items_depth items ≤ levels

-- one or more items and the closing bracket, where white space was skipped
pub record ItemsFrom (levels : ℕ) (b rest before after : List ℕ) : Type 0 where
  pub first : Tree
  pub others : ItemTrees
  pub found : FoundItems levels (item first others) b rest
  pub distinct : AreDistinctItems (item first others)
  pub is_shown : after ≡ before ++ (compact_items (item first others) ++ close_bracket ∷ [])

-- a member and its part, which was put after the parts
pub record TakenPart (levels : ℕ) (b rest before after : List ℕ) (names_before names_after : List (List ℕ))
    (parts_before parts_after : List MemberPlace) : Type 0 where
  pub taken : TakenMember levels b rest before after names_before names_after
  pub part : MemberPlace
  pub is_part : IsPart (length before) part taken.name taken.value
  pub parts_are : parts_after ≡ parts_before ++ part ∷ []

-- the members after the opening brace of the whole object, and their parts
pub record TakenParts (levels : ℕ) (b rest before after : List ℕ) (parts : List MemberPlace) : Type 0 where
  pub taken : TakenMembers levels b rest before after
  pub are_parts : AreParts (length before) parts taken.members
