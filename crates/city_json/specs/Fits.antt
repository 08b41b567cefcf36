-- What this project accepts of JSON: values of bounded depth whose names are distinct (limits that RFC 8259, sections 4
-- and 9, leaves to a reader).
use Rattle.std.specs.Prelude.{◌≢◌, ◌≤◌, ℕ, suc, max, List}
use Rattle.byte_streams.specs.Limits.{max_depth}
use Rattle.city_json.specs.Tree.{Tree, null, boolean, number, string, array, object, ItemTrees, no_items, item, MemberTrees, no_members, member}

-- how deep arrays and objects nest
abbrev mutual
  pub depth : Tree → ℕ
  depth null = 0
  depth (boolean b) = 0
  depth (number text) = 0
  depth (string text) = 0
  depth (array items) = suc (items_depth items)
  depth (object members) = suc (members_depth members)

  -- the depth of the deepest
  pub items_depth : ItemTrees → ℕ
  items_depth no_items = 0
  items_depth (item value others) = max (depth value) (items_depth others)

  pub members_depth : MemberTrees → ℕ
  members_depth no_members = 0
  members_depth (member name value others) = max (depth value) (members_depth others)

-- None of the members has this name. A tree has names as decoded, so that `a` and its escape `\u0061` are one name.
abbrev pub IsNewName : List ℕ → MemberTrees → Type 0
IsNewName name no_members = Unit {0}
IsNewName name (member other value others) = (name ≢ other) × IsNewName name others

-- the names of one object's members differ
abbrev pub HasDistinctNames : MemberTrees → Type 0
HasDistinctNames no_members = Unit {0}
HasDistinctNames (member name value others) = IsNewName name others × HasDistinctNames others

-- in each object of the value no two names are equal
abbrev mutual
  pub IsDistinct : Tree → Type 0
  IsDistinct null = Unit {0}
  IsDistinct (boolean b) = Unit {0}
  IsDistinct (number text) = Unit {0}
  IsDistinct (string text) = Unit {0}
  IsDistinct (array items) = AreDistinctItems items
  IsDistinct (object members) = HasDistinctNames members × AreDistinctMembers members

  pub AreDistinctItems : ItemTrees → Type 0
  AreDistinctItems no_items = Unit {0}
  AreDistinctItems (item value others) = IsDistinct value × AreDistinctItems others

  pub AreDistinctMembers : MemberTrees → Type 0
  AreDistinctMembers no_members = Unit {0}
  AreDistinctMembers (member name value others) = IsDistinct value × AreDistinctMembers others

abbrev pub Fits : Tree → Type 0
Fits value = (depth value ≤ max_depth) × IsDistinct value
