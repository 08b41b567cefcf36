-- Values that can be written: their numbers are numbers, and their texts and names are UTF-8.
use Rattle.std.specs.Prelude.{IsUtf8}
use Rattle.city_json.specs.Number.{IsNumber}
use Rattle.city_json.specs.Tree.{Tree, null, boolean, number, string, array, object, ItemTrees, no_items, item, MemberTrees, no_members, member}

abbrev mutual
  pub IsWritable : Tree → Type 0
  IsWritable null = Unit {0}
  IsWritable (boolean b) = Unit {0}
  IsWritable (number text) = IsNumber text
  IsWritable (string text) = IsUtf8 text
  IsWritable (array items) = AreWritableItems items
  IsWritable (object members) = AreWritableMembers members

  pub AreWritableItems : ItemTrees → Type 0
  AreWritableItems no_items = Unit {0}
  AreWritableItems (item value others) = IsWritable value × AreWritableItems others

  pub AreWritableMembers : MemberTrees → Type 0
  AreWritableMembers no_members = Unit {0}
  AreWritableMembers (member name value others) = IsUtf8 name × IsWritable value × AreWritableMembers others
