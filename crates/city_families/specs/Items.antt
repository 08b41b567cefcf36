-- The items of arrays and the values of objects, as lists.
use Rattle.std.specs.Prelude.{List, [], ◌∷◌, Option, Some}
use Rattle.city_json.specs.Tree.{Tree, array, ItemTrees, no_items, item, MemberTrees, no_members, member}

abbrev pub item_list : ItemTrees → List Tree
item_list no_items = []
item_list (item value others) = value ∷ item_list others

-- the items where there is an array, and else none
abbrev pub items_in : Option Tree → ItemTrees
items_in (Some (array items)) = items
items_in other = no_items

abbrev pub items_of : Option Tree → List Tree
items_of (Some (array items)) = item_list items
items_of other = []

-- the values of an object's members, in order
abbrev pub values : MemberTrees → List Tree
values no_members = []
values (member name value others) = value ∷ values others
