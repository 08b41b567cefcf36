-- What a JSON value is to a contract: kinds, texts and lists, and nothing of how they lie in memory (RFC 8259, section
-- 3).
use Rattle.std.specs.Prelude.{ℕ, Bool, List, [], ◌∷◌, map}
use Rattle.city_json.specs.declared.json.Json.{Json, Json-F, fold-Json}
use Rattle.city_json.specs.declared.json.Member.{Member, Member-F, fold-Member}

mutual
  pub data Tree : Type 0 where
    null : Tree
    boolean : Bool → Tree
    number : List ℕ → Tree
    string : List ℕ → Tree
    array : ItemTrees → Tree
    object : MemberTrees → Tree

  pub data ItemTrees : Type 0 where
    no_items : ItemTrees
    item : Tree → ItemTrees → ItemTrees

  pub data MemberTrees : Type 0 where
    no_members : MemberTrees
    member : List ℕ → Tree → MemberTrees → MemberTrees

abbrev pub item_trees : List Tree → ItemTrees
item_trees [] = no_items
item_trees (tree ∷ trees) = item tree (item_trees trees)

abbrev pub member_trees : List (List ℕ × Tree) → MemberTrees
member_trees [] = no_members
member_trees (pair ∷ pairs) = member pair.0 pair.1 (member_trees pairs)

-- one level of a value, with the trees of the values in it
abbrev pub tree_step : Json-F Tree (List ℕ × Tree) → Tree
tree_step Json-F.Null = null
tree_step (Json-F.Bool b) = boolean b
tree_step (Json-F.Num text) = number text
tree_step (Json-F.Text text) = string text
tree_step (Json-F.List items) = array (item_trees items.items)
tree_step (Json-F.Map members) = object (member_trees members.items)

abbrev pub member_step : Member-F Tree (List ℕ × Tree) → List ℕ × Tree
member_step m = (m.name, m.value)

abbrev pub tree : Json → Tree
tree = fold-Json Tree (List ℕ × Tree) tree_step member_step

abbrev pub named_tree : Member → List ℕ × Tree
named_tree = fold-Member Tree (List ℕ × Tree) tree_step member_step

abbrev pub items_tree : List Json → ItemTrees
items_tree items = item_trees (map tree items)

abbrev pub members_tree : List Member → MemberTrees
members_tree members = member_trees (map named_tree members)
