-- Whether names differ, as it is told.
use Rattle.std.specs.Prelude.{◌&&◌, ℕ, Bool, true, List, [], ◌∷◌, bytes_eq, not}
use Rattle.city_json.specs.Members.{names}
use Rattle.city_json.specs.Tree.{Tree, null, boolean, number, string, array, object, ItemTrees, no_items, item, MemberTrees, no_members, member}

-- none of the names is this one
abbrev pub is_new_name : List ℕ → List (List ℕ) → Bool
is_new_name name [] = true
is_new_name name (other ∷ others) = not (bytes_eq other name) && is_new_name name others

-- no two of the names are equal
abbrev pub are_apart : List (List ℕ) → Bool
are_apart [] = true
are_apart (name ∷ others) = is_new_name name others && are_apart others

-- in each object of the value no two names are equal
abbrev mutual
  pub is_distinct : Tree → Bool
  is_distinct null = true
  is_distinct (boolean b) = true
  is_distinct (number text) = true
  is_distinct (string text) = true
  is_distinct (array items) = are_distinct_items items
  is_distinct (object members) = are_apart (names members) && are_distinct_members members

  pub are_distinct_items : ItemTrees → Bool
  are_distinct_items no_items = true
  are_distinct_items (item value others) = is_distinct value && are_distinct_items others

  pub are_distinct_members : MemberTrees → Bool
  are_distinct_members no_members = true
  are_distinct_members (member name value others) = is_distinct value && are_distinct_members others
