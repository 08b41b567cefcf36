-- Objects that were chosen, and points by their numbers.
use Rattle.std.specs.Prelude.{ℕ, List, [], Option, Some, None, codes, map, pos, slice_index_or}
use Rattle.std.specs.Borrow.{Bor}
use Rattle.city_json.specs.declared.json.Member.{Member}
use Rattle.city_json.specs.Tree.{Tree, null, named_tree}
use Rattle.city_grid.specs.Axes.{Triple, triple}
use Rattle.city_feature.specs.Changes.{with_member}

-- what the code has borrowed
abbrev pub chosen_objects : List (Bor Member) → List (List ℕ × Tree)
chosen_objects chosen = map (λ member. named_tree member.now) chosen

-- the point of this number
abbrev pub point_at : List Triple → ℕ → Triple
point_at points k = slice_index_or points k (triple (pos 0) (pos 0) (pos 0))

-- the object at a place
abbrev pub named_at : List (List ℕ × Tree) → ℕ → List ℕ × Tree
named_at pairs place = slice_index_or pairs place ([], null)

abbrev pub named_tree_at : List Member → ℕ → List ℕ × Tree
named_tree_at objects place = named_at (map named_tree objects) place

-- with the appearance as another member, where there is one
abbrev pub appearance_added : Option Tree → Tree → Tree
appearance_added None feature = feature
appearance_added (Some appearance) feature = with_member (codes "appearance") appearance feature
