-- What headers and features of the code are to a contract.
use Rattle.std.specs.Prelude.{ℕ, List, Option, map}
use Rattle.std.specs.BTreeMap.{BTreeMap, get_by}
use Rattle.std.specs.Borrow.{Bor}
use Rattle.std.specs.Cmp.Lexicographic.{slice_cmp}
use Rattle.std.specs.Ordering.{nat_cmp}
use Rattle.city_json.specs.Tree.{Tree, tree, MemberTrees, member_trees}
use Rattle.city_json.specs.declared.json.Json.{Json}
use Rattle.city_grid.specs.Axes.{Triple}
use Rattle.city_grid.specs.Transform.{Grid}
use Rattle.city_feature.specs.Feature.{FeatureValue}
use Rattle.city_feature.specs.Header.{HeaderValue}

pub record HeaderJson : Type 0 where
  pub json : Json
  pub grid : Grid

abbrev pub header_value : HeaderJson → HeaderValue
header_value header = record { value = tree header.json; grid = header.grid }

pub record FeatureJson : Type 0 where
  pub json : Json
  pub vertices : List Triple

abbrev pub feature_value : FeatureJson → FeatureValue
feature_value feature = record { value = tree feature.json; vertices = feature.vertices }

-- a name and a value that the code has borrowed
abbrev pub lent : Bor (List ℕ) × Bor Json → List ℕ × Tree
lent pair = (pair.0.now, tree pair.1.now)

abbrev pub lent_members : List (Bor (List ℕ) × Bor Json) → MemberTrees
lent_members pairs = member_trees (map lent pairs)

-- the value that a search tree of borrowed names has for a name
abbrev pub value_by_order : List ℕ → BTreeMap (Bor (List ℕ)) (Bor Json) → Option (Bor Json)
value_by_order name values = get_by (λ key. slice_cmp nat_cmp name key.now) values
