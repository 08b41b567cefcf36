-- Vertices by where their texts stand.
use Rattle.std.specs.Prelude.{◌≡◌, ◌<◌, ◌≤◌, ◌+◌, ◌-◌, ℕ, List, All, codes, length, unwrap_or, slice_index, slice_range}
use Rattle.city_json.specs.Compact.{compact}
use Rattle.city_json.specs.Members.{first_named}
use Rattle.city_json.specs.Tree.{ItemTrees, MemberTrees, array, no_items}
use Rattle.city_grid.specs.Axes.{IsInRange, Triple}
use Rattle.city_grid.specs.Vertex.{vertex_tree}
use Rattle.city_feature.specs.Feature.{AreVertices}
use Rattle.city_families.specs.Chosen.{point_at}

-- the compact text of each vertex stands in the text from one of these places on, up to the byte before the next
pub record StandAt (text starts : List ℕ) (points : List Triple) : Type 0 where
  pub long : length starts ≡ length points + 1
  pub each : (k : ℕ) → k < length points → slice_range text (slice_index starts k) (slice_index starts (k + 1) - 1) ≡ compact (vertex_tree (point_at points k))

-- they stand one after another in a text that ends with the last of them
pub record IsGrown (text starts : List ℕ) (points : List Triple) : Type 0 where
  pub stand : StandAt text starts points
  pub last : slice_index starts (length points) ≡ length text + 1
  pub within : All (λ start. start ≤ length text + 1) starts

-- those of some vertices in range stand so
abbrev pub HoldVertices : List ℕ → List ℕ → Type 0
HoldVertices text starts = (points : List Triple) × StandAt text starts points × All IsInRange points

-- the document of these members has these vertices
abbrev pub HasPoints : MemberTrees → List Triple → Type 0
HasPoints members points =
    (items : ItemTrees)
    × (unwrap_or (first_named (codes "vertices") members) (array no_items) ≡ array items)
    × AreVertices items points
