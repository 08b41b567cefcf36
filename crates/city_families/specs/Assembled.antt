-- What a feature is made of.
use Rattle.std.specs.Prelude.{◌≡◌, ℕ, List}
use Rattle.city_json.specs.Tree.{Tree}
use Rattle.city_grid.specs.Axes.{Triple}
use Rattle.city_feature.specs.Feature.{AreReadAgain, vertices_tree}
use Rattle.city_families.specs.Points.{SamePoints}

-- objects and vertices in which the chosen objects have their points, as the vertices are written
pub record IsAssembled (points : List Triple) (chosen : List (List ℕ × Tree)) (objects : List (List ℕ × Tree)) (vertices : Tree) : Type 0 where
  pub own : List Triple
  pub same_points : SamePoints points chosen own objects
  pub written : vertices ≡ vertices_tree own
  pub again : AreReadAgain own
