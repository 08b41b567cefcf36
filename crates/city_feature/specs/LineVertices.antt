-- What becomes of the vertices of a feature's line, found on its compact text.
use Rattle.std.specs.Prelude.{◌≡◌, ◌≤◌, ◌↔◌, ℕ, IsTrue, List, All, Option, IfSome, codes, length}
use Rattle.city_json.specs.Compact.{compact}
use Rattle.city_json.specs.ObjectTexts.{PlacedObject, members_of, object_of}
use Rattle.city_json.specs.Parts.{with_value}
use Rattle.city_json.specs.declared.compacting.places.MemberPlace.{MemberPlace}
use Rattle.city_grid.specs.Axes.{Triple, IsInRange}
use Rattle.city_feature.specs.Area.{Meets}
use Rattle.city_feature.specs.Feature.{IsFeature, moved_vertices, vertices_tree}
use Rattle.city_feature.specs.LineTexts.{IsPlaceOf}
use Rattle.city_feature.specs.declared.choices.area.Area.{Area}
use Rattle.city_feature.specs.declared.features.on_text.Vertices.{Vertices}
use Rattle.city_feature.specs.declared.features.on_text.Vertices.TheVariants.{Stay, Move}

-- the line in which they have become this
abbrev pub text_with : Vertices → List ℕ → List ℕ
text_with (Stay meets) line = line
text_with (Move part vertices) line = with_value line part (compact (vertices_tree vertices.items))

-- what they are exchanged for lies within the line
abbrev pub LieIn : List ℕ → Vertices → Type 0
LieIn line (Stay meets) = Unit {0}
LieIn line (Move part vertices) = (part.value ≤ part.end) × (part.end ≤ length line)

-- of these vertices it is known whether they meet the area, where there is one; or they are known
abbrev pub AreKnown : Option Area → List Triple → Vertices → Type 0
AreKnown area ps (Stay meets) = IsTrue meets ↔ IfSome area (λ one. Meets one ps)
AreKnown area ps (Move part vertices) = vertices.items ≡ ps

-- the line is a feature, and when it is moved by k this becomes of its vertices, which stay in range
pub record BecomeOf (area : Option Area) (k : Triple) (there : PlacedObject) (vertices : Vertices) : Type 0 where
  pub part : MemberPlace
  pub ps : List Triple
  pub is : IsFeature (object_of there) ps
  pub placed : IsPlaceOf (codes "vertices") (members_of there) there.text part
  pub range : All IsInRange (moved_vertices ps k)
  pub text : text_with vertices there.text ≡ with_value there.text part (compact (vertices_tree (moved_vertices ps k)))
  pub known : AreKnown area (moved_vertices ps k) vertices
