-- Triples of whole numbers in their compact text are vertices as they would be written.
use Rattle.std.proofs.Common.{◌≡◌, ◌∙◌, ℕ, List, [], ◌∷◌, map, refl, ap, sym, All, slice_range}
use Rattle.std.proofs.lemmas.List.Elements.{All-cons, All-nil}
use Rattle.city_json.specs.Compact.{compact}
use Rattle.city_json.specs.Tree.{Tree, array, item_trees, ItemTrees, no_items, item}
use Rattle.city_json.specs.Triples.{AreTriples, IsTriple, IsTriplesText, three_numbers}
use Rattle.city_grid.specs.Axes.{Triple, triple, IsInRange}
use Rattle.city_grid.specs.Vertex.{vertex_tree}
use Rattle.city_grid.proofs.ShortIntegers.{integer}
use Rattle.city_feature.specs.LineTexts.{IsVerticesText}

record IsPrintedVertex (value : Tree) : Type 0 where
  vertex : Triple
  is : value ≡ vertex_tree vertex
  range : IsInRange vertex

vertex : (value : Tree) → IsTriple value → IsPrintedVertex value
vertex value t =
    let x = integer t.x t.short_x in
    let y = integer t.y t.short_y in
    let z = integer t.z t.short_z in
    record {
      vertex = triple x.value y.value z.value;
      is = t.is ∙ (λ i. three_numbers (x.printed i) (y.printed i) (z.printed i));
      range = (x.small, y.small, z.small);
    }

pub record ArePrinted (items : ItemTrees) : Type 0 where
  pub vertices : List Triple
  pub are : items ≡ item_trees (map vertex_tree vertices)
  pub range : All IsInRange vertices

pub vertices : (items : ItemTrees) → AreTriples items → ArePrinted items
vertices no_items are = record { vertices = []; are = refl; range = All-nil IsInRange }
vertices (item value others) are =
    let first = vertex value are.0 in
    let rest = vertices others are.1 in
    record {
      vertices = first.vertex ∷ rest.vertices;
      are = λ i. item (first.is i) (rest.are i);
      range = All-cons IsInRange first.vertex rest.vertices first.range rest.range;
    }

pub vertices_text : (text found : List ℕ) (from end : ℕ) → IsTriplesText text from end
    → slice_range text from end ≡ found → IsVerticesText found
vertices_text text found from end is same =
    let all = vertices is.items is.triples in
    (all.vertices, sym same ∙ is.written ∙ ap (λ items. compact (array items)) all.are, all.range)
