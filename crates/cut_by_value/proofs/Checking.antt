-- The vertices of a document, item by item.
use Rattle.std.proofs.Common.{◌≡◌, ◌∙◌, ◌+◌, ◌<◌, ◌≤◌, ℕ, sym, ap, subst, inl, inr, List, [], ◌∷◌, length, drop, get_or}
use Rattle.std.proofs.lemmas.List.{drop_all, drop_more}
use Rattle.city_json.specs.Tree.{Tree, tree, item, items_tree}
use Rattle.byte_streams.specs.declared.fault.Fault.{Fault}
use Rattle.byte_streams.specs.declared.fault.Fault.TheVariants.{Decimal, NoTransform, NotCityJson, ScaleNotPositive, Version}
use Rattle.city_json.specs.declared.json.Json.{Json}
use Rattle.city_grid.specs.Axes.{Triple, IsInRange}
use Rattle.city_grid.specs.Vertex.{IsVertex, RefusesVertex}
use Rattle.city_feature.specs.Feature.{AreVertices, RefusesFirst}
use Rattle.city_feature.specs.Header.{RefusesHeader}
use Rattle.city_families.specs.CityObjects.{AreCityObjects, objects_of}
use Rattle.city_families.specs.Cut.{RefusesCut}

-- what is no header is no document either
pub header_refused : (fault : Fault) (document : Tree) → AreCityObjects (objects_of document)
    → RefusesHeader fault document → RefusesCut fault document
header_refused NotCityJson document city refused = λ it. refused it.0
header_refused Version document city refused = ((refused.0, city), refused.1)
header_refused NoTransform document city refused = ((refused.0, city), refused.1, refused.2)
header_refused Decimal document city refused = ((refused.0, city), refused.1, refused.2)
header_refused ScaleNotPositive document city refused = ((refused.0, city), refused.1, refused.2)
header_refused other document city refused = absurd refused

-- where the items from here on are vertices, all are
abbrev pub GoesOn : List Json → ℕ → Type 0
GoesOn items at = ((ps : List Triple) × AreVertices (items_tree (drop at items)) ps)
    → ((ps : List Triple) × AreVertices (items_tree items) ps)

-- the first that is refused from here on is the first of all
abbrev pub RefusesOn : List Json → ℕ → Type 0
RefusesOn items at = (fault : Fault) → RefusesFirst fault (items_tree (drop at items))
    → RefusesFirst fault (items_tree items)

module _ (items : List Json) (at : ℕ) (x : Json) (within : at < length items) (is : x ≡ get_or items at x) where
  next_item : items_tree (drop at items) ≡ item (tree x) (items_tree (drop (at + 1) items))
  next_item = ap items_tree (drop_more items at x within)
      ∙ ap (λ y. item (tree y) (items_tree (drop (at + 1) items))) (sym is)

  pub goes_on : (p : Triple) → IsVertex (tree x) p → IsInRange p → GoesOn items at → GoesOn items (at + 1)
  goes_on p vertex range on = λ others. on (
    p ∷ others.0,
    subst (λ t. AreVertices t (p ∷ others.0)) (sym next_item) (vertex, range, others.1),
  )

  pub refused_on : (p : Triple) → IsVertex (tree x) p → IsInRange p → RefusesOn items at → RefusesOn items (at + 1)
  refused_on p vertex range on = λ fault refused.
      on fault (subst (RefusesFirst fault) (sym next_item) (inr (p, vertex, range, refused)))

  pub refused_here : (fault : Fault) → RefusesVertex fault (tree x) → RefusesOn items at
      → RefusesFirst fault (items_tree items)
  refused_here fault refused on = on fault (subst (RefusesFirst fault) (sym next_item) (inl refused))

pub all_checked : (items : List Json) (at : ℕ) → length items ≤ at → GoesOn items at → (ps : List Triple)
    × AreVertices (items_tree items) ps
all_checked items at past on = on (
  [],
  subst (λ left. AreVertices (items_tree left) []) (sym (drop_all at items past))
      tt,
)
