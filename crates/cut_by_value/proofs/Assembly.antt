-- How a feature comes together.
use Rattle.std.proofs.Common.{◌≡◌, ◌<◌, ◌+◌, ◌++◌, ℕ, List, [], ◌∷◌, length, get_or, map, take, sym, refl, ap, ◌∙◌, arith, pos, zero, suc}
use Rattle.std.proofs.lemmas.List.{length-map, map-append, take_more, get_or_default}
use Rattle.std.proofs.lemmas.Option.{slice_get-map, slice_get-get_or}
use Rattle.std.specs.List.{All, slice_get, slice_index}
use Rattle.city_json.specs.declared.json.Json.{Json}
use Rattle.city_json.specs.Tree.{Tree, tree, items_tree}
use Rattle.city_grid.specs.Axes.{IsInRange, Triple, triple}
use Rattle.city_grid.specs.Vertex.{IsVertex, vertex_tree}
use Rattle.city_families.specs.Boundaries.{relabelled_objects, uses}
use Rattle.city_feature.specs.Feature.{AreReadAgain, AreVertices}
use Rattle.city_families.specs.Chosen.{point_at}
use Rattle.city_families.specs.Leaves.{renumbered}
use Rattle.city_families.specs.Numbered.{AreNumbered}
use Rattle.city_families.specs.Points.{SamePoints}
use Rattle.city_families.proofs.SamePoints.{same_points}

pub order_inside : (uses table order : List ℕ) (n : ℕ) → AreNumbered uses table order → length table ≡ n
    → All (λ k. k < n) order
order_inside uses table order n all long =
    λ i d below. rw (get_or_default order i d 0 below, ← long) (all.inside i below)

-- the point of a value in the list
pub point_is : (values : List Json) (points : List Triple) (at : ℕ) (value : Json)
    → AreVertices (items_tree values) points → at < length values → value ≡ get_or values at value
    → IsVertex (tree value) (point_at points at) × IsInRange (point_at points at)
point_is [] points at value all within is = absurd (omega (arith, within))
point_is (v ∷ vs) [] at value all within is = absurd all
point_is (v ∷ vs) (p ∷ ps) zero value all within is = rw is (all.0, all.1)
point_is (v ∷ vs) (p ∷ ps) (suc at) value all within is = point_is vs ps at value all.2 (omega (arith, within)) is

pub as_many : (values : List Json) (points : List Triple) → AreVertices (items_tree values) points
    → length values ≡ length points
as_many [] [] all = refl
as_many [] (p ∷ ps) all = absurd all
as_many (v ∷ vs) [] all = absurd all
as_many (v ∷ vs) (p ∷ ps) all = let e = as_many vs ps all.2 in omega (arith, e)

pub points_map : (points : List Triple) (order : List ℕ)
    → map (λ k. vertex_tree (point_at points k)) order ≡ map vertex_tree (map (point_at points) order)
points_map points [] = refl
points_map points (k ∷ ks) = ap (λ l. vertex_tree (point_at points k) ∷ l) (points_map points ks)

pub assembled_is : (values : List Json) (points : List Triple) (objects own_objects : List (List ℕ × Tree))
    (table order : List ℕ)
    → AreVertices (items_tree values) points → length table ≡ length values
    → AreNumbered (uses objects) table order
    → own_objects ≡ relabelled_objects (renumbered (λ k. slice_index table k)) objects
    → SamePoints points objects (map (point_at points) order) own_objects
assembled_is values points objects own_objects table order all long numbered but =
    same_points points objects (map (point_at points) order) own_objects table order numbered but
    (length-map order (point_at points)) each
  where
    each : (i : ℕ) → i < length order → slice_get (map (point_at points) order) i
        ≡ slice_get points (slice_index order i)
    each i below = rw (slice_get-map, slice_get-get_or order i 0 below)
        (sym (slice_get-get_or points (slice_index order i) (triple (pos 0) (pos 0) (pos 0))
        (omega (arith, numbered.inside i below, long, as_many values points all))))

-- written one after another, they are read again
pub again_push : (ps : List Triple) (p : Triple) → AreReadAgain ps → IsVertex (vertex_tree p) p → IsInRange p
    → AreReadAgain (ps ++ p ∷ [])
again_push [] p all vertex range = (vertex, range, tt)
again_push (q ∷ qs) p all vertex range = (all.0, all.1, again_push qs p all.2 vertex range)

pub again_more : (points : List Triple) (order : List ℕ) (i : ℕ) → AreReadAgain (map (point_at points) (take i order))
    → i < length order → IsVertex (vertex_tree (point_at points (get_or order i 0)))
    (point_at points (get_or order i 0)) × IsInRange (point_at points (get_or order i 0))
    → AreReadAgain (map (point_at points) (take (i + 1) order))
again_more points order i all within vertex =
    rw (take_more order i 0 within, map-append)
    (again_push (map (point_at points) (take i order)) (point_at points (get_or order i 0)) all vertex.0 vertex.1)

pub own_more : (points : List Triple) (order : List ℕ) (i : ℕ) (own own' : List Json) (json : Json)
    → map tree own ≡ map (λ k. vertex_tree (point_at points k)) (take i order) → i < length order
    → tree json ≡ vertex_tree (point_at points (get_or order i 0)) → own' ≡ own ++ json ∷ []
    → map tree own' ≡ map (λ k. vertex_tree (point_at points k)) (take (i + 1) order)
own_more points order i own own' json same within written pushed =
    rw (pushed, take_more order i 0 within, map-append, map-append)
    (ap (λ l. l ++ tree json ∷ []) same ∙ ap
    (λ t. map (λ k. vertex_tree (point_at points k)) (take i order) ++ t ∷ []) written)
