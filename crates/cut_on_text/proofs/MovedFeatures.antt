-- What is made on moved vertices are the features, moved.
use Rattle.std.proofs.Common.{◌≡◌, ◌∙◌, ◌++◌, ◌<◌, ◌^◌, ◌&&◌, ℕ, zero, suc, Bool, true, false, List, [], ◌∷◌, Option, Some, cond, get_or, length, map, unsigned_abs, refl, sym, ap, subst, arith, codes, pos, inl, inr}
use Rattle.std.proofs.lemmas.Bool.{cases_Bool, le-leb, leb-true}
use Rattle.std.proofs.Math.Dec.{leb}
use Rattle.std.proofs.lemmas.List.{length-map}
use Rattle.std.proofs.lemmas.List.Elements.{All-map}
use Rattle.std.specs.List.{All, AllByRecursion, AllZip}
use Rattle.std.specs.Prelude.{IsUtf8, bytes_eq, if◌then◌else◌, nat_le}
use Rattle.byte_streams.specs.Limits.{max_steps}
use Rattle.city_json.proofs.SpelledWritable.{read_of_compact}
use Rattle.city_json.specs.Compact.{compact}
use Rattle.city_json.specs.Fits.{IsDistinct}
use Rattle.city_json.specs.Members.{first_named, member_of}
use Rattle.city_json.specs.Tree.{Tree, MemberTrees, no_members, member, item_trees, member_trees, object}
use Rattle.city_json.specs.Writable.{AreWritableMembers, IsWritable}
use Rattle.city_grid.specs.Axes.{IsInRange, Triple, sum, triple}
use Rattle.city_grid.specs.Vertex.{vertex_tree}
use Rattle.city_feature.proofs.LineTexts.{are_vertices, utf8}
use Rattle.city_feature.specs.Changes.{with_member}
use Rattle.city_feature.specs.Feature.{AreVertices, FeatureValue, IsMovable, moved, moved_vertices, vertices_tree}
use Rattle.city_feature.specs.FeatureLine.{SpellsFeature}
use Rattle.city_families.specs.Chosen.{point_at}
use Rattle.city_families.specs.CityObjects.{IsReached}
use Rattle.city_families.specs.Cut.{feature_tree, appearance_members}
use Rattle.cut_on_text.specs.FeatureText.{tail_text}
use Rattle.city_families.specs.HeldTexts.{with_end}
use Rattle.city_families.specs.Lines.{texts_of}
use Rattle.cut_on_text.specs.Made.{AreMakings, Makings, family, made_text, order_of}
use Rattle.cut_on_text.specs.Moved.{is_in_range, moved_or_same}
use Rattle.city_families.specs.Places.{IsFamily, name_at}
use Rattle.cut_on_text.specs.Skeletons.{AreSkeletons}
use Rattle.cut_on_text.specs.VertexTexts.{StandAt}
use Rattle.city_families.proofs.Copies.{decimal_is_number}
use Rattle.city_families.proofs.FeatureParts.{chosen_are_those}
use Rattle.city_feature.proofs.OneFeature.{same_array, same_vertices}
use Rattle.cut_on_text.proofs.OwnVertices.{labels_below, no_more}
use Rattle.cut_on_text.proofs.TextFeatures.{feature_text}
use Rattle.cut_on_text.proofs.SpelledFeatures.{vertex_items_good}
use Rattle.cut_on_text.proofs.Unspoilt.{objects_relabelled, those_kept}
use Rattle.cut_on_text.proofs.MadeFeatures as made

-- ---- a vertex that is moved
both : (a b : Bool) → (a && b) ≡ true → (a ≡ true) × (b ≡ true)
both true b e = (refl, e)
both false b e = cc e

in_range_says : (p : Triple) → is_in_range p ≡ true → IsInRange p
in_range_says p e =
    let (x, rest) = both (nat_le (unsigned_abs p.x) max_steps) _ e in
    let (y, z) = both (nat_le (unsigned_abs p.y) max_steps) (nat_le (unsigned_abs p.z) max_steps) rest in (
      leb-true (unsigned_abs p.x) max_steps x,
      leb-true (unsigned_abs p.y) max_steps y,
      leb-true (unsigned_abs p.z) max_steps z,
    )

said_in_range : (p : Triple) → IsInRange p → is_in_range p ≡ true
said_in_range p range =
    let x : nat_le (unsigned_abs p.x) max_steps ≡ true = le-leb (unsigned_abs p.x) max_steps range.0 in
    let y : nat_le (unsigned_abs p.y) max_steps ≡ true = le-leb (unsigned_abs p.y) max_steps range.1 in
    let z : nat_le (unsigned_abs p.z) max_steps ≡ true = le-leb (unsigned_abs p.z) max_steps range.2 in
    ap (λ b. b && (nat_le (unsigned_abs p.y) max_steps && nat_le (unsigned_abs p.z) max_steps)) x
    ∙ (ap (λ b. b && nat_le (unsigned_abs p.z) max_steps) y ∙ z)

pub moved_within : (k p : Triple) → IsInRange (sum p k) → moved_or_same k p ≡ sum p k
moved_within k p range = ap (λ b. cond b (sum p k) p) (said_in_range (sum p k) range)

pub same_outside : (k p : Triple) → (IsInRange (sum p k) → ⊥) → moved_or_same k p ≡ p
same_outside k p out = elim (cases_Bool (is_in_range (sum p k))) [
  | inl e ↦ absurd (out (in_range_says (sum p k) e))
  | inr e ↦ ap (λ b. cond b (sum p k) p) e
]

pub moved_in_range : (k p : Triple) → IsInRange p → IsInRange (moved_or_same k p)
moved_in_range k p range = elim (cases_Bool (is_in_range (sum p k))) [
  | inl e ↦ subst IsInRange (sym (ap (λ b. cond b (sum p k) p) e)) (in_range_says (sum p k) e)
  | inr e ↦ subst IsInRange (sym (ap (λ b. cond b (sum p k) p) e)) range
]

pub moved_point : (k : Triple) (points : List Triple) (j : ℕ) → j < length points
    → point_at (map (moved_or_same k) points) j ≡ moved_or_same k (point_at points j)
moved_point k [] j below = absurd (omega (arith, below))
moved_point k (p ∷ ps) zero below = refl
moved_point k (p ∷ ps) (suc j) below = moved_point k ps j (omega (arith, below))

-- the vertices of a feature that can be moved
moved_points : (k : Triple) (points : List Triple) (order : List ℕ) → AllByRecursion (λ j. j < length points) order
    → All IsInRange (moved_vertices (map (point_at points) order) k)
    → map (point_at (map (moved_or_same k) points)) order ≡ moved_vertices (map (point_at points) order) k
moved_points k points [] below range = refl
moved_points k points (j ∷ js) below range =
    let here : point_at (map (moved_or_same k) points) j ≡ sum (point_at points j) k =
    moved_point k points j below.0
    ∙ moved_within k (point_at points j) (range 0 (sum (point_at points j) k) (omega arith)) in
    let rest = moved_points k points js below.1
    (λ i d within. range (suc i) d (omega (arith, within))) in
    ap (λ p. p ∷ map (point_at (map (moved_or_same k) points)) js) here
    ∙ ap (λ ps. sum (point_at points j) k ∷ ps) rest

all_range : (points : List Triple) (order : List ℕ) → AllByRecursion (λ j. j < length points) order
    → All IsInRange points → All IsInRange (map (point_at points) order)
all_range points [] below range i d within = absurd (omega (arith, within))
all_range points (j ∷ js) below range zero d within = range j (triple (pos 0) (pos 0) (pos 0)) below.0
all_range points (j ∷ js) below range (suc i) d within = all_range points js below.1 range i d (omega (arith, within))

-- ---- what is written of a feature
name_utf8 : (objects : MemberTrees) (k : ℕ) → AreWritableMembers objects → IsUtf8 (name_at objects k)
name_utf8 no_members k all = utf8 _ refl
name_utf8 (member name value others) zero all = all.0
name_utf8 (member name value others) (suc k) all = name_utf8 others k all.2

feature_writable : (id : List ℕ) (objects : List (List ℕ × Tree)) (vertices : Tree) (appearance : Option Tree)
    → IsUtf8 id → AreWritableMembers (member_trees objects) → IsWritable vertices
    → AreWritableMembers (appearance_members appearance) → IsWritable (feature_tree id objects vertices appearance)
feature_writable id objects vertices appearance id_is objects_are vertices_are last =
    (utf8 _ refl, utf8 _ refl, (utf8 _ refl, id_is, (utf8 _ refl, objects_are, (utf8 _ refl, vertices_are, last))))

-- the vertices of a value that is such a feature are these
own_vertices : (id : List ℕ) (objects : List (List ℕ × Tree)) (own ps : List Triple) (appearance : Option Tree)
    (value : Tree) → feature_tree id objects (vertices_tree own) appearance ≡ value → All IsInRange own
    → (text : List ℕ) → SpellsFeature text (record { value = value; vertices = ps }) → ps ≡ own
own_vertices id objects own ps appearance value is range text spells =
    let (items, there, are) = spells.2.1 in
    let same : items ≡ item_trees (map vertex_tree own) =
    same_array items (item_trees (map vertex_tree own)) (sym there ∙ ap (member_of (codes "vertices")) (sym is)) in
    same_vertices (item_trees (map vertex_tree own)) ps own (subst (λ t. AreVertices t ps) same are)
    (are_vertices own range)

module _ (pairs : List (List ℕ × Tree)) (points : List Triple) (makings : Makings) (root : ℕ)
    (are : AreSkeletons (length points) makings.skeletons pairs)
    (stand : StandAt makings.vertices makings.starts points) (small : length points < 2 ^ 64)
    (of_root : IsFamily (member_trees pairs) root (family makings.graph root)) (range : All IsInRange points)
    (writable : IsWritable (object (member_trees pairs))) (distinct : IsDistinct (object (member_trees pairs)))
    (k : Triple) (vertices starts : List ℕ) (stand' : StandAt vertices starts (map (moved_or_same k) points))
    (appearance : Option Tree) (last : AreWritableMembers (appearance_members appearance)) where
  abbrev makings' : Makings
  makings' = record { skeletons = makings.skeletons; vertices = vertices; starts = starts; graph = makings.graph }

  abbrev id : List ℕ
  id = name_at (member_trees pairs) root

  abbrev chosen : List (List ℕ × Tree)
  chosen = made.chosen pairs points makings root are stand small of_root

  abbrev objects : List (List ℕ × Tree)
  objects = made.own_objects pairs points makings root are stand small of_root

  abbrev own : List Triple
  own = made.own_points pairs points makings root are stand small of_root

  as_many : length (map (moved_or_same k) points) ≡ length points
  as_many = length-map points (moved_or_same k)

  own_range : All IsInRange own
  own_range = all_range points (order_of makings root)
      (made.order_inside pairs points makings root are stand small of_root) range

  objects_writable : AreWritableMembers (member_trees objects)
  objects_writable =
      let same = made.points_same pairs points makings root are stand small of_root in
      let kept = those_kept (IsReached (member_trees pairs) id) (member_trees pairs) chosen
      (chosen_are_those pairs root (family makings.graph root) of_root) distinct in
      let relabelled = objects_relabelled same.label chosen
      (λ n c. let below = labels_below points own chosen objects same n c in
      let more = no_more points own chosen objects same in
      decimal_is_number (same.label n) (omega (arith, below, more, small))) kept.1 in
      subst (λ l. AreWritableMembers (member_trees l)) (sym same.but_leaves) (relabelled.0 (kept.0 writable))

  whole : made_text makings root ++ tail_text appearance
      ≡ compact (feature_tree id objects (vertices_tree own) appearance)
  whole = ap (λ l. l ++ tail_text appearance) (made.whole_made pairs points makings root are stand small of_root)
      ∙ feature_text id objects (vertices_tree own) appearance

  can_write : IsWritable (feature_tree id objects (vertices_tree own) appearance)
  can_write = feature_writable id objects (vertices_tree own) appearance (name_utf8 (member_trees pairs) root writable)
      objects_writable (vertex_items_good own own_range).0 last

  module _ (feature : FeatureValue)
      (spells : SpellsFeature (made_text makings root ++ tail_text appearance) feature)
      (movable : IsMovable feature k) where
    value_is : feature_tree id objects (vertices_tree own) appearance ≡ feature.value
    value_is = read_of_compact (made_text makings root ++ tail_text appearance)
        (feature_tree id objects (vertices_tree own) appearance) feature.value can_write whole spells.0

    vertices_are : feature.vertices ≡ own
    vertices_are = own_vertices id objects own feature.vertices appearance feature.value value_is own_range
        (made_text makings root ++ tail_text appearance) spells

    points_moved : map (point_at (map (moved_or_same k) points)) (order_of makings root) ≡ moved_vertices own k
    points_moved = moved_points k points (order_of makings root)
        (made.order_inside pairs points makings root are stand small of_root)
        (subst (λ ps. All IsInRange (moved_vertices ps k)) vertices_are movable)

    pub moved_made : made_text makings' root ++ tail_text appearance ≡ compact (moved feature k).value
    moved_made =
        let there = subst (λ n. AreSkeletons n makings.skeletons pairs) (sym as_many) are in
        let few = subst (λ n. n < 2 ^ 64) (sym as_many) small in
        ap (λ l. l ++ tail_text appearance)
        (made.whole_made pairs (map (moved_or_same k) points) makings' root there stand' few of_root)
        ∙ (feature_text id objects
        (vertices_tree (map (point_at (map (moved_or_same k) points)) (order_of makings root))) appearance
        ∙ (ap (λ ps. compact (feature_tree id objects (vertices_tree ps) appearance)) points_moved
        ∙ (ap (λ ps. compact (with_member (codes "vertices") (vertices_tree (moved_vertices ps k))
        (feature_tree id objects (vertices_tree own) appearance))) (sym vertices_are)
        ∙ ap (λ value. compact (with_member (codes "vertices")
        (vertices_tree (moved_vertices feature.vertices k)) value))
        value_is)))

-- ---- the features of all roots
module _ (makings : Makings) (of : AreMakings makings) (k : Triple) (vertices starts : List ℕ)
    (stand : StandAt vertices starts (map (moved_or_same k) of.points)) where
  abbrev there : Makings
  there = record { skeletons = makings.skeletons; vertices = vertices; starts = starts; graph = makings.graph }

  -- they are those of the document on its moved vertices
  pub moved_makings : AreMakings there
  moved_makings =
      let as_many = length-map of.points (moved_or_same k) in
      record {
        pairs = of.pairs;
        points = map (moved_or_same k) of.points;
        skeletons = subst (λ n. AreSkeletons n makings.skeletons of.pairs) (sym as_many) of.skeletons;
        stand = stand;
        few = subst (λ n. n < 2 ^ 64) (sym as_many) of.few;
        range = All-map IsInRange (moved_or_same k) of.points
            (λ i d below. moved_in_range k (get_or of.points i d) (of.range i d below));
        writable = of.writable;
        distinct = of.distinct;
        linked = of.linked;
      }

  pub moved_texts : (appearance : Option Tree) → AreWritableMembers (appearance_members appearance) → (roots : List ℕ)
      → AllByRecursion (λ root. root < length makings.graph) roots → (features : List FeatureValue)
      → AllZip SpellsFeature
      (with_end (tail_text appearance) (map (made_text makings) roots)) features
      → AllByRecursion (λ feature. IsMovable feature k) features
      → with_end (tail_text appearance) (map (made_text there) roots)
      ≡ texts_of (map (λ feature. moved feature k) features)
  moved_texts appearance last [] inside [] spell movable = refl
  moved_texts appearance last [] inside (f ∷ fs) spell movable = absurd spell
  moved_texts appearance last (root ∷ roots) inside [] spell movable = absurd spell
  moved_texts appearance last (root ∷ roots) inside (f ∷ fs) spell movable =
      let rest = moved_texts appearance last roots inside.1 fs spell.1 movable.1 in
      let one = moved_made of.pairs of.points makings root of.skeletons of.stand of.few
      (made.family_is_one (member_trees of.pairs) makings.graph root of.distinct.0 of.linked inside.0)
      of.range of.writable of.distinct k vertices starts stand appearance last f spell.0 movable.0 in
      ap (λ text. text ∷ with_end (tail_text appearance) (map (made_text there) roots)) one
      ∙ ap (λ texts. compact (moved f k).value ∷ texts) rest

-- ---- what all of them end in
pub last_writable : (members : MemberTrees) → AreWritableMembers members
    → AreWritableMembers (appearance_members (first_named (codes "appearance") members))
last_writable no_members all = tt
last_writable (member name value others) all = by (bytes_eq name (codes "appearance")) (last_writable others all.2)
  where
    by : (b : Bool) → AreWritableMembers (appearance_members (first_named (codes "appearance") others))
        → AreWritableMembers (appearance_members (if b then Some value else first_named (codes "appearance") others))
    by true rest = (utf8 _ refl, all.1, tt)
    by false rest = rest
