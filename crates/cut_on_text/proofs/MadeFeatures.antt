-- What is made of skeletons, of the texts of vertices and of who is whose child are the features of the document.
use Rattle.std.proofs.Common.{◌≡◌, ◌∙◌, ◌++◌, ◌<◌, ◌≤◌, ◌+◌, ◌-◌, ◌^◌, ◌↔◌, ℕ, zero, suc, Bool, true, false, not, pos, List, [], ◌∷◌, Option, Some, filter, get_or, length, map, take, take_all, drop, refl, sym, ap, subst, codes, arith, append_assoc, add-one, take-add, option_map, cond}
use Rattle.std.proofs.lemmas.Fmt.{decimal_is_IsNumeral}
use Rattle.std.proofs.lemmas.List.{append-nil, drop-drop, length-map, map-append}
use Rattle.std.proofs.lemmas.List.Elements.{All-contains, All-from_recursion, Contains-get_or, filter-append, recursion_from_All}
use Rattle.std.proofs.lemmas.Simd.{map-map}
use Rattle.std.proofs.lemmas.Option.{slice_get-get_or, slice_get-map}
use Rattle.std.specs.Fmt.{decimal}
use Rattle.std.specs.List.{All, AllByRecursion, AllZip, Contains, flat_map, slice_index, slice_range}
use Rattle.city_json.specs.Bytes.{close_bracket, colon, comma, open_bracket}
use Rattle.city_json.specs.Compact.{compact, compact_items, compact_members, compact_more_items, compact_more_members, quoted}
use Rattle.city_json.specs.Fits.{HasDistinctNames}
use Rattle.city_json.specs.Members.{names}
use Rattle.city_json.specs.Tree.{Tree, MemberTrees, item_trees, member_trees}
use Rattle.city_grid.specs.Axes.{Triple, triple}
use Rattle.city_grid.specs.Vertex.{vertex_tree}
use Rattle.city_feature.specs.Feature.{FeatureValue, vertices_tree}
use Rattle.city_families.specs.Boundaries.{IsBounded, relabelled_object, relabelled_objects, uses}
use Rattle.city_families.specs.Chosen.{named_at, point_at}
use Rattle.city_families.specs.CityObjects.{has_parents, roots}
use Rattle.city_families.specs.Cut.{AreFeatures, IsFeatureOf, feature_tree}
use Rattle.city_families.specs.Families.{AreRelated}
use Rattle.cut_on_text.specs.FeatureText.{head_text, middle_text, tail_text}
use Rattle.city_families.specs.Leaves.{renumbered}
use Rattle.city_families.specs.Lines.{texts_of}
use Rattle.cut_on_text.specs.Made.{Makings, beginners, family, listed, made_text, more_listed, numbers_below, order_of, place_in, vertex_at}
use Rattle.cut_on_text.specs.OwnFeatures.{AreOwnTexts}
use Rattle.city_families.specs.Places.{IsFamily, IsGraph, name_at}
use Rattle.city_families.specs.Points.{CountsUp, SamePoints}
use Rattle.city_families.specs.Reach.{Reached}
use Rattle.city_families.specs.Search.{After}
use Rattle.cut_on_text.specs.Skeletons.{AreSkeletons, IsSkeleton, LeafPlace, SkeletonTexts, id_at, leaves_at, place_at, skeleton_text_at, uses_at, woven}
use Rattle.cut_on_text.specs.VertexTexts.{StandAt}
use Rattle.city_families.proofs.FeatureList.{first_place}
use Rattle.city_families.proofs.FeatureParts.{chosen_are_those, object_name, places_inside}
use Rattle.cut_on_text.proofs.FirstUses.{counts_up, first_within, place_of_use}
use Rattle.city_families.proofs.Kinship.{graph_in_range, names_pairs, reached_at}
use Rattle.cut_on_text.proofs.Passes.{family_reached, family_rises, family_within}
use Rattle.city_families.proofs.Pieces.{texts_push}
use Rattle.cut_on_text.proofs.TextFeatures.{feature_text}
use Rattle.city_families.proofs.Seeking.{parted_here, root_more, root_same, zip_push}

-- ---- the family of an object
pub family_is_one : (objects : MemberTrees) (graph : List (List ℕ)) (root : ℕ) → HasDistinctNames objects
    → IsGraph objects graph → root < length graph → IsFamily objects root (family graph root)
family_is_one objects graph root distinct linked inside = record {
  root_inside = in_names;
  rises = family_rises graph root;
  inside = λ i d below. omega (
    arith,
    family_within graph root (get_or (family graph root) i d) (Contains-get_or (family graph root) i d below),
    linked.long,
  );
  reached = λ k below. (
    λ c. (reached_at objects graph distinct linked root k in_names below).0 ((has k).0 c),
    λ far. (has k).1 ((reached_at objects graph distinct linked root k in_names below).1 far),
  );
}
  where
    in_names : root < length (names objects)
    in_names = omega (arith, inside, linked.long)

    has : (k : ℕ) → Contains (family graph root) k ↔ Reached (After graph) root k
    has k = family_reached graph root k (graph_in_range objects graph distinct linked) inside

-- ---- the vertices that an object names
all_split : {A : Type 0} (P : A → Type 0) (xs ys : List A) → AllByRecursion P (xs ++ ys)
    → AllByRecursion P xs × AllByRecursion P ys
all_split P [] ys all = (tt, all)
all_split P (x ∷ xs) ys all = let rest = all_split P xs ys all.1 in ((all.0, rest.0), rest.1)

all_join : {A : Type 0} (P : A → Type 0) (xs ys : List A) → AllByRecursion P xs → AllByRecursion P ys
    → AllByRecursion P (xs ++ ys)
all_join P [] ys first second = second
all_join P (x ∷ xs) ys first second = (first.0, all_join P xs ys first.1 second)

all_mapped : {A B : Type 0} (P : B → Type 0) (f : A → B) (xs : List A) → AllByRecursion (λ x. P (f x)) xs
    → AllByRecursion P (map f xs)
all_mapped P f [] all = tt
all_mapped P f (x ∷ xs) all = (all.0, all_mapped P f xs all.1)

range_split : {A : Type 0} (xs : List A) (a b c : ℕ) → a ≤ b → b ≤ c
    → slice_range xs a c ≡ slice_range xs a b ++ slice_range xs b c
range_split xs a b c first second =
    let long : (b - a) + (c - b) ≡ c - a = omega arith in
    let from : a + (b - a) ≡ b = omega arith in
    ap (λ n. take n (drop a xs)) (sym long) ∙ (take-add (b - a) (c - b) (drop a xs)
    ∙ ap (λ l. slice_range xs a b ++ take (c - b) l) (drop-drop (b - a) a xs ∙ ap (λ n. drop n xs) from))

uses_below : (count : ℕ) (skeletons : SkeletonTexts) (k : ℕ) (named : List ℕ × Tree)
    → IsSkeleton count skeletons k named → AllByRecursion (λ vertex. vertex < count) (uses_at skeletons k)
uses_below count skeletons k named is =
    let first = slice_range skeletons.leaves (place_at skeletons k).leaves (place_at skeletons k).split in
    let last = slice_range skeletons.leaves (place_at skeletons k).split (place_at skeletons (k + 1)).leaves in
    let vertex_of : LeafPlace → ℕ = λ leaf. leaf.vertex in
    let Below : LeafPlace → Type 0 = λ leaf. leaf.vertex < count in
    let here = recursion_from_All Below (leaves_at skeletons k) is.within in
    let both = all_split Below first last (subst (AllByRecursion Below)
    (range_split skeletons.leaves (place_at skeletons k).leaves (place_at skeletons k).split
    (place_at skeletons (k + 1)).leaves is.after_first is.before_last) here) in
    all_join (λ vertex. vertex < count) (map vertex_of last) (map vertex_of first)
    (all_mapped (λ vertex. vertex < count) vertex_of last both.1)
    (all_mapped (λ vertex. vertex < count) vertex_of first both.0)

-- ---- the text of an object
woven_same : (text : List ℕ) (from end : ℕ) (leaves : List LeafPlace) (f g : ℕ → List ℕ)
    → AllByRecursion (λ (leaf : LeafPlace). f leaf.vertex ≡ g leaf.vertex) leaves
    → woven text from end leaves f ≡ woven text from end leaves g
woven_same text from end [] f g same = refl
woven_same text from end (leaf ∷ others) f g same =
    let rest = woven_same text leaf.at end others f g same.1 in
    ap (λ l. slice_range text from leaf.at ++ (l ++ woven text leaf.at end others f)) same.0
    ∙ ap (λ l. slice_range text from leaf.at ++ (g leaf.vertex ++ l)) rest

labelled : (count : ℕ) (label : ℕ → ℕ) (leaves : List LeafPlace) → count < 2 ^ 64
    → AllByRecursion (λ (leaf : LeafPlace). leaf.vertex < count) leaves
    → AllByRecursion (λ (leaf : LeafPlace). renumbered label (decimal leaf.vertex) ≡ decimal (label leaf.vertex)) leaves
labelled count label [] small all = tt
labelled count label (leaf ∷ others) small all = (
  ap (λ n. decimal (label n)) (decimal_is_IsNumeral leaf.vertex (omega (arith, all.0))).1,
  labelled count label others small all.1,
)

object_text : (count : ℕ) (skeletons : SkeletonTexts) (k : ℕ) (named : List ℕ × Tree) (label : ℕ → ℕ)
    → count < 2 ^ 64 → IsSkeleton count skeletons k named
    → quoted named.0 ++ colon ∷ compact (relabelled_object (renumbered label) named.1)
    ≡ skeleton_text_at skeletons (λ vertex. decimal (label vertex)) k
object_text count skeletons k named label small is =
    is.is (renumbered label)
    ∙ woven_same skeletons.text (place_at skeletons k).text (place_at skeletons (k + 1)).text (leaves_at skeletons k)
    (λ vertex. renumbered label (decimal vertex)) (λ vertex. decimal (label vertex))
    (labelled count label (leaves_at skeletons k) small
    (recursion_from_All (λ (leaf : LeafPlace). leaf.vertex < count) (leaves_at skeletons k) is.within))

-- ---- lists
more_members : (count : ℕ) (skeletons : SkeletonTexts) (pairs : List (List ℕ × Tree)) (label : ℕ → ℕ) (places : List ℕ)
    → count < 2 ^ 64 → AllByRecursion (λ k. IsSkeleton count skeletons k (named_at pairs k)) places
    → compact_more_members (member_trees (relabelled_objects (renumbered label) (map (named_at pairs) places)))
    ≡ more_listed (map (skeleton_text_at skeletons (λ vertex. decimal (label vertex))) places)
more_members count skeletons pairs label [] small each = refl
more_members count skeletons pairs label (p ∷ ps) small each =
    let first = object_text count skeletons p (named_at pairs p) label small each.0 in
    let rest = more_members count skeletons pairs label ps small each.1 in
    ap (λ l. comma ∷ (l ++ compact_more_members (member_trees (relabelled_objects (renumbered label)
    (map (named_at pairs) ps))))) first
    ∙ ap (λ l. comma ∷ (skeleton_text_at skeletons (λ vertex. decimal (label vertex)) p ++ l)) rest

all_members : (count : ℕ) (skeletons : SkeletonTexts) (pairs : List (List ℕ × Tree)) (label : ℕ → ℕ) (places : List ℕ)
    → count < 2 ^ 64 → AllByRecursion (λ k. IsSkeleton count skeletons k (named_at pairs k)) places
    → compact_members (member_trees (relabelled_objects (renumbered label) (map (named_at pairs) places)))
    ≡ listed (map (skeleton_text_at skeletons (λ vertex. decimal (label vertex))) places)
all_members count skeletons pairs label [] small each = refl
all_members count skeletons pairs label (p ∷ ps) small each =
    let first = object_text count skeletons p (named_at pairs p) label small each.0 in
    let rest = more_members count skeletons pairs label ps small each.1 in
    ap (λ l. l ++ compact_more_members (member_trees (relabelled_objects (renumbered label)
    (map (named_at pairs) ps)))) first
    ∙ ap (λ l. skeleton_text_at skeletons (λ vertex. decimal (label vertex)) p ++ l) rest

more_vertices : (makings : Makings) (points : List Triple) (order : List ℕ)
    → StandAt makings.vertices makings.starts points → AllByRecursion (λ k. k < length points) order
    → compact_more_items (item_trees (map vertex_tree (map (point_at points) order)))
    ≡ more_listed (map (vertex_at makings) order)
more_vertices makings points [] stand below = refl
more_vertices makings points (k ∷ ks) stand below =
    let rest = more_vertices makings points ks stand below.1 in
    ap (λ l. comma ∷ (l ++ compact_more_items (item_trees (map vertex_tree (map (point_at points) ks)))))
    (sym (stand.each k below.0))
    ∙ ap (λ l. comma ∷ (vertex_at makings k ++ l)) rest

all_vertices : (makings : Makings) (points : List Triple) (order : List ℕ)
    → StandAt makings.vertices makings.starts points → AllByRecursion (λ k. k < length points) order
    → compact_items (item_trees (map vertex_tree (map (point_at points) order)))
    ≡ listed (map (vertex_at makings) order)
all_vertices makings points [] stand below = refl
all_vertices makings points (k ∷ ks) stand below =
    let rest = more_vertices makings points ks stand below.1 in
    ap (λ l. l ++ compact_more_items (item_trees (map vertex_tree (map (point_at points) ks))))
    (sym (stand.each k below.0))
    ∙ ap (λ l. vertex_at makings k ++ l) rest

all_uses : (count : ℕ) (skeletons : SkeletonTexts) (pairs : List (List ℕ × Tree)) (places : List ℕ)
    → AllByRecursion (λ k. IsSkeleton count skeletons k (named_at pairs k)) places
    → uses (map (named_at pairs) places) ≡ flat_map (uses_at skeletons) places
all_uses count skeletons pairs [] each = refl
all_uses count skeletons pairs (p ∷ ps) each =
    let rest = all_uses count skeletons pairs ps each.1 in
    ap (λ l. l ++ uses (map (named_at pairs) ps)) each.0.uses ∙ ap (λ l. uses_at skeletons p ++ l) rest

all_below_count : (count : ℕ) (skeletons : SkeletonTexts) (pairs : List (List ℕ × Tree)) (places : List ℕ)
    → AllByRecursion (λ k. IsSkeleton count skeletons k (named_at pairs k)) places
    → AllByRecursion (λ vertex. vertex < count) (flat_map (uses_at skeletons) places)
all_below_count count skeletons pairs [] each = tt
all_below_count count skeletons pairs (p ∷ ps) each =
    all_join (λ vertex. vertex < count) (uses_at skeletons p) (flat_map (uses_at skeletons) ps)
    (uses_below count skeletons p (named_at pairs p) each.0) (all_below_count count skeletons pairs ps each.1)

-- ---- one feature
head_made : (id rest : List ℕ) → head_text id ++ rest
    ≡ codes "{\"type\":\"CityJSONFeature\",\"id\":" ++ (quoted id ++ (codes ",\"CityObjects\":{" ++ rest))
head_made id rest =
    ap (λ l. codes "{\"type\":\"CityJSONFeature\",\"id\":" ++ l)
    (append_assoc (quoted id) (codes ",\"CityObjects\":{") rest)

module _ (pairs : List (List ℕ × Tree)) (points : List Triple) (makings : Makings) (root : ℕ)
    (are : AreSkeletons (length points) makings.skeletons pairs)
    (stand : StandAt makings.vertices makings.starts points) (small : length points < 2 ^ 64)
    (of_root : IsFamily (member_trees pairs) root (family makings.graph root)) where
  abbrev places : List ℕ
  places = family makings.graph root

  abbrev pub chosen : List (List ℕ × Tree)
  chosen = map (named_at pairs) places

  abbrev order : List ℕ
  order = order_of makings root

  abbrev label : ℕ → ℕ
  label = place_in order

  abbrev pub own_objects : List (List ℕ × Tree)
  own_objects = relabelled_objects (renumbered label) chosen

  abbrev pub own_points : List Triple
  own_points = map (point_at points) order

  inside : All (λ k. k < length pairs) places
  inside = places_inside pairs root places of_root

  each : AllByRecursion (λ k. IsSkeleton (length points) makings.skeletons k (named_at pairs k)) places
  each = recursion_from_All (λ k. IsSkeleton (length points) makings.skeletons k (named_at pairs k)) places
      (λ i d below. are.each (get_or places i d) (inside i d below))

  same_uses : uses chosen ≡ flat_map (uses_at makings.skeletons) places
  same_uses = all_uses (length points) makings.skeletons pairs places each

  uses_inside : All (λ k. k < length points) (flat_map (uses_at makings.skeletons) places)
  uses_inside = All-from_recursion (λ k. k < length points) (flat_map (uses_at makings.skeletons) places)
      (all_below_count (length points) makings.skeletons pairs places each)

  pub order_inside : AllByRecursion (λ k. k < length points) order
  order_inside = recursion_from_All (λ k. k < length points) order
      (first_within (flat_map (uses_at makings.skeletons) places) (λ k. k < length points) uses_inside)

  -- the vertex of a number is the one that was numbered
  numbered : (k : ℕ) → Contains (uses chosen) k → (label k < length order) × (slice_index order (label k) ≡ k)
  numbered k c = place_of_use (flat_map (uses_at makings.skeletons) places) k (subst (λ l. Contains l k) same_uses c)

  pub points_same : SamePoints points chosen own_points own_objects
  points_same = record {
    label = label;
    but_leaves = refl;
    same = λ k c.
        let has = numbered k c in
        let within : k < length points = All-contains (λ n. n < length points)
        (flat_map (uses_at makings.skeletons) places) k uses_inside (subst (λ l. Contains l k) same_uses c) in
        slice_get-map (point_at points) order (label k)
        ∙ (ap (option_map (point_at points)) (slice_get-get_or order (label k) 0 has.0)
        ∙ (ap (λ n. Some (point_at points n)) has.1
        ∙ sym (slice_get-get_or points k (triple (pos 0) (pos 0) (pos 0)) within)));
    apart = λ j k c d e.
        sym (numbered j c).1 ∙ (ap (slice_index order) e ∙ (numbered k d).1);
    in_order = subst (λ ks. CountsUp 0 (map label ks) (length own_points)) (sym same_uses)
        (subst (CountsUp 0 (map label (flat_map (uses_at makings.skeletons) places)))
        (sym (length-map order (point_at points))) (counts_up (flat_map (uses_at makings.skeletons) places)));
  }

  root_there : root < length pairs
  root_there = omega (arith, of_root.root_inside, names_pairs pairs)

  name : id_at makings.skeletons root ≡ quoted (name_at (member_trees pairs) root)
  name = (are.each root root_there).name ∙ ap quoted (object_name pairs root root_there)

  pub whole_made : made_text makings root
      ≡ head_text (name_at (member_trees pairs) root) ++ (compact_members (member_trees own_objects)
      ++ (middle_text ++ compact (vertices_tree own_points)))
  whole_made =
      let members = all_members (length points) makings.skeletons pairs label places small each in
      let vertices = all_vertices makings points order stand order_inside in
      let rest : List ℕ → List ℕ → List ℕ = λ objects own.
      objects ++ (middle_text ++ (open_bracket ∷ (own ++ close_bracket ∷ []))) in
      ap (λ n. codes "{\"type\":\"CityJSONFeature\",\"id\":" ++ (n ++ (codes ",\"CityObjects\":{"
      ++ rest (listed (map (skeleton_text_at makings.skeletons (λ vertex. decimal (label vertex))) places))
      (listed (map (vertex_at makings) order))))) name
      ∙ (sym (head_made (name_at (member_trees pairs) root)
      (rest (listed (map (skeleton_text_at makings.skeletons (λ vertex. decimal (label vertex))) places))
      (listed (map (vertex_at makings) order))))
      ∙ (ap (λ l. head_text (name_at (member_trees pairs) root) ++ rest l (listed (map (vertex_at makings) order)))
      (sym members)
      ∙ ap (λ l. head_text (name_at (member_trees pairs) root) ++ rest (compact_members (member_trees own_objects)) l)
      (sym vertices)))

  feature_made : (appearance : Option Tree) → (feature : FeatureValue)
      × IsFeatureOf (member_trees pairs) appearance points (name_at (member_trees pairs) root) feature
      × (made_text makings root ++ tail_text appearance ≡ compact feature.value)
  feature_made appearance = (
    record {
      value = feature_tree (name_at (member_trees pairs) root) own_objects (vertices_tree own_points) appearance;
      vertices = own_points;
    },
    record {
      chosen = chosen;
      objects = own_objects;
      reached = chosen_are_those pairs root places of_root;
      same_points = points_same;
      is = refl;
    },
    ap (λ l. l ++ tail_text appearance) whole_made
        ∙ feature_text (name_at (member_trees pairs) root) own_objects (vertices_tree own_points) appearance,
  )

-- ---- all features
module _ (pairs : List (List ℕ × Tree)) (appearance : Option Tree) (points : List Triple) (makings : Makings)
    (parents : List Bool) (are : AreSkeletons (length points) makings.skeletons pairs)
    (stand : StandAt makings.vertices makings.starts points) (related : AreRelated pairs makings.graph parents)
    (small : length points < 2 ^ 64) where
  abbrev whole_text : ℕ → List ℕ
  whole_text root = made_text makings root ++ tail_text appearance

  abbrev begins : ℕ → Bool
  begins k = not (get_or parents k true)

  abbrev AreMade : ℕ → List FeatureValue → Type 0
  AreMade at features =
      (map whole_text (filter begins (numbers_below at)) ≡ texts_of features)
      × AllZip (IsFeatureOf (member_trees pairs) appearance points) (roots (member_trees (take at pairs))) features

  long : length parents ≡ length pairs
  long = ap length related.parted ∙ length-map pairs (λ (pair : List ℕ × Tree). has_parents pair.1)

  one_made : (root : ℕ) → root < length pairs → (feature : FeatureValue)
      × IsFeatureOf (member_trees pairs) appearance points (name_at (member_trees pairs) root) feature
      × (whole_text root ≡ compact feature.value)
  one_made root below = feature_made pairs points makings root are stand small
      (family_is_one (member_trees pairs) makings.graph root related.differ related.linked
      (omega (arith, below, related.linked.long, names_pairs pairs))) appearance

  step : (at : ℕ) (features : List FeatureValue) → at < length pairs → AreMade at features
      → (more : List FeatureValue) × AreMade (at + 1) more
  step at features below made = by (get_or parents at true) refl
    where
      before : List ℕ
      before = filter begins (numbers_below at)

      parted : (has : Bool) → get_or parents at true ≡ has → has_parents (named_at pairs at).1 ≡ has
      parted has e = parted_here pairs parents at has true related.parted (omega (arith, below, long)) e

      listed_on : (has : Bool) → get_or parents at true ≡ has
          → filter begins (numbers_below (at + 1)) ≡ before ++ cond (not has) (at ∷ []) []
      listed_on has e = ap (λ n. filter begins (numbers_below n)) (add-one at)
          ∙ (filter-append begins (numbers_below at) (at ∷ []) ∙ ap (λ b. before ++ cond (not b) (at ∷ []) []) e)

      by : (has : Bool) → get_or parents at true ≡ has → (more : List FeatureValue) × AreMade (at + 1) more
      by true e = (
        features,
        (
          ap (map whole_text) (listed_on true e ∙ append-nil before) ∙ made.0,
          subst (λ ids. AllZip (IsFeatureOf (member_trees pairs) appearance points) ids features)
              (sym (root_same pairs at below (parted true e))) made.1,
        ),
      )
      by false e =
          let one = one_made at below in (
            features ++ one.0 ∷ [],
            (
              ap (map whole_text) (listed_on false e)
                  ∙ (map-append whole_text before (at ∷ [])
                  ∙ (ap (λ l. l ++ whole_text at ∷ []) made.0
                  ∙ (ap (λ t. texts_of features ++ t ∷ []) one.2 ∙ sym (texts_push features one.0)))),
              subst (λ ids. AllZip (IsFeatureOf (member_trees pairs) appearance points) ids (features ++ one.0 ∷ []))
                  (sym (root_more pairs at below (parted false e)))
                  (zip_push (IsFeatureOf (member_trees pairs) appearance points) (roots (member_trees (take at pairs)))
                  features (name_at (member_trees pairs) at) one.0 made.1 one.1),
            ),
          )

  made_to : (at : ℕ) → at ≤ length pairs → (features : List FeatureValue) × AreMade at features
  made_to zero within = ([], (refl, tt))
  made_to (suc at) within =
      let before = made_to at (omega (arith, within)) in
      let next = step at before.0 (omega (arith, within)) before.1 in
      (next.0, subst (λ n. AreMade n next.0) (add-one at) next.1)

  -- what is made of them are the texts of the document's features
  pub made_features : (features : List FeatureValue)
      × (map (λ root. made_text makings root ++ tail_text appearance) (beginners parents) ≡ texts_of features)
      × AreFeatures (member_trees pairs) appearance points features
  made_features =
      let all = made_to (length pairs) (omega arith) in (
        all.0,
        ap (λ n. map whole_text (filter begins (numbers_below n))) long ∙ all.1.0,
        subst (λ l. AllZip (IsFeatureOf (member_trees pairs) appearance points) (roots (member_trees l)) all.0)
            (take_all (length pairs) pairs (omega arith)) all.1.1,
      )

  -- so what they have of their own is that of the features
  pub made_own : (own : List (List ℕ)) → own ≡ map (made_text makings) (beginners parents)
      → AreOwnTexts (member_trees pairs) appearance points own
  made_own own is = record {
    features = made_features.0;
    texts = ap (map (λ text. text ++ tail_text appearance)) is
        ∙ (map-map (λ text. text ++ tail_text appearance) (made_text makings) (beginners parents) ∙ made_features.1);
    are = made_features.2;
    bounded = λ id name value c far named.
        let there = first_place pairs name value named in
        subst (IsBounded (length points)) there.3 (are.each there.0 there.1).bounded;
  }
