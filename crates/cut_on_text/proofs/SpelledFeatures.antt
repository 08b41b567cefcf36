-- The compact text of each feature of a cut spells that feature, and what it has before its end is a feature's own part.
use Rattle.std.proofs.Common.{◌≡◌, ◌≢◌, ◌⊎◌, ◌++◌, ◌≤◌, ◌<◌, ◌^◌, inl, inr, ap, ℕ, suc, max, Bool, true, false, List, [], ◌∷◌, Option, Some, None, bytes_eq, if◌then◌else◌, length, map, refl, sym, subst, ◌∙◌, arith}
use Rattle.std.proofs.Math.Nat.{le-max_left, le-max_right, max-le}
use Rattle.std.proofs.lemmas.List.{append_cancel_right}
use Rattle.std.proofs.lemmas.List.Elements.{All-tail}
use Rattle.std.proofs.lemmas.Slice.Eq.{bytes_eq-Decides}
use Rattle.std.specs.List.{All, AllByRecursion, AllZip}
use Rattle.std.specs.Prelude.{IsUtf8, codes}
use Rattle.city_json.proofs.CompactLaws.{compact-spells}
use Rattle.city_json.proofs.SpelledWritable.{spelled_writable}
use Rattle.city_json.specs.Bytes.{close_brace, open_brace}
use Rattle.city_json.specs.Compact.{compact, compact_members}
use Rattle.city_json.specs.CompactTexts.{IsCompactOf}
use Rattle.city_json.specs.Fits.{AreDistinctItems, AreDistinctMembers, Fits, HasDistinctNames, IsDistinct, depth, items_depth, members_depth}
use Rattle.city_json.specs.Grammar.{Spells}
use Rattle.city_json.specs.Members.{first_named, member_of}
use Rattle.city_json.specs.Tree.{Tree, null, boolean, number, string, array, object, ItemTrees, no_items, MemberTrees, no_members, member, item_trees, member_trees}
use Rattle.city_json.specs.Writable.{AreWritableItems, AreWritableMembers, IsWritable}
use Rattle.city_grid.proofs.VertexLaws.{vertex_is_writable}
use Rattle.city_grid.specs.Axes.{IsInRange, Triple}
use Rattle.city_grid.specs.Vertex.{vertex_tree}
use Rattle.city_feature.proofs.LineTexts.{utf8, are_vertices}
use Rattle.city_feature.proofs.EndedTexts.{last_text}
use Rattle.city_feature.specs.Ended.{IsAppearanceEnd, IsOwnPart}
use Rattle.city_feature.specs.Feature.{AreVertices, FeatureValue, IsFeature, item_count, vertices_tree}
use Rattle.city_feature.specs.FeatureLine.{SpellsFeature}
use Rattle.city_feature.specs.Header.{HeaderValue}
use Rattle.city_families.specs.Boundaries.{relabelled_objects}
use Rattle.city_families.specs.CityObjects.{IsReached, has_parents, objects_of, roots, vertices_of}
use Rattle.city_families.specs.Cut.{IsCut, IsFeatureOf, feature_tree, appearance_members}
use Rattle.cut_on_text.specs.FeatureText.{tail_text}
use Rattle.city_families.specs.HeldTexts.{AreOwnParts, HeldTexts, texts_in, with_end}
use Rattle.city_json.specs.ObjectTexts.{members_in}
use Rattle.city_families.specs.Items.{items_in}
use Rattle.city_families.specs.Leaves.{renumbered}
use Rattle.city_families.specs.Lines.{texts_of}
use Rattle.city_families.proofs.Copies.{decimal_is_number}
use Rattle.cut_on_text.proofs.OwnVertices.{as_many, labels_below, no_more, own_in_range}
use Rattle.cut_on_text.proofs.SpelledLengths.{spelled_within}
use Rattle.cut_on_text.proofs.Unspoilt.{objects_relabelled, those_kept}

-- ---- what stands in a document can be written, and fits
abbrev AreGood : ℕ → MemberTrees → Type 0
AreGood within members =
    AreWritableMembers members × (HasDistinctNames members × AreDistinctMembers members)
    × (members_depth members ≤ within)

abbrev IsGood : ℕ → Tree → Type 0
IsGood within value = IsWritable value × IsDistinct value × (depth value ≤ within)

named_good : (name : List ℕ) (members : MemberTrees) (w : Tree) (within : ℕ) → AreGood within members
    → first_named name members ≡ Some w → IsGood within w
named_good name no_members w within good is = cc is
named_good name (member other v os) w within good is =
    by (bytes_eq other name) refl (λ later. named_good name os w within
    (good.0.2, (good.1.0.1, good.1.1.1), omega (arith, good.2, le-max_right (depth v) (members_depth os))) later)
  where
    same : Some v ≡ Some w → v ≡ w
    same e = cc

    by : (b : Bool) → bytes_eq other name ≡ b → (first_named name os ≡ Some w → IsGood within w) → IsGood within w
    by true e others = subst (IsGood within) (same (rw e at is))
        (good.0.1, good.1.1.0, omega (arith, good.2, le-max_left (depth v) (members_depth os)))
    by false e others = others (rw e at is)

-- the value of a member is less deep
member_good : (name : List ℕ) (value w : Tree) (within : ℕ) → IsGood (suc within) value → member_of name value ≡ Some w
    → IsGood within w
member_good name (object members) w within good is =
    named_good name members w within (good.0, good.1, omega (arith, good.2)) is
member_good name null w within good is = cc is
member_good name (boolean b) w within good is = cc is
member_good name (number text) w within good is = cc is
member_good name (string text) w within good is = cc is
member_good name (array items) w within good is = cc is

members_good : (there : Option Tree) (within : ℕ) → ((w : Tree) → there ≡ Some w → IsGood (suc within) w)
    → AreGood within (members_in there)
members_good None within good = (tt, (tt, tt), omega arith)
members_good (Some (object members)) within good =
    let is = good (object members) refl in
    (is.0, is.1, omega (arith, is.2))
members_good (Some null) within good = (tt, (tt, tt), omega arith)
members_good (Some (boolean b)) within good = (tt, (tt, tt), omega arith)
members_good (Some (number text)) within good = (tt, (tt, tt), omega arith)
members_good (Some (string text)) within good = (tt, (tt, tt), omega arith)
members_good (Some (array items)) within good = (tt, (tt, tt), omega arith)

roots_utf8 : (members : MemberTrees) → AreWritableMembers members → AllByRecursion IsUtf8 (roots members)
roots_utf8 no_members all = tt
roots_utf8 (member id o others) all = by (has_parents o) (roots_utf8 others all.2)
  where
    by : (b : Bool) → AllByRecursion IsUtf8 (roots others)
        → AllByRecursion IsUtf8 (if b then roots others else id ∷ roots others)
    by true more = more
    by false more = (all.0, more)

-- ---- vertices
pub vertex_items_good : (ps : List Triple) → All IsInRange ps → AreWritableItems (item_trees (map vertex_tree ps))
    × AreDistinctItems (item_trees (map vertex_tree ps)) × (items_depth (item_trees (map vertex_tree ps)) ≤ 1)
vertex_items_good [] range = (tt, tt, omega arith)
vertex_items_good (p ∷ ps) range =
    let more = vertex_items_good ps (All-tail IsInRange p ps range) in (
      (vertex_is_writable p (range 0 p (omega arith)), more.0),
      ((tt, (tt, (tt, tt))), more.1),
      max-le {a = depth (vertex_tree p)} {b = items_depth (item_trees (map vertex_tree ps))} {k = 1} (omega arith)
          more.2,
    )

vertices_good : (ps : List Triple) (within : ℕ) → All IsInRange ps → 2 ≤ within → IsGood within (vertices_tree ps)
vertices_good ps within range deep =
    let all = vertex_items_good ps range in
    (all.0, all.1, omega (arith, all.2, deep))

-- ---- a feature
max_within : (a b k : ℕ) → a ≤ k → b ≤ k → max a b ≤ k
max_within a b k first second = max-le {a = a} {b = b} {k = k} first second

max_of : (a b c k : ℕ) → a ≤ k → b ≤ k → c ≤ k → suc (max 0 (max 0 (max a (max b c)))) ≤ suc k
max_of a b c k first second third =
    let three = max_within a (max b c) k first (max_within b c k second third) in
    let all = max_within 0 (max 0 (max a (max b c))) k (omega arith)
    (max_within 0 (max a (max b c)) k (omega arith) three) in
    omega (arith, all)

first_same : (x y : List ℕ) (xs ys : List (List ℕ)) → x ∷ xs ≡ y ∷ ys → x ≡ y
first_same x y xs ys same = cc

others_same : (x y : List ℕ) (xs ys : List (List ℕ)) → x ∷ xs ≡ y ∷ ys → xs ≡ ys
others_same x y xs ys same = cc

apart : (m n : List ℕ) → bytes_eq m n ≡ false → m ≢ n
apart m n differ same = cc (sym ((bytes_eq-Decides m n).1 same) ∙ differ)

module _ (id : List ℕ) (objects : List (List ℕ × Tree)) (vertices : Tree) (within : ℕ) (id_is : IsUtf8 id)
    (objects_are : AreGood within (member_trees objects)) (vertices_are : IsGood (suc within) vertices) where
  feature_good : (appearance : Option Tree) → ((w : Tree) → appearance ≡ Some w → IsGood (suc within) w)
      → IsGood (suc (suc within)) (feature_tree id objects vertices appearance)
  feature_good None appearance_is = (
    (utf8 _ refl, utf8 _ refl, (utf8 _ refl, id_is, (utf8 _ refl, objects_are.0, (utf8 _ refl, vertices_are.0, tt)))),
    (
      (
        (apart _ _ refl, (apart _ _ refl, (apart _ _ refl, tt))),
        ((apart _ _ refl, (apart _ _ refl, tt)), ((apart _ _ refl, tt), (tt, tt))),
      ),
      (tt, (tt, ((objects_are.1.0, objects_are.1.1), (vertices_are.1, tt)))),
    ),
    max_of (suc (members_depth (member_trees objects))) (depth vertices) 0 (suc within) (omega (arith, objects_are.2))
        vertices_are.2 (omega arith),
  )
  feature_good (Some appearance) appearance_is =
      let is = appearance_is appearance refl in (
        (
          utf8 _ refl,
          utf8 _ refl,
          (
            utf8 _ refl,
            id_is,
            (utf8 _ refl, objects_are.0, (utf8 _ refl, vertices_are.0, (utf8 _ refl, is.0, tt))),
          ),
        ),
        (
          (
            (apart _ _ refl, (apart _ _ refl, (apart _ _ refl, (apart _ _ refl, tt)))),
            (
              (apart _ _ refl, (apart _ _ refl, (apart _ _ refl, tt))),
              ((apart _ _ refl, (apart _ _ refl, tt)), ((apart _ _ refl, tt), (tt, tt))),
            ),
          ),
          (tt, (tt, ((objects_are.1.0, objects_are.1.1), (vertices_are.1, (is.1, tt))))),
        ),
        max_of (suc (members_depth (member_trees objects))) (depth vertices) (max (depth appearance) 0) (suc within)
            (omega (arith, objects_are.2)) vertices_are.2
            (max_within (depth appearance) 0 (suc within) is.2 (omega arith)),
      )

-- ---- the features of a document
module _ (document : Tree) (writable : IsWritable document) (fits : Fits document) (points : List Triple)
    (are : AreVertices (vertices_of document) points) (few : length points < 2 ^ 64) where
  whole : IsGood (suc 127) document
  whole = (writable, fits.1, omega (arith, fits.0))

  objects_good : AreGood 126 (objects_of document)
  objects_good = members_good (member_of (codes "CityObjects") document) 126
      (λ w is. member_good (codes "CityObjects") document w (suc 126) (writable, fits.1, omega (arith, fits.0)) is)

  appearance_good : (w : Tree) → member_of (codes "appearance") document ≡ Some w → IsGood (suc 126) w
  appearance_good w there =
      member_good (codes "appearance") document w (suc 126) (writable, fits.1, omega (arith, fits.0)) there

  module _ (id : List ℕ) (feature : FeatureValue) (id_is : IsUtf8 id)
      (is : IsFeatureOf (objects_of document) (member_of (codes "appearance") document) points id feature) where
    range : All IsInRange feature.vertices
    range = own_in_range points feature.vertices is.chosen is.objects is.same_points (vertices_of document) are

    more : length feature.vertices ≤ length points
    more = no_more points feature.vertices is.chosen is.objects is.same_points

    chosen : AreGood 126 (member_trees is.chosen)
    chosen =
        let kept = those_kept (IsReached (objects_of document) id) (objects_of document) is.chosen is.reached
        objects_good.1 in
        (kept.0 objects_good.0, kept.1, omega (arith, kept.2, objects_good.2))

    relabelled : AreGood 126 (member_trees (relabelled_objects (renumbered is.same_points.label) is.chosen))
    relabelled =
        let kept = objects_relabelled is.same_points.label is.chosen
        (λ k c. let below = labels_below points feature.vertices is.chosen is.objects is.same_points k c in
        decimal_is_number (is.same_points.label k) (omega (arith, below, more, few))) chosen.1 in
        (kept.0 chosen.0, kept.1, omega (arith, kept.2, chosen.2))

    objects : AreGood 126 (member_trees is.objects)
    objects = subst (λ l. AreGood 126 (member_trees l)) (sym is.same_points.but_leaves) relabelled

    abbrev parts : Option Tree → MemberTrees
    parts appearance =
        member (codes "type") (string (codes "CityJSONFeature"))
        (member (codes "id") (string id)
        (member (codes "CityObjects") (object (member_trees is.objects))
        (member (codes "vertices") (vertices_tree feature.vertices)
        (appearance_members appearance))))

    -- the feature with this appearance
    abbrev with_its : Option Tree → FeatureValue
    with_its appearance = record { value = object (parts appearance); vertices = feature.vertices }

    spelled : (appearance : Option Tree) → ((w : Tree) → appearance ≡ Some w → IsGood (suc 126) w)
        → SpellsFeature (compact (with_its appearance).value) (with_its appearance)
    spelled appearance appearance_is =
        let good = feature_good id is.objects (vertices_tree feature.vertices) 126 id_is objects
        (vertices_good feature.vertices (suc 126) range (omega arith)) appearance appearance_is in (
          compact-spells (object (parts appearance)) good.0,
          (omega (arith, good.2), good.1),
          (
            (refl, tt, tt, tt),
            (
              item_trees (map vertex_tree feature.vertices),
              refl,
              are_vertices feature.vertices range,
            ),
          ),
        )

    one : SpellsFeature (compact feature.value) feature
    one = subst (λ value. Spells (compact value) value × Fits value × IsFeature value feature.vertices) (sym is.is)
        (spelled (member_of (codes "appearance") document) appearance_good)

    -- what its text has before an end
    closed : (appearance : Option Tree) → ((w : Tree) → appearance ≡ Some w → IsGood (suc 126) w) → (own end : List ℕ)
        → own ++ close_brace ∷ [] ≡ compact (object (parts appearance))
        → (end ≡ close_brace ∷ [])
        ⊎ (IsAppearanceEnd end × (first_named (codes "appearance") (parts appearance) ≡ None)) → IsOwnPart own end
    closed appearance appearance_is own end text ends = record {
      members = parts appearance;
      vertices = feature.vertices;
      spelled = subst (λ line. SpellsFeature line (with_its appearance)) (sym text) (spelled appearance appearance_is);
      written = text;
      ends = ends;
    }

    abbrev front : List ℕ
    front = open_brace ∷ compact_members (parts None)

    whole_text : (a : Tree) → front ++ tail_text (Some a) ≡ compact (object (parts (Some a)))
    whole_text a = last_text (codes "appearance") a (parts None) front (codes "type") (string (codes "CityJSONFeature")) refl
        refl refl

    own_part : (own end : List ℕ) → own ++ end ≡ compact feature.value
        → (end ≡ tail_text (member_of (codes "appearance") document)) ⊎ (end ≡ close_brace ∷ []) → IsOwnPart own end
    own_part own end text ends = by (member_of (codes "appearance") document) refl ends
      where
        value : (a : Option Tree) → member_of (codes "appearance") document ≡ a
            → own ++ end ≡ compact (object (parts a))
        value a e = text ∙ (ap compact is.is ∙ ap (λ o. compact (object (parts o))) e)

        by_brace : (a : Option Tree) → member_of (codes "appearance") document ≡ a → end ≡ close_brace ∷ []
            → IsOwnPart own end
        by_brace a e brace = closed a (λ w there. appearance_good w (e ∙ there)) own end
            (subst (λ l. own ++ l ≡ compact (object (parts a))) brace (value a e)) (inl brace)

        by : (a : Option Tree) → member_of (codes "appearance") document ≡ a
            → (end ≡ tail_text a) ⊎ (end ≡ close_brace ∷ []) → IsOwnPart own end
        by None e (inl tail) = by_brace None e tail
        by None e (inr brace) = by_brace None e brace
        by (Some a) e (inr brace) = by_brace (Some a) e brace
        by (Some a) e (inl tail) =
            let good = appearance_good a e in
            let same : own ≡ front = append_cancel_right own front (tail_text (Some a))
            (ap (λ l. own ++ l) (sym tail) ∙ (value (Some a) e ∙ sym (whole_text a))) in
            closed None (λ w there. cc there) own end (ap (λ l. l ++ close_brace ∷ []) same)
            (inr (
              record {
                appearance = a;
                is = tail;
                writable = good.0;
                fits = (omega (arith, good.2), ((tt, tt), (good.1, tt)));
              },
              refl,
            ))

  each : (ids : List (List ℕ)) (features : List FeatureValue) → AllByRecursion IsUtf8 ids
      → AllZip (IsFeatureOf (objects_of document) (member_of (codes "appearance") document) points) ids features
      → AllZip SpellsFeature (texts_of features) features
  each [] [] all zip = tt
  each [] (f ∷ fs) all zip = absurd zip
  each (id ∷ ids) [] all zip = absurd zip
  each (id ∷ ids) (f ∷ fs) all zip = (one id f all.0 zip.0, each ids fs all.1 zip.1)

  module _ (end : List ℕ)
      (ends : (end ≡ tail_text (member_of (codes "appearance") document)) ⊎ (end ≡ close_brace ∷ [])) where
    each_part : (ids : List (List ℕ)) (features : List FeatureValue) (own : List (List ℕ)) → AllByRecursion IsUtf8 ids
        → AllZip (IsFeatureOf (objects_of document) (member_of (codes "appearance") document) points) ids features
        → with_end end own ≡ texts_of features → AllByRecursion (λ o. IsOwnPart o end) own
    each_part ids features [] all zip texts = tt
    each_part [] [] (o ∷ os) all zip texts = cc texts
    each_part [] (f ∷ fs) (o ∷ os) all zip texts = absurd zip
    each_part (id ∷ ids) [] (o ∷ os) all zip texts = absurd zip
    each_part (id ∷ ids) (f ∷ fs) (o ∷ os) all zip texts = (
      own_part id f all.0 zip.0 o end (first_same _ _ _ _ texts) ends,
      each_part ids fs os all.1 zip.1 (others_same _ _ _ _ texts),
    )

points_few : (text : List ℕ) (there : Option Tree) (points : List Triple) → length text < 2 ^ 64
    → ((items : ItemTrees) → there ≡ Some (array items) → item_count items ≤ length text)
    → AreVertices (items_in there) points → length points < 2 ^ 64
points_few text (Some (array items)) points short count are =
    omega (arith, as_many items points are, count items refl, short)
points_few text None points short count are = omega (arith, as_many no_items points are)
points_few text (Some null) points short count are = omega (arith, as_many no_items points are)
points_few text (Some (boolean b)) points short count are = omega (arith, as_many no_items points are)
points_few text (Some (number n)) points short count are = omega (arith, as_many no_items points are)
points_few text (Some (string s)) points short count are = omega (arith, as_many no_items points are)
points_few text (Some (object ms)) points short count are = omega (arith, as_many no_items points are)

pub texts_spell : (text : List ℕ) (document : Tree) (header : HeaderValue) (features : List FeatureValue)
    → length text < 2 ^ 64 → Spells text document → Fits document
    → IsCut document header features → AllZip SpellsFeature (texts_of features) features
texts_spell text document header features short spells fits cut =
    let has = cut.0.0 in
    let writable = spelled_writable text document spells in
    let few = points_few text (member_of (codes "vertices") document) has.0 short
    (λ items is. spelled_within (codes "vertices") items document text spells is) has.1 in
    each document writable fits has.0 has.1 few (roots (objects_of document)) features
    (roots_utf8 (objects_of document) (objects_good document writable fits has.0 has.1 few).0) has.2

-- what the texts of a document have of their own, before the end of the document's features or the brace alone
pub own_parts : (text : List ℕ) (document : Tree) (header : HeaderValue) (features : List FeatureValue)
    (held : HeldTexts) → length text < 2 ^ 64 → Spells text document → Fits document → IsCut document header features
    → texts_in held ≡ texts_of features
    → (held.common ≡ tail_text (member_of (codes "appearance") document)) ⊎ (held.common ≡ close_brace ∷ [])
    → AreOwnParts held
own_parts text document header features held short spells fits cut texts ends =
    let has = cut.0.0 in
    let writable = spelled_writable text document spells in
    let few = points_few text (member_of (codes "vertices") document) has.0 short
    (λ items is. spelled_within (codes "vertices") items document text spells is) has.1 in
    each_part document writable fits has.0 has.1 few held.common ends (roots (objects_of document)) features held.own
    (roots_utf8 (objects_of document) (objects_good document writable fits has.0 has.1 few).0) has.2 texts

pub own_of : (text : List ℕ) (document : Tree) → IsCompactOf text document → length text < 2 ^ 64
    → (header : HeaderValue) (features : List FeatureValue) (held : HeldTexts) → IsCut document header features
    → texts_in held ≡ texts_of features
    → (held.common ≡ tail_text (member_of (codes "appearance") document)) ⊎ (held.common ≡ close_brace ∷ [])
    → AreOwnParts held
own_of text document of short header features held cut texts ends =
    own_parts text document header features held short
    (subst (λ l. Spells l document) (sym of.is) (compact-spells document of.writable)) (of.within, of.distinct) cut texts
    ends
