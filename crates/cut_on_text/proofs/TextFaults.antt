-- Why a document is not cut, found on its compact text.
use Rattle.std.proofs.Common.{◌≡◌, ◌∙◌, ◌<◌, ◌⊎◌, ◌↔◌, inl, inr, ℕ, zero, suc, Bool, true, false, IsTrue, List, [], ◌∷◌, Option, Some, None, IsUtf8, length, map, unwrap_or, refl, sym, ap, subst, arith, codes}
use Rattle.std.specs.Borrow.{Bor}
use Rattle.std.specs.List.{AllByRecursion, AllZip, Contains}
use Rattle.byte_streams.specs.declared.fault.Fault.{Fault}
use Rattle.byte_streams.specs.declared.fault.Fault.TheVariants.{NotCityJson, Version, NoTransform, Decimal, ScaleNotPositive, ChildMissing, Orphan, BoundaryIndex, Memory}
use Rattle.city_json.specs.Compact.{quoted}
use Rattle.city_json.specs.Members.{first_named, member_of, names}
use Rattle.city_json.specs.Tree.{Tree, ItemTrees, MemberTrees, array, no_items, no_members, member_trees, null, object, string}
use Rattle.city_grid.specs.Axes.{Triple}
use Rattle.city_grid.specs.Transform.{Grid}
use Rattle.city_feature.specs.Feature.{AreVertices, RefusesFirst, item_count}
use Rattle.city_feature.specs.Header.{HasBadTransform, IsHeader, RefusesGrid, RefusesHeader}
use Rattle.city_feature.specs.Shapes.{IsArray, IsObject, WhereThere}
use Rattle.city_json.specs.CompactTexts.{IsCompactOf}
use Rattle.city_families.specs.Chosen.{named_at}
use Rattle.city_families.specs.CityObjects.{AreCityObjects, LacksChild, objects_of, vertices_of}
use Rattle.city_families.specs.Cut.{HasFrame, HasValidVertices, IsCityDocument, RefusesCut, RefusesFrame, header_tree}
use Rattle.cut_on_text.specs.Faults.{HoldsCityObjects, RefusesObjects}
use Rattle.cut_on_text.specs.PlacedObjects.{AreObjects, PlacedObjects}
use Rattle.cut_on_text.specs.Graphs.{SomeNamesMissing}
use Rattle.city_json.specs.ObjectTexts.{members_in}
use Rattle.city_families.specs.Items.{items_of, values}
use Rattle.cut_on_text.specs.Kin.{HasChildrenText}
use Rattle.cut_on_text.specs.Overviews.{HasChildrenIn}
use Rattle.city_families.specs.Table.{IsTable}
use Rattle.city_families.proofs.FeatureList.{zip_at}
use Rattle.city_families.proofs.Checking.{vertex_refused}
use Rattle.city_families.proofs.CopiedTexts.{not_both}
use Rattle.city_families.proofs.HeaderMembers.{other_member, stays_city_json}
use Rattle.cut_on_text.proofs.TextDocuments.{as_many, document_is, frame, items_or, members_or}
use Rattle.cut_on_text.proofs.TextGraphs.{names_utf8, quoted_names}
use Rattle.cut_on_text.proofs.TextOverviews.{said_all}
use Rattle.cut_on_text.proofs.TextPoints.{array_is}

-- ---- the objects that are in a text
pub orphan_told : {P : Type 0} (fault : Fault) → fault ≡ Orphan → (fault ≡ Memory) ⊎ ((fault ≡ Orphan) × P) → P
orphan_told fault is (inl memory) = absurd (apart (sym is ∙ memory))
  where
    apart : Orphan ≡ Memory → ⊥
    apart e = cc
orphan_told fault is (inr told) = told.1

-- ---- a child that is missing
child_in : (there : Option Tree) (name : List ℕ)
    → Contains (items_of (Some (unwrap_or there (array no_items)))) (string name)
    → Contains (items_of there) (string name)
child_in None name among = absurd (omega (arith, among.1))
child_in (Some value) name among = among

value_in : (pairs : List (List ℕ × Tree)) (k : ℕ) → k < length pairs
    → Contains (values (member_trees pairs)) (named_at pairs k).1
value_in [] k within = absurd (omega (arith, within))
value_in (p ∷ ps) zero within = (0, omega arith, refl)
value_in (p ∷ ps) (suc k) within =
    let later = value_in ps k (omega (arith, within)) in (suc later.0, omega (arith, later.1), later.2)

zip_within : {A B : Type 0} (R : A → B → Type 0) (xs : List A) (ys : List B) (k : ℕ) → AllZip R xs ys → k < length xs
    → k < length ys
zip_within R [] ys k zip within = absurd (omega (arith, within))
zip_within R (x ∷ xs) [] k zip within = absurd zip
zip_within R (x ∷ xs) (y ∷ ys) zero zip within = omega arith
zip_within R (x ∷ xs) (y ∷ ys) (suc k) zip within =
    let later = zip_within R xs ys k zip.1 (omega (arith, within)) in omega (arith, later)

pub child_missing : (objects : PlacedObjects) (given : List (Bor (List ℕ))) (table : List (Bor (List ℕ) × ℕ))
    (pairs : List (List ℕ × Tree)) → AllZip (HasChildrenIn objects.text) objects.places given
    → IsTable (map (λ (pair : List ℕ × Tree). quoted pair.0) pairs) table
    → ((all : List (List ℕ)) → AllByRecursion IsUtf8 all → IsTable (map quoted all) table → SomeNamesMissing all given)
    → AreObjects objects pairs → LacksChild (member_trees pairs)
child_missing objects given table pairs texts listed missing (of, are) =
    let (one, among, lacks) = missing (names (member_trees pairs)) (names_utf8 pairs of.writable)
    (subst (λ l. IsTable l table) (quoted_names pairs) listed) in
    let said = said_all HasChildrenText objects.text objects.places given pairs texts of are in
    let within = zip_within (λ (x : Bor (List ℕ)) (pair : List ℕ × Tree). HasChildrenText pair.1 x) given pairs among.0
    said among.1 in
    let here = zip_at (λ (x : Bor (List ℕ)) (pair : List ℕ × Tree). HasChildrenText pair.1 x) given pairs among.0 one
    ([], null) said within in
    let (name, inside, not_there) = lacks _ (subst (λ (b : Bor (List ℕ)). HasChildrenText (named_at pairs among.0).1 b)
    among.2 here) in
    let value = (named_at pairs among.0).1 in (
      value,
      value_in pairs among.0 within,
      name,
      child_in (member_of (codes "children") value) name inside,
      not_there,
    )

-- ---- objects that are refused
refused_so : (document : Tree) (fault : Fault) (objects : MemberTrees) (count : ℕ)
    → HasValidVertices document → objects_of document ≡ objects → item_count (vertices_of document) ≡ count
    → RefusesObjects fault count objects → RefusesCut fault document
refused_so document fault objects count valid same many refused =
    told fault (subst (λ o. RefusesObjects fault (item_count (vertices_of document)) o) (sym same)
    (subst (λ n. RefusesObjects fault n objects) (sym many) refused))
  where
    told : (fault : Fault) → RefusesObjects fault (item_count (vertices_of document)) (objects_of document)
        → RefusesCut fault document
    told ChildMissing refused = (valid, refused)
    told Orphan refused = (valid, refused.0, refused.1)
    told BoundaryIndex refused = (valid, refused.0, refused.1, refused.2)
    told other refused = absurd refused

-- ---- the document
object_or : (there : Option Tree) → WhereThere IsObject there → AreCityObjects (members_in there)
    → HoldsCityObjects (unwrap_or there (object no_members))
object_or None is are = (no_members, refl, tt)
object_or (Some (object members)) is are = (members, refl, are)
object_or (Some other) is are = absurd is

array_or : (there : Option Tree) → WhereThere IsArray there → IsArray (unwrap_or there (array no_items))
array_or None is = tt
array_or (Some value) is = is

-- its city objects and its vertices, or none where they are not there
abbrev pub objects_in : MemberTrees → Tree
objects_in members = unwrap_or (first_named (codes "CityObjects") members) (object no_members)

abbrev pub vertices_in : MemberTrees → Tree
vertices_in members = unwrap_or (first_named (codes "vertices") members) (array no_items)

pub other_vertices : (text : List ℕ) (is : Bool) (members : MemberTrees)
    → ((value : Tree) → IsCompactOf text value → IsTrue is ↔ IsArray value) → is ≡ false
    → IsCompactOf text (vertices_in members) → IsCityDocument (object members) → ⊥
other_vertices text is members test none of document = not_both is
    ((test (vertices_in members) of).1 (array_or (first_named (codes "vertices") members) document.0.4)) none

pub other_objects : (text : List ℕ) (is : Bool) (members : MemberTrees)
    → ((value : Tree) → IsCompactOf text value → IsTrue is ↔ HoldsCityObjects value) → is ≡ false
    → IsCompactOf text (objects_in members) → IsCityDocument (object members) → ⊥
other_objects text is members test none of document = not_both is ((test (objects_in members) of).1
    (object_or (first_named (codes "CityObjects") members) document.0.3 document.1)) none

-- faults that are told are no want of memory
pub header_decided : (fault : Fault) (value : Tree) → RefusesHeader fault value → fault ≡ Memory → ⊥
header_decided fault value refused same = subst (λ f. RefusesHeader f value) same refused

pub objects_decided : (fault : Fault) (count : ℕ) (objects : MemberTrees) → RefusesObjects fault count objects
    → fault ≡ Memory → ⊥
objects_decided fault count objects refused same = subst (λ f. RefusesObjects f count objects) same refused

-- both are well formed
pub record IsShaped (members : MemberTrees) (text : List ℕ) : Type 0 where
  pub objects : MemberTrees
  pub items : ItemTrees
  pub objects_are : objects_in members ≡ object objects
  pub vertices_are : vertices_in members ≡ array items
  pub city : AreCityObjects objects
  pub of : IsCompactOf text (array items)

pub shaped : (text objects : List ℕ) (is holds : Bool) (members : MemberTrees)
    → ((value : Tree) → IsCompactOf text value → IsTrue is ↔ IsArray value) → is ≡ true
    → IsCompactOf text (vertices_in members)
    → ((value : Tree) → IsCompactOf objects value → IsTrue holds ↔ HoldsCityObjects value) → holds ≡ true
    → IsCompactOf objects (objects_in members) → IsShaped members text
shaped text objects is holds members test so of test_objects also of_objects =
    let (items, vertices_are) = array_is (vertices_in members) ((test (vertices_in members) of).0 so) in
    let (inner, objects_are, city) = (test_objects (objects_in members) of_objects).0 also in
    record {
      objects = inner;
      items = items;
      objects_are = objects_are;
      vertices_are = vertices_are;
      city = city;
      of = subst (IsCompactOf text) vertices_are of;
    }

module _ (members : MemberTrees) (text : List ℕ) (is : IsShaped members text) where
  grid_is : (fault : Fault) → HasBadTransform fault (header_tree (object members))
      → RefusesFrame fault (object members)
  grid_is fault refused = (
    document_is (object members) is.objects is.items refused.0 is.objects_are is.vertices_are is.city,
    sym (other_member (codes "version") (object members) refl refl refl) ∙ refused.1,
    subst (RefusesGrid fault) (other_member (codes "transform") (object members) refl refl refl) refused.2,
  )

  pub header_refused : (fault : Fault) → RefusesHeader fault (header_tree (object members))
      → RefusesCut fault (object members)
  header_refused NotCityJson refused = λ it. refused (stays_city_json (object members) it.0)
  header_refused Version refused = (
    document_is (object members) is.objects is.items refused.0 is.objects_are is.vertices_are is.city,
    λ it. refused.1 (other_member (codes "version") (object members) refl refl refl ∙ it),
  )
  header_refused NoTransform refused = grid_is NoTransform refused
  header_refused Decimal refused = grid_is Decimal refused
  header_refused ScaleNotPositive refused = grid_is ScaleNotPositive refused
  header_refused other refused = absurd refused

  pub has_frame : ((grid : Grid) × IsHeader (header_tree (object members)) grid) → HasFrame (object members)
  has_frame (grid, header) = frame (object members) (header_tree (object members)) grid is.objects is.items
      (refl, header) is.objects_are is.vertices_are is.city

  same_items : vertices_of (object members) ≡ is.items
  same_items = (items_or (first_named (codes "vertices") members) is.items is.vertices_are).1

  pub vertices_refused : (fault : Fault) → HasFrame (object members)
      → ((items : ItemTrees) → IsCompactOf text (array items) → RefusesFirst fault items)
      → RefusesCut fault (object members)
  vertices_refused fault framed refused = vertex_refused (object members) fault framed
      (subst (RefusesFirst fault) (sym same_items) (refused is.items is.of))

  pub objects_refused : (fault : Fault) (value : Tree) (count : ℕ) → HasFrame (object members)
      → value ≡ objects_in members → ((points : List Triple) × AreVertices is.items points × (length points ≡ count))
      → ((objects : MemberTrees) × (value ≡ object objects) × RefusesObjects fault count objects)
      → RefusesCut fault (object members)
  objects_refused fault value count framed value_is (points, vertices, many) (objects, same, refused) =
      let as_objects : objects_of (object members) ≡ objects =
      (members_or (first_named (codes "CityObjects") members) objects (sym value_is ∙ same)).1 in
      let valid : HasValidVertices (object members) =
      (framed, (points, subst (λ i. AreVertices i points) (sym same_items) vertices)) in
      refused_so (object members) fault objects count valid as_objects
      (ap item_count same_items ∙ (sym (as_many is.items points vertices) ∙ many)) refused
