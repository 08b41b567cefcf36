-- What is known of a document's objects and vertices, said of the document.
use Rattle.std.proofs.Common.{◌≡◌, ℕ, List, Option, Some, None, length, get_or, refl, ap, ◌∙◌, arith, ◌<◌}
use Rattle.std.proofs.lemmas.Option.{slice_get-get_or}
use Rattle.std.specs.List.{Contains}
use Rattle.std.specs.Prelude.{codes}
use Rattle.city_json.specs.Fits.{IsDistinct}
use Rattle.city_json.specs.Members.{first_named, member_of, names}
use Rattle.city_json.specs.Tree.{Tree, null, boolean, number, string, array, object, MemberTrees, no_members, member}
use Rattle.city_feature.specs.Feature.{item_count}
use Rattle.city_families.specs.Boundaries.{IsBounded}
use Rattle.city_families.specs.CityObjects.{AllBelong, HasOrphan, IsReached, LacksChild, objects_of, roots, vertices_of}
use Rattle.city_families.specs.Cut.{IsCuttable, HasValidVertices}
use Rattle.city_json.specs.ObjectTexts.{members_in}
use Rattle.city_families.specs.Items.{values}
use Rattle.city_families.proofs.FeatureList.{all_bounded}
use Rattle.city_families.proofs.Kinship.{first_at}
use Rattle.city_families.proofs.Renumbering.{distinct_member}

distinct_in : (there : Option Tree) → ((inner : Tree) → there ≡ Some inner → IsDistinct inner)
    → IsDistinct (object (members_in there))
distinct_in None all = (tt, tt)
distinct_in (Some (object members)) all = all (object members) refl
distinct_in (Some null) all = (tt, tt)
distinct_in (Some (boolean b)) all = (tt, tt)
distinct_in (Some (number text)) all = (tt, tt)
distinct_in (Some (string text)) all = (tt, tt)
distinct_in (Some (array items)) all = (tt, tt)

pub distinct_objects : (document : Tree) → IsDistinct document → IsDistinct (object (objects_of document))
distinct_objects document distinct = distinct_in (member_of (codes "CityObjects") document)
    (λ inner is. distinct_member (codes "CityObjects") document inner distinct is)

pub no_orphan : (objects : MemberTrees) → AllBelong objects → HasOrphan objects → ⊥
no_orphan objects belong orphan =
    let there = belong orphan.0 orphan.1 in
    orphan.2 there.0 there.1 there.2

pub cuttable : (document : Tree) → IsDistinct document → HasValidVertices document
    → (LacksChild (objects_of document) → ⊥) → AllBelong (objects_of document)
    → ((id name : List ℕ) (value : Tree) → Contains (roots (objects_of document)) id
    → IsReached (objects_of document) id name → first_named name (objects_of document) ≡ Some value
    → IsBounded (item_count (vertices_of document)) value)
    → IsCuttable document
cuttable document distinct grid lacks belong bounded = (
  grid,
  lacks,
  no_orphan (objects_of document) belong,
  all_bounded (item_count (vertices_of document)) (objects_of document) belong bounded named,
)
  where
    long : (ms : MemberTrees) → length (values ms) ≡ length (names ms)
    long no_members = refl
    long (member n v os) = let e = long os in omega (arith, e)

    named : (k : ℕ) (name : List ℕ) (value : Tree) → get_or (names (objects_of document)) k name ≡ name
        → k < length (names (objects_of document)) → get_or (values (objects_of document)) k value ≡ value
        → first_named name (objects_of document) ≡ Some value
    named k name value at below is =
        first_at (objects_of document) k name value (distinct_objects document distinct).0
        (slice_get-get_or (names (objects_of document)) k name below ∙ ap Some at)
        (slice_get-get_or (values (objects_of document)) k value (omega (arith, below, long (objects_of document)))
        ∙ ap Some is)

-- ---- of the objects and vertices that the code has
abbrev pub Bounds : ℕ → MemberTrees → Type 0
Bounds count objects = (id name : List ℕ) (value : Tree) → Contains (roots objects) id → IsReached objects id name
    → first_named name objects ≡ Some value → IsBounded count value
