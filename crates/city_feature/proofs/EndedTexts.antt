-- A feature with an appearance after its other members.
use Rattle.std.proofs.Common.{◌≡◌, ◌≢◌, ◌⊎◌, ◌∙◌, ◌++◌, ◌≤◌, inl, inr, ℕ, sym, ap, refl, subst, Bool, true, false, List, [], ◌∷◌, append_assoc, Option, Some, None, is_some, option_map, codes, bytes_eq, arith, IfSome, MatchBool, Contains, IsUtf8}
use Rattle.std.proofs.lemmas.Bool.{cases_Bool}
use Rattle.std.proofs.lemmas.List.{append_cancel_right}
use Rattle.std.proofs.lemmas.Slice.Eq.{bytes_eq-Decides}
use Rattle.city_json.proofs.CompactLaws.{compact-spells}
use Rattle.city_json.proofs.Complete.{one_meaning}
use Rattle.city_json.proofs.SpelledWritable.{spelled_writable}
use Rattle.byte_streams.specs.declared.fault.Fault.{Fault}
use Rattle.byte_streams.specs.declared.fault.Fault.TheVariants.{VertexRange, Memory}
use Rattle.city_json.specs.Bytes.{colon, comma, open_brace, close_brace}
use Rattle.city_json.specs.Compact.{quoted, compact, compact_members, compact_more_members}
use Rattle.city_json.specs.Fits.{AreDistinctMembers, Fits, HasDistinctNames, IsDistinct, IsNewName, depth, members_depth}
use Rattle.city_json.specs.Grammar.{Spells}
use Rattle.city_json.specs.Members.{first_named, member_of}
use Rattle.city_json.specs.Tree.{Tree, null, boolean, number, string, array, object, MemberTrees, no_members, member}
use Rattle.city_json.specs.Writable.{AreWritableMembers, IsWritable}
use Rattle.city_grid.specs.Axes.{Triple}
use Rattle.city_feature.proofs.LineTexts.{utf8}
use Rattle.city_feature.proofs.OneFeature.{not_moved}
use Rattle.city_feature.proofs.features.StillFeature.{other_member}
use Rattle.city_feature.specs.Area.{Meets}
use Rattle.city_feature.specs.Changes.{with_member, with_named}
use Rattle.city_feature.specs.Choice.{IsChosen}
use Rattle.city_feature.specs.declared.choices.Choice.{Choice}
use Rattle.city_feature.specs.Ended.{IsAppearanceEnd, IsOwnPart, appearance_alone}
use Rattle.city_feature.specs.Feature.{FeatureValue, IsFeature, IsMovable, moved, moved_vertices, vertices_tree}
use Rattle.city_feature.specs.FeatureLine.{GivesFeature, LeavesRange, RefusesFeatureLine, SpellsFeature, SpellsMoved, TellsWanted}
use Rattle.city_feature.specs.Shapes.{IsArray, IsObject, IsText, IsThere, Says, member_in}

-- ---- a member that comes last
some_is_none : (v : Tree) → Some v ≡ None → ⊥
some_is_none v e = cc

module _ (name : List ℕ) (x : Tree) where
  more_text : (members : MemberTrees) → first_named name members ≡ None
      → compact_more_members (with_named name x members)
      ≡ compact_more_members members ++ compact_more_members (member name x no_members)
  more_text no_members none = refl
  more_text (member other v others) none = elim (cases_Bool (bytes_eq other name)) [
    | inl e ↦ absurd (some_is_none v (rw e at none))
    | inr e ↦ let front = quoted other ++ colon ∷ compact v in
        rw e (ap (λ l. comma ∷ front ++ l) ((more_text others) (rw e at none))
        ∙ ap (λ l. comma ∷ l) (sym (append_assoc front (compact_more_members others)
        (compact_more_members (member name x no_members)))))
  ]

  first_text : (other : List ℕ) (v : Tree) (others : MemberTrees) → first_named name (member other v others) ≡ None
      → compact_members (with_named name x (member other v others))
      ≡ compact_members (member other v others) ++ compact_more_members (member name x no_members)
  first_text other v others none = elim (cases_Bool (bytes_eq other name)) [
    | inl e ↦ absurd (some_is_none v (rw e at none))
    | inr e ↦ let front = quoted other ++ colon ∷ compact v in
        rw e (ap (λ l. front ++ l) (more_text others (rw e at none))
        ∙ sym (append_assoc front (compact_more_members others) (compact_more_members (member name x no_members))))
  ]

  -- the text of the object goes on where that without the member ends
  pub last_text : (members : MemberTrees) (own another : List ℕ) (there : Tree)
      → first_named another members ≡ Some there → first_named name members ≡ None
      → own ++ close_brace ∷ [] ≡ compact (object members)
      → own ++ (compact_more_members (member name x no_members) ++ close_brace ∷ [])
      ≡ compact (object (with_named name x members))
  last_text no_members own another there some none is = cc some
  last_text (member other v others) own another there some none is =
      let front : own ≡ open_brace ∷ compact_members (member other v others) =
      append_cancel_right own (open_brace ∷ compact_members (member other v others)) (close_brace ∷ []) is in
      ap (λ l. l ++ (compact_more_members (member name x no_members) ++ close_brace ∷ [])) front
      ∙ (sym (append_assoc (open_brace ∷ compact_members (member other v others))
      (compact_more_members (member name x no_members)) (close_brace ∷ []))
      ∙ ap (λ l. (open_brace ∷ l) ++ close_brace ∷ []) (sym (first_text other v others none)))

  apart_by : (other : List ℕ) → bytes_eq other name ≡ false → other ≢ name
  apart_by other differ same = cc (sym ((bytes_eq-Decides other name).1 same) ∙ differ)

  within : (members : MemberTrees) (k : ℕ) → members_depth members ≤ k → depth x ≤ k
      → members_depth (with_named name x members) ≤ k
  within no_members k all one = omega (arith, one)
  within (member other v others) k all one = elim (cases_Bool (bytes_eq other name)) [
    | inl e ↦ rw e (omega (arith, all, one))
    | inr e ↦ rw e (let more = (within others k) (omega (arith, all)) one in omega (arith, all, more))
  ]

  new_named : (other : List ℕ) (members : MemberTrees) → other ≢ name → IsNewName other members
      → IsNewName other (with_named name x members)
  new_named other no_members apart new = (apart, tt)
  new_named other (member n v others) apart new = elim (cases_Bool (bytes_eq n name)) [
    | inl e ↦ rw e new
    | inr e ↦ rw e (new.0, (new_named other others apart) new.1)
  ]

  names_differ : (members : MemberTrees) → HasDistinctNames members → HasDistinctNames (with_named name x members)
  names_differ no_members differ = (tt, tt)
  names_differ (member n v others) differ = elim (cases_Bool (bytes_eq n name)) [
    | inl e ↦ rw e differ
    | inr e ↦ rw e (new_named n others (apart_by n e) differ.0, (names_differ others) differ.1)
  ]

  all_distinct : (members : MemberTrees) → AreDistinctMembers members → IsDistinct x
      → AreDistinctMembers (with_named name x members)
  all_distinct no_members all one = (one, tt)
  all_distinct (member n v others) all one = elim (cases_Bool (bytes_eq n name)) [
    | inl e ↦ rw e (one, all.1)
    | inr e ↦ rw e (all.0, (all_distinct others) all.1 one)
  ]

  all_writable : IsUtf8 name → IsWritable x → (members : MemberTrees) → AreWritableMembers members
      → AreWritableMembers (with_named name x members)
  all_writable utf8 one no_members all = (utf8, one, tt)
  all_writable utf8 one (member n v others) all = elim (cases_Bool (bytes_eq n name)) [
    | inl e ↦ rw e (all.0, one, all.2)
    | inr e ↦ rw e (all.0, all.1, (all_writable utf8 one others) all.2)
  ]

-- two members are set in either order, where the one is there
exchanged : (name other : List ℕ) (x y old : Tree) → bytes_eq other name ≡ false → (members : MemberTrees)
    → first_named other members ≡ Some old
    → with_named other y (with_named name x members) ≡ with_named name x (with_named other y members)
exchanged name other x y old apart no_members is = cc is
exchanged name other x y old apart (member n v others) is =
    by (bytes_eq n other) (bytes_eq n name) refl refl (exchanged name other x y old apart others)
  where
    by : (b d : Bool) → bytes_eq n other ≡ b → bytes_eq n name ≡ d
        → (first_named other others ≡ Some old
        → with_named other y (with_named name x others) ≡ with_named name x (with_named other y others))
        → with_named other y (with_named name x (member n v others))
        ≡ with_named name x (with_named other y (member n v others))
    by true d e f later =
        let no : bytes_eq n name ≡ false =
        ap (λ l. bytes_eq l name) ((bytes_eq-Decides n other).0 e) ∙ apart in rw (no, e, no) refl
    by false true e f later = rw (f, e, f) refl
    by false false e f later = rw (f, e, f) (ap (member n v) (later (rw e at is)))

-- ---- what is asked of a feature
abbrev TypeFrom : List ℕ → Option Tree → Option Tree → Type 0
TypeFrom name id_value objects =
    (id : List ℕ)
    × (id_value ≡ Some (string id))
    × (member_in (codes "type") (member_in id objects) ≡ Some (string name))

abbrev TypesFrom : List (List ℕ) → Option Tree → Option Tree → Type 0
TypesFrom names id_value objects = (name : List ℕ) × TypeFrom name id_value objects × Contains names name

abbrev MatchFrom : Choice → List Triple → Option Tree → Option Tree → Type 0
MatchFrom choice ps id_value objects =
    IfSome choice.types (λ types. TypesFrom types id_value objects) × IfSome choice.area (λ area. Meets area ps)

abbrev ChosenFrom : Choice → List Triple → Option Tree → Option Tree → Type 0
ChosenFrom choice ps id_value objects =
    MatchBool choice.exclude (¬ MatchFrom choice ps id_value objects) (MatchFrom choice ps id_value objects)

chosen_from : (choice : Choice) (v w : Tree) (ps : List Triple) → member_of (codes "id") v ≡ member_of (codes "id") w
    → member_of (codes "CityObjects") v ≡ member_of (codes "CityObjects") w
    → IsChosen choice (record { value = v; vertices = ps }) → IsChosen choice (record { value = w; vertices = ps })
chosen_from choice v w ps ids objects chosen =
    subst (ChosenFrom choice ps (member_of (codes "id") w)) objects
    (subst (λ i. ChosenFrom choice ps i (member_of (codes "CityObjects") v)) ids chosen)

-- ---- a feature with an appearance
module _ (a : Tree) where
  abbrev ended : MemberTrees → MemberTrees
  ended members = with_named (codes "appearance") a members

  kept : (name : List ℕ) → bytes_eq (codes "appearance") name ≡ false → (members : MemberTrees)
      → first_named name (ended members) ≡ first_named name members
  kept name apart members = other_member (codes "appearance") a name apart (object members)

  is_feature : (members : MemberTrees) (ps : List Triple) → IsFeature (object members) ps
      → IsFeature (object (ended members)) ps
  is_feature members ps ((type_is, id_is, objects_are, vertices_are), (items, there, vertices)) = (
    (
      kept (codes "type") refl members ∙ type_is,
      subst (IsThere IsText) (sym (kept (codes "id") refl members)) id_is,
      subst (IsThere IsObject) (sym (kept (codes "CityObjects") refl members)) objects_are,
      subst (IsThere IsArray) (sym (kept (codes "vertices") refl members)) vertices_are,
    ),
    (items, kept (codes "vertices") refl members ∙ there, vertices),
  )

  fits : (members : MemberTrees) → Fits (object members) → Fits (object (appearance_alone a))
      → Fits (object (ended members))
  fits members all one =
      let deep = within (codes "appearance") a members 127 (omega (arith, all.0)) (omega (arith, one.0)) in (
        omega (arith, deep),
        (
          names_differ (codes "appearance") a members all.1.0,
          all_distinct (codes "appearance") a members all.1.1 one.1.1.0,
        ),
      )

module _ (members : MemberTrees) (own closed end : List ℕ) (ends : IsAppearanceEnd end)
    (none : first_named (codes "appearance") members ≡ None) (same : closed ≡ own ++ close_brace ∷ [])
    (written : closed ≡ compact (object members)) (spells : Spells closed (object members)) where
  spells_ended : (ps : List Triple) → Fits (object members) → IsFeature (object members) ps
      → SpellsFeature (own ++ end) (record { value = object (ended ends.appearance members); vertices = ps })
  spells_ended ps all feature =
      let value : Tree = object (ended ends.appearance members) in
      let text : own ++ end ≡ compact value =
      ap (λ l. own ++ l) ends.is
      ∙ last_text (codes "appearance") ends.appearance members own (codes "type") (string (codes "CityJSONFeature"))
      feature.0.0 none (sym same ∙ written) in
      let writable : IsWritable value =
      all_writable (codes "appearance") ends.appearance (utf8 (codes "appearance") refl) ends.writable members
      (spelled_writable closed (object members) spells) in (
        subst (λ l. Spells l value) (sym text) (compact-spells value writable),
        fits ends.appearance members all ends.fits,
        is_feature ends.appearance members ps feature,
      )

  -- the same feature, moved
  abbrev plain : List Triple → FeatureValue
  plain ps = record { value = object members; vertices = ps }

  abbrev whole : List Triple → FeatureValue
  whole ps = record { value = object (ended ends.appearance members); vertices = ps }

  -- the members of the feature with its vertices moved
  abbrev placed : List Triple → Triple → MemberTrees
  placed ps k = with_named (codes "vertices") (vertices_tree (moved_vertices ps k)) members

  whole_moved : (ps : List Triple) (k : Triple) → IsFeature (object members) ps
      → (moved (whole ps) k).value ≡ object (ended ends.appearance (placed ps k))
  whole_moved ps k feature =
      ap object (exchanged (codes "appearance") (codes "vertices") ends.appearance
      (vertices_tree (moved_vertices ps k)) _ refl members feature.1.1)

  feature_is : (feature : FeatureValue) → SpellsFeature closed feature → feature ≡ plain feature.vertices
  feature_is feature is =
      let made : Tree → FeatureValue = λ v. record { value = v; vertices = feature.vertices } in
      ap made (one_meaning closed feature.value (object members) is.0.1 spells.1)

  module _ (k : Triple) (there : FeatureValue) (gives : SpellsMoved k closed there) where
    ps : List Triple
    ps = gives.0.vertices

    plain_feature : SpellsFeature closed (plain gives.0.vertices)
    plain_feature = subst (SpellsFeature closed) (feature_is gives.0 gives.1) gives.1

    there_is : there ≡ moved (plain gives.0.vertices) k
    there_is = gives.3 ∙ ap (λ f. moved f k) (feature_is gives.0 gives.1)

    whole_spells : SpellsMoved k (own ++ end) (moved (whole gives.0.vertices) k)
    whole_spells = (
      whole gives.0.vertices,
      spells_ended gives.0.vertices plain_feature.1 plain_feature.2,
      gives.2,
      refl,
    )

    -- whether it is chosen does not depend on the appearance
    ids : member_of (codes "id") (moved (plain gives.0.vertices) k).value
        ≡ member_of (codes "id") (moved (whole gives.0.vertices) k).value
    ids = sym (ap (member_of (codes "id")) (whole_moved gives.0.vertices k plain_feature.2)
        ∙ kept ends.appearance (codes "id") refl (placed gives.0.vertices k))

    objects : member_of (codes "CityObjects") (moved (plain gives.0.vertices) k).value
        ≡ member_of (codes "CityObjects") (moved (whole gives.0.vertices) k).value
    objects = sym (ap (member_of (codes "CityObjects")) (whole_moved gives.0.vertices k plain_feature.2)
        ∙ kept ends.appearance (codes "CityObjects") refl (placed gives.0.vertices k))

    pub gives_none : (choice : Choice) → ¬ IsChosen choice there
        → GivesFeature (IsChosen choice) k (own ++ end) None
    gives_none choice unwanted = (
      moved (whole gives.0.vertices) k,
      whole_spells,
      λ wanted. unwanted (subst (IsChosen choice) (sym there_is)
          (chosen_from choice (moved (whole gives.0.vertices) k).value (moved (plain gives.0.vertices) k).value
          (moved_vertices gives.0.vertices k) (sym ids) (sym objects) wanted)),
    )

    pub gives_some : (choice : Choice) (text front : List ℕ) → IsChosen choice there → text ≡ compact there.value
        → text ≡ front ++ close_brace ∷ [] → GivesFeature (IsChosen choice) k (own ++ end) (Some (front ++ end))
    gives_some choice text front wanted is split = (
      moved (whole gives.0.vertices) k,
      whole_spells,
      (
        chosen_from choice (moved (plain gives.0.vertices) k).value (moved (whole gives.0.vertices) k).value
            (moved_vertices gives.0.vertices k) ids objects (subst (IsChosen choice) there_is wanted),
        ap (λ l. front ++ l) ends.is
            ∙ (last_text (codes "appearance") ends.appearance (placed gives.0.vertices k) front (codes "type")
            (string (codes "CityJSONFeature"))
            (other_member (codes "vertices") (vertices_tree (moved_vertices gives.0.vertices k)) (codes "type") refl
            (object members) ∙ plain_feature.2.0.0)
            (other_member (codes "vertices") (vertices_tree (moved_vertices gives.0.vertices k)) (codes "appearance") refl
            (object members) ∙ none)
            (sym split ∙ (is ∙ ap (λ f. compact f.value) there_is))
            ∙ ap compact (sym (whole_moved gives.0.vertices k plain_feature.2))),
      ),
    )

-- ---- of what is given
ended_none : (choice : Choice) (k : Triple) (members : MemberTrees) (own closed end : List ℕ) → IsAppearanceEnd end
    → first_named (codes "appearance") members ≡ None → closed ≡ own ++ close_brace ∷ []
    → closed ≡ compact (object members) → Spells closed (object members)
    → GivesFeature (IsChosen choice) k closed None → GivesFeature (IsChosen choice) k (own ++ end) None
ended_none choice k members own closed end ends none same written spells (there, gives, unwanted) =
    gives_none members own closed end ends none same written spells k there gives choice unwanted

ended_some : (choice : Choice) (k : Triple) (members : MemberTrees) (own closed end text front : List ℕ)
    → IsAppearanceEnd end → first_named (codes "appearance") members ≡ None → closed ≡ own ++ close_brace ∷ []
    → closed ≡ compact (object members) → Spells closed (object members)
    → GivesFeature (IsChosen choice) k closed (Some text) → text ≡ front ++ close_brace ∷ []
    → GivesFeature (IsChosen choice) k (own ++ end) (Some (front ++ end))
ended_some choice k members own closed end text front ends none same written spells (there, gives, (wanted, is)) split =
    gives_some members own closed end ends none same written spells k there gives choice text front wanted is split

-- ---- what a feature has of its own
pub feature_is_object : (value : Tree) → Says (codes "type") (codes "CityJSONFeature") value
    → (members : MemberTrees) × (value ≡ object members)
feature_is_object (object members) says = (members, refl)
feature_is_object null says = cc says
feature_is_object (boolean b) says = cc says
feature_is_object (number text) says = cc says
feature_is_object (string text) says = cc says
feature_is_object (array items) says = cc says

-- so its text ends in a brace
pub feature_closes : (value : Tree) → Says (codes "type") (codes "CityJSONFeature") value
    → (front : List ℕ) × (compact value ≡ front ++ close_brace ∷ [])
feature_closes value says =
    let (members, is) = feature_is_object value says in
    (open_brace ∷ compact_members members, ap compact is)

-- what is given of a line ends in a brace
pub given_closed : (choice : Choice) (k : Triple) (line text : List ℕ) → GivesFeature (IsChosen choice) k line (Some text)
    → (front : List ℕ) × (text ≡ front ++ close_brace ∷ [])
given_closed choice k line text (there, (feature, spelled, movable, is), (wanted, written)) =
    let (members, object_is) = feature_is_object feature.value spelled.2.0.0 in
    let name = codes "vertices" in
    let vertices = vertices_tree (moved_vertices feature.vertices k) in (
      open_brace ∷ compact_members (with_named name vertices members),
      written ∙ (ap (λ (f : FeatureValue). compact f.value) is ∙ ap (λ v. compact (with_member name vertices v)) object_is),
    )

pub is_some_mapped : {X Y : Type 0} (f : X → Y) (given : Option X) → is_some given ≡ is_some (option_map f given)
is_some_mapped f None = refl
is_some_mapped f (Some x) = refl

module _ (choice : Choice) (k : Triple) (own end : List ℕ) (part : IsOwnPart own end) where
  abbrev closed_there : List ℕ
  closed_there = own ++ close_brace ∷ []

  pub own_none : (closed : List ℕ) → closed ≡ own ++ close_brace ∷ [] → GivesFeature (IsChosen choice) k closed None
      → GivesFeature (IsChosen choice) k (own ++ end) None
  own_none closed same gives = by part.ends (subst (λ l. GivesFeature (IsChosen choice) k l None) same gives)
    where
      by : (end ≡ close_brace ∷ []) ⊎ (IsAppearanceEnd end × (first_named (codes "appearance") part.members ≡ None))
          → GivesFeature (IsChosen choice) k closed_there None → GivesFeature (IsChosen choice) k (own ++ end) None
      by (inl brace) there = subst (λ l. GivesFeature (IsChosen choice) k (own ++ l) None) (sym brace) there
      by (inr ends) there =
          ended_none choice k part.members own closed_there end ends.0 ends.1 refl part.written part.spelled.0 there

  pub own_some : (closed text front : List ℕ) → closed ≡ own ++ close_brace ∷ []
      → GivesFeature (IsChosen choice) k closed (Some text) → text ≡ front ++ close_brace ∷ []
      → GivesFeature (IsChosen choice) k (own ++ end) (Some (front ++ end))
  own_some closed text front same gives split =
      by part.ends (subst (λ l. GivesFeature (IsChosen choice) k l (Some text)) same gives)
    where
      by : (end ≡ close_brace ∷ []) ⊎ (IsAppearanceEnd end × (first_named (codes "appearance") part.members ≡ None))
          → GivesFeature (IsChosen choice) k closed_there (Some text)
          → GivesFeature (IsChosen choice) k (own ++ end) (Some (front ++ end))
      by (inl brace) there = subst (λ l. GivesFeature (IsChosen choice) k (own ++ l) (Some (front ++ l))) (sym brace)
          (subst (λ t. GivesFeature (IsChosen choice) k closed_there (Some t)) split there)
      by (inr ends) there =
          ended_some choice k part.members own closed_there end text front ends.0 ends.1 refl part.written part.spelled.0
          there split

  pub own_refused : (closed : List ℕ) → closed ≡ own ++ close_brace ∷ [] → (fault : Fault)
      → RefusesFeatureLine k fault closed → (fault ≡ Memory) ⊎ RefusesFeatureLine k fault (own ++ end)
  own_refused closed same fault refused =
      by (not_moved k closed_there (record { value = object part.members; vertices = part.vertices }) part.spelled fault
      (subst (RefusesFeatureLine k fault) same refused)) part.ends
    where
      leaves : (end ≡ close_brace ∷ []) ⊎ (IsAppearanceEnd end × (first_named (codes "appearance") part.members ≡ None))
          → ¬ IsMovable (record { value = object part.members; vertices = part.vertices }) k
          → LeavesRange k (own ++ end)
      leaves (inl brace) cannot = subst (λ l. LeavesRange k (own ++ l)) (sym brace)
          (record { value = object part.members; vertices = part.vertices }, part.spelled, cannot)
      leaves (inr ends) cannot = (
        record { value = object (ended ends.0.appearance part.members); vertices = part.vertices },
        spells_ended part.members own closed_there end ends.0 ends.1 refl part.written part.spelled.0 part.vertices
            part.spelled.1 part.spelled.2,
        cannot,
      )

      by : (fault ≡ Memory) ⊎ ((fault ≡ VertexRange)
          × ¬ IsMovable (record { value = object part.members; vertices = part.vertices }) k)
          → (end ≡ close_brace ∷ []) ⊎ (IsAppearanceEnd end × (first_named (codes "appearance") part.members ≡ None))
          → (fault ≡ Memory) ⊎ RefusesFeatureLine k fault (own ++ end)
      by (inl out) ends = inl out
      by (inr range) ends = inr (inr (inr (range.0, leaves ends range.1)))

  pub own_told : (closed : List ℕ) → closed ≡ own ++ close_brace ∷ [] → (given : Option (List ℕ))
      → GivesFeature (IsChosen choice) k closed given → (is : Bool) → is ≡ is_some given
      → TellsWanted (IsChosen choice) k (own ++ end) is
  own_told closed same None gives is none = (None, own_none closed same gives, none)
  own_told closed same (Some text) gives is some =
      let (front, split) = given_closed choice k closed text gives in
      (Some (front ++ end), own_some closed text front same gives split, some)

  pub own_refused_so : (fault : Fault) → (fault ≡ Memory) ⊎ RefusesFeatureLine k fault (own ++ close_brace ∷ [])
      → (fault ≡ Memory) ⊎ RefusesFeatureLine k fault (own ++ end)
  own_refused_so fault (inl memory) = inl memory
  own_refused_so fault (inr refused) = own_refused closed_there refl fault refused
