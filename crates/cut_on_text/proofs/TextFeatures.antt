-- The objects of a feature, copied one after another.
use Rattle.std.proofs.Common.{◌≡◌, ◌∙◌, ◌++◌, ◌<◌, ◌≤◌, ◌+◌, ℕ, zero, suc, ◌^◌, pos, List, [], ◌∷◌, Option, IsUtf8, map, length, take, take_all, drop, ◌-◌, get_or, slice_range, refl, sym, ap, subst, arith, append_assoc, append-nil}
use Rattle.std.proofs.lemmas.Grind.{flat_map-append}
use Rattle.std.proofs.lemmas.Option.{slice_get-map, slice_get-get_or}
use Rattle.std.proofs.lemmas.List.{length-map, map-append, take_more}
use Rattle.std.specs.List.{flat_map, AllByRecursion, Contains, slice_get, slice_index}
use Rattle.std.specs.Prelude.{codes}
use Rattle.city_json.proofs.MemberPlaces.{member_in_part}
use Rattle.city_json.specs.Bytes.{colon, comma, open_brace, close_brace}
use Rattle.city_json.specs.Compact.{compact, compact_members, compact_more_members, quoted}
use Rattle.city_json.specs.Fits.{AreDistinctMembers, IsDistinct, members_depth}
use Rattle.byte_streams.specs.Limits.{max_depth}
use Rattle.city_json.specs.Parts.{AreParts, HasMember}
use Rattle.city_json.specs.Tree.{Tree, member_trees, object}
use Rattle.city_json.specs.Writable.{AreWritableMembers}
use Rattle.city_json.specs.declared.compacting.places.MemberPlace.{MemberPlace}
use Rattle.city_grid.specs.Axes.{Triple, triple}
use Rattle.city_feature.specs.Feature.{FeatureValue, vertices_tree}
use Rattle.city_families.specs.Boundaries.{IsBounded, boundaries, relabelled_object, relabelled_objects, uses}
use Rattle.city_families.specs.Chosen.{named_at, point_at}
use Rattle.city_families.specs.Copied.{Copies}
use Rattle.city_families.specs.Cut.{IsFeatureOf, feature_tree, appearance_members}
use Rattle.cut_on_text.specs.PlacedObjects.{IsObjectAt}
use Rattle.cut_on_text.specs.FeatureText.{head_text, middle_text, tail_text}
use Rattle.city_families.specs.Leaves.{leaves}
use Rattle.city_families.specs.HeldTexts.{HasGrown}
use Rattle.city_families.specs.Numbered.{AreNumbered}
use Rattle.city_families.specs.Places.{IsFamily, name_at}
use Rattle.city_families.specs.Points.{SamePoints}
use Rattle.city_families.specs.Relabelling.{own_text}
use Rattle.city_json.specs.CompactTexts.{IsCompactOf}
use Rattle.city_families.proofs.Assembly.{numbered_none}
use Rattle.city_families.proofs.CopiedTexts.{copies_both, copies_so, copies_text, extends_same}
use Rattle.city_families.proofs.FeatureParts.{chosen_are_those, chosen_distinct, from_map, object_name}
use Rattle.city_families.proofs.Kinship.{names_pairs}
use Rattle.cut_on_text.proofs.TextCopies.{ObjectMade}
use Rattle.cut_on_text.proofs.TextMembers.{three}
use Rattle.city_families.proofs.Renumbering.{objects_same}
use Rattle.city_families.proofs.SamePoints.{same_points}

-- the object at a place: its name, and its value that fits
value_fits : (pairs : List (List ℕ × Tree)) (k : ℕ) (name text : List ℕ) (value : Tree)
    → HasMember k name value (member_trees pairs) → AreWritableMembers (member_trees pairs)
    → AreDistinctMembers (member_trees pairs) → members_depth (member_trees pairs) ≤ max_depth → text ≡ compact value
    → (k < length pairs) × (name ≡ (named_at pairs k).0) × IsCompactOf text (named_at pairs k).1
value_fits [] k name text value has writable distinct within is = absurd has
value_fits (p ∷ ps) zero name text value has writable distinct within is = (
  omega arith,
  sym has.0,
  record {
    is = is ∙ ap compact (sym has.1);
    writable = writable.1;
    distinct = distinct.0;
    within = omega (arith, within);
  },
)
value_fits (p ∷ ps) (suc k) name text value has writable distinct within is =
    let later = value_fits ps k name text value has writable.2 distinct.1 (omega (arith, within)) is in
    (omega (arith, later.0), later.1, later.2)

named_split : (name value : List ℕ) → (name ++ colon ∷ []) ++ value ≡ name ++ colon ∷ value
named_split name value = simp append_assoc

pub named_made : (count : ℕ) (name given t o line line₁ t' o' line₂ : List ℕ) (at : ℕ) (pairs : List (List ℕ × Tree))
    → line₁ ≡ line ++ name → ((value : Tree) → IsCompactOf given value → ObjectMade count t o line₁ t' o' line₂ value)
    → IsObjectAt pairs at name given
    → (at < length pairs) × IsBounded count (named_at pairs at).1
    × Copies t o line t' o' line₂ (flat_map leaves (boundaries (named_at pairs at).1))
    (λ change. quoted (named_at pairs at).0 ++ colon ∷ compact (relabelled_object change (named_at pairs at).1))
named_made count name given t o line line₁ t' o' line₂ at pairs front made there =
    let inner = made (named_at pairs at).1 there.2 in
    let first = copies_text t o line line₁ name front in
    let both = copies_both t o line t o line₁ t' o' line₂ [] (flat_map leaves (boundaries (named_at pairs at).1))
    (λ change. name) (λ change. compact (relabelled_object change (named_at pairs at).1)) first inner.1 in (
      there.0,
      inner.0,
      copies_so t o line t' o' line₂ (flat_map leaves (boundaries (named_at pairs at).1))
          (flat_map leaves (boundaries (named_at pairs at).1))
          (λ change. name ++ compact (relabelled_object change (named_at pairs at).1))
          (λ change. quoted (named_at pairs at).0 ++ colon ∷ compact (relabelled_object change (named_at pairs at).1))
          both refl
          (λ change. ap (λ l. l ++ compact (relabelled_object change (named_at pairs at).1)) there.1
          ∙ named_split (quoted (named_at pairs at).0) (compact (relabelled_object change (named_at pairs at).1))),
    )

-- ---- one after another
abbrev pub OthersMade : ℕ → List ℕ → List ℕ → List ℕ → List ℕ → List ℕ → List ℕ → List (List ℕ × Tree) → Type 0
OthersMade count t o line t' o' line' chosen = AllByRecursion (λ named. IsBounded count named.1) chosen
    × Copies t o line t' o' line' (uses chosen)
    (λ change. compact_more_members (member_trees (relabelled_objects change chosen)))

all_push : (P : List ℕ × Tree → Type 0) (xs : List (List ℕ × Tree)) (x : List ℕ × Tree) → AllByRecursion P xs → P x
    → AllByRecursion P (xs ++ x ∷ [])
all_push P [] x all one = (one, tt)
all_push P (y ∷ ys) x all one = (all.0, all_push P ys x all.1 one)

more_push : (xs : List (List ℕ × Tree)) (x : List ℕ × Tree)
    → compact_more_members (member_trees (xs ++ x ∷ [])) ≡ compact_more_members (member_trees xs)
    ++ comma ∷ (quoted x.0 ++ colon ∷ compact x.1)
more_push [] x = append-nil (comma ∷ (quoted x.0 ++ colon ∷ compact x.1))
more_push (y ∷ ys) x =
    ap (λ l. (comma ∷ (quoted y.0 ++ colon ∷ compact y.1)) ++ l) (more_push ys x)
    ∙ sym (append_assoc (comma ∷ (quoted y.0 ++ colon ∷ compact y.1)) (compact_more_members (member_trees ys))
    (comma ∷ (quoted x.0 ++ colon ∷ compact x.1)))

pub others_more : (count : ℕ) (t o line t₁ o₁ line₁ line₂ t₂ o₂ line₃ : List ℕ) (chosen : List (List ℕ × Tree))
    (x : List ℕ × Tree) → OthersMade count t o line t₁ o₁ line₁ chosen → line₂ ≡ line₁ ++ comma ∷ []
    → IsBounded count x.1
    → Copies t₁ o₁ line₂ t₂ o₂ line₃ (flat_map leaves (boundaries x.1))
    (λ change. quoted x.0 ++ colon ∷ compact (relabelled_object change x.1))
    → OthersMade count t o line t₂ o₂ line₃ (chosen ++ x ∷ [])
others_more count t o line t₁ o₁ line₁ line₂ t₂ o₂ line₃ chosen x made comma_is bounded one =
    let mark = copies_text t₁ o₁ line₁ line₂ (comma ∷ []) comma_is in
    let next = copies_both t₁ o₁ line₁ t₁ o₁ line₂ t₂ o₂ line₃ [] (flat_map leaves (boundaries x.1))
    (λ change. comma ∷ []) (λ change. quoted x.0 ++ colon ∷ compact (relabelled_object change x.1)) mark one in
    let all = copies_both t o line t₁ o₁ line₁ t₂ o₂ line₃ (uses chosen) (flat_map leaves (boundaries x.1))
    (λ change. compact_more_members (member_trees (relabelled_objects change chosen)))
    (λ change. comma ∷ (quoted x.0 ++ colon ∷ compact (relabelled_object change x.1))) made.1 next in (
      all_push (λ named. IsBounded count named.1) chosen x made.0 bounded,
      copies_so t o line t₂ o₂ line₃ (uses chosen ++ flat_map leaves (boundaries x.1)) (uses (chosen ++ x ∷ []))
          (λ change. compact_more_members (member_trees (relabelled_objects change chosen))
          ++ comma ∷ (quoted x.0 ++ colon ∷ compact (relabelled_object change x.1)))
          (λ change. compact_more_members (member_trees (relabelled_objects change (chosen ++ x ∷ [])))) all
          (sym (flat_map-append (λ (named : List ℕ × Tree). flat_map leaves (boundaries named.1)) chosen (x ∷ [])
          ∙ ap (λ l. uses chosen ++ l) (append-nil (flat_map leaves (boundaries x.1)))))
          (λ change. sym (ap (λ l. compact_more_members (member_trees l))
          (map-append (λ (named : List ℕ × Tree). (named.0, relabelled_object change named.1)) chosen (x ∷ []))
          ∙ more_push (relabelled_objects change chosen) (x.0, relabelled_object change x.1))),
    )

pub places_more : (pairs : List (List ℕ × Tree)) (places : List ℕ) (i : ℕ) → i < length places
    → map (named_at pairs) (take i places) ++ named_at pairs (get_or places i 0) ∷ []
    ≡ map (named_at pairs) (take (i + 1) places)
places_more pairs places i within = sym (ap (map (named_at pairs)) (take_more places i 0 within)
    ∙ map-append (named_at pairs) (take i places) (get_or places i 0 ∷ []))

-- the first and the others
abbrev pub ObjectsMade : ℕ → List ℕ → List ℕ → List ℕ → List ℕ → List ℕ → List ℕ → List (List ℕ × Tree) → Type 0
ObjectsMade count t o line t' o' line' chosen = AllByRecursion (λ named. IsBounded count named.1) chosen
    × Copies t o line t' o' line' (uses chosen)
    (λ change. compact_members (member_trees (relabelled_objects change chosen)))

pub objects_made : (count : ℕ) (t o line t₁ o₁ line₁ t₂ o₂ line₂ : List ℕ) (x : List ℕ × Tree)
    (chosen : List (List ℕ × Tree)) → IsBounded count x.1
    → Copies t o line t₁ o₁ line₁ (flat_map leaves (boundaries x.1))
    (λ change. quoted x.0 ++ colon ∷ compact (relabelled_object change x.1))
    → OthersMade count t₁ o₁ line₁ t₂ o₂ line₂ chosen → ObjectsMade count t o line t₂ o₂ line₂ (x ∷ chosen)
objects_made count t o line t₁ o₁ line₁ t₂ o₂ line₂ x chosen bounded one others = (
  (bounded, others.0),
  copies_both t o line t₁ o₁ line₁ t₂ o₂ line₂ (flat_map leaves (boundaries x.1)) (uses chosen)
      (λ change. quoted x.0 ++ colon ∷ compact (relabelled_object change x.1))
      (λ change. compact_more_members (member_trees (relabelled_objects change chosen))) one others.1,
)

pub first_and_others : (places : List ℕ) → 1 ≤ length places
    → get_or places 0 0 ∷ take (length places - 1) (drop 1 places) ≡ places
first_and_others [] some = absurd (omega (arith, some))
first_and_others (p ∷ ps) some = ap (λ l. p ∷ l) (take_all (length (p ∷ ps) - 1) ps (omega arith))

pub name_there : (text name : List ℕ) (parts : List MemberPlace) (at : ℕ) (d : MemberPlace) (pairs : List (List ℕ × Tree))
    → at < length parts → name ≡ slice_range text (get_or parts at d).at (get_or parts at d).value
    → IsCompactOf text (object (member_trees pairs)) → AreParts 1 parts (member_trees pairs)
    → name ≡ quoted (named_at pairs at).0 ++ colon ∷ []
name_there text name parts at d pairs within named of are =
    let found = member_in_part (member_trees pairs) (open_brace ∷ []) (close_brace ∷ []) parts at d are within in
    let fits = value_fits pairs at found.name (compact found.value) found.value found.has of.writable of.distinct.1
    (omega (arith, of.within)) refl in
    named ∙ (ap (λ l. slice_range l (get_or parts at d).at (get_or parts at d).value) of.is
    ∙ (found.named ∙ ap (λ n. quoted n ++ colon ∷ []) fits.1))

utf8_at : (pairs : List (List ℕ × Tree)) (k : ℕ) → k < length pairs → AreWritableMembers (member_trees pairs)
    → IsUtf8 (named_at pairs k).0
utf8_at [] k within all = absurd (omega (arith, within))
utf8_at (p ∷ ps) zero within all = all.0
utf8_at (p ∷ ps) (suc k) within all = utf8_at ps k (omega (arith, within)) all.2

pub value_there : (text given : List ℕ) (parts : List MemberPlace) (at : ℕ) (d : MemberPlace) (pairs : List (List ℕ × Tree))
    → at < length parts → given ≡ slice_range text (get_or parts at d).value (get_or parts at d).end
    → IsCompactOf text (object (member_trees pairs)) → AreParts 1 parts (member_trees pairs) → (at < length pairs)
    × IsUtf8 (named_at pairs at).0 × IsCompactOf given (named_at pairs at).1
value_there text given parts at d pairs within lies of are =
    let found = member_in_part (member_trees pairs) (open_brace ∷ []) (close_brace ∷ []) parts at d are within in
    let fits = value_fits pairs at found.name given found.value found.has of.writable of.distinct.1
    (omega (arith, of.within)) (lies ∙ (ap (λ l. slice_range l (get_or parts at d).value (get_or parts at d).end)
    of.is ∙ found.valued)) in
    (fits.0, utf8_at pairs at fits.0 of.writable, fits.2)

pub as_many_parts : (front : ℕ) (parts : List MemberPlace) (pairs : List (List ℕ × Tree))
    → AreParts front parts (member_trees pairs) → length parts ≡ length pairs
as_many_parts front [] [] are = refl
as_many_parts front [] (x ∷ xs) are = absurd are
as_many_parts front (p ∷ ps) [] are = absurd are
as_many_parts front (p ∷ ps) (x ∷ xs) are = let more = as_many_parts (p.end + 1) ps xs are.1 in omega (arith, more)

-- ---- the whole line
cons_append : (x : ℕ) (xs ys : List ℕ) → (x ∷ xs) ++ ys ≡ x ∷ (xs ++ ys)
cons_append x xs ys = refl

regroup : (t s i d o m w v l : List ℕ) → ((open_brace
    ∷ (t ++ (colon ∷ (s ++ (comma ∷ (i ++ (colon ∷ (d ++ (comma ∷ (o ++ (colon ∷ open_brace ∷ [])))))))))))
    ++ (m ++ ((close_brace ∷ (comma ∷ (w ++ colon ∷ []))) ++ v))) ++ (l ++ close_brace ∷ [])
    ≡ open_brace ∷ ((t ++ colon ∷ s) ++ (comma
    ∷ ((i ++ colon ∷ d) ++ (comma ∷ ((o ++ colon ∷ (open_brace ∷ (m ++ close_brace ∷ [])))
    ++ (comma ∷ ((w ++ colon ∷ v) ++ l))))))) ++ close_brace ∷ []
regroup t s i d o m w v l = simp (append_assoc, cons_append)

abbrev pub own_part : List ℕ → List (List ℕ × Tree) → Tree → List ℕ
own_part id objects vertices = head_text id
    ++ (compact_members (member_trees objects) ++ (middle_text ++ compact vertices))

pub feature_text : (id : List ℕ) (objects : List (List ℕ × Tree)) (vertices : Tree) (appearance : Option Tree)
    → own_part id objects vertices ++ tail_text appearance ≡ compact (feature_tree id objects vertices appearance)
feature_text id objects vertices appearance =
    regroup (quoted (codes "type")) (quoted (codes "CityJSONFeature")) (quoted (codes "id")) (quoted id)
    (quoted (codes "CityObjects")) (compact_members (member_trees objects)) (quoted (codes "vertices"))
    (compact vertices) (compact_more_members (appearance_members appearance))

module _ (pairs : List (List ℕ × Tree)) (points : List Triple) (root : ℕ) (places table t' o' line₁ line₂ : List ℕ)
    (family : IsFamily (member_trees pairs) root places) (distinct : IsDistinct (object (member_trees pairs)))
    (long : length table ≡ length points) (small : length t' < 2 ^ 64)
    (made : ObjectsMade (length table) table [] line₁ t' o' line₂ (map (named_at pairs) places)) where
  numbered : AreNumbered (uses (map (named_at pairs) places)) t' o'
  numbered = made.1.numbered [] (numbered_none table)

  bounded : AllByRecursion (λ named. IsBounded (length t') named.1) (map (named_at pairs) places)
  bounded = subst (λ n. AllByRecursion (λ named. IsBounded n named.1) (map (named_at pairs) places))
      (sym made.1.extends.long) made.0

  each : (i : ℕ) → i < length o' → slice_get (map (point_at points) o') i ≡ slice_get points (slice_index o' i)
  each i below =
      let inside : slice_index o' i < length points =
      omega (arith, numbered.inside i below, made.1.extends.long, long) in
      rw (slice_get-map, slice_get-get_or o' i 0 below)
      (sym (slice_get-get_or points (slice_index o' i) (triple (pos 0) (pos 0) (pos 0)) inside))

  points_same : SamePoints points (map (named_at pairs) places) (map (point_at points) o')
      (relabelled_objects (own_text t') (map (named_at pairs) places))
  points_same =
      same_points points (map (named_at pairs) places) (map (point_at points) o')
      (relabelled_objects (own_text t') (map (named_at pairs) places)) t' o' numbered
      (objects_same t' small (map (named_at pairs) places) (chosen_distinct pairs root places distinct family) bounded)
      (length-map o' (point_at points)) each

  pub feature_made : (appearance : Option Tree) (line line₃ : List ℕ) (own : List Triple)
      → line₁ ≡ line ++ head_text (named_at pairs root).0 → own ≡ map (point_at points) o'
      → line₃ ≡ line₂ ++ (middle_text ++ compact (vertices_tree own))
      → (feature : FeatureValue) × IsFeatureOf (member_trees pairs) appearance points
      (name_at (member_trees pairs) root) feature
      × HasGrown line line₃ (tail_text appearance) (compact feature.value)
      × ((k : ℕ) → Contains places k → IsBounded (length points) (named_at pairs k).1)
  feature_made appearance line line₃ own head own_is rest =
      let inside : root < length pairs = omega (arith, family.root_inside, names_pairs pairs) in
      let name : (named_at pairs root).0 ≡ name_at (member_trees pairs) root = object_name pairs root inside in
      let written = made.1.written t' o' (extends_same t' o') in
      let text : line₃ ≡ line ++ own_part (named_at pairs root).0
      (relabelled_objects (own_text t') (map (named_at pairs) places)) (vertices_tree own) =
      three line line₁ line₂ line₃ (head_text (named_at pairs root).0)
      (compact_members (member_trees (relabelled_objects (own_text t') (map (named_at pairs) places))))
      (middle_text ++ compact (vertices_tree own)) head written rest in
      let value : Tree = feature_tree (name_at (member_trees pairs) root)
      (relabelled_objects (own_text t') (map (named_at pairs) places)) (vertices_tree (map (point_at points) o'))
      appearance in (
        record { value = value; vertices = map (point_at points) o' },
        record {
          chosen = map (named_at pairs) places;
          objects = relabelled_objects (own_text t') (map (named_at pairs) places);
          reached = chosen_are_those pairs root places family;
          same_points = points_same;
          is = refl;
        },
        (
          own_part (name_at (member_trees pairs) root) (relabelled_objects (own_text t') (map (named_at pairs) places))
              (vertices_tree (map (point_at points) o')),
          text
              ∙ (ap (λ o. line ++ own_part (named_at pairs root).0
              (relabelled_objects (own_text t') (map (named_at pairs) places)) (vertices_tree o)) own_is
              ∙ ap (λ n. line ++ own_part n (relabelled_objects (own_text t') (map (named_at pairs) places))
              (vertices_tree (map (point_at points) o'))) name),
          feature_text (name_at (member_trees pairs) root)
              (relabelled_objects (own_text t') (map (named_at pairs) places)) (vertices_tree (map (point_at points) o'))
              appearance,
        ),
        λ k there. from_map (λ named. IsBounded (length points) named.1) (named_at pairs) places k
            (subst (λ n. AllByRecursion (λ named. IsBounded n named.1) (map (named_at pairs) places)) long made.0) there,
      )
