-- What is reached among identifiers is what is reached among places.
use Rattle.std.proofs.Common.{◌≡◌, ◌≢◌, ◌<◌, ◌+◌, ◌++◌, inl, inr, ℕ, Bool, true, false, List, [], ◌∷◌, Some, length, get_or, map, sym, refl, ap, subst, ◌∙◌, arith, take, ◌==◌, length-append}
use Rattle.std.proofs.lemmas.Bool.{eqb-true, eqb-false}
use Rattle.std.proofs.Math.ListN.{get_or-map}
use Rattle.std.proofs.lemmas.List.{get_or_default, get_or_push, get_or_append_left, length-map, map-append, map_more, take_more}
use Rattle.std.proofs.lemmas.List.Elements.{All-from_recursion, Contains-append_left, Contains-push_cases}
use Rattle.std.proofs.lemmas.Option.{slice_get_within, slice_get-map, slice_get_read, get_or_from_slice_get, same_Some}
use Rattle.std.specs.List.{AllByRecursion, Contains, slice_get}
use Rattle.city_json.specs.Members.{names}
use Rattle.city_json.specs.declared.json.Json.{Json}
use Rattle.city_json.specs.declared.json.Member.{Member}
use Rattle.city_json.specs.Tree.{Tree, tree, members_tree, named_tree, string, MemberTrees}
use Rattle.city_families.specs.CityObjects.{children, has_parents}
use Rattle.city_families.specs.Places.{ArePlaced}
use Rattle.city_families.specs.Items.{values}
use Rattle.city_families.proofs.Kinship.{placed_more}

pub placed_skip : (all : List (List ℕ)) (named : List Tree) (places : List ℕ) (value : Tree)
    → ArePlaced all named places → ((name : List ℕ) → value ≢ string name) → ArePlaced all (named ++ value ∷ []) places
placed_skip all named places value placed other = record {
  sound = λ b c. let p = placed.sound b c in (p.0, p.1, Contains-append_left named (value ∷ []) (string p.0) p.2);
  complete = λ name c. elim (Contains-push_cases named value (string name) c)
      [ inl old ↦ placed.complete name old | inr e ↦ absurd (other name e) ];
}

pub placed_item : (all : List (List ℕ)) (named : List Json) (places places' : List ℕ) (i k : ℕ) (value : Json)
    (name : List ℕ) → ArePlaced all (map tree (take i named)) places → i < length named → value ≡ get_or named i value
    → tree value ≡ string name → slice_get all k ≡ Some name → places' ≡ places ++ k ∷ []
    → ArePlaced all (map tree (take (i + 1) named)) places'
placed_item all named places places' i k value name placed within at is there pushed =
    rw (pushed, take_more named i value within, map-append, ← at, is)
    (placed_more all (map tree (take i named)) places name k placed there)

pub placed_other : (all : List (List ℕ)) (named : List Json) (places : List ℕ) (i : ℕ) (value : Json)
    → ArePlaced all (map tree (take i named)) places → i < length named → value ≡ get_or named i value
    → ((name : List ℕ) → tree value ≢ string name) → ArePlaced all (map tree (take (i + 1) named)) places
placed_other all named places i value placed within at isnt =
    rw (take_more named i value within, map-append, ← at)
    (placed_skip all (map tree (take i named)) places (tree value) placed isnt)

pub among : (named : List Json) (i : ℕ) (value : Json) (name : List ℕ) → i < length named → value ≡ get_or named i value
    → tree value ≡ string name → Contains (map tree named) (string name)
among named i value name within at is = subst (Contains (map tree named)) is (
  i,
  omega (arith, length-map named tree, within),
  get_or_default (map tree named) i (tree value) (tree value) (omega (arith, length-map named tree, within))
      ∙ (get_or-map tree named i value ∙ ap tree (sym at)),
)

pub values_map : (objects : List Member) → values (members_tree objects) ≡ map (λ m. (named_tree m).1) objects
values_map [] = refl
values_map (m ∷ ms) = ap (λ l. (named_tree m).1 ∷ l) (values_map ms)

pub names_long : (objects : List Member) → length (names (members_tree objects)) ≡ length objects
names_long [] = refl
names_long (m ∷ ms) = let e = names_long ms in omega (arith, e)

abbrev pub AreRows : MemberTrees → List (List ℕ) → Type 0
AreRows objects graph = (a : ℕ) (row : List ℕ) (one_object : Tree) → slice_get graph a ≡ Some row
    → slice_get (values objects) a ≡ Some one_object → ArePlaced (names objects) (children one_object) row

pub rows_more : (objects : List Member) (graph graph' : List (List ℕ)) (row : List ℕ) (i : ℕ) (m : Member)
    (value : Tree)
    → AreRows (members_tree objects) graph → length graph ≡ i → i < length objects → m ≡ get_or objects i m
    → value ≡ (named_tree m).1
    → ArePlaced (names (members_tree objects)) (children value) row
    → graph' ≡ graph ++ row ∷ [] → AreRows (members_tree objects) graph'
rows_more objects graph graph' row i m value rows long within at is placed pushed =
    λ a r one_object there of. by a r one_object (a == i) refl (sym (ap (λ g. slice_get g a) pushed) ∙ there) of
  where
    by : (a : ℕ) (r : List ℕ) (one_object : Tree) (b : Bool) → (a == i) ≡ b
        → slice_get (graph ++ row ∷ []) a ≡ Some r → slice_get (values (members_tree objects)) a ≡ Some one_object
        → ArePlaced (names (members_tree objects)) (children one_object) r
    by a r one_object true e there of =
        let same = eqb-true a i e in
        let last : get_or (graph ++ row ∷ []) a r ≡ row = get_or_push graph row r a (long ∙ sym same) in
        let is_row : row ≡ r = sym last ∙ get_or_from_slice_get (graph ++ row ∷ []) a r r there in
        let own : slice_get objects i ≡ Some m = slice_get_read objects (length objects) i m refl within at in
        let is_value : slice_get (values (members_tree objects)) a ≡ Some (named_tree m).1 =
        rw (values_map objects, slice_get-map, same, own) refl in
        let is_object : value ≡ one_object = is ∙ same_Some (named_tree m).1 one_object (sym is_value ∙ of) in
        subst (λ (v : List ℕ). ArePlaced (names (members_tree objects)) (children one_object) v) is_row
        (subst (λ t. ArePlaced (names (members_tree objects)) (children t) row) is_object placed)
    by a r one_object false e there of =
        let inside = slice_get_within (graph ++ row ∷ []) a r there in
        let less : a < length graph = omega (arith, eqb-false a i e, length-append graph (row ∷ []), long, inside) in
        rows a r one_object (slice_get_read graph (length graph) a r refl less
        (sym (sym (get_or_append_left graph (row ∷ []) r a less)
        ∙ get_or_from_slice_get (graph ++ row ∷ []) a r r there))) of

pub value_among : (objects : List Member) (i : ℕ) (m : Member) → i < length objects → m ≡ get_or objects i m
    → Contains (values (members_tree objects)) (named_tree m).1
value_among objects i m within at = rw (values_map objects) (
  i,
  omega (arith, length-map objects (λ m. (named_tree m).1), within),
  get_or_default (map (λ m. (named_tree m).1) objects) i (named_tree m).1 (named_tree m).1
      (omega (arith, length-map objects (λ m. (named_tree m).1), within))
      ∙ (get_or-map (λ m. (named_tree m).1) objects i m ∙ ap (λ (m : Member). (named_tree m).1) (sym at)),
)

-- what holds of the value of each member holds of that at a place
pub at_value : (P : Tree → Type 0) (objects : List Member) (i : ℕ) (m : Member)
    → AllByRecursion P (values (members_tree objects)) → i < length objects → m ≡ get_or objects i m
    → P (named_tree m).1
at_value P objects i m all within at =
    let value : Member → Tree = λ m. (named_tree m).1 in
    subst P (get_or-map value objects i m ∙ ap value (sym at))
    (All-from_recursion P (map value objects) (subst (AllByRecursion P) (values_map objects) all) i (value m)
    (omega (arith, within, length-map objects value)))

-- ---- which objects name parents
abbrev pub names_parents : List ℕ × Tree → Bool
names_parents pair = has_parents pair.1

pub parents_more : (objects : List Member) (at : ℕ) (one : Member) (object : Tree) (has : Bool) (known more : List Bool)
    → at < length objects → one ≡ get_or objects at one → object ≡ (named_tree one).1 → has ≡ has_parents object
    → known ≡ map names_parents (map named_tree (take at objects)) → more ≡ known ++ has ∷ []
    → more ≡ map names_parents (map named_tree (take (at + 1) objects))
parents_more objects at one object has known more within is object_is has_is known_are more_is =
    let before = map named_tree (take at objects) in
    let listed : map named_tree (take (at + 1) objects) ≡ before ++ named_tree one ∷ [] =
    map_more named_tree objects at one within ∙ ap (λ m. before ++ named_tree m ∷ []) (sym is) in
    more_is ∙ (ap (λ b. known ++ b ∷ []) (has_is ∙ ap has_parents object_is)
    ∙ (ap (λ l. l ++ names_parents (named_tree one) ∷ []) known_are
    ∙ (sym (map-append names_parents before (named_tree one ∷ [])) ∙ ap (map names_parents) (sym listed))))
