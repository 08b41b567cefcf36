-- The children of city objects, found by the texts of their names.
use Rattle.std.proofs.Common.{◌≡◌, ◌∙◌, ◌++◌, ◌<◌, ◌+◌, ℕ, zero, suc, Bool, List, [], ◌∷◌, Option, Some, None, IsUtf8, length, map, take, get_or, unwrap_or, refl, sym, ap, subst, arith, codes}
use Rattle.std.proofs.lemmas.List.{get_or_default, length-map, map-append, take_more}
use Rattle.std.proofs.lemmas.Option.{slice_get-map, slice_get-get_or, same_Some}
use Rattle.std.specs.Borrow.{Bor}
use Rattle.std.specs.List.{AllByRecursion, AllZip, Contains, slice_get}
use Rattle.city_json.proofs.CompactLaws.{compact-tells}
use Rattle.city_json.specs.Compact.{quoted}
use Rattle.city_json.specs.Members.{member_of, names}
use Rattle.city_json.specs.Tree.{Tree, null, boolean, number, string, array, object, no_items, member_trees}
use Rattle.city_json.specs.Writable.{AreWritableMembers}
use Rattle.city_feature.specs.Shapes.{WhereThere}
use Rattle.city_families.specs.Chosen.{named_at}
use Rattle.city_families.specs.CityObjects.{AreCityObjects, AreTexts, children, has_parents}
use Rattle.city_families.specs.Families.{AreRelated}
use Rattle.cut_on_text.specs.PlacedObjects.{AreObjects, PlacedObjects}
use Rattle.cut_on_text.specs.Graphs.{HasRow, HaveRows, NamesMissing, SomeNamesMissing}
use Rattle.city_families.specs.Items.{item_list, items_of, values}
use Rattle.cut_on_text.specs.Kin.{AreQuoted, HasChildrenText, HasParents, IsQuoted}
use Rattle.cut_on_text.specs.Overviews.{HasChildrenIn, HasParentsIn}
use Rattle.city_families.specs.Places.{ArePlaced}
use Rattle.city_families.specs.Table.{IsTable}
use Rattle.city_families.proofs.FeatureList.{zip_long}
use Rattle.city_families.proofs.Kinship.{names_pairs, placed_more}
use Rattle.cut_on_text.proofs.TextNames.{are_texts}
use Rattle.cut_on_text.proofs.TextOverviews.{said_all}
use Rattle.city_families.proofs.Seeking.{zip_push}

string_same : (a b : List ℕ) → string a ≡ string b → a ≡ b
string_same a b same = ap content same
  where
    content : Tree → List ℕ
    content (string text) = text
    content other = []

-- two texts with the same marks around them are the same
quoted_same : (a b : List ℕ) → IsUtf8 a → IsUtf8 b → quoted a ≡ quoted b → a ≡ b
quoted_same a b first second same = string_same a b (compact-tells (string a) (string b) first second same)

-- ---- the table
pub quoted_at : (pairs : List (List ℕ × Tree)) (at : ℕ) (id : List ℕ) → at < length pairs
    → id ≡ quoted (named_at pairs at).0 → slice_get (map (λ (pair : List ℕ × Tree). quoted pair.0) pairs) at ≡ Some id
quoted_at pairs at id inside is = rw (slice_get-map, slice_get-get_or pairs at ([], null) inside) (ap Some (sym is))

-- ---- the places of names
abbrev pub named_by : List (Bor (List ℕ)) → List Tree
named_by given = map (λ (one : Bor (List ℕ)). string one.now) given

pub placed_text : (all : List (List ℕ)) (given : List (Bor (List ℕ))) (places places' : List ℕ) (i k : ℕ)
    (d : Bor (List ℕ)) → ArePlaced all (named_by (take i given)) places → i < length given
    → slice_get all k ≡ Some (get_or given i d).now → places' ≡ places ++ k ∷ [] → ArePlaced all (named_by (take (i + 1) given)) places'
placed_text all given places places' i k d placed within there pushed =
    rw (take_more given i d within, map-append, pushed)
    (placed_more all (named_by (take i given)) places (get_or given i d).now k placed there)

-- a name whose text stands at a place
record IsNameAt (all : List (List ℕ)) (b : ℕ) (quotes : List ℕ) : Type 0 where
  pub name : List ℕ
  pub is_there : slice_get all b ≡ Some name
  pub is_text : quotes ≡ quoted name
  pub utf8 : IsUtf8 name

name_at_place : (all : List (List ℕ)) (b : ℕ) (quotes : List ℕ) → AllByRecursion IsUtf8 all
    → slice_get (map quoted all) b ≡ Some quotes → IsNameAt all b quotes
name_at_place [] b quotes utf8 is = cc
name_at_place (n ∷ ns) zero quotes utf8 is = record {
  name = n;
  is_there = refl;
  is_text = sym (same_Some (quoted n) quotes is);
  utf8 = utf8.0;
}
name_at_place (n ∷ ns) (suc b) quotes utf8 is =
    let later = name_at_place ns b quotes utf8.1 is in
    record { name = later.name; is_there = later.is_there; is_text = later.is_text; utf8 = later.utf8 }

-- a text among values, whose text with its marks is given
record IsTextAmong (trees : List Tree) (quotes : List ℕ) : Type 0 where
  pub text : List ℕ
  pub among : Contains trees (string text)
  pub is_text : quotes ≡ quoted text
  pub utf8 : IsUtf8 text

first_text : (one : Bor (List ℕ)) (value : Tree) (trees : List Tree) (quotes : List ℕ) → IsQuoted one value
    → one.now ≡ quotes → IsTextAmong (value ∷ trees) quotes
first_text one (string text) trees quotes is same = record {
  text = text;
  among = (0, omega arith, refl);
  is_text = sym same ∙ is.0;
  utf8 = is.1;
}
first_text one null trees quotes is same = absurd is
first_text one (boolean b) trees quotes is same = absurd is
first_text one (number text) trees quotes is same = absurd is
first_text one (array items) trees quotes is same = absurd is
first_text one (object members) trees quotes is same = absurd is

text_among : (given : List (Bor (List ℕ))) (trees : List Tree) (quotes : List ℕ) (i : ℕ) → AllZip IsQuoted given trees
    → i < length (named_by given) → get_or (named_by given) i (string quotes) ≡ string quotes
    → IsTextAmong trees quotes
text_among [] trees quotes i zip within is = absurd (omega (arith, within))
text_among (x ∷ xs) [] quotes i zip within is = absurd zip
text_among (x ∷ xs) (t ∷ ts) quotes zero zip within is = first_text x t ts quotes zip.0 (string_same x.now quotes is)
text_among (x ∷ xs) (t ∷ ts) quotes (suc i) zip within is =
    let later = text_among xs ts quotes i zip.1 (omega (arith, within)) is in
    record {
      text = later.text;
      among = (suc later.among.0, omega (arith, later.among.1), later.among.2);
      is_text = later.is_text;
      utf8 = later.utf8;
    }

quoted_among : (given : List (Bor (List ℕ))) (trees : List Tree) (one : Bor (List ℕ)) (i : ℕ)
    → AllZip IsQuoted given trees → i < length given → get_or given i one ≡ one → IsTextAmong trees one.now
quoted_among [] trees one i zip within is = absurd (omega (arith, within))
quoted_among (x ∷ xs) [] one i zip within is = absurd zip
quoted_among (x ∷ xs) (t ∷ ts) one zero zip within is =
    first_text x t ts one.now zip.0 (ap (λ (b : Bor (List ℕ)). b.now) is)
quoted_among (x ∷ xs) (t ∷ ts) one (suc i) zip within is =
    let later = quoted_among xs ts one i zip.1 (omega (arith, within)) is in
    record {
      text = later.text;
      among = (suc later.among.0, omega (arith, later.among.1), later.among.2);
      is_text = later.is_text;
      utf8 = later.utf8;
    }

first_given : (one : Bor (List ℕ)) (value : Tree) (name : List ℕ) → IsQuoted one value → value ≡ string name
    → (string one.now ≡ string (quoted name)) × IsUtf8 name
first_given one (string text) name is same =
    let e = string_same text name same in (ap string (is.0 ∙ ap quoted e), subst IsUtf8 e is.1)
first_given one null name is same = absurd is
first_given one (boolean b) name is same = absurd is
first_given one (number text) name is same = absurd is
first_given one (array items) name is same = absurd is
first_given one (object members) name is same = absurd is

given_among : (given : List (Bor (List ℕ))) (trees : List Tree) (name : List ℕ) (i : ℕ) → AllZip IsQuoted given trees
    → i < length trees → get_or trees i (string name) ≡ string name
    → Contains (named_by given) (string (quoted name)) × IsUtf8 name
given_among given [] name i zip within is = absurd (omega (arith, within))
given_among [] (t ∷ ts) name i zip within is = absurd zip
given_among (x ∷ xs) (t ∷ ts) name zero zip within is =
    let here = first_given x t name zip.0 is in ((0, omega arith, here.0), here.1)
given_among (x ∷ xs) (t ∷ ts) name (suc i) zip within is =
    let later = given_among xs ts name i zip.1 (omega (arith, within)) is in
    ((suc later.0.0, omega (arith, later.0.1), later.0.2), later.1)

-- the places by the names' texts are those by the names
unmarked : (all : List (List ℕ)) (given : List (Bor (List ℕ))) (trees : List Tree) (places : List ℕ)
    → AllByRecursion IsUtf8 all → AllZip IsQuoted given trees → ArePlaced (map quoted all) (named_by given) places
    → ArePlaced all trees places
unmarked all given trees places utf8 zip placed = record {
  sound = λ b c.
      let (quotes, there, among) = placed.sound b c in
      let at = name_at_place all b quotes utf8 there in
      let text = text_among given trees quotes among.0 zip among.1 among.2 in (
        at.name,
        at.is_there,
        subst (λ t. Contains trees (string t))
            (quoted_same text.text at.name text.utf8 at.utf8 (sym text.is_text ∙ at.is_text)) text.among,
      );
  complete = λ name c.
      let (named, name_utf8) = given_among given trees name c.0 zip c.1 c.2 in
      let (b, among, there) = placed.complete (quoted name) named in
      let at = name_at_place all b (quoted name) utf8 there in (
        b,
        among,
        at.is_there ∙ ap Some (sym (quoted_same name at.name name_utf8 at.utf8 at.is_text)),
      );
}

pub rows_more : (all : List (List ℕ)) (texts : List (Bor (List ℕ))) (rows rows' : List (List ℕ)) (i : ℕ)
    (d : Bor (List ℕ)) (row : List ℕ) → HaveRows all (take i texts) rows → i < length texts
    → HasRow all (get_or texts i d).now row → rows' ≡ rows ++ row ∷ [] → HaveRows all (take (i + 1) texts) rows'
rows_more all texts rows rows' i d row have within is pushed = rw (take_more texts i d within, pushed)
    (zip_push (λ (text : Bor (List ℕ)) (r : List ℕ). HasRow all text.now r) (take i texts) rows (get_or texts i d)
    row have is)

pub row_said : (all : List (List ℕ)) (given : List (Bor (List ℕ))) (value : Tree) (places : List ℕ)
    → AllByRecursion IsUtf8 all → AreQuoted given value → ArePlaced (map quoted all) (named_by given) places
    → AreTexts value × ArePlaced all (items_of (Some value)) places
row_said all given value places utf8 (items, is, zip) placed = (
  are_texts given value (items, is, zip),
  subst (λ v. ArePlaced all (items_of (Some v)) places) (sym is)
      (unmarked all given (item_list items) places utf8 zip placed),
)

-- ---- names that are not there
pub missing_here : (names : List (List ℕ)) (given : List (Bor (List ℕ))) (i : ℕ) (d : Bor (List ℕ)) → i < length given
    → ((k : ℕ) → slice_get names k ≡ Some (get_or given i d).now → ⊥) → (one : Bor (List ℕ)) × Contains given one
    × ((k : ℕ) → slice_get names k ≡ Some one.now → ⊥)
missing_here names given i d within none =
    (get_or given i d, (i, within, get_or_default given i (get_or given i d) d within), none)

pub missing_said : (all : List (List ℕ)) (given : List (Bor (List ℕ))) (value : Tree) → AreQuoted given value
    → ((one : Bor (List ℕ)) × Contains given one × ((k : ℕ) → slice_get (map quoted all) k ≡ Some one.now → ⊥))
    → (name : List ℕ) × Contains (items_of (Some value)) (string name) × (Contains all name → ⊥)
missing_said all given value (items, is, zip) (one, among, none) =
    let text = quoted_among given (item_list items) one among.0 zip among.1 among.2 in (
      text.text,
      subst (λ v. Contains (items_of (Some v)) (string text.text)) (sym is) text.among,
      λ there. none there.0 (rw (slice_get-map, slice_get-get_or all there.0 text.text there.1)
          (ap Some (ap quoted there.2 ∙ sym text.is_text))),
    )

pub some_missing : (all : List (List ℕ)) (texts : List (Bor (List ℕ))) (i : ℕ) (d : Bor (List ℕ)) → i < length texts
    → NamesMissing all (get_or texts i d).now → SomeNamesMissing all texts
some_missing all texts i d within missing =
    (get_or texts i d, (i, within, get_or_default texts i (get_or texts i d) d within), missing)

-- ---- what was found of each object is so of the objects
parents_are : (parents : List Bool) (pairs : List (List ℕ × Tree))
    → AllZip (λ (has : Bool) (pair : List ℕ × Tree). HasParents pair.1 has) parents pairs
    → parents ≡ map (λ (pair : List ℕ × Tree). has_parents pair.1) pairs
parents_are [] [] all = refl
parents_are [] (y ∷ ys) all = absurd all
parents_are (x ∷ xs) [] all = absurd all
parents_are (x ∷ xs) (y ∷ ys) all = ap (λ b. b ∷ xs) all.0.is_so ∙ ap (λ l. has_parents y.1 ∷ l) (parents_are xs ys all.1)

-- the row of an object
abbrev IsRowOf : List (List ℕ) → Tree → List ℕ → Type 0
IsRowOf all value row = WhereThere AreTexts (member_of (codes "children") value)
    × ArePlaced all (children value) row

row_or : (all : List (List ℕ)) (there : Option Tree) (places : List ℕ)
    → AreTexts (unwrap_or there (array no_items))
    × ArePlaced all (items_of (Some (unwrap_or there (array no_items)))) places
    → WhereThere AreTexts there × ArePlaced all (items_of there) places
row_or all None places said = (tt, said.1)
row_or all (Some value) places said = said

rows_are : (all : List (List ℕ)) (given : List (Bor (List ℕ))) (graph : List (List ℕ))
    (pairs : List (List ℕ × Tree))
    → AllZip (λ (x : Bor (List ℕ)) (pair : List ℕ × Tree). HasChildrenText pair.1 x) given pairs
    → HaveRows all given graph
    → AllZip (λ (row : List ℕ) (pair : List ℕ × Tree). IsRowOf all pair.1 row) graph pairs
rows_are all [] [] [] texts rows = tt
rows_are all [] [] (p ∷ ps) texts rows = absurd texts
rows_are all [] (r ∷ rs) pairs texts rows = absurd rows
rows_are all (x ∷ xs) [] pairs texts rows = absurd rows
rows_are all (x ∷ xs) (r ∷ rs) [] texts rows = absurd texts
rows_are all (x ∷ xs) (r ∷ rs) (p ∷ ps) texts rows = (
  row_or all (member_of (codes "children") p.1) r (rows.0 _ texts.0),
  rows_are all xs rs ps texts.1 rows.1,
)

rows_at : (all : List (List ℕ)) (graph : List (List ℕ)) (pairs : List (List ℕ × Tree))
    → AllZip (λ (row : List ℕ) (pair : List ℕ × Tree). IsRowOf all pair.1 row) graph pairs
    → (a : ℕ) (row : List ℕ) (value : Tree) → slice_get graph a ≡ Some row
    → slice_get (values (member_trees pairs)) a ≡ Some value → ArePlaced all (children value) row
rows_at all [] [] zip a row value here there = cc
rows_at all [] (p ∷ ps) zip a row value here there = absurd zip
rows_at all (r ∷ rs) [] zip a row value here there = absurd zip
rows_at all (r ∷ rs) (p ∷ ps) zip zero row value here there =
    subst (λ (v : List ℕ). ArePlaced all (children value) v) (same_Some r row here)
    (subst (λ v. ArePlaced all (children v) r) (same_Some p.1 value there) zip.0.1)
rows_at all (r ∷ rs) (p ∷ ps) zip (suc a) row value here there = rows_at all rs ps zip.1 a row value here there

city_objects_are : (all : List (List ℕ)) (parents : List Bool) (graph : List (List ℕ))
    (pairs : List (List ℕ × Tree))
    → AllZip (λ (has : Bool) (pair : List ℕ × Tree). HasParents pair.1 has) parents pairs
    → AllZip (λ (row : List ℕ) (pair : List ℕ × Tree). IsRowOf all pair.1 row) graph pairs
    → AreCityObjects (member_trees pairs)
city_objects_are all [] graph [] said rows = tt
city_objects_are all [] graph (p ∷ ps) said rows = absurd said
city_objects_are all (x ∷ xs) graph [] said rows = absurd said
city_objects_are all (x ∷ xs) [] (p ∷ ps) said rows = absurd rows
city_objects_are all (x ∷ xs) (r ∷ rs) (p ∷ ps) said rows =
    ((said.0.is_object, said.0.texts, rows.0.0), city_objects_are all xs rs ps said.1 rows.1)

pub quoted_names : (pairs : List (List ℕ × Tree))
    → map (λ (pair : List ℕ × Tree). quoted pair.0) pairs ≡ map quoted (names (member_trees pairs))
quoted_names [] = refl
quoted_names (p ∷ ps) = ap (λ l. quoted p.0 ∷ l) (quoted_names ps)

pub names_utf8 : (pairs : List (List ℕ × Tree)) → AreWritableMembers (member_trees pairs)
    → AllByRecursion IsUtf8 (names (member_trees pairs))
names_utf8 [] w = tt
names_utf8 (p ∷ ps) w = (w.0, names_utf8 ps w.2)

-- the objects have these children, and of them these have parents
pub related : (objects : PlacedObjects) (parents : List Bool) (given lent : List (Bor (List ℕ)))
    (graph : List (List ℕ)) (table : List (Bor (List ℕ) × ℕ))
    → AllZip (HasParentsIn objects.text) objects.places parents → AllZip (HasChildrenIn objects.text) objects.places given
    → lent ≡ given
    → ((pairs : List (List ℕ × Tree)) → AreObjects objects pairs
    → IsTable (map (λ (pair : List ℕ × Tree). quoted pair.0) pairs) table)
    → ((all : List (List ℕ)) → AllByRecursion IsUtf8 all → IsTable (map quoted all) table → HaveRows all lent graph)
    → (pairs : List (List ℕ × Tree)) → AreObjects objects pairs
    → AreRelated pairs graph parents × AreCityObjects (member_trees pairs)
related objects parents given lent graph table in_parts texts same tabled rows pairs are =
    let (of, listed) = are in
    let all = names (member_trees pairs) in
    let said = said_all HasParents objects.text objects.places parents pairs in_parts of listed in
    let found = rows_are all given graph pairs (said_all HasChildrenText objects.text objects.places given pairs texts of listed)
    (subst (λ l. HaveRows all l graph) same (rows all (names_utf8 pairs of.writable)
    (subst (λ l. IsTable l table) (quoted_names pairs) (tabled pairs are)))) in (
      record {
        differ = of.distinct.0;
        linked = record {
          long = zip_long (λ (row : List ℕ) (pair : List ℕ × Tree). IsRowOf all pair.1 row) graph pairs found
              ∙ sym (names_pairs pairs);
          rows = rows_at all graph pairs found;
        };
        parted = parents_are parents pairs said;
      },
      city_objects_are all parents graph pairs said found,
    )

pub same_long : (pairs : List (List ℕ × Tree)) (graph : List (List ℕ)) (parents : List Bool)
    → AreRelated pairs graph parents → length parents ≡ length graph
same_long pairs graph parents rel = omega (
  arith,
  ap length rel.parted,
  length-map pairs (λ (pair : List ℕ × Tree). has_parents pair.1),
  rel.linked.long,
  names_pairs pairs,
)
