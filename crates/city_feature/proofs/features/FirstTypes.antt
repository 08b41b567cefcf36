-- The type of a feature whose city object stands first among its objects, and its type first in it.
use Rattle.std.proofs.Common.{◌≡◌, ◌∙◌, ◌++◌, ◌+◌, ◌<◌, ℕ, zero, suc, true, false, if◌then◌else◌, List, [], ◌∷◌, Option, Some, None, IsUtf8, codes, length, take, drop, get_or, refl, sym, ap, subst, arith, append_assoc, append-nil}
use Rattle.std.proofs.lemmas.Bool.Decides.{nat_tests}
use Rattle.std.proofs.lemmas.List.{take_more}
use Rattle.std.proofs.lemmas.Str.{IsUtf8-from_ascii}
use Rattle.std.specs.List.{flat_map, list_all}
use Rattle.std.specs.Option.{IfSome}
use Rattle.city_json.proofs.CompactText.{quoted-spells}
use Rattle.city_json.proofs.Places.{drop_one}
use Rattle.city_json.proofs.ReadString.{decoded-run, decoded-quote, string_at-some, checked-some}
use Rattle.city_json.proofs.SpelledString.{string_at-complete}
use Rattle.city_json.specs.Bytes.{colon, quotation_mark, open_brace, close_brace}
use Rattle.city_json.specs.CompactTexts.{IsCompactOf}
use Rattle.city_json.specs.Compact.{quoted, written, compact, compact_members, compact_more_members}
use Rattle.city_json.specs.Members.{first_named, member_of}
use Rattle.city_json.specs.ReadString.{is_plain, prepend, string_at}
use Rattle.city_json.specs.Tree.{Tree, null, boolean, number, string, array, object, MemberTrees, no_members, member}
use Rattle.city_json.specs.Writable.{IsWritable, AreWritableMembers}
use Rattle.city_json.proofs.NamedMembers.{equal_names}
use Rattle.city_feature.proofs.LineTexts.{number_begins, utf8}
use Rattle.city_feature.specs.LineTexts.{AreLetters, IsLetter}
use Rattle.city_feature.specs.Shapes.{member_in}

abbrev head_of : List ℕ → ℕ
head_of [] = 0
head_of (c ∷ cs) = c

abbrev rest_of : List ℕ → List ℕ
rest_of [] = []
rest_of (c ∷ cs) = cs

abbrev text_of : Option (List ℕ × List ℕ) → List ℕ
text_of None = []
text_of (Some read) = read.0

abbrev left_of : Option (List ℕ × List ℕ) → List ℕ
left_of None = []
left_of (Some read) = read.1

same_reads : (a b x y : List ℕ) → ◌≡◌ {A = Option (List ℕ × List ℕ)} (Some (a, x)) (Some (b, y)) → (a ≡ b) × (x ≡ y)
same_reads a b x y same = (ap text_of same, ap left_of same)

-- a text in its marks ends at its own mark
read_quoted : (a x : List ℕ) → IsUtf8 a → string_at (rest_of (quoted a ++ x)) ≡ Some (a, x)
read_quoted a x is = string_at-complete a (flat_map written a ++ quotation_mark ∷ []) x (quoted-spells a is).0

quoted_front : (a b x y : List ℕ) → IsUtf8 a → IsUtf8 b → quoted a ++ x ≡ quoted b ++ y → (a ≡ b) × (x ≡ y)
quoted_front a b x y is also same =
    same_reads a b x y (sym (read_quoted a x is) ∙ ap (λ l. string_at (rest_of l)) same ∙ read_quoted b y also)

-- letters stand for themselves
plain_letter : (c : ℕ) → IsLetter c → is_plain c ≡ true
plain_letter c (low, high, apart) = grind (arith, nat_tests)

letters_plain : (cs : List ℕ) → AreLetters cs → list_all is_plain cs ≡ true
letters_plain [] all = refl
letters_plain (c ∷ cs) all = rw (plain_letter c all.0, letters_plain cs all.1) refl

small_letters : (cs : List ℕ) → AreLetters cs → (i : ℕ) → get_or cs i 0 < 128
small_letters [] all i = omega arith
small_letters (c ∷ cs) all zero = omega (arith, all.0.1)
small_letters (c ∷ cs) all (suc i) = small_letters cs all.1 i

letters_push : (cs : List ℕ) (c : ℕ) → AreLetters cs → IsLetter c → AreLetters (cs ++ c ∷ [])
letters_push [] c all is = (is, tt)
letters_push (d ∷ cs) c all is = (all.0, letters_push cs c all.1 is)

pub letters_more : (cs : List ℕ) (i : ℕ) → i < length cs → AreLetters (take i cs) → IsLetter (get_or cs i 0)
    → AreLetters (take (i + 1) cs)
letters_more cs i within all is =
    subst AreLetters (sym (take_more cs i 0 within)) (letters_push (take i cs) (get_or cs i 0) all is)

read_letters : (name more : List ℕ) → AreLetters name → string_at (name ++ quotation_mark ∷ more) ≡ Some (name, more)
read_letters name more all =
    string_at-some (name ++ quotation_mark ∷ more) name more
    (decoded-run name (quotation_mark ∷ more) (letters_plain name all) ∙ ap (prepend name) (decoded-quote more)
    ∙ ap (λ l. Some (l, more)) (append-nil name))
    ∙ checked-some name more (IsUtf8-from_ascii name (small_letters name all))

-- how values begin
module _ (x rest : List ℕ) where
  number_head : (text : List ℕ) (mark : ℕ) → 57 < mark → IsWritable (number text) → text ++ x ≡ mark ∷ rest → ⊥
  number_head text mark far writable is =
      let begins = number_begins text writable in
      let here : begins.0 ≡ mark = ap head_of (ap (λ l. l ++ x) (sym begins.2) ∙ is) in
      omega (arith, begins.4, here, far)

  text_head : (text : List ℕ) (mark : ℕ) → mark < 45 → IsWritable (number text) → text ++ x ≡ mark ∷ rest → ⊥
  text_head text mark far writable is =
      let begins = number_begins text writable in
      let here : begins.0 ≡ mark = ap head_of (ap (λ l. l ++ x) (sym begins.2) ∙ is) in
      omega (arith, begins.3, here, far)

  object_front : (v : Tree) → IsWritable v → compact v ++ x ≡ open_brace ∷ rest → (members : MemberTrees)
      × (v ≡ object members) × AreWritableMembers members × (compact_members members ++ close_brace ∷ x ≡ rest)
  object_front null writable is = absurd (omega (arith, ap head_of is))
  object_front (boolean true) writable is = absurd (omega (arith, ap head_of is))
  object_front (boolean false) writable is = absurd (omega (arith, ap head_of is))
  object_front (number text) writable is = absurd (number_head text open_brace (omega arith) writable is)
  object_front (string text) writable is = absurd (omega (arith, ap head_of is))
  object_front (array items) writable is = absurd (omega (arith, ap head_of is))
  object_front (object members) writable is =
      (members, refl, writable, sym (append_assoc (compact_members members) (close_brace ∷ []) x) ∙ ap rest_of is)

  string_front : (v : Tree) → IsWritable v → compact v ++ x ≡ quotation_mark ∷ rest → (text : List ℕ)
      × (v ≡ string text) × IsUtf8 text × (quoted text ++ x ≡ quotation_mark ∷ rest)
  string_front null writable is = absurd (omega (arith, ap head_of is))
  string_front (boolean true) writable is = absurd (omega (arith, ap head_of is))
  string_front (boolean false) writable is = absurd (omega (arith, ap head_of is))
  string_front (number text) writable is = absurd (text_head text quotation_mark (omega arith) writable is)
  string_front (string text) writable is = (text, refl, writable, is)
  string_front (array items) writable is = absurd (omega (arith, ap head_of is))
  string_front (object all) writable is = absurd (omega (arith, ap head_of is))

regroup : (q v more x : List ℕ) → ((q ++ colon ∷ v) ++ more) ++ x ≡ q ++ (colon ∷ (v ++ (more ++ x)))
regroup q v more x = simp append_assoc

member_front : (members : MemberTrees) (x name y : List ℕ) → IsUtf8 name → AreWritableMembers members
    → compact_members members ++ close_brace ∷ x ≡ quoted name ++ y
    → (v : Tree) × (others : MemberTrees) × (members ≡ member name v others) × IsWritable v
    × (colon ∷ (compact v ++ (compact_more_members others ++ close_brace ∷ x)) ≡ y)
member_front no_members x name y is writable same = absurd (omega (arith, ap head_of same))
member_front (member n v others) x name y is writable same =
    let front = quoted_front n name (colon ∷ (compact v ++ (compact_more_members others ++ close_brace ∷ x))) y
    writable.0 is (sym (regroup (quoted n) (compact v) (compact_more_members others) (close_brace ∷ x)) ∙ same) in
    (v, others, ap (λ k. member k v others) front.0, writable.1, front.1)

first_is : (name : List ℕ) (v : Tree) (others : MemberTrees) → first_named name (member name v others) ≡ Some v
first_is name v others = ap (λ b. if b then Some v else first_named name others) (equal_names name name refl)

type_in_text : (value : Tree) (id name more : List ℕ) → IsWritable value → IsUtf8 id → AreLetters name
    → compact value ≡ open_brace ∷ (quoted id
    ++ (colon ∷ (open_brace ∷ (quoted (codes "type")
    ++ (colon ∷ (quotation_mark ∷ (name ++ quotation_mark ∷ more)))))))
    → member_in (codes "type") (member_in id (Some value)) ≡ Some (string name)
type_in_text value id name more writable is letters begins =
    let (objects, value_is, objects_writable, objects_are) =
    object_front [] _ value writable (append-nil (compact value) ∙ begins) in
    let (object_tree, others, objects_is, object_writable, object_is) =
    member_front objects [] id _ is objects_writable objects_are in
    let (members, object_tree_is, members_writable, members_are) =
    object_front (compact_more_members others ++ close_brace ∷ []) _ object_tree object_writable
    (ap rest_of object_is) in
    let (type_tree, further, members_is, type_writable, type_is) =
    member_front members (compact_more_members others ++ close_brace ∷ []) (codes "type") _
    (utf8 (codes "type") refl) members_writable members_are in
    let beyond = compact_more_members further ++ close_brace ∷ (compact_more_members others ++ close_brace ∷ []) in
    let (text, type_tree_is, text_utf8, text_is) = string_front beyond _ type_tree type_writable (ap rest_of type_is) in
    let same : text ≡ name = (same_reads text name beyond more (sym (read_quoted text beyond text_utf8)
    ∙ ap (λ l. string_at (rest_of l)) text_is ∙ read_letters name more letters)).0 in
    ap (λ t. member_in (codes "type") (member_in id (Some t))) value_is
    ∙ ap (λ m. member_in (codes "type") (first_named id m)) objects_is
    ∙ ap (member_in (codes "type")) (first_is id object_tree others)
    ∙ ap (member_of (codes "type")) object_tree_is
    ∙ ap (first_named (codes "type")) members_is
    ∙ first_is (codes "type") type_tree further
    ∙ ap Some (type_tree_is ∙ ap string same)

pub type_at : (all : MemberTrees) (id name objects first object_text value more : List ℕ)
    → (found : Tree) × (first_named (codes "CityObjects") all ≡ Some found) × IsCompactOf objects found
    → IsUtf8 id → AreLetters name → objects ≡ open_brace ∷ first → first ≡ quoted id ++ object_text
    → object_text ≡ colon ∷ (open_brace ∷ (quoted (codes "type") ++ (colon ∷ (quotation_mark ∷ value))))
    → value ≡ name ++ quotation_mark ∷ more
    → member_in (codes "type") (member_in id (first_named (codes "CityObjects") all)) ≡ Some (string name)
type_at all id name objects first object_text value more (found, is, of) id_utf8 letters first_is_it id_is object_is
    value_is =
    let begins : compact found ≡ open_brace
    ∷ (quoted id ++ (colon ∷ (open_brace
    ∷ (quoted (codes "type") ++ (colon ∷ (quotation_mark ∷ (name ++ quotation_mark ∷ more))))))) =
    sym of.is ∙ first_is_it
    ∙ ap (λ l. open_brace ∷ l) (id_is
    ∙ ap (λ l. quoted id ++ l) (object_is
    ∙ ap (λ l. colon ∷ (open_brace ∷ (quoted (codes "type") ++ (colon ∷ (quotation_mark ∷ l))))) value_is)) in
    ap (λ o. member_in (codes "type") (member_in id o)) is
    ∙ type_in_text found id name more of.writable id_utf8 letters begins

-- letters between the marks of a text
pub letters_spelled : (text name more : List ℕ) (value : Tree) → IsWritable value → text ≡ compact value
    → 0 < length text → get_or text 0 0 ≡ quotation_mark → AreLetters name
    → drop 1 text ≡ name ++ quotation_mark ∷ more → value ≡ string name
letters_spelled text name more value writable is within marked letters rest_is =
    let begins : compact value ≡ quotation_mark ∷ (name ++ quotation_mark ∷ more) =
    sym is ∙ drop_one text 0 quotation_mark within marked ∙ ap (λ l. quotation_mark ∷ l) rest_is in
    let (spelled, value_is, utf8_is, text_is) =
    string_front [] (name ++ quotation_mark ∷ more) value writable (append-nil (compact value) ∙ begins) in
    let same : spelled ≡ name = (same_reads spelled name [] more (sym (read_quoted spelled [] utf8_is)
    ∙ ap (λ l. string_at (rest_of l)) text_is ∙ read_letters name more letters)).0 in
    value_is ∙ ap string same

-- what is told of a name that is found
pub if_some_type : {B : Type 0} (now : B → List ℕ) (found : Option B) (text : List ℕ) (P : List ℕ → Type 0)
    → ((name : List ℕ) → AreLetters name → (more : List ℕ) → text ≡ name ++ quotation_mark ∷ more → P name)
    → IfSome found (λ name. AreLetters (now name) × (more : List ℕ) × (text ≡ now name ++ quotation_mark ∷ more))
    → IfSome found (λ name. P (now name))
if_some_type now None text P onward told = tt
if_some_type now (Some name) text P onward told = onward (now name) told.0 told.1 told.2
