-- Where values end in a compact text, and arrays.
use Rattle.std.proofs.Common.{◌≡◌, ◌≢◌, ◌++◌, ◌∙◌, ◌≤◌, ◌<◌, ◌+◌, ℕ, List, [], ◌∷◌, true, false, length, drop, get_or, inl, inr, refl, ap, sym, subst, arith, append_assoc, length-append, length-drop, Option, Some, None, slice_range}
use Rattle.std.proofs.lemmas.List.Folds.{drop_split}
use Rattle.city_json.specs.Reading.{value_at}
use Rattle.city_json.specs.Whole.{IsItemsText}
use Rattle.city_json.proofs.CompactLaws.{spelled}
use Rattle.city_json.proofs.Complete.{array_complete}
use Rattle.std.proofs.lemmas.Bool.Decides.{nat_tests}
use Rattle.std.specs.List.{flat_map, AllByRecursion}
use Rattle.city_json.specs.Number.{IsNumber}
use Rattle.city_json.specs.NumberAt.{is_number_byte}
use Rattle.city_json.proofs.NumberLaws.{IsNumber-bytes, number_starts}
use Rattle.city_json.specs.Bytes.{quotation_mark, comma, open_bracket, close_bracket, open_brace, close_brace}
use Rattle.city_json.specs.Compact.{written, compact, compact_items, compact_more_items, compact_members}
use Rattle.city_json.specs.CompactEnds.{IsStopped, is_stop, LeavesRun, LeavesItems, LeavesMembers, LeavesString, LeavesValue}
use Rattle.city_json.specs.Fits.{depth, items_depth}
use Rattle.city_json.specs.Tree.{Tree, null, boolean, number, string, array, object, ItemTrees, MemberTrees, no_items, item}
use Rattle.city_json.specs.Writable.{IsWritable, AreWritableItems}
use Rattle.city_json.proofs.Places.{drop_one}
use Rattle.city_json.proofs.StringEnds.{first_same, others_same}

-- a run of bytes that end nothing

-- how a value begins

number_head : (text rest tail : List ℕ) (c : ℕ) → IsNumber text → text ++ rest ≡ c ∷ tail → is_number_byte c ≡ true
number_head [] rest tail c w is = absurd (number_starts [] w)
number_head (d ∷ text) rest tail c w is = ap is_number_byte (first_same _ _ _ _ (sym is))
    ∙ (IsNumber-bytes (d ∷ text) w).0

-- no value begins with such a byte
abbrev pub IsHead : ℕ → Type 0
IsHead c = (c ≢ comma) × (c ≢ close_bracket) × (c ≢ close_brace) × (0 < c)

number_is_head : (c : ℕ) → is_number_byte c ≡ true → IsHead c
number_is_head c is = (
  grind (arith, nat_tests),
  grind (arith, nat_tests),
  grind (arith, nat_tests),
  grind (arith, nat_tests),
)

literal_head : (d c : ℕ) (xs tail : List ℕ) → IsHead d → d ∷ xs ≡ c ∷ tail → IsHead c
literal_head d c xs tail head is = subst IsHead (first_same _ _ _ _ is) head

pub head_of : (value : Tree) (rest tail : List ℕ) (c : ℕ) → IsWritable value → compact value ++ rest ≡ c ∷ tail → IsHead c
head_of null rest tail c w is = literal_head 110 c _ tail (omega arith, omega arith, omega arith, omega arith) is
head_of (boolean true) rest tail c w is = literal_head 116 c _ tail (omega arith, omega arith, omega arith, omega arith)
    is
head_of (boolean false) rest tail c w is =
    literal_head 102 c _ tail (omega arith, omega arith, omega arith, omega arith) is
head_of (number text) rest tail c w is = number_is_head c (number_head text rest tail c w is)
head_of (string text) rest tail c w is = literal_head quotation_mark c _ tail
    (omega arith, omega arith, omega arith, omega arith) is
head_of (array items) rest tail c w is = literal_head open_bracket c _ tail
    (omega arith, omega arith, omega arith, omega arith) is
head_of (object all) rest tail c w is = literal_head open_brace c _ tail
    (omega arith, omega arith, omega arith, omega arith) is

-- the values, by their first byte

pub other_head : (d c : ℕ) (xs tail : List ℕ) → d ≢ c → d ∷ xs ≡ c ∷ tail → ⊥
other_head d c xs tail apart is = apart (first_same _ _ _ _ is)

pub number_other : (text rest tail : List ℕ) (c : ℕ) → IsNumber text → is_number_byte c ≡ false
    → text ++ rest ≡ c ∷ tail → ⊥
number_other text rest tail c w other is = true_is_false (sym (number_head text rest tail c w is) ∙ other)
  where
    true_is_false : true ≡ false → ⊥
    true_is_false e = cc

-- what begins with a mark is what the mark opens
pub text_front : (value : Tree) (rest tail : List ℕ) → IsWritable value → compact value ++ rest ≡ quotation_mark ∷ tail
    → (text : List ℕ) × (value ≡ string text)
text_front null rest tail w is = absurd (other_head 110 quotation_mark _ tail (omega arith) is)
text_front (boolean true) rest tail w is = absurd (other_head 116 quotation_mark _ tail (omega arith) is)
text_front (boolean false) rest tail w is = absurd (other_head 102 quotation_mark _ tail (omega arith) is)
text_front (number text) rest tail w is = absurd (number_other text rest tail quotation_mark w refl is)
text_front (string text) rest tail w is = (text, refl)
text_front (array items) rest tail w is = absurd (other_head open_bracket quotation_mark _ tail (omega arith) is)
text_front (object members) rest tail w is = absurd (other_head open_brace quotation_mark _ tail (omega arith) is)

pub array_front : (value : Tree) (rest tail : List ℕ) → IsWritable value → compact value ++ rest ≡ open_bracket ∷ tail
    → (items : ItemTrees) × (value ≡ array items)
array_front null rest tail w is = absurd (other_head 110 open_bracket _ tail (omega arith) is)
array_front (boolean true) rest tail w is = absurd (other_head 116 open_bracket _ tail (omega arith) is)
array_front (boolean false) rest tail w is = absurd (other_head 102 open_bracket _ tail (omega arith) is)
array_front (number text) rest tail w is = absurd (number_other text rest tail open_bracket w refl is)
array_front (string text) rest tail w is = absurd (other_head quotation_mark open_bracket _ tail (omega arith) is)
array_front (array items) rest tail w is = (items, refl)
array_front (object members) rest tail w is = absurd (other_head open_brace open_bracket _ tail (omega arith) is)

pub object_front : (value : Tree) (rest tail : List ℕ) → IsWritable value → compact value ++ rest ≡ open_brace ∷ tail
    → (members : MemberTrees) × (value ≡ object members)
object_front null rest tail w is = absurd (other_head 110 open_brace _ tail (omega arith) is)
object_front (boolean true) rest tail w is = absurd (other_head 116 open_brace _ tail (omega arith) is)
object_front (boolean false) rest tail w is = absurd (other_head 102 open_brace _ tail (omega arith) is)
object_front (number text) rest tail w is = absurd (number_other text rest tail open_brace w refl is)
object_front (string text) rest tail w is = absurd (other_head quotation_mark open_brace _ tail (omega arith) is)
object_front (array items) rest tail w is = absurd (other_head open_bracket open_brace _ tail (omega arith) is)
object_front (object members) rest tail w is = (members, refl)

pub string_leaves : (levels : ℕ) (b tail after : List ℕ) → b ≡ quotation_mark ∷ tail → LeavesString tail after
    → LeavesValue levels b after
string_leaves levels b tail after begins leaves value rest w within stopped is =
    let (text, same) = text_front value rest tail w (sym is ∙ begins) in
    leaves text rest (others_same _ _ _ _ (sym begins ∙ (is ∙ ap (λ v. compact v ++ rest) same))
    ∙ append_assoc (flat_map written text) (quotation_mark ∷ []) rest)

pub array_leaves : (levels : ℕ) (b tail after : List ℕ) → b ≡ open_bracket ∷ tail → LeavesItems levels tail after
    → LeavesValue (levels + 1) b after
array_leaves levels b tail after begins leaves value rest w within stopped is =
    let (items, same) = array_front value rest tail w (sym is ∙ begins) in
    let deep : depth value ≡ depth (array items) = ap depth same in
    leaves items rest (subst IsWritable same w) (omega (arith, within, deep))
    (others_same _ _ _ _ (sym begins ∙ (is ∙ ap (λ v. compact v ++ rest) same))
    ∙ append_assoc (compact_items items) (close_bracket ∷ []) rest)

pub object_leaves : (levels : ℕ) (b tail after : List ℕ) → b ≡ open_brace ∷ tail → LeavesMembers levels tail after
    → LeavesValue (levels + 1) b after
object_leaves levels b tail after begins leaves value rest w within stopped is =
    let (members, same) = object_front value rest tail w (sym is ∙ begins) in
    let deep : depth value ≡ depth (object members) = ap depth same in
    leaves members rest (subst IsWritable same w) (omega (arith, within, deep))
    (others_same _ _ _ _ (sym begins ∙ (is ∙ ap (λ v. compact v ++ rest) same))
    ∙ append_assoc (compact_members members) (close_brace ∷ []) rest)

-- where nothing may nest, no array and no object stands
pub no_array : (b tail after : List ℕ) → b ≡ open_bracket ∷ tail → LeavesValue 0 b after
no_array b tail after begins value rest w within stopped is =
    let (items, same) = array_front value rest tail w (sym is ∙ begins) in
    let deep : depth value ≡ depth (array items) = ap depth same in absurd (omega (arith, within, deep))

pub no_object : (b tail after : List ℕ) → b ≡ open_brace ∷ tail → LeavesValue 0 b after
no_object b tail after begins value rest w within stopped is =
    let (members, same) = object_front value rest tail w (sym is ∙ begins) in
    let deep : depth value ≡ depth (object members) = ap depth same in absurd (omega (arith, within, deep))

pub number_runs : (text : List ℕ) → AllByRecursion (λ c. is_number_byte c ≡ true) text
    → AllByRecursion (λ c. is_stop c ≡ false) text
number_runs [] all = tt
number_runs (c ∷ text) all = (stops_not c all.0, number_runs text all.1)
  where
    stops_not : (c : ℕ) → is_number_byte c ≡ true → is_stop c ≡ false
    stops_not c is = grind (arith, nat_tests)

pub scalar_leaves : (levels : ℕ) (b tail after : List ℕ) (c : ℕ) → b ≡ c ∷ tail → c ≢ quotation_mark → c ≢ open_bracket
    → c ≢ open_brace → LeavesRun b after → LeavesValue levels b after
scalar_leaves levels b tail after c begins mark bracket brace leaves null rest w within stopped is =
    leaves (compact null) rest (refl, (refl, (refl, (refl, tt)))) stopped is
scalar_leaves levels b tail after c begins mark bracket brace leaves (boolean true) rest w within stopped is =
    leaves (compact (boolean true)) rest (refl, (refl, (refl, (refl, tt)))) stopped is
scalar_leaves levels b tail after c begins mark bracket brace leaves (boolean false) rest w within stopped is =
    leaves (compact (boolean false)) rest (refl, (refl, (refl, (refl, (refl, tt))))) stopped is
scalar_leaves levels b tail after c begins mark bracket brace leaves (number text) rest w within stopped is =
    leaves text rest (number_runs text (IsNumber-bytes text w)) stopped is
scalar_leaves levels b tail after c begins mark bracket brace leaves (string text) rest w within stopped is =
    absurd (mark (first_same _ _ _ _ (sym begins ∙ is)))
scalar_leaves levels b tail after c begins mark bracket brace leaves (array items) rest w within stopped is =
    absurd (bracket (first_same _ _ _ _ (sym begins ∙ is)))
scalar_leaves levels b tail after c begins mark bracket brace leaves (object all) rest w within stopped is =
    absurd (brace (first_same _ _ _ _ (sym begins ∙ is)))

-- items

pub record ItemsLeft (levels : ℕ) (b rest : List ℕ) : Type 0 where
  pub first : Tree
  pub others : ItemTrees
  pub writable : AreWritableItems (item first others)
  pub within : items_depth (item first others) ≤ levels
  pub is : b ≡ compact_items (item first others) ++ close_bracket ∷ rest

pub items_begin : (levels : ℕ) (text rest : List ℕ) (at : ℕ) (items : ItemTrees) → at < length text
    → get_or text at 0 ≢ close_bracket
    → AreWritableItems items → items_depth items ≤ levels → drop at text ≡ compact_items items ++ close_bracket ∷ rest
    → ItemsLeft levels (drop at text) rest
items_begin levels text rest at no_items inside other w within is =
    absurd (other (first_same _ _ _ _ (sym (drop_one text at (get_or text at 0) inside refl) ∙ is)))
items_begin levels text rest at (item first others) inside other w within is =
    record { first = first; others = others; writable = w; within = within; is = is }

pub items_none : (text rest : List ℕ) (at : ℕ) (items : ItemTrees) → at < length text → get_or text at 0 ≡ close_bracket
    → AreWritableItems items → drop at text ≡ compact_items items ++ close_bracket ∷ rest → drop (at + 1) text ≡ rest
items_none text rest at no_items inside here w is =
    others_same _ _ _ _ (sym (drop_one text at close_bracket inside here) ∙ is)
items_none text rest at (item first others) inside here w is =
    let head = head_of first (compact_more_items others ++ close_bracket ∷ rest) (drop (at + 1) text) close_bracket w.0
    (sym (append_assoc (compact first) (compact_more_items others) (close_bracket ∷ rest))
    ∙ (sym is ∙ drop_one text at close_bracket inside here)) in
    absurd (head.1 refl)

-- no item begins with the closing bracket
pub items_some : (text rest : List ℕ) (at : ℕ) (first : Tree) (others : ItemTrees) → at < length text
    → get_or text at 0 ≡ close_bracket
    → AreWritableItems (item first others) → drop at text ≡ compact_items (item first others) ++ close_bracket ∷ rest
    → ⊥
items_some text rest at first others inside here w is =
    let head = head_of first (compact_more_items others ++ close_bracket ∷ rest) (drop (at + 1) text) close_bracket w.0
    (sym (append_assoc (compact first) (compact_more_items others) (close_bracket ∷ rest))
    ∙ (sym is ∙ drop_one text at close_bracket inside here)) in
    head.1 refl

pub more_stopped : (others : ItemTrees) (rest : List ℕ) → IsStopped (compact_more_items others ++ close_bracket ∷ rest)
more_stopped no_items rest = inr (inl refl)
more_stopped (item first others) rest = inl refl

pub item_left : (levels : ℕ) (b after rest : List ℕ) (left : ItemsLeft levels b rest) → LeavesValue levels b after
    → after ≡ compact_more_items left.others ++ close_bracket ∷ rest
item_left levels b after rest left leaves =
    leaves left.first (compact_more_items left.others ++ close_bracket ∷ rest) left.writable.0
    (omega (arith, left.within)) (more_stopped left.others rest)
    (left.is ∙ append_assoc (compact left.first) (compact_more_items left.others) (close_bracket ∷ rest))

pub array_past : (text rest : List ℕ) (at : ℕ) (items : ItemTrees) → length text ≤ at
    → drop at text ≡ compact_items items ++ close_bracket ∷ rest → ⊥
array_past text rest at items past is = omega
    (arith, ap length is, length-append (compact_items items) (close_bracket ∷ rest), length-drop at text)

pub items_past : (text rest : List ℕ) (end : ℕ) (others : ItemTrees) → length text ≤ end
    → drop end text ≡ compact_more_items others ++ close_bracket ∷ rest → ⊥
items_past text rest end others past is = omega
    (arith, ap length is, length-append (compact_more_items others) (close_bracket ∷ rest), length-drop end text)

pub items_stop : (text rest : List ℕ) (end : ℕ) (others : ItemTrees) → end < length text
    → get_or text end 0 ≡ close_bracket → drop end text ≡ compact_more_items others ++ close_bracket ∷ rest
    → drop (end + 1) text ≡ rest
items_stop text rest end no_items inside here is =
    others_same _ _ _ _ (sym (drop_one text end close_bracket inside here) ∙ is)
items_stop text rest end (item first others) inside here is =
    absurd (other_head comma close_bracket _ _ (omega arith) (sym is ∙ drop_one text end close_bracket inside here))

pub items_more : (levels : ℕ) (text rest : List ℕ) (end : ℕ) (first : Tree) (others : ItemTrees) → end < length text
    → get_or text end 0 ≢ close_bracket → AreWritableItems (item first others)
    → items_depth (item first others) ≤ levels
    → drop end text ≡ compact_more_items others ++ close_bracket ∷ rest → ItemsLeft levels (drop (end + 1) text) rest
items_more levels text rest end first no_items inside other w within is =
    absurd (other (first_same _ _ _ _ (sym (drop_one text end (get_or text end 0) inside refl) ∙ is)))
items_more levels text rest end first (item next others) inside other w within is = record {
  first = next;
  others = others;
  writable = w.1;
  within = omega (arith, within);
  is = others_same _ _ _ _ (sym (drop_one text end (get_or text end 0) inside refl) ∙ is);
}

-- an array of whole numbers that was gone through in blocks
pub whole_leaves : (levels : ℕ) (text : List ℕ) (at end : ℕ) → at < end → IsItemsText levels text at end
    → LeavesItems levels (drop at text) (drop end text)
whole_leaves levels text at end onward whole items rest w within is =
    let split : drop at text ≡ slice_range text at end ++ drop end text =
    drop_split text at end (omega (arith, onward)) in
    let one : value_at (levels + 1) (compact (array whole.items) ++ drop end text)
    ≡ Some (array whole.items, drop end text) =
    array_complete (levels + 1) whole.items (compact (array whole.items)) (drop end text)
    (spelled (array whole.items) whole.writable) (omega (arith, whole.within)) in
    let two : value_at (levels + 1) (compact (array items) ++ rest) ≡ Some (array items, rest) =
    array_complete (levels + 1) items (compact (array items)) rest (spelled (array items) w)
    (omega (arith, within)) in
    let same : compact (array whole.items) ++ drop end text ≡ compact (array items) ++ rest =
    ap (λ l. open_bracket ∷ l) (ap (λ l. l ++ drop end text) (sym whole.written)
    ∙ (sym split ∙ (is ∙ sym (append_assoc (compact_items items) (close_bracket ∷ []) rest)))) in
    second_same (array whole.items, drop end text) (array items, rest)
    (sym one ∙ (ap (value_at (levels + 1)) same ∙ two))
  where
    second : Option (Tree × List ℕ) → List ℕ
    second (Some p) = p.1
    second None = []

    second_same : (p q : Tree × List ℕ) → Some p ≡ Some q → p.1 ≡ q.1
    second_same p q e = ap second e
