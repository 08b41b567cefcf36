-- The items of an array, one after another in its compact text.
use Rattle.std.proofs.Common.{◌≡◌, ◌≢◌, ◌∙◌, ◌++◌, ◌<◌, ◌≤◌, ◌+◌, ℕ, List, [], ◌∷◌, length, drop, get_or, take, refl, sym, ap, subst, arith, append_assoc, append-nil, length-append, length-drop}
use Rattle.std.proofs.lemmas.List.{take_at, drop_all, drop-drop}
use Rattle.city_json.proofs.CompactEnds.{array_front, head_of, items_some, more_stopped, other_head}
use Rattle.city_json.proofs.Places.{drop_one}
use Rattle.city_json.proofs.StringEnds.{first_same, others_same}
use Rattle.city_json.specs.Bytes.{comma, open_bracket, close_bracket}
use Rattle.city_json.specs.Compact.{compact, compact_items, compact_more_items}
use Rattle.city_json.specs.CompactEnds.{LeavesValue}
use Rattle.city_json.specs.CompactTexts.{IsCompactOf}
use Rattle.city_json.specs.NextItems.{HasNoItem, IsNextItem}
use Rattle.city_json.specs.Tree.{Tree, array, ItemTrees, no_items, item}

-- what stands after an item, and what is left where a comma there is passed
pub record Passed (beyond after : List ℕ) : Type 0 where
  pub comma_there : (tail : List ℕ) → beyond ≡ comma ∷ tail → after ≡ tail
  pub none_there : (tail : List ℕ) → beyond ≡ close_bracket ∷ tail → after ≡ beyond

pub at_end : (text : List ℕ) (end : ℕ) → end ≡ length text → Passed (drop end text) (drop end text)
at_end text end past =
    let none = drop_all end text (omega (arith, past)) in
    record {
      comma_there = λ tail is. cc (none, is);
      none_there = λ tail is. refl;
    }

pub at_comma : (text : List ℕ) (end : ℕ) → end < length text → get_or text end 0 ≡ comma
    → Passed (drop end text) (drop (end + 1) text)
at_comma text end within here = record {
  comma_there = λ tail is. others_same _ _ _ _ (sym (drop_one text end comma within here) ∙ is);
  none_there = λ tail is.
      absurd (other_head close_bracket comma _ _ (omega arith) (sym is ∙ drop_one text end comma within here));
}

pub at_other : (text : List ℕ) (end : ℕ) → end < length text → get_or text end 0 ≢ comma
    → Passed (drop end text) (drop end text)
at_other text end within other = record {
  comma_there = λ tail is.
      absurd (other (first_same _ _ _ _ (sym (drop_one text end (get_or text end 0) within refl) ∙ is)));
  none_there = λ tail is. refl;
}

-- an array's text begins with its bracket
pub opened : (text : List ℕ) (items : ItemTrees) → IsCompactOf text (array items)
    → (0 < length text) × (get_or text 0 0 ≡ open_bracket)
opened text items of = (omega (arith, ap length of.is), ap (λ l. get_or l 0 0) of.is)

pub array_there : (text : List ℕ) → 0 < length text → get_or text 0 0 ≡ open_bracket → (value : Tree)
    → IsCompactOf text value → (items : ItemTrees) × (value ≡ array items)
array_there text some here value of = array_front value [] (drop 1 text) of.writable
    (append-nil (compact value) ∙ (sym of.is ∙ drop_one text 0 open_bracket some here))

-- an item is left, or none, by the first byte
pub over : (rest : List ℕ) → (0 < length rest → get_or rest 0 0 ≡ close_bracket) → HasNoItem (open_bracket ∷ rest)
over rest closes no_items of = refl
over rest closes (item first others) of =
    let is = others_same _ _ _ _ of.is in
    let some : 0 < length rest = omega
    (arith, ap length is, length-append (compact_items (item first others)) (close_bracket ∷ [])) in
    absurd (items_some rest [] 0 first others some (closes some) of.writable is)

-- an item has some bytes
pub no_bytes : (rest : List ℕ) → LeavesValue 128 rest rest → HasNoItem (open_bracket ∷ rest)
no_bytes rest leaves no_items of = refl
no_bytes rest leaves (item first others) of =
    let is : rest ≡ compact first ++ (compact_more_items others ++ close_bracket ∷ []) =
    others_same _ _ _ _ of.is ∙ append_assoc (compact first) (compact_more_items others) (close_bracket ∷ []) in
    let left = leaves first (compact_more_items others ++ close_bracket ∷ []) of.writable.0 (omega (arith, of.within))
    (more_stopped others []) is in
    absurd (by others (sym is ∙ left))
  where
    by : (others : ItemTrees) → compact first ++ (compact_more_items others ++ close_bracket ∷ [])
        ≡ compact_more_items others ++ close_bracket ∷ [] → ⊥
    by no_items same = (head_of first _ _ close_bracket of.writable.0 same).1 refl
    by (item next more) same = (head_of first _ _ comma of.writable.0 same).0 refl

module _ (rest after : List ℕ) (len : ℕ) (within : len ≤ length rest) (leaves : LeavesValue 128 rest (drop len rest))
    (passed : Passed (drop len rest) after) where
  left_of : (others : ItemTrees) → drop len rest ≡ compact_more_items others ++ close_bracket ∷ []
      → after ≡ compact_items others ++ close_bracket ∷ []
  left_of no_items is = passed.none_there [] is ∙ is
  left_of (item next more) is = passed.comma_there _ is

  pub next_item : (¬ IsCompactOf (open_bracket ∷ rest) (array no_items))
      → IsNextItem (open_bracket ∷ rest) (take len rest) (open_bracket ∷ after)
  next_item some no_items of = absurd (some of)
  next_item some (item first others) of =
      let is : rest ≡ compact first ++ (compact_more_items others ++ close_bracket ∷ []) =
      others_same _ _ _ _ of.is ∙ append_assoc (compact first) (compact_more_items others) (close_bracket ∷ []) in
      let beyond : drop len rest ≡ compact_more_items others ++ close_bracket ∷ [] =
      leaves first (compact_more_items others ++ close_bracket ∷ []) of.writable.0 (omega (arith, of.within))
      (more_stopped others []) is in
      let size : len ≡ length (compact first) = omega (
        arith,
        ap length is,
        ap length beyond,
        length-append (compact first) (compact_more_items others ++ close_bracket ∷ []),
        length-drop len rest,
        within,
      ) in (
        first,
        others,
        refl,
        record {
          is = ap (take len) is ∙ take_at (compact first) (compact_more_items others ++ close_bracket ∷ []) len (sym size);
          writable = of.writable.0;
          distinct = of.distinct.0;
          within = omega (arith, of.within);
        },
        record {
          is = ap (λ l. open_bracket ∷ l) (left_of others beyond);
          writable = of.writable.1;
          distinct = of.distinct.1;
          within = omega (arith, of.within);
        },
      )

-- the same of a place in a text
pub passed_on : (text self after : List ℕ) (at len : ℕ) → open_bracket ∷ drop at text ≡ self
    → (¬ IsCompactOf self (array no_items)) → len < length self
    → LeavesValue 128 (drop 1 self) (drop len (drop 1 self)) → Passed (drop (at + len) text) after
    → IsNextItem self (take len (drop 1 self)) (open_bracket ∷ after)
passed_on text self after at len is some within leaves passed =
    let rest = drop at text in
    subst (λ l. (¬ IsCompactOf l (array no_items)) → len < length l → LeavesValue 128 (drop 1 l) (drop len (drop 1 l))
    → IsNextItem l (take len (drop 1 l)) (open_bracket ∷ after)) is
    (λ some within leaves. next_item rest after len (omega (arith, within)) leaves
    (subst (λ l. Passed l after) (sym (drop-drop len at text)) passed) some)
    some within leaves

pub goes_further : (text self : List ℕ) (at len : ℕ) → at ≤ length text → open_bracket ∷ drop at text ≡ self
    → len < length self → (at + len ≡ length text → ⊥) → at + len < length text
goes_further text self at len inside is within other =
    omega (arith, within, ap length is, length-drop at text, inside, other)

-- ---- an array that is gone through
-- whatever array the text is of, items of it are left, and this holds of all and of those
abbrev pub GoesOnWith : (ItemTrees → ItemTrees → Type 0) → List ℕ → List ℕ → Type 0
GoesOnWith Holds text b = (all : ItemTrees) → IsCompactOf text (array all)
    → (left : ItemTrees) × IsCompactOf b (array left) × Holds all left

pub all_left : (Holds : ItemTrees → ItemTrees → Type 0) (text b : List ℕ) → b ≡ text
    → ((all : ItemTrees) → Holds all all) → GoesOnWith Holds text b
all_left Holds text b is begins all of = (all, subst (λ l. IsCompactOf l (array all)) (sym is) of, begins all)

pub one_less : (Holds Then : ItemTrees → ItemTrees → Type 0) (text b one after : List ℕ) → GoesOnWith Holds text b
    → IsNextItem b one after
    → ((all : ItemTrees) (first : Tree) (others : ItemTrees) → IsCompactOf one first → Holds all (item first others)
    → Then all others)
    → GoesOnWith Then text after
one_less Holds Then text b one after on next step all of =
    let (left, left_of, holds) = on all of in
    let (first, others, is, one_of, others_of) = next left left_of in
    (others, others_of, step all first others one_of (subst (Holds all) is holds))

pub next_one : (Holds : ItemTrees → ItemTrees → Type 0) (text b one after : List ℕ) → GoesOnWith Holds text b
    → IsNextItem b one after → (all : ItemTrees) → IsCompactOf text (array all)
    → (first : Tree) × (others : ItemTrees) × IsCompactOf one first × Holds all (item first others)
next_one Holds text b one after on next all of =
    let (left, left_of, holds) = on all of in
    let (first, others, is, one_of, others_of) = next left left_of in
    (first, others, one_of, subst (Holds all) is holds)

pub none_left : (Holds : ItemTrees → ItemTrees → Type 0) (text b : List ℕ) → GoesOnWith Holds text b → HasNoItem b
    → (all : ItemTrees) → IsCompactOf text (array all) → Holds all no_items
none_left Holds text b on none all of =
    let (left, left_of, holds) = on all of in subst (Holds all) (none left left_of) holds
