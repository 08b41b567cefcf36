-- The compact text of an array of three numbers, number by number.
use Rattle.std.proofs.Common.{◌≡◌, ◌∙◌, ◌++◌, ◌<◌, ◌≤◌, ℕ, Bool, IsTrue, List, [], ◌∷◌, true, false, length, drop, get_or, ap, sym, subst, refl, arith, append-nil}
use Rattle.city_json.proofs.Places.{drop_one}
use Rattle.city_json.proofs.StringEnds.{first_same}
use Rattle.city_json.specs.Bytes.{open_bracket, open_brace, quotation_mark}
use Rattle.city_json.specs.Compact.{compact}
use Rattle.city_json.specs.NextItems.{HasNoItem, IsNextItem}
use Rattle.city_json.specs.Tree.{Tree, null, boolean, number, string, array, object, ItemTrees, no_items, item}
use Rattle.city_json.specs.Writable.{IsWritable}
use Rattle.city_feature.specs.Faults.{AreThreeNumbers, BeginsWithNumber, IsNumberTree}
use Rattle.city_json.specs.CompactTexts.{IsCompactOf}
use Rattle.city_feature.proofs.LineTexts.{number_begins}

-- ---- one number
number_here : (value : Tree) (rest tail : List ℕ) (c : ℕ) → IsWritable value → compact value ++ rest ≡ c ∷ tail
    → 45 ≤ c → c ≤ 57 → (n : List ℕ) × (value ≡ number n)
number_here null rest tail c w is low high = absurd (omega (arith, first_same 110 c _ tail is, high))
number_here (boolean true) rest tail c w is low high = absurd (omega (arith, first_same 116 c _ tail is, high))
number_here (boolean false) rest tail c w is low high = absurd (omega (arith, first_same 102 c _ tail is, high))
number_here (number n) rest tail c w is low high = (n, refl)
number_here (string text) rest tail c w is low high =
    absurd (omega (arith, first_same quotation_mark c _ tail is, low))
number_here (array items) rest tail c w is low high =
    absurd (omega (arith, first_same open_bracket c _ tail is, high))
number_here (object all) rest tail c w is low high = absurd (omega (arith, first_same open_brace c _ tail is, high))

pub is_number_text : (text : List ℕ) → 0 < length text → 45 ≤ get_or text 0 0 → get_or text 0 0 ≤ 57 → (value : Tree)
    → IsCompactOf text value → IsNumberTree value
is_number_text text some low high value of = number_here value [] (drop 1 text) (get_or text 0 0) of.writable
    (append-nil (compact value) ∙ (sym of.is ∙ drop_one text 0 (get_or text 0 0) some refl)) low high

pub number_text_begins : (text : List ℕ) (value : Tree) → IsCompactOf text value → IsNumberTree value
    → (0 < length text) × (45 ≤ get_or text 0 0) × (get_or text 0 0 ≤ 57)
number_text_begins text value of (n, is) =
    let (c, rest, begins, low, high) = number_begins n (subst IsWritable is of.writable) in
    let there : text ≡ c ∷ rest = of.is ∙ (ap compact is ∙ begins) in
    let first : get_or text 0 0 ≡ c = ap (λ l. get_or l 0 0) there in
    (omega (arith, ap length there), omega (arith, first, low), omega (arith, first, high))

-- ---- of the items that are left
abbrev content : ItemTrees → Tree
content no_items = null
content (item first others) = first

abbrev others_of : ItemTrees → ItemTrees
others_of no_items = no_items
others_of (item first others) = others

pub number_passed : (before one after : List ℕ) → IsNextItem before one after
    → ((value : Tree) → IsCompactOf one value → IsNumberTree value) → BeginsWithNumber before after
number_passed before one after next is_number items of =
    let (first, others, is, first_of, others_of) = next items of in
    let (n, number_is) = is_number first first_of in
    (n, others, is ∙ ap (λ v. item v others) number_is, others_of)

pub no_number_passed : (before one after : List ℕ) → IsNextItem before one after
    → ((value : Tree) → IsCompactOf one value → IsNumberTree value → ⊥) → (n : List ℕ) (others : ItemTrees)
    → IsCompactOf before (array (item (number n) others)) → ⊥
no_number_passed before one after next other n others of =
    let (first, more, is, first_of, more_of) = next (item (number n) others) of in
    other first first_of (n, ap content (sym is))

pub none_passed : (before : List ℕ) → HasNoItem before → (n : List ℕ) (others : ItemTrees)
    → IsCompactOf before (array (item (number n) others)) → ⊥
none_passed before none n others of = cc (none (item (number n) others) of)

-- what is left after the first of these
left_after : (before after : List ℕ) → BeginsWithNumber before after → (n : List ℕ) (others : ItemTrees)
    → IsCompactOf before (array (item (number n) others)) → IsCompactOf after (array others)
left_after before after begins n others of =
    let (m, more, is, more_of) = begins (item (number n) others) of in
    subst (λ l. IsCompactOf after (array l)) (sym (ap others_of is)) more_of

pub is_or : (is : Bool) → (is ≡ false → ⊥) → IsTrue is
is_or true other = refl
is_or false other = absurd (other refl)

-- ---- three
pub no_array : (text : List ℕ) → ((items : ItemTrees) → ¬ IsCompactOf text (array items)) → (value : Tree)
    → IsCompactOf text value → AreThreeNumbers value → ⊥
no_array text none value of (texts, is) = none _ (subst (IsCompactOf text) is of)

abbrev pub NoneBegins : List ℕ → Type 0
NoneBegins before = (n : List ℕ) (others : ItemTrees) → IsCompactOf before (array (item (number n) others)) → ⊥

module _ (text : List ℕ) where
  pub not_first : NoneBegins text → (value : Tree) → IsCompactOf text value → AreThreeNumbers value → ⊥
  not_first none value of (texts, is) = none _ _ (subst (IsCompactOf text) is of)

  module _ (second : List ℕ) (one : BeginsWithNumber text second) where
    pub not_second : NoneBegins second → (value : Tree) → IsCompactOf text value → AreThreeNumbers value → ⊥
    not_second none value of (texts, is) = none _ _ (left_after text second one _ _ (subst (IsCompactOf text) is of))

    module _ (third : List ℕ) (two : BeginsWithNumber second third) where
      pub not_third : NoneBegins third → (value : Tree) → IsCompactOf text value → AreThreeNumbers value → ⊥
      not_third none value of (texts, is) =
          none _ _ (left_after second third two _ _ (left_after text second one _ _ (subst (IsCompactOf text) is of)))

      module _ (last : List ℕ) (three_passed : BeginsWithNumber third last) where
        pub not_more : (¬ IsCompactOf last (array no_items)) → (value : Tree) → IsCompactOf text value
            → AreThreeNumbers value → ⊥
        not_more more value of (texts, is) = more (left_after third last three_passed _ _
            (left_after second third two _ _ (left_after text second one _ _ (subst (IsCompactOf text) is of))))

        pub are_three : HasNoItem last → (items : ItemTrees) → IsCompactOf text (array items)
            → AreThreeNumbers (array items)
        are_three none items of =
            let (n, ns, first_is, ns_of) = one items of in
            let (m, ms, second_is, ms_of) = two ns ns_of in
            let (k, ks, third_is, ks_of) = three_passed ms ms_of in (
              record { x = n; y = m; z = k },
              ap array first_is ∙ ap (λ others. array (item (number n) others)) (second_is
                  ∙ ap (item (number m)) (third_is ∙ ap (item (number k)) (none ks ks_of))),
            )
