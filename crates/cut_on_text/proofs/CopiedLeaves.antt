-- Numbers that are copied as numbers of their own.
use Rattle.std.proofs.Common.{◌≡◌, ◌⊎◌, ◌++◌, ◌∙◌, ◌≤◌, ◌<◌, ◌^◌, ℕ, List, [], ◌∷◌, true, false, length, refl, ap, sym, subst, arith}
use Rattle.std.proofs.lemmas.Bool.Decides.{nat_tests}
use Rattle.std.proofs.lemmas.Fmt.{decimal_is_IsNumeral, decimal_nonempty}
use Rattle.std.proofs.lemmas.Str.Parse.{digit_at}
use Rattle.std.specs.Fmt.{decimal}
use Rattle.std.specs.List.{AllByRecursion, slice_index}
use Rattle.std.specs.Str.Parse.{AllDigits, digits_value}
use Rattle.city_json.specs.Bytes.{comma, close_bracket, close_brace, open_bracket, open_brace, quotation_mark}
use Rattle.city_json.specs.Compact.{compact}
use Rattle.city_json.specs.CompactEnds.{IsStopped, is_stop}
use Rattle.city_json.proofs.CompactEnds.{number_runs}
use Rattle.city_json.proofs.NumberLaws.{IsNumber-bytes}
use Rattle.city_json.specs.Tree.{Tree, null, boolean, number, string, array, object}
use Rattle.city_json.specs.Writable.{IsWritable}
use Rattle.city_json.proofs.StringEnds.{first_same, others_same}
use Rattle.city_families.specs.Copied.{Copies, CopiesPart, Extends}
use Rattle.city_families.specs.Leaves.{IsNested, leaves, relabelled}
use Rattle.city_families.specs.Numbered.{AreNumbered, HasNumber}
use Rattle.city_families.specs.Relabelling.{own_text}
use Rattle.cut_on_text.specs.Walks.{Labelling, Walks, walks_leaf, walks_so}
use Rattle.city_families.proofs.Indices.{own_of_index}

-- a leaf

pub copies_leaf : (t o line t' o' line' : List ℕ) (k : ℕ) → k < length t → length t < 2 ^ 64 → Extends t o t' o'
    → HasNumber t' o' k → ((before : List ℕ) → AreNumbered before t o → AreNumbered (before ++ k ∷ []) t' o')
    → line' ≡ line ++ decimal (slice_index t' k) → Copies t o line t' o' line' (k ∷ []) (λ change. change (decimal k))
copies_leaf t o line t' o' line' k inside small extends has numbered is = record {
  extends = extends;
  numbered = numbered;
  written = λ final last e.
      let value : digits_value 10 (decimal k) ≡ k = (decimal_is_IsNumeral k (omega (arith, inside, small))).1 in
      let own : own_text final (decimal k) ≡ decimal (slice_index final k) =
      own_of_index final (decimal k) k (omega (arith, e.long, extends.long, inside)) refl (sym value) in
      is ∙ ap (λ l. line ++ l) (sym (own ∙ ap decimal (e.kept k has)));
}

-- what stands where a plain number stands

some_front : (x y : List ℕ) (c : ℕ) → [] ≡ c ∷ x → ⊥
some_front x y c e = cc

abbrev IsRun : List ℕ → Type 0
IsRun run = AllByRecursion (λ c. is_stop c ≡ false) run

stop_byte : (c : ℕ) → (c ≡ comma) ⊎ ((c ≡ close_bracket) ⊎ (c ≡ close_brace)) → is_stop c ≡ false → ⊥
stop_byte c stopped here = grind (arith, nat_tests)

runs_same : (xs ys a b : List ℕ) → IsRun xs → IsRun ys → IsStopped a → IsStopped b → xs ++ a ≡ ys ++ b → (xs ≡ ys)
    × (a ≡ b)
runs_same [] [] a b all_x all_y stop_a stop_b is = (refl, is)
runs_same [] (y ∷ ys) [] b all_x all_y stop_a stop_b is = absurd (some_front (ys ++ b) [] y is)
runs_same [] (y ∷ ys) (c ∷ a) b all_x all_y stop_a stop_b is =
    absurd (stop_byte c stop_a (ap is_stop (first_same c y a (ys ++ b) is) ∙ all_y.0))
runs_same (x ∷ xs) [] a [] all_x all_y stop_a stop_b is = absurd (some_front (xs ++ a) [] x (sym is))
runs_same (x ∷ xs) [] a (c ∷ b) all_x all_y stop_a stop_b is =
    absurd (stop_byte c stop_b (ap is_stop (sym (first_same x c (xs ++ a) b is)) ∙ all_x.0))
runs_same (x ∷ xs) (y ∷ ys) a b all_x all_y stop_a stop_b is =
    let more = runs_same xs ys a b all_x.1 all_y.1 stop_a stop_b (others_same x y (xs ++ a) (ys ++ b) is) in
    let first : x ≡ y = first_same x y (xs ++ a) (ys ++ b) is in
    let others : xs ≡ ys = more.0 in
    (cc, more.1)

digit_run : (ds : List ℕ) → AllDigits 10 ds → IsRun ds
digit_run [] all = tt
digit_run (d ∷ ds) all = (no_stop d (digit_at (d ∷ ds) 0 all (omega arith)), digit_run ds all.1)
  where
    no_stop : (c : ℕ) → (48 ≤ c) × (c ≤ 57) → is_stop c ≡ false
    no_stop c digit = grind (arith, nat_tests)

digit_first : (ds after tail : List ℕ) (c : ℕ) → AllDigits 10 ds → 0 < length ds → ds ++ after ≡ c ∷ tail → (48 ≤ c)
    × (c ≤ 57)
digit_first [] after tail c all some is = absurd (omega (arith, some))
digit_first (d ∷ ds) after tail c all some is =
    let digit = digit_at (d ∷ ds) 0 all (omega arith) in
    let same : d ≡ c = first_same d c (ds ++ after) tail is in
    (omega (arith, same, digit), omega (arith, same, digit))

-- it is that number, whose text is its leaf
number_there : (ds after rest : List ℕ) (value : Tree) → AllDigits 10 ds → 0 < length ds → IsStopped after
    → IsStopped rest → IsWritable value → ds ++ after ≡ compact value ++ rest → (value ≡ number ds) × (after ≡ rest)
number_there ds after rest null all some stop stop₂ w is = let d = digit_first ds after _ 110 all some is in
    absurd (omega (arith, d))
number_there ds after rest (boolean true) all some stop stop₂ w is = let d = digit_first ds after _ 116 all some is in
    absurd (omega (arith, d))
number_there ds after rest (boolean false) all some stop stop₂ w is = let d = digit_first ds after _ 102 all some is in
    absurd (omega (arith, d))
number_there ds after rest (number text) all some stop stop₂ w is =
    let same = runs_same ds text after rest (digit_run ds all) (number_runs text (IsNumber-bytes text w)) stop stop₂
    is in
    (ap number (sym same.0), same.1)
number_there ds after rest (string text) all some stop stop₂ w is = let d =
    digit_first ds after _ quotation_mark all some is in absurd (omega (arith, d))
number_there ds after rest (array items) all some stop stop₂ w is = let d =
    digit_first ds after _ open_bracket all some is in absurd (omega (arith, d))
number_there ds after rest (object all_members) all some stop stop₂ w is = let d =
    digit_first ds after _ open_brace all some is in absurd (omega (arith, d))

pub part_leaf : {S : Type 0} {L : Labelling S} (count : ℕ) (s : S) (line : List ℕ) (s' : S) (line' b after : List ℕ)
    (k : ℕ) → k < count → k < 2 ^ 64 → L s line s' line' k → IsStopped after → b ≡ decimal k ++ after
    → CopiesPart count b after (Walks L s line s' line')
part_leaf {S} {L} count s line s' line' b after k inside small labelled stopped begins value rest w stopped₂ there =
    let numeral = decimal_is_IsNumeral k small in
    let found = number_there (decimal k) after rest value numeral.0.1 (decimal_nonempty k small) stopped stopped₂ w
    (sym begins ∙ there) in (
      found.1,
      subst (IsNested count) (sym found.0) (k, inside, refl),
      subst (λ v. Walks L s line s' line' (leaves v) (λ change. compact (relabelled change v))) (sym found.0)
          (walks_so s line s' line' (k ∷ []) (digits_value 10 (decimal k) ∷ []) (λ change. change (decimal k))
          (λ change. change (decimal k)) (walks_leaf s line s' line' k labelled) (ap (λ n. n ∷ []) (sym numeral.1))
          (λ change. refl)),
    )
