-- The text of three short whole numbers in brackets: where they end, and which vertex it is.
use Rattle.std.proofs.Common.{◌≡◌, ◌≢◌, ◌⊎◌, ◌∙◌, ◌++◌, ◌+◌, ◌-◌, ◌<◌, ◌≤◌, ℕ, suc, ℤ, false, List, [], ◌∷◌, length, length-drop, get_or, drop, refl, ap, sym, subst, arith, append_assoc, append-nil, inl, inr, slice_range, unsigned_abs}
use Rattle.std.proofs.lemmas.Bool.Decides.{nat_tests}
use Rattle.std.proofs.lemmas.List.{drop-drop, length-append, length-take-le}
use Rattle.std.proofs.lemmas.List.Folds.{drop_split}
use Rattle.std.proofs.lemmas.Str.Parse.{digit_from_value}
use Rattle.std.specs.Fmt.{signed_decimal}
use Rattle.std.specs.Str.Parse.{AllDigits}
use Rattle.city_json.proofs.PartsOfNumbers.{digits_of_whole}
use Rattle.city_json.specs.Bytes.{digit_zero, minus, comma, open_bracket, close_bracket}
use Rattle.city_json.specs.Compact.{compact}
use Rattle.city_json.specs.Triples.{IsShortNumeral, IsTriple, three_numbers}
use Rattle.city_json.specs.Tree.{Tree}
use Rattle.byte_streams.specs.Limits.{max_steps}
use Rattle.city_grid.specs.Axes.{IsInRange, Triple, triple}
use Rattle.city_grid.specs.NumberEnds.{ends_number, number_len}
use Rattle.city_grid.specs.Vertex.{vertex_tree}
use Rattle.city_grid.proofs.ShortIntegers.{integer}
use Rattle.city_grid.proofs.vertices.NumberRuns.{IsRun, cut_here}

digit_runs : (c : ℕ) → 48 ≤ c → c ≤ 57 → ends_number c ≡ false
digit_runs c low high = grind (arith, nat_tests)

digits_run : (ds : List ℕ) → AllDigits 10 ds → IsRun ds
digits_run [] all = tt
digits_run (d ∷ ds) all =
    let range = digit_from_value d all.0 in
    (digit_runs d range.0 range.1, digits_run ds all.1)

run_of : (sign whole : List ℕ) → (sign ≡ []) ⊎ (sign ≡ minus ∷ []) → IsRun whole → IsRun (sign ++ whole)
run_of sign whole (inl none) runs = subst (λ s. IsRun (s ++ whole)) (sym none) runs
run_of sign whole (inr some) runs = subst (λ s. IsRun (s ++ whole)) (sym some) (refl, runs)

numeral_runs : (text : List ℕ) → IsShortNumeral text → IsRun text
numeral_runs text n = subst IsRun (sym n.splits)
    (run_of n.sign n.whole (sign n.is_sign) (digits_run n.whole (digits_of_whole n.whole n.is_whole)))
  where
    sign : (n.sign ≡ []) ⊎ ((n.sign ≡ minus ∷ []) × (get_or n.whole 0 0 ≢ digit_zero))
        → (n.sign ≡ []) ⊎ (n.sign ≡ minus ∷ [])
    sign (inl none) = inl none
    sign (inr some) = inr some.0

regroup : (x y z : List ℕ) → (x ++ (comma ∷ (y ++ (comma ∷ (z ++ []))))) ++ close_bracket ∷ []
    ≡ x ++ (comma ∷ (y ++ (comma ∷ (z ++ close_bracket ∷ []))))
regroup x y z = simp (append_assoc, append-nil)

regroup_more : (x y z more : List ℕ) → (x ++ (comma ∷ (y ++ (comma ∷ (z ++ close_bracket ∷ []))))) ++ more
    ≡ x ++ (comma ∷ (y ++ (comma ∷ (z ++ close_bracket ∷ more))))
regroup_more x y z more = simp append_assoc

total_length : (x y z : List ℕ) → length (x ++ (comma ∷ (y ++ (comma ∷ (z ++ close_bracket ∷ [])))))
    ≡ length x + length y + length z + 3
total_length x y z = omega (
  arith,
  length-append x (comma ∷ (y ++ (comma ∷ (z ++ close_bracket ∷ [])))),
  length-append y (comma ∷ (z ++ close_bracket ∷ [])),
  length-append z (close_bracket ∷ []),
)

-- the three numbers of a triple, and where it ends
pub record IsCutThrice (text : List ℕ) (at end first second third : ℕ) : Type 0 where
  pub x : List ℕ
  pub y : List ℕ
  pub z : List ℕ
  pub written : slice_range text at end ≡ compact (three_numbers x y z)
  pub short_x : IsShortNumeral x
  pub short_y : IsShortNumeral y
  pub short_z : IsShortNumeral z
  pub here_x : slice_range text (at + 1) first ≡ x
  pub here_y : slice_range text (first + 1) second ≡ y
  pub here_z : slice_range text (second + 1) third ≡ z
  pub ends : third + 1 ≡ end

pub cut_thrice : (text : List ℕ) (at end first second third : ℕ) (value : Tree) → end ≤ length text
    → at < length text → IsTriple value → slice_range text at end ≡ compact value
    → first ≡ at + 1 + number_len (drop (at + 1) text) → second ≡ first + 1 + number_len (drop (first + 1) text)
    → third ≡ second + 1 + number_len (drop (second + 1) text) → IsCutThrice text at end first second third
cut_thrice text at end first second third value within some n is is_first is_second is_third =
    let x = n.x in
    let y = n.y in
    let z = n.z in
    let written : slice_range text at end ≡ compact (three_numbers x y z) = is ∙ ap compact n.is in
    let bracketed : compact (three_numbers x y z)
    ≡ open_bracket ∷ (x ++ (comma ∷ (y ++ (comma ∷ (z ++ close_bracket ∷ [])))))
    = ap (λ l. open_bracket ∷ l) (regroup x y z) in
    let long : end - at ≡ suc (length (x ++ (comma ∷ (y ++ (comma ∷ (z ++ close_bracket ∷ [])))))) =
    sym (length-take-le (end - at) (drop at text) (omega (arith, length-drop at text)))
    ∙ ap length (written ∙ bracketed) in
    let total = total_length x y z in
    let onward : at ≤ end = omega (arith, long) in
    let there : drop at text ≡ open_bracket ∷ (x ++ (comma ∷ (y ++ (comma ∷ (z ++ close_bracket ∷ drop end text))))) =
    drop_split text at end onward ∙ ap (λ l. l ++ drop end text) (written ∙ bracketed)
    ∙ ap (λ l. open_bracket ∷ l) (regroup_more x y z (drop end text)) in
    let after : drop (at + 1) text ≡ x ++ (comma ∷ (y ++ (comma ∷ (z ++ close_bracket ∷ drop end text)))) =
    sym (drop-drop 1 at text) ∙ ap (drop 1) there in
    let one = cut_here text x _ (at + 1) first comma after (numeral_runs x n.short_x) refl is_first in
    let two = cut_here text y _ (first + 1) second comma one.after (numeral_runs y n.short_y) refl is_second in
    let three = cut_here text z _ (second + 1) third close_bracket two.after (numeral_runs z n.short_z) refl is_third in
    record {
      x = x;
      y = y;
      z = z;
      written = written;
      short_x = n.short_x;
      short_y = n.short_y;
      short_z = n.short_z;
      here_x = one.here;
      here_y = two.here;
      here_z = three.here;
      ends = omega (arith, long, total, one.long, two.long, three.long);
    }

-- the vertex of three integers, each of which was read where one of the numbers stands
pub vertex_is : (text : List ℕ) (at end first second third : ℕ) (x y z : ℤ) (v : Triple) (value : Tree)
    → end ≤ length text → at < length text → first ≡ at + 1 + number_len (drop (at + 1) text)
    → second ≡ first + 1 + number_len (drop (first + 1) text)
    → third ≡ second + 1 + number_len (drop (second + 1) text)
    → (IsShortNumeral (slice_range text (at + 1) first) → slice_range text (at + 1) first ≡ signed_decimal x)
    → (IsShortNumeral (slice_range text (first + 1) second) → slice_range text (first + 1) second ≡ signed_decimal y)
    → (IsShortNumeral (slice_range text (second + 1) third) → slice_range text (second + 1) third ≡ signed_decimal z)
    → v ≡ triple x y z → IsTriple value → slice_range text at end ≡ compact value
    → (third + 1 ≡ end) × (slice_range text at end ≡ compact (vertex_tree v))
vertex_is text at end first second third x y z v value within some is_first is_second is_third read_x read_y read_z is t here
    =
    let cut = cut_thrice text at end first second third value within some t here is_first is_second is_third in
    let xs : cut.x ≡ signed_decimal x = sym cut.here_x ∙ read_x (subst IsShortNumeral (sym cut.here_x) cut.short_x) in
    let ys : cut.y ≡ signed_decimal y = sym cut.here_y ∙ read_y (subst IsShortNumeral (sym cut.here_y) cut.short_y) in
    let zs : cut.z ≡ signed_decimal z = sym cut.here_z ∙ read_z (subst IsShortNumeral (sym cut.here_z) cut.short_z) in (
      cut.ends,
      cut.written ∙ (λ i. compact (three_numbers (xs i) (ys i) (zs i))) ∙ ap (λ p. compact (vertex_tree p)) (sym is),
    )

-- the same where z was not read: it stands there all the same
pub plan_is : (text : List ℕ) (at end first second third : ℕ) (x y : ℤ) (value : Tree) → end ≤ length text
    → at < length text → first ≡ at + 1 + number_len (drop (at + 1) text)
    → second ≡ first + 1 + number_len (drop (first + 1) text)
    → third ≡ second + 1 + number_len (drop (second + 1) text)
    → (IsShortNumeral (slice_range text (at + 1) first) → slice_range text (at + 1) first ≡ signed_decimal x)
    → (IsShortNumeral (slice_range text (first + 1) second) → slice_range text (first + 1) second ≡ signed_decimal y)
    → unsigned_abs x ≤ max_steps → unsigned_abs y ≤ max_steps
    → IsTriple value → slice_range text at end ≡ compact value
    → (third + 1 ≡ end) × (z : ℤ) × IsInRange (triple x y z)
    × (slice_range text at end ≡ compact (vertex_tree (triple x y z)))
plan_is text at end first second third x y value within some is_first is_second is_third read_x read_y near_x near_y t
    here =
    let cut = cut_thrice text at end first second third value within some t here is_first is_second is_third in
    let xs : cut.x ≡ signed_decimal x = sym cut.here_x ∙ read_x (subst IsShortNumeral (sym cut.here_x) cut.short_x) in
    let ys : cut.y ≡ signed_decimal y = sym cut.here_y ∙ read_y (subst IsShortNumeral (sym cut.here_y) cut.short_y) in
    let z = integer cut.z cut.short_z in (
      cut.ends,
      z.value,
      (near_x, near_y, z.small),
      cut.written ∙ (λ i. compact (three_numbers (xs i) (ys i) (z.printed i))),
    )
