-- Vertices in a compact text, from place to place.
use Rattle.std.proofs.Common.{◌≡◌, ◌≢◌, ◌∙◌, ◌++◌, ◌+◌, ◌^◌, ◌<◌, ◌≤◌, ℕ, zero, suc, List, [], ◌∷◌, length, get_or, refl, ap, sym, subst, arith, slice_range, ℤ, pos, neg_ℤ}
use Rattle.city_grid.proofs.ShortIntegers.{numerals}
use Rattle.std.proofs.lemmas.Fmt.{decimal-digits_value, decimal_digit, length-decimal-le}
use Rattle.std.proofs.lemmas.Int.Digits.{digits_value-lt}
use Rattle.std.proofs.Math.Nat.{pow-le-pow_right}
use Rattle.std.specs.Char.{digit_value}
use Rattle.std.specs.Fmt.{decimal, signed_decimal}
use Rattle.std.specs.Str.Parse.{AllDigits, digits_value}
use Rattle.city_json.proofs.Places.{slice_more, slice_one}
use Rattle.city_json.specs.Bytes.{comma, minus, open_bracket, close_bracket}
use Rattle.city_json.specs.Compact.{compact}
use Rattle.city_grid.specs.Axes.{Triple, three}
use Rattle.byte_streams.specs.Limits.{max_steps}
use Rattle.city_grid.specs.Vertex.{vertex_tree, IsShortNumber, IsShortInteger}
use Rattle.city_grid.proofs.decimals.DigitValues.{digit_byte, all_digits-append}
use Rattle.city_json.proofs.Triples.{mark_slice, regroup, slice_length}

-- one byte more
one_more : (text : List ℕ) (at end : ℕ) → at ≤ end → end < length text
    → slice_range text at (end + 1) ≡ slice_range text at end ++ get_or text end 0 ∷ []
one_more text at end onward within = slice_more text at end (end + 1) onward (omega arith)
    ∙ ap (λ l. slice_range text at end ++ l) (slice_one text end (get_or text end 0) within refl)

pub digits_more : (text : List ℕ) (at end : ℕ) → at ≤ end → end < length text → 48 ≤ get_or text end 0
    → get_or text end 0 ≤ 57 → AllDigits 10 (slice_range text at end) → AllDigits 10 (slice_range text at (end + 1))
digits_more text at end onward within low high all =
    let digit : digit_value (get_or text end 0) < 10 = omega (arith, digit_byte (get_or text end 0) (low, high)) in
    subst (AllDigits 10) (sym (one_more text at end onward within))
    (all_digits-append (slice_range text at end) (get_or text end 0 ∷ []) all (digit, tt))

-- what at most so many digits write
pub few_digits : (text : List ℕ) (at end size most : ℕ) → end ≤ length text → end ≤ at + most
    → AllDigits 10 (slice_range text at end) → size ≡ digits_value 10 (slice_range text at end) → size < 10 ^ most
few_digits text at end size most within few all is =
    let less = digits_value-lt 10 (slice_range text at end) all in
    let fewer : length (slice_range text at end) ≤ most = omega (arith, slice_length text at end within) in
    let powers : 10 ^ length (slice_range text at end) ≤ 10 ^ most = pow-le-pow_right (omega arith) fewer in
    omega arith

pub zero_text : (text : List ℕ) (at end size : ℕ) → at < end → end ≤ at + 1 → end ≤ length text → get_or text at 0 ≡ 48
    → size ≡ digits_value 10 (slice_range text at end) → slice_range text at end ≡ decimal size
zero_text text at end size onward one within first is =
    let ends : end ≡ at + 1 = omega arith in
    let digit : slice_range text at end ≡ 48 ∷ [] = ap (λ e. slice_range text at e) ends
    ∙ slice_one text at 48 (omega arith) first in
    let nothing : size ≡ 0 = is ∙ ap (digits_value 10) digit in
    digit ∙ sym (decimal_digit 0 (omega arith)) ∙ ap decimal (sym nothing)

first_of_slice : (text : List ℕ) (at end : ℕ) → at < end → end ≤ length text
    → get_or (slice_range text at end) 0 0 ≡ get_or text at 0
first_of_slice text at end onward within =
    ap (λ l. get_or l 0 0) (slice_more text at (at + 1) end (omega arith) (omega arith)
    ∙ ap (λ l. l ++ slice_range text (at + 1) end) (slice_one text at (get_or text at 0) (omega arith) refl))

pub digits_text : (text : List ℕ) (at end size : ℕ) → at < end → end ≤ length text → get_or text at 0 ≢ 48
    → AllDigits 10 (slice_range text at end) → size ≡ digits_value 10 (slice_range text at end) → size < 10 ^ 16
    → slice_range text at end ≡ decimal size
digits_text text at end size onward within first all is small =
    let long = slice_length text at end within in
    sym (decimal-digits_value numerals (slice_range text at end) all (omega (arith, long))
    (λ zero. absurd (first (sym (first_of_slice text at end onward within) ∙ zero))) (omega (arith, is)))
    ∙ ap decimal (sym is)

-- signs
pub negative_text : (text : List ℕ) (at end size : ℕ) → at < length text → get_or text at 0 ≡ minus → at + 1 < end
    → slice_range text (at + 1) end ≡ decimal size → size ≢ 0
    → slice_range text at end ≡ signed_decimal (neg_ℤ (pos size))
negative_text text at end zero within is onward written some = absurd (some refl)
negative_text text at end (suc n) within is onward written some =
    slice_more text at (at + 1) end (omega arith) (omega arith)
    ∙ ap (λ l. l ++ slice_range text (at + 1) end) (slice_one text at minus within is) ∙ ap (λ l. minus ∷ l) written

-- a vertex
run_slice : (text first found : List ℕ) (at middle end : ℕ) → at ≤ middle → middle ≤ end
    → slice_range text at middle ≡ first → slice_range text middle end ≡ found
    → slice_range text at end ≡ first ++ found
run_slice text first found at middle end onward more is rest =
    slice_more text at middle end onward more ∙ ap (λ l. l ++ slice_range text middle end) is
    ∙ ap (λ l. first ++ l) rest

pub three_text : (text xs ys zs : List ℕ) (at a b c : ℕ) → at < length text → get_or text at 0 ≡ open_bracket
    → at + 1 < a → slice_range text (at + 1) a ≡ xs → a < length text → get_or text a 0 ≡ comma
    → a + 1 < b → slice_range text (a + 1) b ≡ ys → b < length text → get_or text b 0 ≡ comma
    → b + 1 < c → slice_range text (b + 1) c ≡ zs → c < length text → get_or text c 0 ≡ close_bracket
    → slice_range text at (c + 1) ≡ compact (three (record { x = xs; y = ys; z = zs }))
three_text text xs ys zs at a b c within opened a1 is_x wa comma_a b1 is_y wb comma_b c1 is_z wc closed =
    let last : slice_range text (b + 1) (c + 1) ≡ zs ++ close_bracket ∷ [] =
    run_slice text _ _ (b + 1) c (c + 1) (omega arith) (omega arith) is_z
    (slice_one text c close_bracket wc closed) in
    let second : slice_range text (a + 1) (c + 1) ≡ ys ++ (comma ∷ (zs ++ close_bracket ∷ [])) =
    run_slice text _ _ (a + 1) b (c + 1) (omega arith) (omega arith) is_y
    (mark_slice text _ b (c + 1) comma wb comma_b (omega arith) last) in
    let first : slice_range text (at + 1) (c + 1) ≡ xs ++ (comma ∷ (ys ++ (comma ∷ (zs ++ close_bracket ∷ [])))) =
    run_slice text _ _ (at + 1) a (c + 1) (omega arith) (omega arith) is_x
    (mark_slice text _ a (c + 1) comma wa comma_a (omega arith) second) in
    mark_slice text _ at (c + 1) open_bracket within opened (omega arith) first
    ∙ ap (λ l. open_bracket ∷ l) (regroup xs ys zs)

pub vertex_text : (text : List ℕ) (at a b c : ℕ) (p : Triple) → at < length text → get_or text at 0 ≡ open_bracket
    → at + 1 < a → slice_range text (at + 1) a ≡ signed_decimal p.x → a < length text → get_or text a 0 ≡ comma
    → a + 1 < b → slice_range text (a + 1) b ≡ signed_decimal p.y → b < length text → get_or text b 0 ≡ comma
    → b + 1 < c → slice_range text (b + 1) c ≡ signed_decimal p.z → c < length text → get_or text c 0 ≡ close_bracket
    → slice_range text at (c + 1) ≡ compact (vertex_tree p)
vertex_text text at a b c p = three_text text (signed_decimal p.x) (signed_decimal p.y) (signed_decimal p.z) at a b c

-- the same written from its end
pub put_text : (a0 a1 a2 a3 a4 a5 a6 a7 : List ℕ) (p : Triple) (x y z : ℤ) → x ≡ p.x → y ≡ p.y → z ≡ p.z
    → a7 ≡ open_bracket ∷ a6 → a6 ≡ signed_decimal x ++ a5 → a5 ≡ comma ∷ a4 → a4 ≡ signed_decimal y ++ a3
    → a3 ≡ comma ∷ a2 → a2 ≡ signed_decimal z ++ a1 → a1 ≡ close_bracket ∷ a0 → a0 ≡ []
    → a7 ≡ compact (vertex_tree p)
put_text a0 a1 a2 a3 a4 a5 a6 a7 p x y z same_x same_y same_z e7 e6 e5 e4 e3 e2 e1 e0 =
    e7 ∙ ap (λ l. open_bracket ∷ l) (e6 ∙ ap (λ v. signed_decimal v ++ a5) same_x
    ∙ ap (λ l. signed_decimal p.x ++ l) (e5
    ∙ ap (λ l. comma ∷ l) (e4 ∙ ap (λ v. signed_decimal v ++ a3) same_y
    ∙ ap (λ l. signed_decimal p.y ++ l) (e3
    ∙ ap (λ l. comma ∷ l) (e2 ∙ ap (λ v. signed_decimal v ++ a1) same_z
    ∙ ap (λ l. signed_decimal p.z ++ l) (e1 ∙ ap (λ l. close_bracket ∷ l) e0)))))
    ∙ regroup (signed_decimal p.x) (signed_decimal p.y) (signed_decimal p.z))

pub short_decimal : (n : ℕ) → n ≤ max_steps → length (decimal n) ≤ 16
short_decimal n small = length-decimal-le 16 n (omega arith) (omega arith) (omega arith)

-- numbers that are only looked at
pub short_number : (text : List ℕ) (at end : ℕ) → at < end → end ≤ length text → end ≤ at + 15 → get_or text at 0 ≢ 48
    → AllDigits 10 (slice_range text at end) → IsShortNumber text at end
short_number text at end onward within few first all =
    let value = digits_value 10 (slice_range text at end) in
    let small : value < 10 ^ 15 = few_digits text at end value 15 within few all refl in
    (value, digits_text text at end value onward within first all refl (omega (arith, small)), omega (arith, small))

pub short_zero : (text : List ℕ) (at end : ℕ) → at < end → end ≤ at + 1 → end ≤ length text → get_or text at 0 ≡ 48
    → IsShortNumber text at end
short_zero text at end onward one within first =
    let value = digits_value 10 (slice_range text at end) in
    let small : value < 10 ^ 15 = few_digits text at end value 15 within (omega arith)
    (zero_digits text at end onward one within first) refl in
    (value, zero_text text at end value onward one within first refl, omega (arith, small))
  where
    zero_digits : (text : List ℕ) (at end : ℕ) → at < end → end ≤ at + 1 → end ≤ length text → get_or text at 0 ≡ 48
        → AllDigits 10 (slice_range text at end)
    zero_digits text at end onward one within first =
        let ends : end ≡ at + 1 = omega arith in
        subst (AllDigits 10) (sym (ap (λ e. slice_range text at e) ends ∙ slice_one text at 48 (omega arith) first))
        (omega arith, tt)

pub short_negative : (text : List ℕ) (at end : ℕ) → at < length text → get_or text at 0 ≡ minus → at + 1 < end
    → end ≤ length text → get_or text (at + 1) 0 ≢ 48 → IsShortNumber text (at + 1) end → IsShortInteger text at end
short_negative text at end within is onward last first (zero, written, small) =
    absurd (first (sym (first_of_slice text (at + 1) end onward last)
    ∙ ap (λ l. get_or l 0 0) (written ∙ decimal_digit 0 (omega arith))))
short_negative text at end within is onward last first (suc n, written, small) = (
  neg_ℤ (pos (suc n)),
  negative_text text at end (suc n) within is onward written (λ e. absurd (omega (arith, e))),
  small,
)

pub short_positive : (text : List ℕ) (at end : ℕ) → IsShortNumber text at end → IsShortInteger text at end
short_positive text at end (n, written, small) = (pos n, written, small)
