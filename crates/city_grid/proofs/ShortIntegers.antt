-- Whole numbers of at most fifteen digits: what is written for their values is how they stand.
use Rattle.std.proofs.Common.{◌≡◌, ◌≢◌, ◌⊎◌, ◌∙◌, ◌++◌, ◌^◌, ◌+◌, ◌<◌, ◌≤◌, ℕ, zero, suc, List, [], ◌∷◌, length, drop, get_or, refl, ap, sym, subst, arith, inl, inr, ℤ, pos, neg_ℤ, unsigned_abs, slice_range, w64, of_z, to_z}
use Rattle.std.proofs.lemmas.Fmt.{decimal-digits_value, decimal_digit}
use Rattle.std.proofs.lemmas.Int.{fits_signed_from_abs, int_wrap_fits, to_z-of_z, to_z_pos, wrapping_neg_is}
use Rattle.std.proofs.lemmas.Int.Digits.{digits_value-lt}
use Rattle.std.proofs.lemmas.Str.Parse.{IsNumeralModel, digit_at}
use Rattle.std.proofs.Math.Nat.{pow-le-pow_right}
use Rattle.std.specs.Int.{int_wrapping_neg}
use Rattle.std.specs.Fmt.{decimal, signed_decimal}
use Rattle.std.specs.Str.Parse.{AllDigits, digits_value}
use Rattle.byte_streams.specs.Limits.{max_steps}
use Rattle.city_json.proofs.Places.{slice_more, slice_one}
use Rattle.city_json.proofs.PartsOfNumbers.{digits_of_whole}
use Rattle.city_json.specs.Bytes.{digit_zero, minus}
use Rattle.city_json.specs.Number.{IsWhole}
use Rattle.city_json.specs.Triples.{IsShortNumeral}

pub numerals : IsNumeralModel (AllDigits 10) (digits_value 10)
numerals = record { to = λ ds digits. digits; from = λ ds digits. digits; same = λ ds digits. refl }

-- a whole number of few digits, as it is printed
pub record IsPrinted (whole : List ℕ) : Type 0 where
  pub value : ℕ
  pub is : value ≡ digits_value 10 whole
  pub printed : whole ≡ decimal value
  pub small : value ≤ max_steps
  pub zero_first : value ≡ 0 → get_or whole 0 0 ≡ digit_zero

pub printed : (whole : List ℕ) → IsWhole whole → length whole ≤ 15 → IsPrinted whole
printed [] is few = absurd is
printed (first ∷ digits) (inl is) few = record {
  value = 0;
  is = sym (λ i. digits_value 10 (is.0 i ∷ is.1 i));
  printed = (λ i. is.0 i ∷ is.1 i) ∙ sym (decimal_digit 0 (omega arith));
  small = omega arith;
  zero_first = λ _. is.0;
}
printed (first ∷ digits) (inr is) few =
    let all : AllDigits 10 (first ∷ digits) = digits_of_whole (first ∷ digits) (inr is) in
    let value = digits_value 10 (first ∷ digits) in
    let less = digits_value-lt 10 (first ∷ digits) all in
    let powers : 10 ^ length (first ∷ digits) ≤ 10 ^ 15 = pow-le-pow_right (omega arith) few in
    let same : decimal value ≡ first ∷ digits =
    decimal-digits_value numerals (first ∷ digits) all (omega arith) (λ zero. absurd (omega (arith, is, zero))) (omega (arith, less, powers)) in
    record {
      value = value;
      is = refl;
      printed = sym same;
      small = omega (arith, less, powers);
      zero_first = λ none. ap (λ l. get_or l 0 0) (sym same ∙ ap decimal none ∙ decimal_digit 0 (omega arith));
    }

pub record IsPrintedInteger (text : List ℕ) : Type 0 where
  pub value : ℤ
  pub printed : text ≡ signed_decimal value
  pub small : unsigned_abs value ≤ max_steps

negative : (text whole : List ℕ) (value : ℕ) → text ≡ minus ∷ whole → whole ≡ decimal value → value ≢ 0
    → text ≡ signed_decimal (neg_ℤ (pos value))
negative text whole zero is printed some = absurd (some refl)
negative text whole (suc k) is printed some = is ∙ ap (λ l. minus ∷ l) printed

negative_small : (value : ℕ) → value ≤ max_steps → unsigned_abs (neg_ℤ (pos value)) ≤ max_steps
negative_small zero small = small
negative_small (suc k) small = small

pub integer : (text : List ℕ) → IsShortNumeral text → IsPrintedInteger text
integer text n = signed n.is_sign (printed n.whole n.is_whole n.few)
  where
    signed : (n.sign ≡ []) ⊎ ((n.sign ≡ minus ∷ []) × (get_or n.whole 0 0 ≢ digit_zero)) → IsPrinted n.whole
        → IsPrintedInteger text
    signed (inl none) p = record {
      value = pos p.value;
      printed = n.splits ∙ (λ i. none i ++ p.printed i);
      small = p.small;
    }
    signed (inr some) p = record {
      value = neg_ℤ (pos p.value);
      printed = negative text n.whole p.value (n.splits ∙ ap (λ l. l ++ n.whole) some.0) p.printed
          (λ zero. some.1 (p.zero_first zero));
      small = negative_small p.value p.small;
    }

whole_starts : (whole : List ℕ) → IsWhole whole → get_or whole 0 0 ≢ minus
whole_starts [] is same = absurd is
whole_starts (first ∷ digits) is same =
    let range = digit_at (first ∷ digits) 0 (digits_of_whole (first ∷ digits) is) (omega arith) in
    absurd (omega (arith, range, same))

-- a number that was read of the digits
pub record IsRead (text : List ℕ) (size : ℕ) (z : ℤ) : Type 0 where
  pub small : size ≤ max_steps
  pub is : text ≡ signed_decimal z

pub positive_read : (text : List ℕ) (size : ℕ) → IsShortNumeral text → get_or text 0 0 ≢ minus
    → (AllDigits 10 text → size ≡ digits_value 10 text) → IsRead text size (pos size)
positive_read text size n first reads = by n.is_sign
  where
    by : (n.sign ≡ []) ⊎ ((n.sign ≡ minus ∷ []) × (get_or n.whole 0 0 ≢ digit_zero)) → IsRead text size (pos size)
    by (inl none) =
        let same : text ≡ n.whole = n.splits ∙ ap (λ l. l ++ n.whole) none in
        let p = printed n.whole n.is_whole n.few in
        let value : size ≡ p.value = reads (subst (AllDigits 10) (sym same) (digits_of_whole n.whole n.is_whole))
        ∙ ap (digits_value 10) same ∙ sym p.is in
        record {
          small = omega (arith, value, p.small);
          is = same ∙ p.printed ∙ ap decimal (sym value);
        }
    by (inr some) = absurd (first (ap (λ l. get_or l 0 0) (n.splits ∙ ap (λ l. l ++ n.whole) some.0)))

pub negative_read : (text : List ℕ) (size : ℕ) → IsShortNumeral text → get_or text 0 0 ≡ minus
    → (AllDigits 10 (drop 1 text) → size ≡ digits_value 10 (drop 1 text)) → IsRead text size (neg_ℤ (pos size))
negative_read text size n first reads = by n.is_sign
  where
    by : (n.sign ≡ []) ⊎ ((n.sign ≡ minus ∷ []) × (get_or n.whole 0 0 ≢ digit_zero))
        → IsRead text size (neg_ℤ (pos size))
    by (inl none) = absurd (whole_starts n.whole n.is_whole
        (ap (λ l. get_or l 0 0) (sym (n.splits ∙ ap (λ l. l ++ n.whole) none)) ∙ first))
    by (inr some) =
        let same : text ≡ minus ∷ n.whole = n.splits ∙ ap (λ l. l ++ n.whole) some.0 in
        let rest : drop 1 text ≡ n.whole = ap (drop 1) same in
        let p = printed n.whole n.is_whole n.few in
        let value : size ≡ p.value = reads (subst (AllDigits 10) (sym rest) (digits_of_whole n.whole n.is_whole))
        ∙ ap (digits_value 10) rest ∙ sym p.is in
        record {
          small = omega (arith, value, p.small);
          is = negative text n.whole size same (p.printed ∙ ap decimal (sym value))
              (λ zero. some.1 (p.zero_first (sym value ∙ zero)));
        }

-- ---- between two places of a text
next_slice : (text : List ℕ) (at end b : ℕ) → at < end → at < length text → get_or text at 0 ≡ b
    → slice_range text at end ≡ b ∷ slice_range text (at + 1) end
next_slice text at end b onward within is =
    slice_more text at (at + 1) end (omega arith) (omega arith)
    ∙ ap (λ l. l ++ slice_range text (at + 1) end) (slice_one text at b within is)

pub positive_here : (text : List ℕ) (at end size : ℕ) (z : ℤ) → at < end → at < length text → get_or text at 0 ≢ minus
    → (AllDigits 10 (slice_range text at end) → size ≡ digits_value 10 (slice_range text at end))
    → z ≡ to_z w64 size → IsShortNumeral (slice_range text at end)
    → slice_range text at end ≡ signed_decimal (to_z w64 (of_z w64 z))
positive_here text at end size z onward within first reads is n =
    let starts : get_or (slice_range text at end) 0 0 ≡ get_or text at 0 =
    ap (λ l. get_or l 0 0) (next_slice text at end (get_or text at 0) onward within refl) in
    let read = positive_read (slice_range text at end) size n (λ same. first (sym starts ∙ same)) reads in
    let value : z ≡ pos size = is ∙ to_z_pos w64 size (omega (arith, read.small)) in
    read.is ∙ ap signed_decimal (sym (ap (λ k. to_z w64 (of_z w64 k)) value
    ∙ to_z-of_z w64 (pos size) (fits_signed_from_abs w64 (pos size) (omega (arith, read.small)))))

pub negative_here : (text : List ℕ) (at end size : ℕ) (y z : ℤ) → at < end → at < length text → get_or text at 0 ≡ minus
    → (AllDigits 10 (slice_range text (at + 1) end) → size ≡ digits_value 10 (slice_range text (at + 1) end))
    → y ≡ to_z w64 size → z ≡ int_wrapping_neg w64 (to_z w64 (of_z w64 y))
    → IsShortNumeral (slice_range text at end)
    → slice_range text at end ≡ signed_decimal (to_z w64 (of_z w64 z))
negative_here text at end size y z onward within first reads is_y is_z n =
    let parts : slice_range text at end ≡ minus ∷ slice_range text (at + 1) end =
    next_slice text at end minus onward within first in
    let rest : slice_range text (at + 1) end ≡ drop 1 (slice_range text at end) = ap (drop 1) (sym parts) in
    let read = negative_read (slice_range text at end) size n (ap (λ l. get_or l 0 0) parts)
    (subst (λ ds. AllDigits 10 ds → size ≡ digits_value 10 ds) rest reads) in
    let small = negative_small size read.small in
    let value : z ≡ neg_ℤ (pos size) =
    is_z ∙ ap (λ k. int_wrapping_neg w64 (to_z w64 (of_z w64 k))) (is_y ∙ to_z_pos w64 size (omega (arith, read.small)))
    ∙ ap (int_wrapping_neg w64)
    (to_z-of_z w64 (pos size) (fits_signed_from_abs w64 (pos size) (omega (arith, read.small))))
    ∙ wrapping_neg_is w64 (pos size) (fits_signed_from_abs w64 (pos size) (omega (arith, read.small)))
    ∙ int_wrap_fits w64 (neg_ℤ (pos size)) (fits_signed_from_abs w64 (neg_ℤ (pos size)) (omega (arith, small))) in
    read.is ∙ ap signed_decimal (sym (ap (λ k. to_z w64 (of_z w64 k)) value
    ∙ to_z-of_z w64 (neg_ℤ (pos size)) (fits_signed_from_abs w64 (neg_ℤ (pos size)) (omega (arith, small)))))
