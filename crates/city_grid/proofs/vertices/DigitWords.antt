-- Digits in the bytes of a word.
use Rattle.std.proofs.Common.{◌≡◌, ℕ, zero, suc, ◌+◌, ◌-◌, ◌*◌, ◌%◌, ◌^◌, ◌<◌, ◌≤◌, ◌∙◌, refl, sym, ap, subst, List, [], ◌∷◌, map, length, length-drop, get_or, take, drop, slice_range, true, arith}
use Rattle.std.proofs.Math.Nat.{pow-suc}
use Rattle.std.proofs.lemmas.Bool.Decides.{nat_tests}
use Rattle.std.proofs.lemmas.List.{drop-drop, drop-take, length-take-le, take-append-drop, take-take, take_all}
use Rattle.std.proofs.lemmas.Nat.{pow-add}
use Rattle.std.proofs.lemmas.Str.Parse.{digit_from_value}
use Rattle.std.specs.Char.{digit_value, is_ascii_digit}
use Rattle.std.specs.Float.Numeral.{digits_len}
use Rattle.std.specs.Int.{from_le_bytes, w64}
use Rattle.std.specs.Int.Bits.{bit_xor}
use Rattle.std.specs.Int.Digits.{number_from_digits}
use Rattle.std.specs.Simd.Lanes.{number_l}
use Rattle.std.specs.Str.Parse.{AllDigits, digits_value}
use Rattle.core.specs.Dec2flt.Digits.{less_zero, IsEightBytes, IsEightDigits}
use Rattle.core.proofs.dec2flt.Eight.{eight_at, lanes_are, shifted_is}
use Rattle.core.proofs.dec2flt.Rows.{value_below}
use Rattle.city_grid.proofs.decimals.DigitValues.{all_digits-drop, all_digits-take, value-append}

-- what eight bytes are as a word, written by place or by what follows each
word_is : (bytes : List ℕ) → length bytes ≡ 8 → from_le_bytes w64 bytes ≡ number_l 256 bytes
word_is [] long = absurd (omega arith)
word_is (a ∷ []) long = absurd (omega arith)
word_is (a ∷ b ∷ []) long = absurd (omega arith)
word_is (a ∷ b ∷ c ∷ []) long = absurd (omega arith)
word_is (a ∷ b ∷ c ∷ d ∷ []) long = absurd (omega arith)
word_is (a ∷ b ∷ c ∷ d ∷ e ∷ []) long = absurd (omega arith)
word_is (a ∷ b ∷ c ∷ d ∷ e ∷ f ∷ []) long = absurd (omega arith)
word_is (a ∷ b ∷ c ∷ d ∷ e ∷ f ∷ g ∷ []) long = absurd (omega arith)
word_is (a ∷ b ∷ c ∷ d ∷ e ∷ f ∷ g ∷ h ∷ []) long = omega arith
word_is (a ∷ b ∷ c ∷ d ∷ e ∷ f ∷ g ∷ h ∷ i ∷ bytes) long = absurd (omega arith)

-- a byte is eight bits
byte_places : (k : ℕ) → 2 ^ (8 * k) ≡ 256 ^ k
byte_places zero = refl
byte_places (suc k) =
    let more : 8 * suc k ≡ 8 * k + 8 = omega arith in
    ap (λ bits. 2 ^ bits) more ∙ pow-add 2 (8 * k) 8 ∙ ap (λ worth. worth * 256) (byte_places k) ∙ sym (pow-suc 256 k)

is_digit : (b : ℕ) → digit_value b < 10 → is_ascii_digit b ≡ true
is_digit b small = let here = digit_from_value b small in grind (arith, nat_tests)

-- digits at the front are counted
counted : (n : ℕ) (bytes : List ℕ) → n ≤ length bytes → AllDigits 10 (take n bytes) → n ≤ digits_len bytes
counted zero bytes within digits = omega arith
counted (suc n) [] within digits = absurd (omega arith)
counted (suc n) (b ∷ bytes) within digits =
    rw (is_digit b digits.0) (omega (arith, counted n bytes (omega arith) digits.1))

-- a word of eight digits is read as what they write, and zeros in front of them write no more
written_as : (word value : ℕ) (front text : List ℕ) → front ≡ text
    → ((digits : List ℕ) → IsEightDigits digits → word ≡ number_l 256 digits → value ≡ number_from_digits 10 digits)
    → ((digits : List ℕ) × IsEightDigits digits × (word ≡ number_l 256 digits)
    × (number_from_digits 10 digits ≡ digits_value 10 front))
    → value ≡ digits_value 10 text
written_as word value front text same read (digits, eight, shown, written) =
    read digits eight shown ∙ written ∙ ap (digits_value 10) same

-- what is read of the word of eight bytes of a text, those after the digits shifted out
pub few_digits_are : (text : List ℕ) (at end word value : ℕ) → at < end → end ≤ at + 8 → at + 8 ≤ length text
    → ((k : ℕ) → get_or text k 0 < 256) → word ≡ from_le_bytes w64 (slice_range text at (at + 8))
    → AllDigits 10 (slice_range text at end)
    → ((digits : List ℕ) → IsEightDigits digits
    → bit_xor word 0x3030_3030_3030_3030 * 2 ^ (64 - 8 * (end - at)) % 2 ^ 64 ≡ number_l 256 digits
    → value ≡ number_from_digits 10 digits)
    → value ≡ digits_value 10 (slice_range text at end)
few_digits_are text at end word value some few within fit loaded digits read =
    let count = end - at in
    let bytes = take 8 (drop at text) in
    let eight : IsEightBytes bytes = eight_at text at fit within in
    let length_is : at + 8 - at ≡ 8 = omega arith in
    let loaded_is = ap (λ n. from_le_bytes w64 (take n (drop at text))) length_is in
    let is : word ≡ number_l 256 bytes = loaded ∙ loaded_is ∙ word_is bytes eight.0 in
    let front : take count bytes ≡ slice_range text at end = take-take count 8 (drop at text) (omega arith) in
    let within_digits = counted count bytes (omega (arith, eight.0)) (subst (AllDigits 10) (sym front) digits) in
    let shift : 64 - 8 * count ≡ 8 * (8 - count) = omega arith in
    let places : 2 ^ (64 - 8 * count) ≡ 256 ^ (8 - count) = ap (λ bits. 2 ^ bits) shift ∙ byte_places (8 - count) in
    let lanes = number_l 256 (map less_zero bytes) in
    let lanes_are_bytes : bit_xor word 0x3030_3030_3030_3030 ≡ lanes = lanes_are bytes word eight is in
    let shifted : bit_xor word 0x3030_3030_3030_3030 * 2 ^ (64 - 8 * count) % 2 ^ 64 ≡ lanes * 256 ^ (8 - count) % 2 ^ 64 =
    λ i. lanes_are_bytes i * places i % 2 ^ 64 in
    written_as (bit_xor word 0x3030_3030_3030_3030 * 2 ^ (64 - 8 * count) % 2 ^ 64) value (take count bytes)
    (slice_range text at end) front read (shifted_is bytes count _ eight within_digits (omega arith) shifted)

-- what is read of nine to sixteen digits in two parts
pub many_digits_are : (text : List ℕ) (at end front back : ℕ) → at + 8 < end → end ≤ at + 16 → end ≤ length text
    → AllDigits 10 (slice_range text at end)
    → (AllDigits 10 (slice_range text at (end - 8)) → front ≡ digits_value 10 (slice_range text at (end - 8)))
    → (AllDigits 10 (slice_range text (end - 8) end) → back ≡ digits_value 10 (slice_range text (end - 8) end))
    → (front * 100_000_000 % 2 ^ 64 + back) % 2 ^ 64 ≡ digits_value 10 (slice_range text at end)
many_digits_are text at end front back many few within digits front_is back_is =
    let ds = slice_range text at end in
    let count = end - 8 - at in
    let long : length ds ≡ end - at = length-take-le (end - at) (drop at text) (omega (arith, length-drop at text)) in
    let first : take count ds ≡ slice_range text at (end - 8) = take-take count (end - at) (drop at text) (omega arith) in
    let parts : end - at ≡ count + 8 = omega arith in
    let eight : end - (end - 8) ≡ 8 = omega arith in
    let place : at + count ≡ end - 8 = omega arith in
    let last : drop count ds ≡ slice_range text (end - 8) end =
    ap (λ n. drop count (take n (drop at text))) parts ∙ drop-take count 8 (drop at text)
    ∙ ap (take 8) (drop-drop count at text ∙ ap (λ n. drop n text) place)
    ∙ ap (λ n. take n (drop (end - 8) text)) (sym eight) in
    let last_long : length (drop count ds) ≡ 8 = omega (arith, length-drop count ds, long) in
    let a = front_is (subst (AllDigits 10) first (all_digits-take count ds digits)) ∙ ap (digits_value 10) (sym first) in
    let b = back_is (subst (AllDigits 10) last (all_digits-drop count ds digits)) ∙ ap (digits_value 10) (sym last) in
    let joined : digits_value 10 ds ≡ digits_value 10 (take count ds) * 10 ^ length (drop count ds) + digits_value 10 (drop count ds) =
    ap (digits_value 10) (sym (take-append-drop count ds)) ∙ value-append (take count ds) (drop count ds) in
    let worth : digits_value 10 (take count ds) * 10 ^ length (drop count ds) ≡ digits_value 10 (take count ds) * 100_000_000 =
    ap (λ n. digits_value 10 (take count ds) * 10 ^ n) last_long in
    let small : digits_value 10 ds < 10 ^ 16 =
    subst (λ xs. digits_value 10 xs < 10 ^ 16) (take_all 16 ds (omega (arith, long))) (value_below ds 0 16 digits) in
    omega (arith, a, b, joined, worth, small)
