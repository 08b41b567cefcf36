-- Runs of digits, sixteen bytes at a time.
use Rattle.std.proofs.Common.{◌≡◌, ℕ, suc, ◌+◌, ◌%◌, ◌^◌, ◌<◌, ◌≤◌, Bool, true, false, not, cond, ltb, ◌&&◌, List, [], ◌∷◌, map, length, drop, replicate, refl, sym, ap, ◌∙◌, arith}
use Rattle.std.specs.List.{prefix_len}
use Rattle.std.proofs.lemmas.Bool.Decides.{nat_tests}
use Rattle.std.proofs.lemmas.List.{drop-drop, length-map}
use Rattle.std.proofs.lemmas.Simd.{zip2_splat, zip2_splat_left, zip2-map, map-map, mask_l-mod}
use lib.Bits.{bit_or}
use lib.Count.{count_trailing_zeros}
use lib.Lanes.{chunk, mask_l, top, zip2}
use Rattle.std.specs.Char.{is_ascii_digit}
use Rattle.city_json.specs.NumberAt.{past_digits}
use Rattle.city_json.proofs.PlainRuns.{twice}
use Rattle.city_json.proofs.Runs.{run_goes_on, run_stops}

abbrev is_stop : ℕ → Bool
is_stop b = not (is_ascii_digit b)

abbrev where_below : ℕ → ℕ → ℕ
where_below a b = cond (ltb a b) 255 0

abbrev lane : ℕ → ℕ
lane b = bit_or (where_below b 48) (where_below 57 b)

any_of : (low high : Bool) → top 7 (bit_or (cond low 255 0) (cond high 255 0)) ≡ not (not low && not high)
any_of true true = refl
any_of true false = refl
any_of false true = refl
any_of false false = refl

is_between : (b : ℕ) → not (not (ltb b 48) && not (ltb 57 b)) ≡ is_stop b
is_between b = grind (arith, nat_tests)

top-lane : (b : ℕ) → top 7 (lane b) ≡ is_stop b
top-lane b = any_of (ltb b 48) (ltb 57 b) ∙ is_between b

-- the mask of a vector
pub digit_mask : (bytes : List ℕ) → length bytes ≡ 16
    → mask_l (map (top 7) (zip2 bit_or (zip2 where_below bytes (replicate 16 48))
    (zip2 where_below (replicate 16 57) bytes))) % 2 ^ 64 ≡ mask_l (map is_stop bytes)
digit_mask bytes long =
    ap (λ x. mask_l (map (top 7) (zip2 bit_or x (zip2 where_below (replicate 16 57) bytes))) % 2 ^ 64)
    (zip2_splat where_below bytes 16 48 long)
    ∙ ap (λ x. mask_l (map (top 7) (zip2 bit_or (map (λ b. where_below b 48) bytes) x)) % 2 ^ 64)
    (zip2_splat_left where_below 57 16 bytes long)
    ∙ ap (λ x. mask_l (map (top 7) x) % 2 ^ 64) (zip2-map bit_or (λ b. where_below b 48) (λ b. where_below 57 b) bytes)
    ∙ ap (λ x. mask_l x % 2 ^ 64) (map-map (top 7) lane bytes
    ∙ ap (λ (f : ℕ → Bool). map f bytes) (λ i b. top-lane b i))
    ∙ mask_l-mod (map is_stop bytes) 64 (omega (arith, length-map bytes is_stop))

module _ (bytes : List ℕ) (at : ℕ) where
  abbrev stops : ℕ
  stops = mask_l (map is_stop (chunk at 16 bytes))

  pub digits_go_on : at + 16 ≤ length bytes → stops ≡ 0
      → prefix_len is_ascii_digit (drop at bytes) ≡ 16 + prefix_len is_ascii_digit (drop (at + 16) bytes)
  digits_go_on room none = run_goes_on is_ascii_digit is_stop (λ b. twice (is_ascii_digit b)) bytes at room none

  pub digits_stop : at + 16 ≤ length bytes → 0 < stops
      → prefix_len is_ascii_digit (drop at bytes) ≡ count_trailing_zeros 64 stops
  digits_stop room some = run_stops is_ascii_digit is_stop (λ b. twice (is_ascii_digit b)) bytes at room some

-- the digits at the front
pub past_is : (bytes : List ℕ) → drop (prefix_len is_ascii_digit bytes) bytes ≡ past_digits bytes
past_is [] = refl
past_is (c ∷ bytes) = by (is_ascii_digit c) refl (past_is bytes)
  where
    by : (t : Bool) → is_ascii_digit c ≡ t → drop (prefix_len is_ascii_digit bytes) bytes ≡ past_digits bytes
        → drop (prefix_len is_ascii_digit (c ∷ bytes)) (c ∷ bytes) ≡ past_digits (c ∷ bytes)
    by true is rest =
        let next : 1 + prefix_len is_ascii_digit bytes ≡ suc (prefix_len is_ascii_digit bytes) = omega arith in
        rw is (ap (λ k. drop k (c ∷ bytes)) next ∙ rest)
    by false is rest = rw is refl

pub past_at : (text : List ℕ) (at : ℕ)
    → drop (at + prefix_len is_ascii_digit (drop at text)) text ≡ past_digits (drop at text)
past_at text at = sym (drop-drop (prefix_len is_ascii_digit (drop at text)) at text) ∙ past_is (drop at text)

-- after some of the digits the same stands after them
pub same_rest : (text : List ℕ) (at end : ℕ)
    → end + prefix_len is_ascii_digit (drop end text) ≡ at + prefix_len is_ascii_digit (drop at text)
    → past_digits (drop end text) ≡ past_digits (drop at text)
same_rest text at end same = sym (past_at text end) ∙ ap (λ n. drop n text) same ∙ past_at text at
