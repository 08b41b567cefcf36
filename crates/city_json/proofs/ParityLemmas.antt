-- Whether an odd number of a mask's bits are set, bit by bit.
use Rattle.std.proofs.Common.{inl, inr, ◌≡◌, ◌<◌, ◌≤◌, ◌+◌, ◌-◌, ◌*◌, ◌/◌, ◌%◌, ◌^◌, ℕ, refl, arith, ap, sym, ◌∙◌, pow_pos, add-zero}
use Rattle.std.proofs.Math.Nat.{mod-lt}
use Rattle.std.specs.Prelude.{bit_xor}
use Rattle.std.specs.Int.{bit_at}
use Rattle.std.specs.Int.Count.{ones}
use Rattle.std.proofs.lemmas.Bool.{cases_lt}
use Rattle.std.proofs.lemmas.Nat.{ones_cat, mod-pow-add}
use Rattle.std.proofs.lemmas.Nat.Bits.{bit_at_xor, bit_at_cat_low, bit_at_cat_high, bit_at-zero, bit_at-lt}

-- how many of the first so many bits are set
abbrev pub ones_below : ℕ → ℕ → ℕ
ones_below bits n = ones (bits % 2 ^ n)

-- Each bit of the sums tells whether an odd number of the bits that are less than `reach` below it are set.
pub record Reaches (bits sums reach : ℕ) : Type 0 where
  pub each : (i : ℕ) → i < 64 → (bit_at sums i + ones_below bits (i + 1 - reach)) % 2 ≡ ones_below bits (i + 1) % 2

ones_bit : (b : ℕ) → b < 2 → ones b ≡ b
unfolding ones
ones_bit b small = elim (cases_lt b 1) [
  | inl none ↦ let is : b ≡ 0 = omega arith in rw is refl
  | inr some ↦ let is : b ≡ 1 = omega arith in rw is refl
]

ones_below-more : (bits i : ℕ) → ones_below bits (i + 1) ≡ bit_at bits i + ones_below bits i
ones_below-more bits i =
    let order : i + 1 ≡ 1 + i = omega arith in
    let low : bits % 2 ^ i < 2 ^ i = mod-lt bits (pow_pos i) in
    rw (order, mod-pow-add bits 1 i, ones_cat i (bits / 2 ^ i % 2 ^ 1) (bits % 2 ^ i) low)
    (ap (λ x. x + ones (bits % 2 ^ i)) (ones_bit (bits / 2 ^ i % 2) (bit_at-lt bits i)))

pub Reaches-one : (bits : ℕ) → Reaches bits bits 1
Reaches-one bits = record {
  each = λ i low.
      let before : i + 1 - 1 ≡ i = omega arith in
      rw before (ap (λ x. x % 2) (sym (ones_below-more bits i)));
}

bit_at_mod : (n i : ℕ) → i < 64 → bit_at (n % 2 ^ 64) i ≡ bit_at n i
bit_at_mod n i low =
    let split : n ≡ n / 2 ^ 64 * 2 ^ 64 + n % 2 ^ 64 = omega arith in
    sym (ap (λ x. bit_at x i) split ∙ bit_at_cat_low (n / 2 ^ 64) 64 (n % 2 ^ 64) i low)

-- the bits of a number that was shifted up
bit_at_up_low : (n d i : ℕ) → i < 64 → i < d → bit_at (n * 2 ^ d % 2 ^ 64) i ≡ 0
bit_at_up_low n d i low below =
    bit_at_mod (n * 2 ^ d) i low
    ∙ (ap (λ x. bit_at x i) (sym (add-zero (n * 2 ^ d))) ∙ (bit_at_cat_low n d 0 i below ∙ bit_at-zero i))

bit_at_up_high : (n d i : ℕ) → i < 64 → d ≤ i → bit_at (n * 2 ^ d % 2 ^ 64) i ≡ bit_at n (i - d)
bit_at_up_high n d i low above =
    bit_at_mod (n * 2 ^ d) i low
    ∙ (ap (λ x. bit_at x i) (sym (add-zero (n * 2 ^ d))) ∙ bit_at_cat_high n d 0 i (pow_pos d) above)

pub Reaches-twice : (bits sums reach : ℕ) → Reaches bits sums reach
    → Reaches bits (bit_xor sums (sums * 2 ^ reach % 2 ^ 64)) (reach * 2)
Reaches-twice bits sums reach so_far = record {
  each = λ i low.
      rw (bit_at_xor sums (sums * 2 ^ reach % 2 ^ 64) i) (elim (cases_lt i reach) [
        | inl below ↦
            let none : i + 1 - reach * 2 ≡ i + 1 - reach = omega arith in
            rw (bit_at_up_low sums reach i low below, none) (omega (arith, so_far.each i low))
        | inr above ↦
            let earlier : i - reach + 1 ≡ i + 1 - reach = omega arith in
            let first : i - reach + 1 - reach ≡ i + 1 - reach * 2 = omega arith in
            let before : (bit_at sums (i - reach) + ones_below bits (i + 1 - reach * 2)) % 2
            ≡ ones_below bits (i + 1 - reach) % 2 =
            ap (λ k. (bit_at sums (i - reach) + ones_below bits k) % 2) (sym first)
            ∙ (so_far.each (i - reach) (omega arith) ∙ ap (λ k. ones_below bits k % 2) earlier) in
            rw (bit_at_up_high sums reach i low above) (omega (arith, before, so_far.each i low))
      ]);
}

pub Reaches-all : (bits sums reach : ℕ) → 64 ≤ reach → Reaches bits sums reach → (i : ℕ) → i < 64
    → bit_at sums i ≡ ones_below bits (i + 1) % 2
unfolding ones
Reaches-all bits sums reach far reaches i low =
    let none : i + 1 - reach ≡ 0 = omega arith in
    let empty : bits % 2 ^ 0 ≡ 0 = omega arith in
    let nothing : ones_below bits (i + 1 - reach) ≡ 0 = rw (none, empty) refl in
    omega (arith, reaches.each i low, nothing, bit_at-lt sums i)
