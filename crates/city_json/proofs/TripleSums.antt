-- Arrays of three whole numbers: what sums of bits say.
use Rattle.std.proofs.Common.{◌≡◌, ◌⊎◌, ◌∙◌, ◌+◌, ◌-◌, ◌*◌, ◌/◌, ◌%◌, ◌^◌, ◌<◌, ◌≤◌, ℕ, zero, suc, min, bit_and, bit_or, refl, ap, sym, arith, inl, inr, w64}
use Rattle.std.proofs.lemmas.Bool.{cases_lt}
use Rattle.std.proofs.lemmas.Nat.{leading_top, pow_pos}
use Rattle.std.proofs.Math.Nat.{div-eq_of_lt-le, pow-suc}
use Rattle.std.proofs.lemmas.Nat.Bits.{bit_at-lt, bit_at-suc, bit_at-zero, bit_at_above, bit_at_and, bit_at_cat_high, bit_at_cat_low, bit_at_lowest, bit_at_not, bit_at_or}
use Rattle.std.specs.Int.{bit_at}
use Rattle.std.specs.Int.Count.{count_leading_zeros}
use Rattle.city_json.specs.TriplesFound.{AreApart, AreNext, AreWithout, DoEndsFit, DoNumbersFit, EndsRuns, HasBit, HasNoBit, IsAfter}

pub bit_cases : (n i : ℕ) → HasBit n i ⊎ HasNoBit n i
bit_cases n i = elim (cases_lt (bit_at n i) 1) [
  | inl less ↦ inr (omega arith)
  | inr more ↦ inl (omega (arith, bit_at-lt n i))
]

pub both_bits : (a b i : ℕ) → HasBit (bit_and a b) i → HasBit a i × HasBit b i
both_bits a b i both = (
  omega (arith, bit_at_and a b i, both, bit_at-lt a i, bit_at-lt b i),
  omega (arith, bit_at_and a b i, both, bit_at-lt a i, bit_at-lt b i),
)

pub no_bits : (a b i : ℕ) → HasNoBit (bit_or a b) i → HasNoBit a i × HasNoBit b i
no_bits a b i none = (omega (arith, bit_at_or a b i, none), omega (arith, bit_at_or a b i, none))

-- ---- words that are moved
pub bit_wrapped : (n i : ℕ) → i < 64 → bit_at (n % 2 ^ 64) i ≡ bit_at n i
bit_wrapped n i low =
    let split : n ≡ n / 2 ^ 64 * 2 ^ 64 + n % 2 ^ 64 = omega arith in
    sym (ap (λ m. bit_at m i) split ∙ bit_at_cat_low (n / 2 ^ 64) 64 (n % 2 ^ 64) i low)

moved : (n k i : ℕ) → i + k < 64 → bit_at (n * 2 ^ k % 2 ^ 64) (i + k) ≡ bit_at n i
moved n k i low =
    let none : n * 2 ^ k ≡ n * 2 ^ k + 0 = omega arith in
    let back : i + k - k ≡ i = omega arith in
    bit_wrapped (n * 2 ^ k) (i + k) low ∙ ap (λ m. bit_at m (i + k)) none
    ∙ bit_at_cat_high n k 0 (i + k) (pow_pos k) (omega arith) ∙ ap (bit_at n) back

pub one_on_is : (n : ℕ) → IsAfter n (n * 2 % 2 ^ 64)
one_on_is n = (
  bit_at_lowest (n * 2 % 2 ^ 64) ∙ omega arith,
  λ i low. moved n 1 i low,
)

pub without_is : (a b : ℕ) → b < 2 ^ 64 → AreWithout a b (bit_and a (2 ^ 64 - 1 - b))
without_is a b fits i low = bit_at_and a (2 ^ 64 - 1 - b) i ∙ ap (min (bit_at a i)) (bit_at_not w64 b i fits low)

-- ---- a carry
halved : (a n : ℕ) → AreApart a n → AreApart (a / 2) (n / 2)
halved a n apart i has = sym (bit_at-suc n i) ∙ apart (suc i) (bit_at-suc a i ∙ has)

-- it runs on while there are numbers, and shows where there is none
carried : (k a n : ℕ) → AreApart a n → ((i : ℕ) → i < k → HasBit n i) → HasNoBit n k
    → HasBit (1 + 2 * a + n) k
carried zero a n apart all none =
    bit_at_lowest (1 + 2 * a + n) ∙ omega (arith, none, bit_at_lowest n)
carried (suc k) a n apart all none =
    let odd : n % 2 ≡ 1 = sym (bit_at_lowest n) ∙ all 0 (omega arith) in
    let even : a % 2 ≡ 0 = elim (bit_cases a 0) [
      | inl one ↦ absurd (omega (arith, apart 0 one, bit_at_lowest n, odd))
      | inr none_here ↦ sym (bit_at_lowest a) ∙ none_here
    ] in
    let half : (1 + 2 * a + n) / 2 ≡ 1 + 2 * (a / 2) + n / 2 = omega (arith, odd, even) in
    bit_at-suc (1 + 2 * a + n) k ∙ ap (λ m. bit_at m k) half
    ∙ carried k (a / 2) (n / 2) (halved a n apart) (λ i less. sym (bit_at-suc n i) ∙ all (suc i) (omega arith))
    (sym (bit_at-suc n k) ∙ none)

-- it begins at a mark, whatever is added below
begun : (at k d a n : ℕ) → d ≤ 1 → AreApart a n → HasBit a at → ((i : ℕ) → at < i → i < at + 1 + k → HasBit n i)
    → HasNoBit n (at + 1 + k) → HasBit (d + 2 * a + n) (at + 1 + k)
begun zero k d a n few apart mark all none =
    let odd : a % 2 ≡ 1 = sym (bit_at_lowest a) ∙ mark in
    let even : n % 2 ≡ 0 = sym (bit_at_lowest n) ∙ apart 0 mark in
    let half : (d + 2 * a + n) / 2 ≡ 1 + 2 * (a / 2) + n / 2 = omega (arith, odd, even, few) in
    let next : 0 + 1 + k ≡ suc k = omega arith in
    ap (bit_at (d + 2 * a + n)) next ∙ bit_at-suc (d + 2 * a + n) k ∙ ap (λ m. bit_at m k) half
    ∙ carried k (a / 2) (n / 2) (halved a n apart)
    (λ i less. sym (bit_at-suc n i) ∙ all (suc i) (omega arith) (omega arith))
    (sym (bit_at-suc n k) ∙ ap (bit_at n) (sym next) ∙ none)
begun (suc at) k d a n few apart mark all none =
    let next : suc at + 1 + k ≡ suc (at + 1 + k) = omega arith in
    let d2 = (d + n % 2) / 2 + a % 2 in
    let small : d2 ≤ 1 = elim (bit_cases a 0) [
      | inl one ↦ omega (arith, apart 0 one, bit_at_lowest n, few)
      | inr none_here ↦ omega (arith, bit_at_lowest a, none_here, few)
    ] in
    let half : (d + 2 * a + n) / 2 ≡ d2 + 2 * (a / 2) + n / 2 = omega (arith, few) in
    ap (bit_at (d + 2 * a + n)) next ∙ bit_at-suc (d + 2 * a + n) (at + 1 + k) ∙ ap (λ m. bit_at m (at + 1 + k)) half
    ∙ begun at k d2 (a / 2) (n / 2) small (halved a n apart) (sym (bit_at-suc a at) ∙ mark)
    (λ i more less. sym (bit_at-suc n i) ∙ all (suc i) (omega arith) (omega arith))
    (sym (bit_at-suc n (at + 1 + k)) ∙ ap (bit_at n) (sym next) ∙ none)

pub next_are : (marks numbers : ℕ) → numbers < 2 ^ 64 → AreApart marks numbers
    → AreNext marks numbers (bit_and ((marks * 2 % 2 ^ 64 + numbers) % 2 ^ 64) (2 ^ 64 - 1 - numbers))
next_are marks numbers fits apart at end onward within mark all none =
    let sum = (marks * 2 % 2 ^ 64 + numbers) % 2 ^ 64 in
    let same : sum ≡ (0 + 2 * marks + numbers) % 2 ^ 64 = omega arith in
    let far : end ≡ at + 1 + (end - (at + 1)) = omega arith in
    let there : HasBit (0 + 2 * marks + numbers) (at + 1 + (end - (at + 1))) =
    begun at (end - (at + 1)) 0 marks numbers (omega arith) apart mark
    (λ i more less. all i more (omega (arith, far, less))) (ap (bit_at numbers) (sym far) ∙ none) in
    let shown : HasBit sum end = ap (λ m. bit_at m end) same ∙ bit_wrapped (0 + 2 * marks + numbers) end within
    ∙ ap (bit_at (0 + 2 * marks + numbers)) far ∙ there in
    omega (arith, without_is sum numbers fits end within, shown, none)

pub ends_apart : (sum numbers : ℕ) → numbers < 2 ^ 64 → AreApart (bit_and sum (2 ^ 64 - 1 - numbers)) numbers
ends_apart sum numbers fits i has = elim (cases_lt i 64) [
  | inl low ↦ omega (arith, without_is sum numbers fits i low, has, bit_at-lt numbers i)
  | inr high ↦ bit_at_above numbers 64 i fits high
]

-- ---- sixteen digits
pub runs_end : (digits : ℕ) → (two four eight : ℕ) → two ≡ bit_and digits (digits * 2 % 2 ^ 64)
    → four ≡ bit_and two (two * 4 % 2 ^ 64) → eight ≡ bit_and four (four * 16 % 2 ^ 64)
    → EndsRuns digits (bit_and eight (eight * 256 % 2 ^ 64))
runs_end digits two four eight is_two is_four is_eight i low all =
    let twos : (j : ℕ) → i ≤ j → j < i + 15 → HasBit two (j + 1) = λ j onward less.
    more digits two 0 1 j is_two (omega (arith, less)) (λ k from to. ap (bit_at digits) (let e : k + 0 ≡ k = omega arith in e) ∙ all k (omega (arith, from)) (omega (arith, to))) in
    let fours : (j : ℕ) → i ≤ j → j < i + 13 → HasBit four (j + 3) = λ j onward less.
    more two four 1 2 j is_four (omega (arith, less))
    (λ k from to. twos k (omega (arith, from)) (omega (arith, to))) in
    let eights : (j : ℕ) → i ≤ j → j < i + 9 → HasBit eight (j + 7) = λ j onward less.
    more four eight 3 4 j is_eight (omega (arith, less))
    (λ k from to. fours k (omega (arith, from)) (omega (arith, to))) in
    more eight (bit_and eight (eight * 256 % 2 ^ 64)) 7 8 i refl (omega arith)
    (λ k from to. eights k (omega (arith, from)) (omega (arith, to)))
  where
    more : (word next n k j : ℕ) → next ≡ bit_and word (word * 2 ^ k % 2 ^ 64) → j + (n + k) < 64
        → ((l : ℕ) → j ≤ l → l ≤ j + k → HasBit word (l + n)) → HasBit next (j + (n + k))
    more word next n k j is low every =
        let e : j + n + k ≡ j + (n + k) = omega arith in
        let there : HasBit word (j + n + k) =
        let f : j + k + n ≡ j + n + k = omega arith in ap (bit_at word) (sym f) ∙ every (j + k) (omega arith) (omega arith) in
        let back : HasBit (word * 2 ^ k % 2 ^ 64) (j + n + k) =
        moved word k (j + n) (omega arith) ∙ every j (omega arith) (omega arith) in
        ap (bit_at next) (sym e) ∙ ap (λ m. bit_at m (j + n + k)) is
        ∙ bit_at_and word (word * 2 ^ k % 2 ^ 64) (j + n + k) ∙ omega (arith, there, back)

-- ---- the lowest bit
above_odd : (w i : ℕ) → w % 2 ≡ 1 → HasBit (w - 1) i → HasBit w i
above_odd w zero odd has = absurd (omega (arith, bit_at_lowest (w - 1), has, odd))
above_odd w (suc i) odd has =
    let e : (w - 1) / 2 ≡ w / 2 = omega (arith, odd) in
    bit_at-suc w i ∙ ap (λ m. bit_at m i) (sym e) ∙ sym (bit_at-suc (w - 1) i) ∙ has

is_even : (w i : ℕ) → HasBit (w - 1) i → HasNoBit w i → w % 2 ≡ 0
is_even w i less none = elim (bit_cases w 0) [
  | inl odd ↦ absurd (omega (arith, none, above_odd w i (sym (bit_at_lowest w) ∙ odd) less))
  | inr even ↦ sym (bit_at_lowest w) ∙ even
]

below : (i j w : ℕ) → 0 < w → HasBit (w - 1) i → HasNoBit w i → j ≤ i → HasNoBit w j
below i zero w some less none order = bit_at_lowest w ∙ is_even w i less none
below zero (suc j) w some less none order = absurd (omega arith)
below (suc i) (suc j) w some less none order =
    let even = is_even w (suc i) less none in
    let e : (w - 1) / 2 ≡ w / 2 - 1 = omega (arith, even) in
    bit_at-suc w j ∙ below i j (w / 2) (omega (arith, even, some))
    (ap (λ m. bit_at m i) (sym e) ∙ sym (bit_at-suc (w - 1) i) ∙ less) (sym (bit_at-suc w i) ∙ none) (omega arith)

pub nothing_before : (marks wrong : ℕ) → wrong < 2 ^ 64 → (i : ℕ)
    → HasBit (bit_and marks (bit_and ((wrong + (2 ^ 64 - 1)) % 2 ^ 64) (2 ^ 64 - 1 - wrong))) i
    → HasBit marks i × ((j : ℕ) → j ≤ i → HasNoBit wrong j)
nothing_before marks wrong fits i has =
    let less = (wrong + (2 ^ 64 - 1)) % 2 ^ 64 in
    let rest : ℕ = 2 ^ 64 - 1 - wrong in
    let outer = both_bits marks (bit_and less rest) i has in
    let inner = both_bits less rest i outer.1 in (
      outer.0,
      λ j order. elim (cases_lt 0 wrong) [
        | inl some ↦
            let one_less : less ≡ wrong - 1 = omega (arith, some, fits) in
            below i j wrong some (ap (λ m. bit_at m i) (sym one_less) ∙ inner.0) (elim (cases_lt i 64) [
              | inl low ↦ omega (arith, bit_at_not w64 wrong i fits low, inner.1, bit_at-lt wrong i)
              | inr high ↦ bit_at_above wrong 64 i fits high
            ]) order
        | inr none ↦ let zero_is : wrong ≡ 0 = omega arith in ap (λ m. bit_at m j) zero_is ∙ bit_at-zero j
      ],
    )

-- ---- the highest bit
pub highest : (n : ℕ) → 0 < n → n < 2 ^ 64
    → (j : ℕ) × (j < 64) × (64 - count_leading_zeros 64 n ≡ j + 1) × HasBit n j
highest n some fits =
    let top = leading_top 64 n some fits in
    let twice : 2 ^ suc top.0 ≡ 2 * 2 ^ top.0 = omega (arith, pow-suc 2 top.0) in
    let one : n / 2 ^ top.0 ≡ 1 = div_one n (2 ^ top.0) top.2 (omega (arith, twice, top.3)) in
    (top.0, omega (arith, top.1), omega (arith, top.1), ap (λ m. m % 2) one)
  where
    div_one : (n p : ℕ) → p ≤ n → n < 2 * p → n / p ≡ 1
    div_one n p least most = div-eq_of_lt-le {k = 1} p (omega arith) (omega arith)

-- ---- what may stand at a place
pub ends_fit : (commas opens closes first second third after later beyond no_comma no_close no_more no_front : ℕ)
    → IsAfter third after → IsAfter after later → IsAfter commas beyond
    → AreWithout (bit_or first second) commas no_comma → AreWithout third closes no_close
    → AreWithout later (bit_and beyond opens) no_more → AreWithout 1 opens no_front
    → (i : ℕ) → i < 64 → HasNoBit (bit_or (bit_or (bit_or no_comma no_close) no_more) no_front) i
    → DoEndsFit commas opens closes first second third i
ends_fit commas opens closes first second third after later beyond no_comma no_close no_more no_front is_after is_later
    is_past plain shut lone front i low none =
    let a = no_bits (bit_or (bit_or no_comma no_close) no_more) no_front i none in
    let b = no_bits (bit_or no_comma no_close) no_more i a.0 in
    let d = no_bits no_comma no_close i b.0 in
    record {
      begins = λ is. omega (arith, front i low, a.1, bit_at-lt opens i, ap (bit_at 1) is);
      after_first = λ has. omega (arith, plain i low, d.0, bit_at_or first second i, has, bit_at-lt commas i, bit_at-lt second i);
      after_second = λ has. omega (arith, plain i low, d.0, bit_at_or first second i, has, bit_at-lt commas i, bit_at-lt first i);
      after_third = λ has. omega (arith, shut i low, d.1, has, bit_at-lt closes i);
      more = λ j is has.
          let e : j + 2 ≡ j + 1 + 1 = omega arith in
          let two : HasBit later (j + 1 + 1) = is_later.1 (j + 1) (omega arith) ∙ is_after.1 j (omega arith) ∙ has in
          let here : HasBit later i = ap (bit_at later) (is ∙ e) ∙ two in
          let opens_more : HasBit (bit_and beyond opens) i =
          omega (arith, lone i low, b.1, here, bit_at-lt (bit_and beyond opens) i) in
          let parts = both_bits beyond opens i opens_more in
          (parts.1, sym (is_past.1 (j + 1) (omega arith)) ∙ ap (bit_at beyond) (sym (is ∙ e)) ∙ parts.0);
    }

pub numbers_fit : (digits zeros minuses opens inner starts after_minus whole empty bare after_zero runs : ℕ)
    → IsAfter minuses after_minus → AreWithout digits zeros whole
    → AreWithout starts (bit_or inner opens) empty → AreWithout after_minus whole bare
    → IsAfter (bit_and zeros starts) after_zero → EndsRuns digits runs
    → (i : ℕ) → i < 64 → HasNoBit (bit_or (bit_or (bit_or empty bare) (bit_and after_zero digits)) runs) i
    → DoNumbersFit digits zeros minuses opens inner starts i
numbers_fit digits zeros minuses opens inner starts after_minus whole empty bare after_zero runs is_minus is_whole
    is_empty is_bare is_zero are_runs i low none =
    let a = no_bits (bit_or (bit_or empty bare) (bit_and after_zero digits)) runs i none in
    let b = no_bits (bit_or empty bare) (bit_and after_zero digits) i a.0 in
    let d = no_bits empty bare i b.0 in
    record {
      some = λ has. elim (bit_cases inner i) [
        | inl is ↦ inl is
        | inr outside ↦ inr (omega (arith, is_empty i low, d.0, has, bit_at_or inner opens i, outside, bit_at-lt opens i))
      ];
      signed = λ j is has.
          let here : HasBit after_minus i = ap (bit_at after_minus) is ∙ is_minus.1 j (omega arith) ∙ has in
          let kept : HasBit whole i = omega (arith, is_bare i low, d.1, here, bit_at-lt whole i) in (
            omega (arith, is_whole i low, kept, bit_at-lt digits i, bit_at-lt zeros i),
            omega (arith, is_whole i low, kept, bit_at-lt digits i, bit_at-lt zeros i),
          );
      whole = λ j is zero_here starts_here.
          let both : HasBit (bit_and zeros starts) j = omega (arith, bit_at_and zeros starts j, zero_here, starts_here) in
          let here : HasBit after_zero i = ap (bit_at after_zero) is ∙ is_zero.1 j (omega arith) ∙ both in
          omega (arith, bit_at_and after_zero digits i, b.1, here, bit_at-lt digits i);
      few = λ j is all.
          absurd (omega (arith, are_runs j (omega arith) all, a.1, ap (bit_at runs) is));
    }
