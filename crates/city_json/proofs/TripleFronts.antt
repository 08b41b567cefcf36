-- Arrays of three whole numbers: from a block's bits to the triples at its front.
use Rattle.std.proofs.Common.{◌≡◌, ◌≢◌, ◌∙◌, ◌+◌, ◌-◌, ◌<◌, ◌≤◌, ◌==◌, ◌||◌, ℕ, zero, suc, max, min, Bool, true, false, not, cond, List, [], ◌∷◌, length, map, take, get_or, bit_and, bit_or, slice_range, refl, ap, sym, subst, arith, inl, inr}
use Rattle.std.proofs.lemmas.Bool.{cases_Bool, cases_lt, eqb-true, false≢true}
use Rattle.std.proofs.lemmas.Nat.Bits.{bit_at-lt, bit_at_or}
use Rattle.std.proofs.lemmas.Simd.{bit_mask_l}
use Rattle.std.specs.Char.{is_ascii_digit}
use Rattle.std.specs.Int.{bit_at}
use Rattle.std.specs.Simd.Lanes.{mask_l}
use Rattle.city_json.proofs.Triples.{digits_after, front_closes, front_goes_on, passes_none, short_negative, short_positive, triple_text}
use Rattle.city_json.proofs.TripleSums.{bit_cases, both_bits, no_bits}
use Rattle.city_json.specs.Bytes.{digit_zero, minus, comma, open_bracket, close_bracket}
use Rattle.city_json.specs.Triples.{IsShortNumeral}
use Rattle.city_json.specs.TriplesFound.{AreApart, AreKinds, AreNext, ClosesTriples, DoEndsFit, DoNumbersFit, HasBit, HasNoBit, HasNoneUpTo, IsAfter, IsInNumber, IsTripleText, PassesTriples, is_separator}

-- ---- a byte of a kind
found : (f : ℕ → Bool) (bytes : List ℕ) (i : ℕ) → get_or (map f bytes) i false ≡ true
    → (i < length bytes) × (f (get_or bytes i 0) ≡ true)
found f [] i has = absurd (false≢true has)
found f (b ∷ bytes) zero has = (omega arith, has)
found f (b ∷ bytes) (suc i) has = let rest = found f bytes i has in (omega (arith, rest.0), rest.1)

marked : (f : ℕ → Bool) (bytes : List ℕ) (i : ℕ) → i < length bytes → f (get_or bytes i 0) ≡ true
    → get_or (map f bytes) i false ≡ true
marked f [] i within is = absurd (omega arith)
marked f (b ∷ bytes) zero within is = is
marked f (b ∷ bytes) (suc i) within is = marked f bytes i (omega arith) is

has_kind : (f : ℕ → Bool) (bytes : List ℕ) (word i : ℕ) → word ≡ mask_l (map f bytes) → HasBit word i
    → (i < length bytes) × (f (get_or bytes i 0) ≡ true)
has_kind f bytes word i is has =
    found f bytes i (set (get_or (map f bytes) i false)
    (sym (bit_mask_l (map f bytes) i) ∙ ap (λ w. bit_at w i) (sym is) ∙ has))
  where
    set : (b : Bool) → ◌≡◌ {A = ℕ} (cond b 1 0) 1 → b ≡ true
    set true e = refl
    set false e = absurd (omega (arith, e))

kind_has : (f : ℕ → Bool) (bytes : List ℕ) (word i : ℕ) → word ≡ mask_l (map f bytes) → i < length bytes
    → f (get_or bytes i 0) ≡ true → HasBit word i
kind_has f bytes word i is within of_kind =
    ap (λ w. bit_at w i) is ∙ bit_mask_l (map f bytes) i
    ∙ ap (λ (b : Bool). cond b 1 0) (marked f bytes i within of_kind)

-- the first place in no number
next_free : (word n from : ℕ) → HasNoBit word (from + n)
    → (end : ℕ) × (from ≤ end) × (end ≤ from + n) × HasNoBit word end × ((i : ℕ) → from ≤ i → i < end → HasBit word i)
next_free word zero from none =
    (from, omega arith, omega arith, ap (bit_at word) (let e : from ≡ from + 0 = omega arith in e) ∙ none, λ i more less. absurd (omega arith))
next_free word (suc n) from none = elim (bit_cases word from) [
  | inr here ↦ (from, omega arith, omega arith, here, λ i more less. absurd (omega arith))
  | inl some ↦
      let e : from + 1 + n ≡ from + suc n = omega arith in
      let rest = next_free word n (from + 1) (ap (bit_at word) e ∙ none) in (
        rest.0,
        omega (arith, rest.1),
        omega (arith, rest.2),
        rest.3,
        λ i more less. elim (cases_lt from i) [
          | inl after ↦ rest.4 i (omega arith) less
          | inr same ↦ ap (bit_at word) (let f : i ≡ from = omega arith in f) ∙ some
        ],
      )
]

-- the mark that comes next
record NextMark (numbers next from to : ℕ) : Type 0 where
  at : ℕ
  onward : from + 1 ≤ at
  within : at ≤ to
  bit : HasBit next at
  between : (i : ℕ) → from + 1 ≤ i → i < at → HasBit numbers i

next_mark : (marks numbers next from to : ℕ) → AreNext marks numbers next → HasBit marks from → from < to → to < 64
    → HasNoBit numbers to → NextMark numbers next from to
next_mark marks numbers next from to are has order low none =
    let e : from + 1 + (to - (from + 1)) ≡ to = omega arith in
    let free = next_free numbers (to - (from + 1)) (from + 1) (ap (bit_at numbers) e ∙ none) in
    record {
      at = free.0;
      onward = free.1;
      within = omega (arith, free.2, e);
      bit = are from free.0 (omega (arith, free.1)) (omega (arith, free.2, e, low)) has
          (λ i more less. free.4 i (omega arith) less) free.3;
      between = free.4;
    }

-- another byte than the closing bracket there stands before it
earlier : (bytes : List ℕ) (i r mark : ℕ) → i ≤ r → get_or bytes i 0 ≡ mark → get_or bytes r 0 ≡ close_bracket
    → mark ≢ close_bracket → i < r
earlier bytes i r mark order is closing other = elim (cases_lt i r) [
  | inl less ↦ less
  | inr same ↦
      absurd (other (sym is ∙ ap (λ k. get_or bytes k 0) (let e : i ≡ r = omega arith in e) ∙ closing))
]

-- where a third number ends before a place
after_last : (third after q : ℕ) → IsAfter third after → q < 64 → HasBit after q
    → (r : ℕ) × (q ≡ r + 1) × HasBit third r
after_last third after zero is within has = absurd (omega (arith, is.0, has))
after_last third after (suc r) is within has =
    let e : suc r ≡ r + 1 = omega arith in (r, e, sym (is.1 r (omega arith)) ∙ ap (bit_at after) (sym e) ∙ has)

-- the triple that begins at a place, before a closing bracket
record TripleFrom (bytes : List ℕ) (third p r : ℕ) : Type 0 where
  last : ℕ
  order : p < last
  within : last ≤ r
  bit : HasBit third last
  is : IsTripleText bytes p (last + 1)

-- triples up to a closing bracket, the last of which begins at a place
record EndsWithTriple (bytes : List ℕ) (r : ℕ) : Type 0 where
  len : ℕ
  order : len ≤ r + 1
  is : IsTripleText bytes len (r + 1)
  so_far : PassesTriples (take len bytes)

-- ---- the bits of a block
module _ (bytes : List ℕ) (long : length bytes ≡ 64) (digits zeros minuses commas opens closes inner starts : ℕ)
    (kinds : AreKinds bytes digits zeros minuses commas opens closes)
    (inner_is : (i : ℕ) → bit_at inner i ≡ max (bit_at digits i) (min (bit_at minuses i) (bit_at starts i)))
    (starts_are : IsAfter (bit_or opens commas) starts) where
  comma_at : (i : ℕ) → HasBit commas i → get_or bytes i 0 ≡ comma
  comma_at i has = eqb-true _ comma (has_kind (λ b. b == comma) bytes commas i kinds.comma_mark has).1

  open_at : (i : ℕ) → HasBit opens i → get_or bytes i 0 ≡ open_bracket
  open_at i has = eqb-true _ open_bracket (has_kind (λ b. b == open_bracket) bytes opens i kinds.opened has).1

  close_at : (i : ℕ) → HasBit closes i → get_or bytes i 0 ≡ close_bracket
  close_at i has = eqb-true _ close_bracket (has_kind (λ b. b == close_bracket) bytes closes i kinds.closed has).1

  digit_at : (i : ℕ) → HasBit digits i → is_ascii_digit (get_or bytes i 0) ≡ true
  digit_at i has = (has_kind is_ascii_digit bytes digits i kinds.digit has).1

  digit_bit : (i : ℕ) → i < 64 → is_ascii_digit (get_or bytes i 0) ≡ true → HasBit digits i
  digit_bit i low is = kind_has is_ascii_digit bytes digits i kinds.digit (omega (arith, long, low)) is

  leads : (i : ℕ) → HasBit (bit_or opens commas) i → is_separator (get_or bytes i 0) ≡ true
  leads i has = elim (bit_cases opens i) [
    | inl is ↦ ap is_separator (open_at i is)
    | inr other ↦ ap is_separator (comma_at i (omega (arith, bit_at_or opens commas i, has, other)))
  ]

  in_number : (i : ℕ) → HasBit inner i → IsInNumber bytes i
  in_number i has = elim (bit_cases digits i) [
    | inl digit ↦ inl (digit_at i digit)
    | inr other ↦
        let sign : HasBit minuses i =
        omega (arith, inner_is i, has, other, bit_at-lt minuses i, bit_at-lt starts i) in
        let begins : HasBit starts i =
        omega (arith, inner_is i, has, other, bit_at-lt minuses i, bit_at-lt starts i) in
        let is = has_kind (λ b. b == minus) bytes minuses i kinds.minus_sign sign in
        let before = beyond i (omega (arith, is.0, long)) begins in
        inr (eqb-true _ minus is.1, before.0, before.1)
  ]
    where
      beyond : (i : ℕ) → i < 64 → HasBit starts i → (0 < i) × (is_separator (get_or bytes (i - 1) 0) ≡ true)
      beyond zero low begins = absurd (omega (arith, starts_are.0, begins))
      beyond (suc i) low begins =
          let e : suc i ≡ i + 1 = omega arith in
          let back : suc i - 1 ≡ i = omega arith in (
            omega arith,
            ap (λ n. is_separator (get_or bytes n 0)) back
                ∙ leads i (sym (starts_are.1 i (omega (arith, low))) ∙ ap (bit_at starts) (sym e) ∙ begins),
          )

  -- a separator stands in no number
  outside : (i : ℕ) → is_separator (get_or bytes i 0) ≡ true → HasNoBit inner i
  outside i is = elim (bit_cases inner i) [
    | inr none ↦ none
    | inl has ↦ absurd (false≢true (sym (inside (in_number i has)) ∙ is))
  ]
    where
      inside : IsInNumber bytes i → is_separator (get_or bytes i 0) ≡ false
      inside (inl digit) = λ k. not (digit k || (get_or bytes i 0 == minus))
      inside (inr there) = ap is_separator there.0

  pub opens_apart : AreApart opens inner
  opens_apart i has = outside i (ap is_separator (open_at i has))

  -- ---- up to a place nothing is wrong
  module _ (first second third q : ℕ) (inside : q < 64)
      (next_first : AreNext opens inner first) (next_second : AreNext first inner second)
      (next_third : AreNext second inner third)
      (ends : (i : ℕ) → i ≤ q → DoEndsFit commas opens closes first second third i)
      (numbers : (i : ℕ) → i ≤ q → DoNumbersFit digits zeros minuses opens inner starts i) where
    -- sixteen digits are too many
    not_long : (at end : ℕ) → end ≤ q → ((i : ℕ) → at ≤ i → i < end → HasBit digits i) → end ≤ at + 15
    not_long at end within all = elim (cases_lt end (at + 16)) [
      | inl few ↦ omega arith
      | inr more ↦ absurd ((numbers (at + 15) (omega arith)).few at refl (λ k onward less. all k onward (omega arith)))
    ]

    -- between two marks stands a number
    short_at : (p e mark : ℕ) → p + 1 ≤ e → e ≤ q → HasBit (bit_or opens commas) p → get_or bytes e 0 ≡ mark
        → is_separator mark ≡ true → mark ≢ open_bracket → ((i : ℕ) → p + 1 ≤ i → i < e → HasBit inner i)
        → IsShortNumeral (slice_range bytes (p + 1) e)
    short_at p e mark order within lead is apart other between =
        elim (cases_Bool (get_or bytes (p + 1) 0 == minus)) [
          | inl sign ↦ negative (eqb-true _ minus sign)
          | inr plain ↦ short_positive bytes (p + 1) e some (omega (arith, long)) (positive_few plain) in_numbers
              (not_minus plain) (elim (cases_Bool (get_or bytes (p + 1) 0 == digit_zero)) [
                | inl zero_there ↦ inr (alone zero_there)
                | inr digit ↦ inl (λ e. absurd (false≢true (sym digit ∙ ap (λ c. c == digit_zero) e)))
              ])
        ]
      where
        begins : HasBit starts (p + 1)
        begins = starts_are.1 p (omega arith) ∙ lead

        in_numbers : (i : ℕ) → p + 1 ≤ i → i < e → IsInNumber bytes i
        in_numbers i onward less = in_number i (between i onward less)

        ends_here : is_separator (get_or bytes e 0) ≡ true
        ends_here = ap is_separator is ∙ apart

        some : p + 1 < e
        some = elim (cases_lt (p + 1) e) [
          | inl less ↦ less
          | inr same ↦
              let at_end : p + 1 ≡ e = omega arith in
              elim ((numbers (p + 1) (omega arith)).some begins) [
                | inl has ↦ absurd (omega (arith, outside e ends_here, ap (bit_at inner) at_end, has))
                | inr opened ↦ absurd (other (sym is ∙ sym (ap (λ n. get_or bytes n 0) at_end) ∙ open_at (p + 1) opened))
              ]
        ]

        not_minus : (get_or bytes (p + 1) 0 == minus) ≡ false → get_or bytes (p + 1) 0 ≢ minus
        not_minus plain e = absurd (false≢true (sym plain ∙ ap (λ c. c == minus) e))

        digit_there : (i : ℕ) → p + 1 < i → i < e → is_ascii_digit (get_or bytes i 0) ≡ true
        digit_there i onward less = digits_after bytes (p + 1) e i in_numbers onward less

        first_digit : (get_or bytes (p + 1) 0 == minus) ≡ false → is_ascii_digit (get_or bytes (p + 1) 0) ≡ true
        first_digit plain = elim (in_numbers (p + 1) (omega arith) some) [
          | inl digit ↦ digit
          | inr there ↦ absurd (not_minus plain there.0)
        ]

        positive_few : (get_or bytes (p + 1) 0 == minus) ≡ false → e ≤ p + 1 + 15
        positive_few plain = not_long (p + 1) e within (λ i onward less. digit_bit i (omega arith) (elim (cases_lt (p + 1) i) [
          | inl more ↦ digit_there i more less
          | inr same ↦
              let at_first : i ≡ p + 1 = omega arith in
              ap (λ n. is_ascii_digit (get_or bytes n 0)) at_first ∙ first_digit plain
        ]))

        alone : (get_or bytes (p + 1) 0 == digit_zero) ≡ true → e ≡ p + 1 + 1
        alone zero_there = elim (cases_lt (p + 1 + 1) e) [
          | inr last ↦ omega (arith, last, some)
          | inl more ↦
              let digit : HasBit digits (p + 1 + 1) =
              digit_bit (p + 1 + 1) (omega arith) (digit_there (p + 1 + 1) (omega arith) more) in
              let zero_bit : HasBit zeros (p + 1) =
              kind_has (λ b. b == digit_zero) bytes zeros (p + 1) kinds.zero_digit (omega (arith, long)) zero_there in
              absurd (omega (arith, digit, (numbers (p + 1 + 1) (omega arith)).whole (p + 1) refl zero_bit begins))
        ]

        negative : get_or bytes (p + 1) 0 ≡ minus → IsShortNumeral (slice_range bytes (p + 1) e)
        negative sign =
            let sign_bit : HasBit minuses (p + 1) =
            kind_has (λ b. b == minus) bytes minuses (p + 1) kinds.minus_sign (omega (arith, long)) (ap (λ c. c == minus) sign) in
            let after = (numbers (p + 1 + 1) (omega (arith, some))).signed (p + 1) refl sign_bit in
            let more : p + 1 + 1 < e = elim (cases_lt (p + 1 + 1) e) [
              | inl less ↦ less
              | inr last ↦
                  let at_end : p + 1 + 1 ≡ e = omega (arith, some) in
                  absurd (omega (arith, outside e ends_here, inner_is e, ap (bit_at digits) at_end, after.0))
            ] in
            short_negative bytes (p + 1) e more (omega (arith, long))
            (let few = not_long (p + 1 + 1) e within (λ i onward less. digit_bit i (omega arith) (digit_there i (omega arith) less)) in omega (arith, few))
            in_numbers sign
            (λ zero_there. absurd (omega (
              arith,
              after.1,
              kind_has (λ b. b == digit_zero) bytes zeros (p + 1 + 1)
                  kinds.zero_digit (omega (arith, long)) (ap (λ c. c == digit_zero) zero_there),
            )))

    -- the triple that begins at an opening bracket before a closing one
    triple_from : (p r : ℕ) → r < q → p ≤ r → HasBit opens p → get_or bytes r 0 ≡ close_bracket → TripleFrom bytes third p r
    triple_from p r before order opened closing =
        let start = open_at p opened in
        let free : HasNoBit inner r = outside r (ap is_separator closing) in
        let p_r = earlier bytes p r open_bracket order start closing (λ e. absurd (omega (arith, e))) in
        let a = next_mark opens inner first p r next_first opened p_r (omega arith) free in
        let comma_a = (ends a.at (omega (arith, a.within))).after_first a.bit in
        let a_r = earlier bytes a.at r comma a.within (comma_at a.at comma_a) closing (λ e. absurd (omega (arith, e))) in
        let b = next_mark first inner second a.at r next_second a.bit a_r (omega arith) free in
        let comma_b = (ends b.at (omega (arith, b.within))).after_second b.bit in
        let b_r = earlier bytes b.at r comma b.within (comma_at b.at comma_b) closing (λ e. absurd (omega (arith, e))) in
        let d = next_mark second inner third b.at r next_third b.bit b_r (omega arith) free in
        let close_d = close_at d.at ((ends d.at (omega (arith, d.within))).after_third d.bit) in
        let short_x = short_at p a.at comma a.onward (omega (arith, a.within)) (leads_open p opened)
        (comma_at a.at comma_a) refl (λ e. absurd (omega (arith, e))) a.between in
        let short_y = short_at a.at b.at comma b.onward (omega (arith, b.within)) (leads_comma a.at comma_a)
        (comma_at b.at comma_b) refl (λ e. absurd (omega (arith, e))) b.between in
        let short_z = short_at b.at d.at close_bracket d.onward (omega (arith, d.within)) (leads_comma b.at comma_b)
        close_d refl (λ e. absurd (omega (arith, e))) d.between in
        record {
          last = d.at;
          order = ordered p a.at b.at d.at a.onward b.onward d.onward;
          within = d.within;
          bit = d.bit;
          is = triple_text bytes p a.at b.at d.at (omega (arith, long, d.within)) start a.onward (comma_at a.at comma_a)
              short_x b.onward (comma_at b.at comma_b) short_y d.onward close_d short_z;
        }
      where
        leads_open : (i : ℕ) → HasBit opens i → HasBit (bit_or opens commas) i
        leads_open i has = omega (arith, bit_at_or opens commas i, has, bit_at-lt commas i)

        leads_comma : (i : ℕ) → HasBit commas i → HasBit (bit_or opens commas) i
        leads_comma i has = omega (arith, bit_at_or opens commas i, has, bit_at-lt opens i)

        ordered : (p a b d : ℕ) → p + 1 ≤ a → a + 1 ≤ b → b + 1 ≤ d → p < d
        ordered p a b d first_order second_order third_order = omega arith

    -- one triple after another, up to the one that ends there
    walk : (n p r : ℕ) → r < p + n → r < q → p ≤ r → HasBit opens p → get_or bytes r 0 ≡ close_bracket
        → PassesTriples (take p bytes) → EndsWithTriple bytes r
    walk zero p r few before order opened closing so_far = absurd (omega arith)
    walk (suc n) p r few before order opened closing so_far =
        let t = triple_from p r before order opened closing in
        elim (cases_lt t.last r) [
          | inl less ↦
              let more = (ends (t.last + 2) (omega (arith, less))).more t.last refl t.bit in
              let comma_there = comma_at (t.last + 1) more.1 in
              let onward = earlier bytes (t.last + 1) r comma (omega (arith, less)) comma_there closing
              (λ e. absurd (omega (arith, e))) in
              let next : t.last + 2 ≡ t.last + 1 + 1 = omega arith in
              walk n (t.last + 2) r (omega (arith, few, t.order)) before (omega (arith, onward)) more.0 closing
              (subst (λ k. PassesTriples (take k bytes)) (sym next)
              (front_goes_on bytes p (t.last + 1) comma (omega (arith, t.order)) (omega (arith, long, onward)) comma_there t.is so_far refl))
          | inr same ↦ record {
            len = p;
            order = omega arith;
            is = subst (λ k. IsTripleText bytes p (k + 1)) (let e : t.last ≡ r = omega (arith, t.within) in e) t.is;
            so_far = so_far;
          }
        ]

    last_triple : (r : ℕ) → r < q → HasBit third r → EndsWithTriple bytes r
    last_triple r before bit =
        walk (r + 1) 0 r (omega arith) before (omega arith) ((ends 0 (omega arith)).begins refl)
        (close_at r ((ends r (omega arith)).after_third bit)) passes_none

    closes_front : (r : ℕ) → q ≡ r + 1 → HasBit third r → HasBit closes q → ClosesTriples (take (q + 1) bytes)
    closes_front r is bit closing =
        let t = last_triple r (omega arith) bit in
        front_closes bytes t.len q close_bracket (omega (arith, t.order)) (omega arith) (close_at q closing)
        (subst (IsTripleText bytes t.len) (sym is) t.is) t.so_far refl

    goes_on_front : (r : ℕ) → q ≡ r + 1 → HasBit third r → HasBit commas q → PassesTriples (take (q + 1) bytes)
    goes_on_front r is bit going =
        let t = last_triple r (omega arith) bit in
        front_goes_on bytes t.len q comma (omega (arith, t.order)) (omega arith) (comma_at q going)
        (subst (IsTripleText bytes t.len) (sym is) t.is) t.so_far refl

  -- ---- what is wrong has bits
  module _ (first second third after wrong_ends wrong_numbers : ℕ) (is_after : IsAfter third after)
      (next_first : AreNext opens inner first) (next_second : AreNext first inner second)
      (next_third : AreNext second inner third)
      (ends : (i : ℕ) → i < 64 → HasNoBit wrong_ends i → DoEndsFit commas opens closes first second third i)
      (numbers : (i : ℕ) → i < 64 → HasNoBit wrong_numbers i → DoNumbersFit digits zeros minuses opens inner starts i)
      (at : ℕ) (inside : at < 64) (sound : HasNoneUpTo at (bit_or wrong_ends wrong_numbers)) where
    ends_to : (i : ℕ) → i ≤ at → DoEndsFit commas opens closes first second third i
    ends_to i order = ends i (omega arith) (no_bits wrong_ends wrong_numbers i (sound i order)).0

    numbers_to : (i : ℕ) → i ≤ at → DoNumbersFit digits zeros minuses opens inner starts i
    numbers_to i order = numbers i (omega arith) (no_bits wrong_ends wrong_numbers i (sound i order)).1

    pub up_to_close : HasBit (bit_and after closes) at → ClosesTriples (take (at + 1) bytes)
    up_to_close has =
        let both = both_bits after closes at has in
        let last = after_last third after at is_after inside both.0 in
        closes_front first second third at inside next_first next_second next_third ends_to numbers_to last.0 last.1
        last.2 both.1

    pub up_to_comma : HasBit (bit_and after commas) at → PassesTriples (take (at + 1) bytes)
    up_to_comma has =
        let both = both_bits after commas at has in
        let last = after_last third after at is_after inside both.0 in
        goes_on_front first second third at inside next_first next_second next_third ends_to numbers_to last.0 last.1
        last.2 both.1

-- up to the last comma that has a bit
pub goes_on_to_last : (bytes : List ℕ) (going wrong marks len : ℕ) → len ≤ 64
    → ((at : ℕ) → at < 64 → HasBit going at → HasNoneUpTo at wrong → PassesTriples (take (at + 1) bytes))
    → ((i : ℕ) → HasBit marks i → HasBit going i × HasNoneUpTo i wrong) → (0 < len → HasBit marks (len - 1))
    → PassesTriples (take len bytes)
goes_on_to_last bytes going wrong marks zero within goes_on sound last = passes_none
goes_on_to_last bytes going wrong marks (suc n) within goes_on sound last =
    let back : suc n - 1 ≡ n = omega arith in
    let next : n + 1 ≡ suc n = omega arith in
    let is = sound n (ap (bit_at marks) (sym back) ∙ last (omega arith)) in
    subst (λ k. PassesTriples (take k bytes)) next (goes_on n (omega arith) is.0 is.1)
