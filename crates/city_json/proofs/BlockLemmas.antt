-- Blocks of bytes as vectors see them: the bits that mark bytes, and what they say of strings and brackets.
use Rattle.std.proofs.Common.{inl, inr, ◌≡◌, ◌<◌, ◌≤◌, ◌+◌, ◌-◌, ◌*◌, ◌/◌, ◌%◌, ◌^◌, ◌||◌, ◌&&◌, ◌++◌, ◌==◌, ℕ, zero, suc, min, Bool, true, false, not, List, [], ◌∷◌, cond, eqb, length, get_or, take, map, replicate, count_by, bit_and, bit_or, refl, arith, ap, sym, ◌∙◌, if◌then◌else◌, length-take, append_assoc, append-nil, zero-add, lit<, lit≤, w8}
use Rattle.std.specs.Prelude.{bit_xor}
use Rattle.std.specs.Int.{bit_at}
use Rattle.std.specs.List.{position_or_len, AllByRecursion}
use Rattle.std.specs.Int.Count.{count_trailing_zeros, ones}
use Rattle.std.specs.Simd.Lanes.{mask_l, zip2, top}
use Rattle.std.proofs.lemmas.Bool.{cases_lt, cases_Bool, cond_both, eqb-true, false≢true}
use Rattle.std.proofs.lemmas.List.{length-map, take-map, take-take, get_or_past}
use Rattle.std.proofs.lemmas.List.Sums.{sum_by-cons, count_by-le-length}
use Rattle.std.proofs.lemmas.Nat.{mod-pow-add}
use Rattle.std.proofs.Math.Nat.{zero-mod}
use Rattle.std.proofs.lemmas.Nat.Bits.{bit_at_and, bit_at_xor, bit_at_ones, bit_at_ones_above, bit_at-zero, ones_shr, same_from_bits, shr_and_one}
use Rattle.std.proofs.lemmas.Simd.{bitmask_splat, zip2_splat, zip2-map, map-map, mask_l-mod, ones-mask_l, ones-mask_l_cons, bit_mask_l, leading_from_mask_l, trailing_mask_l}
use Rattle.city_json.specs.Bytes.{quotation_mark, backslash}
use Rattle.city_json.specs.Depth.{Place, outside, inside, escaped, unquoted, place_after, is_opening, is_closing}
use Rattle.city_json.specs.BracketRun.{place_of, is_outside, outside_after, IsBracketRun}
use Rattle.city_json.proofs.ParityLemmas.{ones_below}

-- one of the two bytes
abbrev pub is_either : ℕ → ℕ → ℕ → Bool
is_either one other b = (b == one) || (b == other)

top_of_two : (x y : Bool) → top 7 (bit_or (cond x 255 0) (cond y 255 0)) ≡ (x || y)
top_of_two true true = refl
top_of_two true false = refl
top_of_two false true = refl
top_of_two false false = refl

tops_of_two : (one other : ℕ) (block : List ℕ)
    → map (λ b. top 7 (bit_or (cond (eqb b one) 255 0) (cond (eqb b other) 255 0))) block
    ≡ map (is_either one other) block
tops_of_two one other [] = refl
tops_of_two one other (b ∷ block) = rw (top_of_two (eqb b one) (eqb b other), tops_of_two one other block) refl

pub marks_are : (block : List ℕ) (one other : ℕ) → length block ≡ 64 →
    mask_l (map (top 7) (zip2 bit_or (zip2 (λ a b. cond (eqb a b) 255 0) block (replicate 64 one))
    (zip2 (λ a b. cond (eqb a b) 255 0) block (replicate 64 other)))) % 2 ^ 64
    ≡ mask_l (map (is_either one other) block)
marks_are block one other long =
    let first = zip2_splat {Z = ℕ} (λ a b. cond (eqb a b) 255 0) block 64 one long in
    let second = zip2_splat {Z = ℕ} (λ a b. cond (eqb a b) 255 0) block 64 other long in
    rw (
      first,
      second,
      zip2-map bit_or (λ b. cond (eqb b one) 255 0) (λ b. cond (eqb b other) 255 0) block,
      map-map (top 7) (λ b. bit_or (cond (eqb b one) 255 0) (cond (eqb b other) 255 0)) block,
      tops_of_two one other block,
    )
    (mask_l-mod (map (is_either one other) block) 64 (omega (arith, length-map block (is_either one other))))

pub marks_of_one : (block : List ℕ) (byte : ℕ) → length block ≡ 64 →
    mask_l (map (top 7) (zip2 (λ a b. cond (eqb a b) 255 0) block (replicate 64 byte))) % 2 ^ 64
    ≡ mask_l (map (λ b. b == byte) block)
marks_of_one block byte long = bitmask_splat w8 eqb block 64 byte long (lit≤ tt)

-- the lowest bits of a mask are those of the first lanes
double_mod : (n x m : ℕ) → x < 2 → (x + 2 * m) % 2 ^ suc n ≡ x + 2 * (m % 2 ^ n)
double_mod n x m small =
    let half : (x + 2 * m) / 2 ≡ m = omega arith in
    let low : (x + 2 * m) % 2 ≡ x = omega arith in
    let split : (x + 2 * m) % 2 ^ (n + 1) ≡ (m % 2 ^ n) * 2 + x = rw (half, low) at (mod-pow-add (x + 2 * m) n 1) in
    let next : n + 1 ≡ suc n = omega arith in
    let split_next : (x + 2 * m) % 2 ^ suc n ≡ (m % 2 ^ n) * 2 + x = rw next at split in
    omega (arith, split_next)

pub mask_l-take : (n : ℕ) (marks : List Bool) → mask_l marks % 2 ^ n ≡ mask_l (take n marks)
mask_l-take zero marks = omega arith
mask_l-take (suc n) [] = zero-mod (2 ^ suc n)
mask_l-take (suc n) (mark ∷ marks) =
    double_mod n (cond mark 1 0) (mask_l marks) (cond_both mark 1 0 (λ x. x < 2) (λ _. lit< tt) (λ _. lit< tt))
    ∙ ap (λ m. cond mark 1 0 + 2 * m) (mask_l-take n marks)

pub place_is : (p : ℕ → Bool) (block : List ℕ) (marks : ℕ) → length block ≡ 64 → marks ≡ mask_l (map p block)
    → 0 < marks →
    count_trailing_zeros 64 marks ≡ position_or_len p block
place_is p block marks long are some = rw are (trailing_mask_l p 64 block (omega arith) (omega arith))

pub place_none : (p : ℕ → Bool) (block : List ℕ) (marks : ℕ) → length block ≡ 64 → marks ≡ mask_l (map p block)
    → marks ≡ 0 →
    64 ≡ position_or_len p block
place_none p block marks long are none = sym (leading_from_mask_l p block (sym are ∙ none) ∙ long)

abbrev pub is_backslash : ℕ → Bool
is_backslash b = b == backslash

abbrev pub is_quote : ℕ → Bool
is_quote b = b == quotation_mark

-- none of the bytes is a backslash
abbrev pub HasNoBackslash : List ℕ → Type 0
HasNoBackslash = AllByRecursion (λ b. is_backslash b ≡ false)

pub HasNoBackslash-front : (block : List ℕ) (n : ℕ) → n ≤ position_or_len is_backslash block
    → HasNoBackslash (take n block)
HasNoBackslash-front block zero before = tt
HasNoBackslash-front [] (suc n) before = tt
HasNoBackslash-front (b ∷ block) (suc n) before = elim (cases_Bool (is_backslash b)) [
  | inl is ↦ absurd (let none : suc n ≤ 0 = rw is at before in omega arith)
  | inr other ↦ (
    other,
    HasNoBackslash-front block n (let more : suc n ≤ 1 + position_or_len is_backslash block =
        rw other at before in omega arith),
  )
]

-- whether the place after a byte that is no backslash is in a string
flips : Bool → Bool → Bool
flips in_string quote = cond quote (not in_string) in_string

places : (in_string quote slash : Bool) → slash ≡ false →
    elim in_string as (λ s. Place) [
      | false ↦ cond quote inside outside
      | true ↦
          cond quote outside (cond slash escaped inside)
    ] ≡ place_of (flips in_string quote)
unfolding flips
places false true slash plain = refl
places false false slash plain = refl
places true true slash plain = refl
places true false slash plain = rw plain refl

next_place : (in_string : Bool) (b : ℕ) → is_backslash b ≡ false
    → place_after (place_of in_string) b ≡ place_of (flips in_string (b == quotation_mark))
next_place false b plain = places false (b == quotation_mark) (b == backslash) plain
next_place true b plain = places true (b == quotation_mark) (b == backslash) plain

count_more : (p : ℕ → Bool) (b : ℕ) (front : List ℕ) → count_by p (b ∷ front) ≡ cond (p b) 1 0 + count_by p front
count_more p b front = sum_by-cons (λ x. cond (p x) 1 0) b front

-- a byte leads outside where the number of quotation marks up to it is as it should be
one_flip : (in_string quote : Bool) (n : ℕ)
    → (cond (flips in_string quote) 0 1 + n) % 2 ≡ (cond in_string 0 1 + (cond quote 1 0 + n)) % 2
unfolding flips
one_flip true true n = omega arith
one_flip true false n = omega arith
one_flip false true n = omega arith
one_flip false false n = omega arith

last_flip : (in_string quote : Bool)
    → cond (is_outside (place_of (flips in_string quote))) 1 0 ≡ (cond in_string 0 1 + (cond quote 1 0 + 0)) % 2
unfolding flips
last_flip true true = refl
last_flip true false = refl
last_flip false true = refl
last_flip false false = refl

outside_bit : (bytes : List ℕ) (in_string : Bool) (i : ℕ) → HasNoBackslash bytes → i < length bytes →
    cond (get_or (outside_after (place_of in_string) bytes) i false) 1 0
    ≡ (cond in_string 0 1 + count_by is_quote (take (i + 1) bytes)) % 2
outside_bit [] in_string i plain within = absurd (omega arith)
outside_bit (b ∷ bytes) in_string zero plain within =
    rw (next_place in_string b plain.0, count_more is_quote b []) (last_flip in_string (b == quotation_mark))
outside_bit (b ∷ bytes) in_string (suc i) plain within =
    let next : suc i + 1 ≡ suc (i + 1) = omega arith in
    rw (next_place in_string b plain.0, next, count_more is_quote b (take (i + 1) bytes))
    (outside_bit bytes (flips in_string (b == quotation_mark)) i plain.1 (omega arith)
    ∙ one_flip in_string (b == quotation_mark) (count_by is_quote (take (i + 1) bytes)))

length-outside_after : (bytes : List ℕ) (place : Place) → length (outside_after place bytes) ≡ length bytes
length-outside_after [] place = refl
length-outside_after (b ∷ bytes) place = ap suc (length-outside_after bytes (place_after place b))

ones-zero : ones 0 ≡ 0
unfolding ones
ones-zero = refl

-- one byte of `unquoted`
unquoted_step : (in_string : Bool) (b : ℕ) (bytes : List ℕ) → is_backslash b ≡ false →
    unquoted (place_of in_string) (b ∷ bytes) ≡ cond in_string [] (b ∷ [])
    ++ unquoted (place_of (flips in_string (b == quotation_mark))) bytes
unquoted_step false b bytes plain = ap (λ place. b ∷ unquoted place bytes) (next_place false b plain)
unquoted_step true b bytes plain = ap (λ place. unquoted place bytes) (next_place true b plain)

count_step : (p : ℕ → Bool) (in_string : Bool) (b : ℕ) (bytes : List ℕ) → is_backslash b ≡ false →
    count_by p (unquoted (place_of in_string) (b ∷ bytes)) ≡ cond in_string 0 (cond (p b) 1 0)
    + count_by p (unquoted (place_of (flips in_string (b == quotation_mark))) bytes)
count_step p false b bytes plain =
    ap (count_by p) (unquoted_step false b bytes plain)
    ∙ count_more p b (unquoted (place_of (flips false (b == quotation_mark))) bytes)
count_step p true b bytes plain = ap (count_by p) (unquoted_step true b bytes plain) ∙ sym (zero-add _)

mark_step : (mark in_string quote : Bool) → (quote ≡ true → mark ≡ false)
    → ◌≡◌ {A = ℕ} (cond (mark && is_outside (place_of (flips in_string quote))) 1 0) (cond in_string 0 (cond mark 1 0))
unfolding flips
mark_step false true quote bracket = refl
mark_step false false quote bracket = refl
mark_step true in_string true bracket = absurd (false≢true (sym (bracket refl)))
mark_step true true false bracket = refl
mark_step true false false bracket = refl

-- the brackets outside strings are those that are marked among the bytes that lead outside
shown_count : (p : ℕ → Bool) → p quotation_mark ≡ false → (n : ℕ) (block : List ℕ) (in_string : Bool)
    → HasNoBackslash (take n block) →
    ones (mask_l (zip2 (λ x y. x && y) (map p block) (outside_after (place_of in_string) (take n block))))
    ≡ count_by p (unquoted (place_of in_string) (take n block))
shown_count p bracket zero [] in_string plain = ones-zero
shown_count p bracket zero (b ∷ block) in_string plain = ones-zero
shown_count p bracket (suc n) [] in_string plain = ones-zero
shown_count p bracket (suc n) (b ∷ block) in_string plain =
    let no_bracket : (b == quotation_mark) ≡ true → p b ≡ false = λ is. ap p (eqb-true b 34 is) ∙ bracket in
    rw (next_place in_string b plain.0) (
    ones-mask_l_cons (p b && is_outside (place_of (flips in_string (b == quotation_mark)))) _
    ∙ rw (
      mark_step (p b) in_string (b == quotation_mark) no_bracket,
      shown_count p bracket n block (flips in_string (b == quotation_mark)) plain.1,
    ) (sym (count_step p in_string b (take n block) plain.0)))

both_bits : (x y : Bool) → ◌≡◌ {A = ℕ} (cond (x && y) 1 0) (min (cond x 1 0) (cond y 1 0))
both_bits true true = refl
both_bits true false = refl
both_bits false true = refl
both_bits false false = refl

get_or-both : (xs ys : List Bool) (i : ℕ)
    → cond (get_or (zip2 (λ x y. x && y) xs ys) i false) 1 0 ≡ min (cond (get_or xs i false) 1 0)
    (cond (get_or ys i false) 1 0)
get_or-both [] ys i = omega arith
get_or-both (x ∷ xs) [] i = omega arith
get_or-both (x ∷ xs) (y ∷ ys) zero = both_bits x y
get_or-both (x ∷ xs) (y ∷ ys) (suc i) = get_or-both xs ys i

pub and_masks : (xs ys : List Bool) → bit_and (mask_l xs) (mask_l ys) ≡ mask_l (zip2 (λ x y. x && y) xs ys)
and_masks xs ys = same_from_bits _ _ (λ i.
    bit_at_and (mask_l xs) (mask_l ys) i
    ∙ rw (bit_mask_l xs i, bit_mask_l ys i, bit_mask_l (zip2 (λ x y. x && y) xs ys) i) (sym (get_or-both xs ys i)))

pub count_outside : (p : ℕ → Bool) → p quotation_mark ≡ false → (n : ℕ) (block : List ℕ) (in_string : Bool)
    → HasNoBackslash (take n block) →
    ones (bit_and (mask_l (map p block)) (mask_l (outside_after (place_of in_string) (take n block))))
    ≡ count_by p (unquoted (place_of in_string) (take n block))
count_outside p bracket n block in_string plain =
    ap ones (and_masks (map p block) (outside_after (place_of in_string) (take n block)))
    ∙ shown_count p bracket n block in_string plain

in_string-place : (in_string : Bool) → not (is_outside (place_of in_string)) ≡ in_string
in_string-place true = refl
in_string-place false = refl

-- what follows begins in a string unless the last byte leads outside
pub goes_on : (front back : List ℕ) (n : ℕ) (in_string : Bool) → length front ≡ suc n → HasNoBackslash front →
    unquoted (place_of in_string) (front ++ back) ≡ unquoted (place_of in_string) front
    ++ unquoted (place_of (not (get_or (outside_after (place_of in_string) front) n false))) back
goes_on [] back n in_string long plain = absurd (omega arith)
goes_on (b ∷ []) back (suc n) in_string long plain = absurd (omega arith)
goes_on (b ∷ []) back zero in_string long plain =
    rw (
      unquoted_step in_string b back plain.0,
      unquoted_step in_string b [] plain.0,
      next_place in_string b plain.0,
      in_string-place (flips in_string (b == quotation_mark)),
      append-nil,
    ) refl
goes_on (b ∷ (c ∷ front)) back zero in_string long plain = absurd (omega arith)
goes_on (b ∷ (c ∷ front)) back (suc n) in_string long plain =
    let beyond = flips in_string (b == quotation_mark) in
    let shown : List ℕ = cond in_string [] (b ∷ []) in
    let tail = λ (place : Place). unquoted (place_of (not (get_or (outside_after place (c ∷ front)) n false))) back in
    unquoted_step in_string b (c ∷ (front ++ back)) plain.0
    ∙ (ap (λ xs. shown ++ xs) (goes_on (c ∷ front) back n beyond (omega arith) plain.1)
    ∙ (sym (append_assoc shown (unquoted (place_of beyond) (c ∷ front)) (tail (place_of beyond)))
    ∙ (ap (λ xs. xs ++ tail (place_of beyond)) (sym (unquoted_step in_string b (c ∷ front) plain.0))
    ∙ ap (λ place. unquoted (place_of in_string) (b ∷ (c ∷ front)) ++ tail place)
    (sym (next_place in_string b plain.0)))))

flipped : (in_string : Bool) (i : ℕ) → i < 64
    → bit_at (if (not in_string) then 2 ^ 64 - 1 else 0) i ≡ cond in_string 0 1
flipped true i low = bit_at-zero i
flipped false i low = bit_at_ones 64 i low

-- how many quotation marks stand up to a byte
quotes_below : (block : List ℕ) (i : ℕ)
    → ones_below (mask_l (map is_quote block)) (i + 1) ≡ count_by is_quote (take (i + 1) block)
quotes_below block i =
    ap ones (mask_l-take (i + 1) (map is_quote block) ∙ ap mask_l (take-map is_quote (i + 1) block))
    ∙ ones-mask_l is_quote (take (i + 1) block)

-- the marks as they are computed
pub outside_marks_are : (block : List ℕ) (n sums : ℕ) (in_string : Bool) → length block ≡ 64 → n ≤ 64
    → HasNoBackslash (take n block)
    → ((i : ℕ) → i < 64 → bit_at sums i ≡ ones_below (mask_l (map is_quote block)) (i + 1) % 2)
    → bit_and (bit_xor sums (if (not in_string) then 2 ^ 64 - 1 else 0)) ((2 ^ 64 - 1) / 2 ^ (64 - n))
    ≡ mask_l (outside_after (place_of in_string) (take n block))
outside_marks_are block n sums in_string long within plain parities =
    let front : (2 ^ 64 - 1) / 2 ^ (64 - n) ≡ 2 ^ n - 1 =
    let whole : 64 - (64 - n) ≡ n = omega arith in ones_shr 64 (64 - n) (omega arith) ∙ ap (λ k. 2 ^ k - 1) whole in
    let flip : ℕ = if (not in_string) then 2 ^ 64 - 1 else 0 in
    let count : length (take n block) ≡ n = omega (arith, length-take n block) in
    let marks : List Bool = outside_after (place_of in_string) (take n block) in
    same_from_bits _ _ (λ i.
    rw (
      front,
      bit_at_and (bit_xor sums flip) (2 ^ n - 1) i,
      bit_at_xor sums flip i,
      bit_mask_l marks i,
    ) (elim (cases_lt i n) [
      | inl below ↦
          let same : take (i + 1) (take n block) ≡ take (i + 1) block = take-take (i + 1) n block (omega arith) in
          rw (
            bit_at_ones n i below,
            flipped in_string i (omega arith),
            parities i (omega arith),
            quotes_below block i,
            outside_bit (take n block) in_string i plain (omega arith),
            same,
          )
          (omega arith)
      | inr above ↦
          rw (
            bit_at_ones_above n i above,
            get_or_past marks i false (omega (arith, length-outside_after (take n block) (place_of in_string))),
          )
          (omega arith)
    ]))

pub length-unquoted : (bytes : List ℕ) (place : Place) → length (unquoted place bytes) ≤ length bytes
length-unquoted [] place = omega arith
length-unquoted (b ∷ bytes) outside = omega (arith, length-unquoted bytes (place_after outside b))
length-unquoted (b ∷ bytes) inside = omega (arith, length-unquoted bytes (place_after inside b))
length-unquoted (b ∷ bytes) escaped = omega (arith, length-unquoted bytes (place_after escaped b))

pub count_by-unquoted : (p : ℕ → Bool) (bytes : List ℕ) (place : Place)
    → count_by p (unquoted place bytes) ≤ length bytes
count_by-unquoted p bytes place =
    omega (arith, count_by-le-length p (unquoted place bytes), length-unquoted bytes place)

is_zero_bit : (x : Bool) → (cond x 1 0 == 0) ≡ not x
is_zero_bit true = refl
is_zero_bit false = refl

-- whether the last byte leads outside
pub last_mark : (marks : List Bool) (n : ℕ) → (bit_and (mask_l marks / 2 ^ n) 1 == 0) ≡ not (get_or marks n false)
last_mark marks n = rw (shr_and_one (mask_l marks) n, bit_mask_l marks n) (is_zero_bit (get_or marks n false))

pub IsBracketRun-block : (block back : List ℕ) (n openings closings outside_marks : ℕ) (in_string : Bool)
    → length block ≡ 64 → 0 < n → n ≤ 64 → HasNoBackslash (take n block)
    → openings ≡ mask_l (map is_opening block) → closings ≡ mask_l (map is_closing block)
    → outside_marks ≡ mask_l (outside_after (place_of in_string) (take n block))
    → IsBracketRun in_string (take n block) back (ones (bit_and openings outside_marks))
    (ones (bit_and closings outside_marks)) (bit_and (outside_marks / 2 ^ (n - 1)) 1 == 0)
IsBracketRun-block block back n openings closings outside_marks in_string long some within plain opening closing marks =
    let count : length (take n block) ≡ suc (n - 1) = omega (arith, length-take n block) in
    rw (opening, closing, marks) (record {
      opened_is = count_outside is_opening refl n block in_string plain;
      closed_is = count_outside is_closing refl n block in_string plain;
      goes_on = rw (last_mark (outside_after (place_of in_string) (take n block)) (n - 1))
          (goes_on (take n block) back (n - 1) in_string count plain);
    })
