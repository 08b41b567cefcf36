-- Nested arrays of whole numbers in their compact text: what a block of bytes does.
use Rattle.std.proofs.Common.{◌≡◌, ◌∙◌, ◌++◌, ◌+◌, ◌-◌, ◌<◌, ◌≤◌, ◌&&◌, ◌||◌, ◌==◌, ℕ, zero, suc, Bool, true, false, not, cond, List, ◌∷◌, length, map, ◌/◌, count_by, drop, length-drop, slice_range, take, get_or, ◌%◌, ◌*◌, ◌^◌, refl, ap, sym, subst, arith, append_assoc, inl, inr, []}
use Rattle.std.proofs.lemmas.Bool.{eqb-true, cases_Bool, cond-true, cond-false}
use Rattle.std.proofs.lemmas.Bool.Decides.{nat_tests}
use Rattle.std.proofs.Math.Nat.{zero-div, pow-le-pow_right}
use Rattle.std.proofs.lemmas.Simd.{chunk-drop, length-chunk}
use Rattle.std.specs.Simd.Lanes.{chunk}
use Rattle.std.proofs.lemmas.List.{append_cancel_right, get_or-drop, get_or-take}
use Rattle.std.proofs.lemmas.List.Folds.{drop_split}
use Rattle.city_json.proofs.CompactLaws.{spelled-items}
use Rattle.city_json.specs.Compacting.{shown, TakenItems}
use Rattle.std.proofs.lemmas.Nat.{shr-shr}
use Rattle.std.specs.Int.Count.{count_trailing_zeros, ones}
use Rattle.std.proofs.lemmas.Simd.{trailing_mask_l, ones-mask_l}
use Rattle.std.proofs.lemmas.List.{drop-map, take-map}
use Rattle.std.specs.List.{prefix_len}
use Rattle.std.proofs.lemmas.List.Sums.{sum_by-cons}
use Rattle.city_json.proofs.BlockLemmas.{mask_l-take}
use Rattle.std.specs.Simd.Lanes.{mask_l}
use Rattle.std.specs.Char.{is_ascii_digit}
use Rattle.city_json.specs.Bytes.{digit_zero, comma, open_bracket, close_bracket}
use Rattle.city_json.specs.Compact.{compact_items}
use Rattle.city_json.specs.Whole.{at_start, Closes, is_place, is_wrong, begins_zero, stage_of, up, down, AreFine, StaysOpen, ups, downs, last_of, zeroed_by, IsItemsText}
use Rattle.city_json.proofs.Places.{shown_more, slice_more, slice_one}
use Rattle.city_json.proofs.WholeBytes.{Closes-at, and_false, byte_step, no_mark}
use Rattle.city_json.proofs.WholeMasks.{block_step, is_close_bracket, is_open, no_mark_first, one_at_most}

-- ---- open arrays through a block
mask_l-none : (p : ℕ → Bool) (cs : List ℕ) (c : ℕ) → mask_l (map p (c ∷ cs)) ≡ 0 → (p c ≡ false)
    × (mask_l (map p cs) ≡ 0)
mask_l-none p cs c none = no_mark_first (p c) (mask_l (map p cs)) none

-- no closing bracket is left
pub stays_none : (d : ℕ) (bs : List ℕ) → 0 < d → mask_l (map is_close_bracket bs) ≡ 0 → StaysOpen d bs
stays_none d [] some none = some
stays_none d (c ∷ cs) some none =
    let here = mask_l-none is_close_bracket cs c none in
    let down_none : down c ≡ 0 = cond-false (is_close_bracket c) 1 0 here.0 in
    (some, stays_none (d + up c - down c) cs (omega (arith, down_none)) here.1)

-- up to the first closing bracket
pub stays_first : (d n : ℕ) (bs : List ℕ) → 0 < d → n ≡ prefix_len (λ b. not (is_close_bracket b)) bs → n < length bs
    → StaysOpen (d + count_by is_open (take n bs) - 1) (drop (n + 1) bs) → StaysOpen d bs
stays_first d n [] some first within given = absurd (omega arith)
stays_first d zero (c ∷ cs) some first within given = elim (cases_Bool (is_close_bracket c)) [
  | inl closing ↦
      let is : c ≡ close_bracket = eqb-true c close_bracket closing in (
        some,
        subst (λ x. StaysOpen (d + up x - down x) cs) (sym is)
            (subst (λ x. StaysOpen x cs) (let e : d + 0 - 1 ≡ d + 0 - 1 = refl in e) given),
      )
  | inr clear ↦ absurd (let e : prefix_len (λ b. not (is_close_bracket b)) (c ∷ cs) ≡ 1
      + prefix_len (λ b. not (is_close_bracket b)) cs = cond-true (not (is_close_bracket c)) _ _ (ap not clear) in
      omega (arith, first, e))
]
stays_first d (suc n) (c ∷ cs) some first within given = elim (cases_Bool (is_close_bracket c)) [
  | inl closing ↦ absurd (let e : prefix_len (λ b. not (is_close_bracket b)) (c ∷ cs) ≡ 0 =
      cond-false (not (is_close_bracket c)) _ _ (ap not closing) in omega (arith, first, e))
  | inr clear ↦
      let e : prefix_len (λ b. not (is_close_bracket b)) (c ∷ cs) ≡ 1 + prefix_len (λ b. not (is_close_bracket b)) cs =
      cond-true (not (is_close_bracket c)) _ _ (ap not clear) in
      let none : down c ≡ 0 = cond-false (is_close_bracket c) 1 0 clear in
      let count : count_by is_open (c ∷ take n cs) ≡ up c + count_by is_open (take n cs) =
      sum_by-cons (λ x. cond (is_open x) 1 0) c (take n cs) in
      let same : d + count_by is_open (c ∷ take n cs) - 1 ≡ (d + up c - down c) + count_by is_open (take n cs) - 1 =
      omega (arith, count, none) in
      let next : suc n + 1 ≡ suc (n + 1) = omega arith in (
        some,
        stays_first (d + up c - down c) n cs (omega (arith, some, none)) (omega (arith, first, e))
            (omega (arith, within))
            (subst (λ x. StaysOpen x (drop (n + 1) cs)) same
            (subst (λ k. StaysOpen (d + count_by is_open (c ∷ take n cs) - 1) (drop k (c ∷ cs))) next given)),
      )
]

half_mask : (m : Bool) (n : ℕ) → (cond m 1 0 + 2 * n) / 2 ≡ n
half_mask true n = omega arith
half_mask false n = omega arith

drop-nil : (k : ℕ) → ◌≡◌ {A = List Bool} (drop k []) []
drop-nil zero = refl
drop-nil (suc k) = refl

-- a mask shifted down
pub mask_l-drop : (n : ℕ) (ms : List Bool) → mask_l ms / 2 ^ n / 2 ≡ mask_l (drop (n + 1) ms)
mask_l-drop zero [] = refl
mask_l-drop zero (m ∷ ms) = ap (λ x. x / 2) (omega arith) ∙ half_mask m (mask_l ms)
mask_l-drop (suc n) [] = ap (λ x. x / 2) (zero-div (2 ^ suc n)) ∙ ap mask_l (sym (drop-nil (suc n + 1)))
mask_l-drop (suc n) (m ∷ ms) =
    let next : suc n + 1 ≡ suc (n + 1) = omega arith in
    let power : suc n ≡ 1 + n = omega arith in
    ap (λ x. x / 2) (ap (λ k. (cond m 1 0 + 2 * mask_l ms) / 2 ^ k) power
    ∙ sym (shr-shr (cond m 1 0 + 2 * mask_l ms) 1 n) ∙ ap (λ x. x / 2 ^ n) (half_mask m (mask_l ms)))
    ∙ mask_l-drop n ms ∙ ap (λ k. mask_l (drop k (m ∷ ms))) (sym next)

pub marks_after : (f : ℕ → Bool) (n : ℕ) (bs : List ℕ) (mask : ℕ) → mask ≡ mask_l (map f bs)
    → mask / 2 ^ n / 2 ≡ mask_l (map f (drop (n + 1) bs))
marks_after f n bs mask is = ap (λ x. x / 2 ^ n / 2) is ∙ mask_l-drop n (map f bs)
    ∙ ap mask_l (drop-map f (n + 1) bs)

-- one round: the place of the first closing bracket, and what is left after it
pub round_goes : (d up_bits down_bits place : ℕ) (rest : List ℕ) → 0 < d → 0 < down_bits → length rest ≤ 64
    → up_bits ≡ mask_l (map is_open rest) → down_bits ≡ mask_l (map is_close_bracket rest)
    → place ≡ count_trailing_zeros 64 down_bits
    → (beyond : List ℕ) × (length beyond ≤ 64) × (up_bits / 2 ^ place / 2 ≡ mask_l (map is_open beyond))
    × (down_bits / 2 ^ place / 2 ≡ mask_l (map is_close_bracket beyond))
    × (StaysOpen (d + ones (up_bits % 2 ^ place) - 1) beyond → StaysOpen d rest)
round_goes d up_bits down_bits place rest some closing short is_up is_down first =
    let at_place : place ≡ prefix_len (λ b. not (is_close_bracket b)) rest = first ∙ ap (count_trailing_zeros 64) is_down
    ∙ trailing_mask_l is_close_bracket 64 rest short (omega (arith, is_down, closing)) in
    let within : place < length rest = below_end rest (omega (arith, is_down, closing)) at_place in
    let count : ones (up_bits % 2 ^ place) ≡ count_by is_open (take place rest) = ap (λ x. ones (x % 2 ^ place)) is_up
    ∙ ap ones (mask_l-take place (map is_open rest) ∙ ap mask_l (take-map is_open place rest))
    ∙ ones-mask_l is_open (take place rest) in (
      drop (place + 1) rest,
      omega (arith, length-drop (place + 1) rest, short),
      marks_after is_open place rest up_bits is_up,
      marks_after is_close_bracket place rest down_bits is_down,
      λ given. stays_first d place rest some at_place within
          (subst (λ x. StaysOpen (d + x - 1) (drop (place + 1) rest)) count given),
    )
  where
    below_end : (bs : List ℕ) → 0 < mask_l (map is_close_bracket bs) → place ≡ prefix_len (λ b. not (is_close_bracket b)) bs
        → place < length bs
    below_end bs some is = omega (arith, is, prefix_below bs some)
      where
        prefix_below : (bs : List ℕ) → 0 < mask_l (map is_close_bracket bs) → prefix_len (λ b. not (is_close_bracket b)) bs < length bs
        prefix_below [] some = absurd (omega arith)
        prefix_below (b ∷ bs) some = elim (cases_Bool (is_close_bracket b)) [
          | inl closing ↦ (let e : prefix_len (λ b. not (is_close_bracket b)) (b ∷ bs) ≡ 0 =
              cond-false (not (is_close_bracket b)) _ _ (ap not closing) in omega (arith, e))
          | inr clear ↦
              let e : prefix_len (λ b. not (is_close_bracket b)) (b ∷ bs) ≡ 1 + prefix_len (λ b. not (is_close_bracket b)) bs =
              cond-true (not (is_close_bracket b)) _ _ (ap not clear) in
              let none : ◌≡◌ {A = ℕ} (cond (is_close_bracket b) 1 0) 0 = cond-false (is_close_bracket b) 1 0 clear in
              omega (arith, e, prefix_below bs (omega (arith, none, some)))
        ]

pub powers : (n m : ℕ) → n ≤ m → 2 ^ n ≤ 2 ^ m
powers n m order = pow-le-pow_right (omega arith) order

-- ---- a block, a byte and the whole, by places in a text
pub count-ups : (bs : List ℕ) → count_by is_open bs ≡ ups bs
count-ups [] = refl
count-ups (c ∷ cs) = sum_by-cons (λ x. cond (is_open x) 1 0) c cs ∙ ap (λ n. up c + n) (count-ups cs)

pub count-downs : (bs : List ℕ) → count_by is_close_bracket bs ≡ downs bs
count-downs [] = refl
count-downs (c ∷ cs) = sum_by-cons (λ x. cond (is_close_bracket x) 1 0) c cs ∙ ap (λ n. down c + n) (count-downs cs)

-- as many as a mask has bits
pub opens_of : (bs : List ℕ) (opens : ℕ) → opens ≡ mask_l (map is_open bs) → ones opens ≡ ups bs
opens_of bs opens is = ap ones is ∙ ones-mask_l is_open bs ∙ count-ups bs

pub closes_of : (bs : List ℕ) (closes : ℕ) → closes ≡ mask_l (map is_close_bracket bs) → ones closes ≡ downs bs
closes_of bs closes is = ap ones is ∙ ones-mask_l is_close_bracket bs ∙ count-downs bs

pub stays_positive : (d : ℕ) (bs : List ℕ) → StaysOpen d bs → downs bs < d + ups bs
stays_positive d [] deep = omega (arith, deep)
stays_positive d (c ∷ cs) deep =
    omega (arith, stays_positive (d + up c - down c) cs deep.1, one_at_most (c == close_bracket), deep.0)

last_is : (bs : List ℕ) (n p : ℕ) → length bs ≡ n + 1 → last_of p bs ≡ get_or bs n 0
last_is [] n p long = absurd (omega arith)
last_is (c ∷ []) zero p long = refl
last_is (c ∷ []) (suc n) p long = absurd (omega arith)
last_is (c ∷ (d ∷ cs)) zero p long = absurd (omega arith)
last_is (c ∷ (d ∷ cs)) (suc n) p long = last_is (d ∷ cs) n c (omega arith)

last_place : (p : ℕ) (z : Bool) (bs : List ℕ) → is_place p ≡ true → AreFine p z bs → is_place (last_of p bs) ≡ true
last_place p z [] place fine = place
last_place p z (c ∷ cs) place fine = last_place c (begins_zero p c) cs fine.0 fine.3

module _ (text : List ℕ) (at : ℕ) (within : at + 64 ≤ length text) where
  pub chunk_is : slice_range text at (at + 64) ≡ chunk at 64 text
  chunk_is = append_cancel_right (slice_range text at (at + 64)) (chunk at 64 text) (drop (at + 64) text)
      (sym (drop_split text at (at + 64) (omega arith)) ∙ chunk-drop at 64 text)

  last_at : (p : ℕ) → last_of p (chunk at 64 text) ≡ get_or text (at + 63) 0
  last_at p =
      let count : (at + 64) - at ≡ 64 = omega arith in
      last_is (chunk at 64 text) 63 p (length-chunk at 64 text within) ∙ ap (λ l. get_or l 63 0) (sym chunk_is)
      ∙ ap (λ n. get_or (take n (drop at text)) 63 0) count ∙ get_or-take 64 (drop at text) 63 0 (omega arith)
      ∙ get_or-drop at text 63 0

  pub block_place : (z : Bool) → is_place (get_or text (at - 1) 0) ≡ true
      → AreFine (get_or text (at - 1) 0) z (chunk at 64 text) → is_place (get_or text (at + 63) 0) ≡ true
  block_place z place fine = ap is_place (sym (last_at (get_or text (at - 1) 0)))
      ∙ last_place (get_or text (at - 1) 0) z (chunk at 64 text) place fine

  module _ (d opens closes : ℕ) (is_up : opens ≡ mask_l (map is_open (chunk at 64 text)))
      (is_down : closes ≡ mask_l (map is_close_bracket (chunk at 64 text))) (deep : StaysOpen d (chunk at 64 text)) where
    opens_are : ones opens ≡ ups (chunk at 64 text)
    opens_are = opens_of (chunk at 64 text) opens is_up

    closes_are : ones closes ≡ downs (chunk at 64 text)
    closes_are = closes_of (chunk at 64 text) closes is_down

    pub block_open : 0 < d + ones opens - ones closes
    block_open = omega (arith, opens_are, closes_are, stays_positive d (chunk at 64 text) deep)

    pub block_goes : (r : ℕ) (z z2 : Bool) → is_place (get_or text (at - 1) 0) ≡ true
        → AreFine (get_or text (at - 1) 0) z (chunk at 64 text)
        → z2 ≡ zeroed_by (get_or text (at - 1) 0) z (chunk at 64 text) → ones opens ≤ r
        → (further : List ℕ) → Closes (d + ones opens - ones closes) (r + ones closes - ones opens)
        (stage_of (get_or text (at + 63) 0) z2) further
        → Closes d r (stage_of (get_or text (at - 1) 0) z) (slice_range text at (at + 64) ++ further)
    block_goes r z z2 place fine ends fits further given =
        let p = get_or text (at - 1) 0 in
        let bs = chunk at 64 text in
        let positive = stays_positive d bs deep in
        let stage : stage_of (get_or text (at + 63) 0) z2 ≡ stage_of (last_of p bs) (zeroed_by p z bs) =
        λ i. stage_of (sym (last_at p) i) (ends i) in
        subst (λ l. Closes d r (stage_of p z) (l ++ further)) (sym chunk_is)
        (block_step bs further d (d + ones opens - ones closes) r (r + ones closes - ones opens) p z place fine deep
        (omega (arith, opens_are, fits)) (omega (arith, opens_are, closes_are, positive))
        (omega (arith, opens_are, closes_are, fits))
        (Closes-at _ _ _ _ _ _ further refl refl stage given))

pub byte_goes : (d d2 r r2 p c ups_c downs_c : ℕ) (z z2 : Bool) (w : List ℕ) → is_place p ≡ true → 0 < d
    → is_place c ≡ true → is_wrong p c ≡ false → (z && is_ascii_digit c) ≡ false → up c ≡ ups_c → down c ≡ downs_c
    → ups_c ≤ r → d2 + downs_c ≡ d + ups_c → r2 + ups_c ≡ r + downs_c → z2 ≡ begins_zero p c
    → Closes d2 r2 (stage_of c z2) w → Closes d r (stage_of p z) (c ∷ w)
byte_goes d d2 r r2 p c ups_c downs_c z z2 w place some stands fine once ups_is downs_is fits goes room zeroed given =
    byte_step d d2 r r2 p z w place some c stands fine once (omega (arith, ups_is, fits))
    (omega (arith, ups_is, downs_is, goes)) (omega (arith, ups_is, downs_is, room))
    (subst (λ b. Closes d2 r2 (stage_of c b) w) zeroed given)

-- a comma or a bracket
pub mark_goes : (d d2 r r2 p c mark ups_c downs_c : ℕ) (z : Bool) (w : List ℕ) → c ≡ mark → is_place p ≡ true → 0 < d
    → is_place mark ≡ true → is_wrong p mark ≡ false → is_ascii_digit mark ≡ false → (mark == digit_zero) ≡ false
    → up mark ≡ ups_c → down mark ≡ downs_c → ups_c ≤ r → d2 + downs_c ≡ d + ups_c → r2 + ups_c ≡ r + downs_c
    → Closes d2 r2 (stage_of c false) w → Closes d r (stage_of p z) (c ∷ w)
mark_goes d d2 r r2 p c mark ups_c downs_c z w is place some stands fine clear other ups_is downs_is fits goes room
    given =
    byte_goes d d2 r r2 p c ups_c downs_c z false w place some (ap is_place is ∙ stands) (ap (is_wrong p) is
    ∙ fine) (ap (λ k. z && is_ascii_digit k) is ∙ ap (λ b. z && b) clear ∙ and_false z) (ap up is
    ∙ ups_is) (ap down is ∙ downs_is) fits goes room
    (sym (ap (begins_zero p) is ∙ ap (λ b. b && ((p == open_bracket) || (p == comma))) other)) given

-- a digit
pub digit_place : (c : ℕ) → is_ascii_digit c ≡ true → is_place c ≡ true
digit_place c is = ap (λ b. b || ((c == comma) || ((c == open_bracket) || (c == close_bracket)))) is

pub digit_goes : (d r p c : ℕ) (z z2 : Bool) (w : List ℕ) → is_ascii_digit c ≡ true → is_place p ≡ true → 0 < d
    → is_wrong p c ≡ false → z ≡ false → z2 ≡ begins_zero p c
    → Closes d r (stage_of c z2) w → Closes d r (stage_of p z) (c ∷ w)
digit_goes d r p c z z2 w digit place some fine once zeroed given =
    let range : (48 ≤ c) × (c ≤ 57) = grind (arith, nat_tests) in
    byte_goes d d r r p c 0 0 z z2 w place some (digit_place c digit) fine (ap (λ b. b && is_ascii_digit c) once)
    (cond-false (c == open_bracket) 1 0 (no_mark c open_bracket range.0 range.1 (inr (omega arith))))
    (cond-false (c == close_bracket) 1 0 (no_mark c close_bracket range.0 range.1 (inr (omega arith))))
    (omega arith) (omega arith) (omega arith) zeroed given

pub two_runs : (text further : List ℕ) (at i end : ℕ) → at ≤ i → i ≤ end
    → slice_range text at i ++ (slice_range text i end ++ further) ≡ slice_range text at end ++ further
two_runs text further at i end first second =
    sym (append_assoc (slice_range text at i) (slice_range text i end) further)
    ∙ ap (λ l. l ++ further) (sym (slice_more text at i end first second))

pub one_more_byte : (text further : List ℕ) (at i : ℕ) → at ≤ i → i < length text
    → slice_range text at i ++ (get_or text i 0 ∷ further) ≡ slice_range text at (i + 1) ++ further
one_more_byte text further at i first within =
    ap (λ l. slice_range text at i ++ (l ++ further)) (sym (slice_one text i (get_or text i 0) within refl))
    ∙ two_runs text further at i (i + 1) first (omega arith)

pub whole_items : (text : List ℕ) (at end levels : ℕ) → Closes 1 levels at_start (slice_range text at end)
    → IsItemsText levels text at end
whole_items text at end levels i = record {
  items = i.items;
  written = i.splits ∙ ap (λ l. l ++ close_bracket ∷ i.rest) i.left
      ∙ ap (λ l. compact_items i.items ++ close_bracket ∷ l) i.outer;
  within = i.within;
  distinct = i.distinct;
  writable = i.writable;
}

pub whole_taken : (levels : ℕ) (line text : List ℕ) (from at end : ℕ) → from ≤ at → at < end
    → IsItemsText levels text at end
    → TakenItems levels (drop at text) (drop end text) (shown line text from at) (shown line text from end)
whole_taken levels line text from at end order onward is = record {
  items = is.items;
  inner = compact_items is.items;
  splits = drop_split text at end (omega arith) ∙ ap (λ l. l ++ drop end text) is.written
      ∙ append_assoc (compact_items is.items) (close_bracket ∷ []) (drop end text);
  spells = spelled-items is.items is.writable;
  within = is.within;
  distinct = is.distinct;
  is_shown = shown_more line text from at end order (omega arith) ∙ ap (λ l. shown line text from at ++ l) is.written;
}
