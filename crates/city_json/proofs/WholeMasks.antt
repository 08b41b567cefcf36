-- Nested arrays of whole numbers in their compact text: what the masks of a block say.
use Rattle.std.proofs.Common.{◌≡◌, ◌∙◌, ◌++◌, ◌+◌, ◌-◌, ◌<◌, ◌≤◌, ◌&&◌, ◌||◌, ◌==◌, ℕ, zero, suc, max, Bool, true, false, not, cond, List, ◌∷◌, length, map, replicate, leb, bit_and, ◌/◌, take, get_or, bit_or, ◌%◌, ◌*◌, ◌^◌, pow_pos, refl, ap, sym, arith, []}
use Rattle.std.proofs.Math.Nat.{pow-suc}
use Rattle.std.proofs.lemmas.Nat.Bits.{bit_at_or, same_from_bits}
use Rattle.std.proofs.lemmas.Simd.{bit_mask_l, zip2_splat, zip2_splat_left, zip2-map, map-map, mask_l-mod}
use Rattle.std.proofs.lemmas.List.{length-map}
use Rattle.city_json.proofs.BlockLemmas.{mask_l-take, and_masks, last_mark}
use Rattle.std.specs.Simd.Lanes.{mask_l, zip2, top}
use Rattle.std.specs.Char.{is_ascii_digit}
use Rattle.city_json.specs.Bytes.{digit_zero, comma, open_bracket, close_bracket}
use Rattle.city_json.specs.Whole.{Closes, is_place, begins_zero, stage_of, up, down, AreFine, StaysOpen, ups, downs, last_of, zeroed_by, lag}
use Rattle.city_json.proofs.WholeBytes.{Closes-at, byte_step, open_comma}

-- ---- a block of bytes
pub one_at_most : (b : Bool) → cond b 1 0 ≤ 1
one_at_most true = omega arith
one_at_most false = omega arith

pub block_step : (bs w : List ℕ) (d d2 r r2 p : ℕ) (z : Bool) → is_place p ≡ true → AreFine p z bs → StaysOpen d bs
    → ups bs ≤ r → d2 + downs bs ≡ d + ups bs → r2 + ups bs ≡ r + downs bs
    → Closes d2 r2 (stage_of (last_of p bs) (zeroed_by p z bs)) w → Closes d r (stage_of p z) (bs ++ w)
block_step [] w d d2 r r2 p z place fine deep fits goes room given =
    Closes-at d2 d r2 r (stage_of p z) (stage_of p z) w (omega arith) (omega arith) refl given
block_step (c ∷ cs) w d d2 r r2 p z place fine deep fits goes room given =
    let down_one = one_at_most (c == close_bracket) in
    byte_step d (d + up c - down c) r (r + down c - up c) p z (cs ++ w) place deep.0 c fine.0 fine.1 fine.2
    (omega arith) (omega (arith, deep.0)) (omega arith)
    (block_step cs w (d + up c - down c) d2 (r + down c - up c) r2 c (begins_zero p c) fine.0 fine.3 deep.1
    (omega arith) (omega (arith, deep.0)) (omega arith) given)

-- ---- the masks of a block
abbrev pub both : List Bool → List Bool → List Bool
both = zip2 (λ x y. x && y)

pub no_mark_first : (m : Bool) (n : ℕ) → cond m 1 0 + 2 * n ≡ 0 → (m ≡ false) × (n ≡ 0)
no_mark_first true n none = absurd (omega arith)
no_mark_first false n none = (refl, omega arith)

all_marks_first : (m : Bool) (n k : ℕ) → 0 < k → cond m 1 0 + 2 * n ≡ 2 * k - 1 → (m ≡ true) × (n ≡ k - 1)
all_marks_first true n k some all = (refl, omega arith)
all_marks_first false n k some all = absurd (omega arith)

abbrev pub is_comma : ℕ → Bool
is_comma c = c == comma

abbrev pub is_open : ℕ → Bool
is_open c = c == open_bracket

abbrev pub is_close_bracket : ℕ → Bool
is_close_bracket c = c == close_bracket

abbrev pub begins_item : ℕ → Bool
begins_item c = (c == open_bracket) || (c == comma)

abbrev pub vains : ℕ → List ℕ → List Bool
vains p bs = both (map (λ c. c == digit_zero) bs) (lag (begins_item p) (map begins_item bs))

no_wrong : (o m k n c_comma c_digit c_open c_close : Bool) → (o && c_comma) ≡ false → (k && (c_digit || c_open)) ≡ false
    → (m && (c_comma || c_close)) ≡ false → (n && c_open) ≡ false
    → ((o && c_comma) || ((k && (c_digit || c_open)) || ((m && (c_comma || c_close)) || (n && c_open)))) ≡ false
no_wrong o m k n c_comma c_digit c_open c_close a b c d = λ i. a i || (b i || (c i || d i))

pub fine_from_masks : (p : ℕ) (z : Bool) (bs : List ℕ)
    → mask_l (map is_place bs) ≡ 2 ^ length bs - 1
    → mask_l (both (lag (is_open p) (map is_open bs)) (map is_comma bs)) ≡ 0
    → mask_l (both (lag (is_close_bracket p) (map is_close_bracket bs)) (map (λ c. is_ascii_digit c || is_open c) bs)) ≡ 0
    → mask_l (both (lag (is_comma p) (map is_comma bs)) (map (λ c. is_comma c || is_close_bracket c) bs)) ≡ 0
    → mask_l (both (lag (is_ascii_digit p) (map is_ascii_digit bs)) (map is_open bs)) ≡ 0
    → mask_l (both (lag z (vains p bs)) (map is_ascii_digit bs)) ≡ 0
    → AreFine p z bs
fine_from_masks p z [] places open_comma close_digit comma_comma digit_open late = tt
fine_from_masks p z (c ∷ cs) places open_comma close_digit comma_comma digit_open late =
    let a = all_marks_first (is_place c) (mask_l (map is_place cs)) (2 ^ length cs) (pow_pos (length cs)) (places
    ∙ ap (λ n. n - 1) (twice (length cs))) in
    let b = no_mark_first _ _ open_comma in
    let d = no_mark_first _ _ close_digit in
    let e = no_mark_first _ _ comma_comma in
    let f = no_mark_first _ _ digit_open in
    let g = no_mark_first _ _ late in (
      a.0,
      no_wrong (is_open p) (is_comma p) (is_close_bracket p) (is_ascii_digit p) (is_comma c) (is_ascii_digit c) (is_open c)
          (is_close_bracket c) b.0 d.0 e.0 f.0,
      g.0,
      fine_from_masks c (begins_zero p c) cs a.1 b.1 d.1 e.1 f.1 g.1,
    )
  where
    twice : (n : ℕ) → 2 ^ suc n ≡ 2 * 2 ^ n
    twice n = omega (arith, pow-suc 2 n)

pub lag-take : (m : Bool) (ms : List Bool) → take (length ms) (m ∷ ms) ≡ lag m ms
lag-take m [] = refl
lag-take m (n ∷ ns) = ap (λ l. m ∷ l) (lag-take n ns)

pub lag_is : (m : Bool) (ms : List Bool) (mask shifted : ℕ) → length ms ≡ 64 → mask ≡ mask_l ms
    → shifted ≡ (cond m 1 0 + 2 * mask) % 2 ^ 64 → shifted ≡ mask_l (lag m ms)
lag_is m ms mask shifted long is given =
    given ∙ ap (λ k. (cond m 1 0 + 2 * k) % 2 ^ 64) is ∙ mask_l-take 64 (m ∷ ms)
    ∙ ap (λ k. mask_l (take k (m ∷ ms))) (sym long) ∙ ap mask_l (lag-take m ms)

-- after a first byte that a call has tested
pub lag_as : (after mask : ℕ) (first other : Bool) → first ≡ other
    → ((marks : List Bool) → length marks ≡ 64 → mask ≡ mask_l marks → after ≡ mask_l (lag first marks))
    → (marks : List Bool) → length marks ≡ 64 → mask ≡ mask_l marks → after ≡ mask_l (lag other marks)
lag_as after mask first other same given marks long is = given marks long is ∙ ap (λ b. mask_l (lag b marks)) same

either_bits : (x y : Bool) → ◌≡◌ {A = ℕ} (cond (x || y) 1 0) (max (cond x 1 0) (cond y 1 0))
either_bits true true = refl
either_bits true false = refl
either_bits false true = refl
either_bits false false = refl

get_or-either : (f g : ℕ → Bool) (bs : List ℕ) (i : ℕ)
    → cond (get_or (map (λ b. f b || g b) bs) i false) 1 0 ≡ max (cond (get_or (map f bs) i false) 1 0)
    (cond (get_or (map g bs) i false) 1 0)
get_or-either f g [] i = omega arith
get_or-either f g (b ∷ bs) zero = either_bits (f b) (g b)
get_or-either f g (b ∷ bs) (suc i) = get_or-either f g bs i

pub or_maps : (f g : ℕ → Bool) (bs : List ℕ)
    → bit_or (mask_l (map f bs)) (mask_l (map g bs)) ≡ mask_l (map (λ b. f b || g b) bs)
or_maps f g bs = same_from_bits _ _ (λ i.
    bit_at_or (mask_l (map f bs)) (mask_l (map g bs)) i
    ∙ rw (bit_mask_l (map f bs) i, bit_mask_l (map g bs) i, bit_mask_l (map (λ b. f b || g b) bs) i)
    (sym (get_or-either f g bs i)))

pub last_vain : (p : ℕ) (z : Bool) (bs : List ℕ) (n : ℕ) → length bs ≡ n + 1
    → get_or (vains p bs) n false ≡ zeroed_by p z bs
last_vain p z [] n long = absurd (omega arith)
last_vain p z (c ∷ []) zero long = refl
last_vain p z (c ∷ []) (suc n) long = absurd (omega arith)
last_vain p z (c ∷ (d ∷ cs)) zero long = absurd (omega arith)
last_vain p z (c ∷ (d ∷ cs)) (suc n) long = last_vain c (begins_zero p c) (d ∷ cs) n (omega arith)

-- ---- digits as vectors find them
tops_of_both : (x y : Bool) → top 7 (bit_and (cond x 255 0) (cond y 255 0)) ≡ (x && y)
tops_of_both true true = refl
tops_of_both true false = refl
tops_of_both false true = refl
tops_of_both false false = refl

pub digit_marks_are : (bytes : List ℕ) → length bytes ≡ 64
    → mask_l (map (top 7) (zip2 bit_and (zip2 (λ a b. cond (leb a b) 255 0) (replicate 64 48) bytes)
    (zip2 (λ a b. cond (leb a b) 255 0) bytes (replicate 64 57)))) % 2 ^ 64 ≡ mask_l (map is_ascii_digit bytes)
digit_marks_are bytes long =
    ap (λ x. mask_l (map (top 7) (zip2 bit_and x (zip2 (λ a b. cond (leb a b) 255 0) bytes (replicate 64 57)))) % 2 ^
    64) (zip2_splat_left {Z = ℕ} (λ a b. cond (leb a b) 255 0) 48 64 bytes long)
    ∙ ap (λ x. mask_l (map (top 7) (zip2 bit_and (map (λ b. cond (leb 48 b) 255 0) bytes) x)) % 2 ^ 64)
    (zip2_splat {Z = ℕ} (λ a b. cond (leb a b) 255 0) bytes 64 57 long)
    ∙ ap (λ x. mask_l (map (top 7) x) % 2 ^ 64)
    (zip2-map bit_and (λ b. cond (leb 48 b) 255 0) (λ b. cond (leb b 57) 255 0) bytes)
    ∙ ap (λ x. mask_l x % 2 ^ 64) (map-map (top 7) (λ b. bit_and (cond (leb 48 b) 255 0) (cond (leb b 57) 255 0)) bytes
    ∙ ap (λ (f : ℕ → Bool). map f bytes) (λ i b. tops_of_both (leb 48 b) (leb b 57) i))
    ∙ mask_l-mod (map is_ascii_digit bytes) 64 (omega (arith, length-map bytes is_ascii_digit))

pub shifted_is : (first : Bool) (mask bit : ℕ) → bit ≡ cond first 1 0
    → mask * 2 % 2 ^ 64 + bit ≡ (cond first 1 0 + 2 * mask) % 2 ^ 64
shifted_is true mask bit is = omega (arith, is)
shifted_is false mask bit is = omega (arith, is)

abbrev pub is_zero : ℕ → Bool
is_zero c = c == digit_zero

pub and_is : (xs ys : List Bool) (a b : ℕ) → a ≡ mask_l xs → b ≡ mask_l ys → bit_and a b ≡ mask_l (both xs ys)
and_is xs ys a b e f = (λ i. bit_and (e i) (f i)) ∙ and_masks xs ys

pub or_is : (f g : ℕ → Bool) (bs : List ℕ) (a b : ℕ) → a ≡ mask_l (map f bs) → b ≡ mask_l (map g bs)
    → bit_or a b ≡ mask_l (map (λ c. f c || g c) bs)
or_is f g bs a b e h = (λ i. bit_or (e i) (h i)) ∙ or_maps f g bs

pub length-vains : (p : ℕ) (bs : List ℕ) → length (vains p bs) ≡ length bs
length-vains p [] = refl
length-vains p (c ∷ cs) = ap suc (length-vains c cs)

-- all at once: the masks of a block
module _ (p : ℕ) (z : Bool) (bs : List ℕ) (long : length bs ≡ 64)
    (digits commas opens closes zeros after_item after_open after_close after_comma after_digit after_vain : ℕ)
    (d : digits ≡ mask_l (map is_ascii_digit bs)) (m : commas ≡ mask_l (map is_comma bs))
    (o : opens ≡ mask_l (map is_open bs)) (k : closes ≡ mask_l (map is_close_bracket bs))
    (n : zeros ≡ mask_l (map is_zero bs))
    (items_beyond : (marks : List Bool) → length marks ≡ 64 → bit_or opens commas ≡ mask_l marks
    → after_item ≡ mask_l (lag (begins_item p) marks)) where
  pub vain_is : bit_and zeros after_item ≡ mask_l (vains p bs)
  vain_is = and_is (map is_zero bs) (lag (begins_item p) (map begins_item bs)) zeros after_item n
      (items_beyond (map begins_item bs) (length-map bs begins_item
      ∙ long) (or_is is_open is_comma bs opens commas o m))

  pub ends_zeroed : not (bit_and (bit_and zeros after_item / 2 ^ 63) 1 == 0) ≡ zeroed_by p z bs
  ends_zeroed = ap (λ v. not (bit_and (v / 2 ^ 63) 1 == 0)) vain_is ∙ ap not (last_mark (vains p bs) 63)
      ∙ twice_not (get_or (vains p bs) 63 false) ∙ last_vain p z bs 63 long
    where
      twice_not : (b : Bool) → not (not b) ≡ b
      twice_not true = refl
      twice_not false = refl

  pub fine_is : bit_or digits (bit_or commas (bit_or opens closes)) ≡ 2 ^ 64 - 1
      → ((marks : List Bool) → length marks ≡ 64 → opens ≡ mask_l marks → after_open ≡ mask_l (lag (is_open p) marks))
      → bit_and after_open commas ≡ 0
      → ((marks : List Bool) → length marks ≡ 64 → closes ≡ mask_l marks
      → after_close ≡ mask_l (lag (is_close_bracket p) marks)) → bit_and after_close (bit_or digits opens) ≡ 0
      → ((marks : List Bool) → length marks ≡ 64 → commas ≡ mask_l marks
      → after_comma ≡ mask_l (lag (is_comma p) marks)) → bit_and after_comma (bit_or commas closes) ≡ 0
      → ((marks : List Bool) → length marks ≡ 64 → digits ≡ mask_l marks
      → after_digit ≡ mask_l (lag (is_ascii_digit p) marks)) → bit_and after_digit opens ≡ 0
      → ((marks : List Bool) → length marks ≡ 64 → bit_and zeros after_item ≡ mask_l marks
      → after_vain ≡ mask_l (lag z marks)) → bit_and after_vain digits ≡ 0
      → AreFine p z bs
  fine_is all after_o e1 after_k e2 after_m e3 after_d e4 after_v e5 =
      fine_from_masks p z bs
      (sym (or_is is_ascii_digit (λ c. is_comma c || (is_open c || is_close_bracket c)) bs digits
      (bit_or commas (bit_or opens closes)) d
      (or_is is_comma (λ c. is_open c || is_close_bracket c) bs commas (bit_or opens closes) m
      (or_is is_open is_close_bracket bs opens closes o k))) ∙ all ∙ ap (λ l. 2 ^ l - 1) (sym long))
      (sym (and_is (lag (is_open p) (map is_open bs)) (map is_comma bs) after_open commas
      (after_o (map is_open bs) (length-map bs is_open ∙ long) o) m) ∙ e1)
      (sym (and_is (lag (is_close_bracket p) (map is_close_bracket bs)) (map (λ c. is_ascii_digit c || is_open c) bs) after_close
      (bit_or digits opens) (after_k (map is_close_bracket bs) (length-map bs is_close_bracket ∙ long) k)
      (or_is is_ascii_digit is_open bs digits opens d o)) ∙ e2)
      (sym (and_is (lag (is_comma p) (map is_comma bs)) (map (λ c. is_comma c || is_close_bracket c) bs) after_comma
      (bit_or commas closes) (after_m (map is_comma bs) (length-map bs is_comma ∙ long) m)
      (or_is is_comma is_close_bracket bs commas closes m k)) ∙ e3)
      (sym (and_is (lag (is_ascii_digit p) (map is_ascii_digit bs)) (map is_open bs) after_digit opens
      (after_d (map is_ascii_digit bs) (length-map bs is_ascii_digit ∙ long) d) o) ∙ e4)
      (sym (and_is (lag z (vains p bs)) (map is_ascii_digit bs) after_vain digits
      (after_v (vains p bs) (length-vains p bs ∙ long) vain_is) d) ∙ e5)
