-- Nested arrays of whole numbers: the block in which they end.
use Rattle.std.proofs.Common.{◌≡◌, ◌∙◌, ◌+◌, ◌-◌, ◌*◌, ◌%◌, ◌^◌, ◌<◌, ◌≤◌, ◌&&◌, ◌||◌, ◌==◌, ℕ, zero, suc, Bool, true, List, [], ◌∷◌, length, map, take, drop, bit_and, bit_or, refl, ap, sym, subst, arith, length-take, slice_range}
use Rattle.std.proofs.lemmas.List.{length-map, take-map, take-take}
use Rattle.std.proofs.lemmas.Simd.{ones-mask_l}
use Rattle.std.specs.Char.{is_ascii_digit}
use Rattle.std.specs.Int.Count.{ones}
use Rattle.std.specs.Simd.Lanes.{mask_l, chunk}
use Rattle.city_json.proofs.BlockLemmas.{mask_l-take}
use Rattle.city_json.proofs.WholeBytes.{byte_step}
use Rattle.city_json.proofs.WholeMasks.{one_at_most, both, vains, begins_item, fine_from_masks, is_comma, is_open, is_close_bracket, is_zero, and_is, or_is, length-vains}
use Rattle.city_json.proofs.WholeArrays.{powers, count-ups, count-downs, chunk_is}
use Rattle.city_json.specs.Bytes.{digit_zero, close_bracket}
use Rattle.city_json.specs.Whole.{Closes, is_place, begins_zero, stage_of, up, down, AreFine, StaysOpen, ups, downs, lag}

-- the last byte of a run closes all arrays
pub closes_all : (bs : List ℕ) (d r n p : ℕ) (z : Bool) → length bs ≡ n + 1 → is_place p ≡ true → AreFine p z bs
    → StaysOpen d (take n bs) → d + ups bs ≡ downs bs → ups bs ≤ r → Closes d r (stage_of p z) bs
closes_all [] d r n p z long place fine deep ends fits = absurd (omega arith)
closes_all (c ∷ []) d r zero p z long place fine deep ends fits =
    byte_step d 0 r (r + down c - up c) p z [] place deep c fine.0 fine.1 fine.2 (omega (arith, fits))
    (omega (arith, ends)) (omega (arith, fits)) refl
closes_all (c ∷ []) d r (suc n) p z long place fine deep ends fits = absurd (omega arith)
closes_all (c ∷ (e ∷ cs)) d r zero p z long place fine deep ends fits = absurd (omega arith)
closes_all (c ∷ (e ∷ cs)) d r (suc n) p z long place fine deep ends fits =
    let down_one = one_at_most (c == close_bracket) in
    byte_step d (d + up c - down c) r (r + down c - up c) p z (e ∷ cs) place deep.0 c fine.0 fine.1 fine.2
    (omega (arith, fits)) (omega (arith, deep.0, down_one)) (omega (arith, fits))
    (closes_all (e ∷ cs) (d + up c - down c) (r + down c - up c) n c (begins_zero p c)
    (omega (arith, long)) fine.0 fine.3 deep.1 (omega (arith, ends, deep.0, down_one)) (omega (arith, fits)))

pub front_power : (k : ℕ) → k ≤ 63 → 1 * 2 ^ k % 2 ^ 64 ≡ 2 ^ k
front_power k few = let low : 2 ^ k ≤ 2 ^ 63 = powers k 63 few in omega (arith, low)

none_in_front : (x : ℕ) (ms : List Bool) (k : ℕ) → k ≤ 63 → x ≡ mask_l ms → x % (1 * 2 ^ k % 2 ^ 64) ≡ 0
    → mask_l (take k ms) ≡ 0
none_in_front x ms k few is none = sym (mask_l-take k ms) ∙ ap (λ y. y % 2 ^ k) (sym is)
    ∙ ap (λ m. x % m) (sym (front_power k few)) ∙ none

both_front : (m : Bool) (f g : ℕ → Bool) (k : ℕ) (bs : List ℕ)
    → both (lag m (map f (take k bs))) (map g (take k bs)) ≡ take k (both (lag m (map f bs)) (map g bs))
both_front m f g zero bs = refl
both_front m f g (suc k) [] = refl
both_front m f g (suc k) (c ∷ cs) = ap (λ l. (m && g c) ∷ l) (both_front (f c) f g k cs)

vain_front : (p : ℕ) (z : Bool) (k : ℕ) (bs : List ℕ)
    → both (lag z (vains p (take k bs))) (map is_ascii_digit (take k bs))
    ≡ take k (both (lag z (vains p bs)) (map is_ascii_digit bs))
vain_front p z zero bs = refl
vain_front p z (suc k) [] = refl
vain_front p z (suc k) (c ∷ cs) =
    ap (λ l. (z && is_ascii_digit c) ∷ l) (vain_front c ((c == digit_zero) && begins_item p) k cs)

-- the first bytes of a block by its masks
module _ (p : ℕ) (z : Bool) (bs : List ℕ) (long : length bs ≡ 64)
    (digits commas opens closes zeros after_item after_open after_close after_comma after_digit after_vain : ℕ)
    (d : digits ≡ mask_l (map is_ascii_digit bs)) (m : commas ≡ mask_l (map is_comma bs))
    (o : opens ≡ mask_l (map is_open bs)) (k : closes ≡ mask_l (map is_close_bracket bs))
    (n : zeros ≡ mask_l (map is_zero bs))
    (items_beyond : (marks : List Bool) → length marks ≡ 64 → bit_or opens commas ≡ mask_l marks
    → after_item ≡ mask_l (lag (begins_item p) marks))
    (len : ℕ) (few : len ≤ 63) where
  vain_marks : bit_and zeros after_item ≡ mask_l (vains p bs)
  vain_marks = and_is (map is_zero bs) (lag (begins_item p) (map begins_item bs)) zeros after_item n
      (items_beyond (map begins_item bs) (length-map bs begins_item
      ∙ long) (or_is is_open is_comma bs opens commas o m))

  none_both : (x : ℕ) (a : Bool) (f g : ℕ → Bool) → x ≡ mask_l (both (lag a (map f bs)) (map g bs))
      → x % (1 * 2 ^ len % 2 ^ 64) ≡ 0 → mask_l (both (lag a (map f (take len bs))) (map g (take len bs))) ≡ 0
  none_both x a f g is none = ap mask_l (both_front a f g len bs)
      ∙ none_in_front x (both (lag a (map f bs)) (map g bs)) len few is none

  places_are : bit_or digits (bit_or commas (bit_or opens closes)) ≡ mask_l (map is_place bs)
  places_are = or_is is_ascii_digit (λ c. is_comma c || (is_open c || is_close_bracket c)) bs digits
      (bit_or commas (bit_or opens closes)) d
      (or_is is_comma (λ c. is_open c || is_close_bracket c) bs commas (bit_or opens closes) m
      (or_is is_open is_close_bracket bs opens closes o k))

  pub front_fine : bit_or digits (bit_or commas (bit_or opens closes)) % (1 * 2 ^ len % 2 ^ 64) ≡ 1 * 2 ^ len % 2 ^ 64
      - 1
      → ((marks : List Bool) → length marks ≡ 64 → opens ≡ mask_l marks → after_open ≡ mask_l (lag (is_open p) marks))
      → bit_and after_open commas % (1 * 2 ^ len % 2 ^ 64) ≡ 0
      → ((marks : List Bool) → length marks ≡ 64 → closes ≡ mask_l marks
      → after_close ≡ mask_l (lag (is_close_bracket p) marks))
      → bit_and after_close (bit_or digits opens) % (1 * 2 ^ len % 2 ^ 64) ≡ 0
      → ((marks : List Bool) → length marks ≡ 64 → commas ≡ mask_l marks
      → after_comma ≡ mask_l (lag (is_comma p) marks))
      → bit_and after_comma (bit_or commas closes) % (1 * 2 ^ len % 2 ^ 64) ≡ 0
      → ((marks : List Bool) → length marks ≡ 64 → digits ≡ mask_l marks
      → after_digit ≡ mask_l (lag (is_ascii_digit p) marks))
      → bit_and after_digit opens % (1 * 2 ^ len % 2 ^ 64) ≡ 0
      → ((marks : List Bool) → length marks ≡ 64 → bit_and zeros after_item ≡ mask_l marks
      → after_vain ≡ mask_l (lag z marks)) → bit_and after_vain digits % (1 * 2 ^ len % 2 ^ 64) ≡ 0
      → AreFine p z (take len bs)
  front_fine all after_o e1 after_k e2 after_m e3 after_d e4 after_v e5 =
      fine_from_masks p z (take len bs)
      (ap mask_l (sym (take-map is_place len bs)) ∙ sym (mask_l-take len (map is_place bs))
      ∙ ap (λ x. x % 2 ^ len) (sym places_are)
      ∙ ap (λ x. bit_or digits (bit_or commas (bit_or opens closes)) % x) (sym (front_power len few)) ∙ all
      ∙ ap (λ x. x - 1) (front_power len few) ∙ ap (λ x. 2 ^ x - 1) (sym front_long))
      (none_both _ (is_open p) is_open is_comma
      (and_is (lag (is_open p) (map is_open bs)) (map is_comma bs) after_open commas
      (after_o (map is_open bs) (length-map bs is_open ∙ long) o) m) e1)
      (none_both _ (is_close_bracket p) is_close_bracket (λ c. is_ascii_digit c || is_open c)
      (and_is (lag (is_close_bracket p) (map is_close_bracket bs)) (map (λ c. is_ascii_digit c || is_open c) bs) after_close
      (bit_or digits opens) (after_k (map is_close_bracket bs) (length-map bs is_close_bracket ∙ long) k)
      (or_is is_ascii_digit is_open bs digits opens d o)) e2)
      (none_both _ (is_comma p) is_comma (λ c. is_comma c || is_close_bracket c)
      (and_is (lag (is_comma p) (map is_comma bs)) (map (λ c. is_comma c || is_close_bracket c) bs) after_comma
      (bit_or commas closes) (after_m (map is_comma bs) (length-map bs is_comma ∙ long) m)
      (or_is is_comma is_close_bracket bs commas closes m k)) e3)
      (none_both _ (is_ascii_digit p) is_ascii_digit is_open
      (and_is (lag (is_ascii_digit p) (map is_ascii_digit bs)) (map is_open bs) after_digit opens
      (after_d (map is_ascii_digit bs) (length-map bs is_ascii_digit ∙ long) d) o) e4)
      (ap mask_l (vain_front p z len bs)
      ∙ none_in_front _ (both (lag z (vains p bs)) (map is_ascii_digit bs)) len few
      (and_is (lag z (vains p bs)) (map is_ascii_digit bs) after_vain digits
      (after_v (vains p bs) (length-vains p bs ∙ long) vain_marks) d) e5)
    where
      front_long : length (take len bs) ≡ len
      front_long = omega (arith, length-take len bs, long, few)

-- how many brackets stand in front
pub opens_in_front : (bs : List ℕ) (k opens : ℕ) → k ≤ 63 → opens ≡ mask_l (map is_open bs)
    → ones (opens % (1 * 2 ^ k % 2 ^ 64)) ≡ ups (take k bs)
opens_in_front bs k opens few is = ap (λ m. ones (opens % m)) (front_power k few) ∙ ap (λ x. ones (x % 2 ^ k)) is
    ∙ ap ones (mask_l-take k (map is_open bs) ∙ ap mask_l (take-map is_open k bs)) ∙ ones-mask_l is_open (take k bs)
    ∙ count-ups (take k bs)

pub closes_in_front : (bs : List ℕ) (k closes : ℕ) → k ≤ 63 → closes ≡ mask_l (map is_close_bracket bs)
    → ones (closes % (1 * 2 ^ k % 2 ^ 64)) ≡ downs (take k bs)
closes_in_front bs k closes few is = ap (λ m. ones (closes % m)) (front_power k few) ∙ ap (λ x. ones (x % 2 ^ k)) is
    ∙ ap ones (mask_l-take k (map is_close_bracket bs) ∙ ap mask_l (take-map is_close_bracket k bs)) ∙ ones-mask_l is_close_bracket (take k bs)
    ∙ count-downs (take k bs)

pub marks_in_front : (f : ℕ → Bool) (bs : List ℕ) (k mask : ℕ) → k ≤ 63 → mask ≡ mask_l (map f bs)
    → mask % (1 * 2 ^ k % 2 ^ 64) ≡ mask_l (map f (take k bs))
marks_in_front f bs k mask few is = ap (λ m. mask % m) (front_power k few) ∙ ap (λ x. x % 2 ^ k) is
    ∙ mask_l-take k (map f bs) ∙ ap mask_l (take-map f k bs)

-- a front of a block whose last byte closes all arrays
pub front_closes : (bs : List ℕ) (d r len p opens : ℕ) (z : Bool) → length bs ≡ 64 → 0 < len → len ≤ 63
    → is_place p ≡ true → AreFine p z (take len bs) → StaysOpen d (take (len - 1) bs)
    → d + ups (take (len - 1 + 1) bs) ≡ downs (take (len - 1 + 1) bs) → opens ≡ mask_l (map is_open bs)
    → ones (opens % (1 * 2 ^ len % 2 ^ 64)) ≤ r → Closes d r (stage_of p z) (take len bs)
front_closes bs d r len p opens z long some few place fine deep ends is fits =
    let all : len - 1 + 1 ≡ len = omega (arith, some) in
    closes_all (take len bs) d r (len - 1) p z (omega (arith, length-take len bs, long, few, some)) place fine
    (subst (λ l. StaysOpen d l) (sym (take-take (len - 1) len bs (omega arith))) deep)
    (subst (λ k. d + ups (take k bs) ≡ downs (take k bs)) all ends)
    (omega (arith, fits, opens_in_front bs len opens few is))

pub front_of_chunk : (text : List ℕ) (at len : ℕ) → at + 64 ≤ length text → len ≤ 63
    → take len (chunk at 64 text) ≡ slice_range text at (at + len)
front_of_chunk text at len within few =
    let count : (at + 64) - at ≡ 64 = omega arith in
    let less : (at + len) - at ≡ len = omega arith in
    ap (take len) (sym (chunk_is text at within)) ∙ ap (λ n. take len (take n (drop at text))) count
    ∙ take-take len 64 (drop at text) (omega (arith, few)) ∙ ap (λ n. take n (drop at text)) (sym less)
