-- Where numbers end in arrays of whole numbers: by bits, and by what stands there.
use Rattle.std.proofs.Common.{◌≡◌, ◌≢◌, ◌∙◌, ◌++◌, ◌+◌, ◌-◌, ◌*◌, ◌/◌, ◌%◌, ◌^◌, ◌<◌, ◌≤◌, ◌||◌, ℕ, suc, Bool, true, false, not, cond, ltb, eqb, List, [], ◌∷◌, length, length-drop, map, take, drop, replicate, refl, ap, sym, subst, arith, slice_range}
use Rattle.std.proofs.lemmas.Bool.{cond-false, ne_eqb}
use Rattle.std.proofs.lemmas.List.{drop-drop, drop-take, length-map, length-take-le, take-append-drop}
use Rattle.std.proofs.lemmas.List.Folds.{prefix_len-append}
use Rattle.std.proofs.lemmas.Simd.{map-map, mask_l-mod, trailing_mask_l, zip2-map, zip2_splat, zip2_splat_left}
use Rattle.std.proofs.Math.Seq.{drop-append-add, take-append_seam}
use lib.Bits.{bit_or}
use lib.Count.{count_trailing_zeros}
use lib.Lanes.{mask_l, top, zip2}
use Rattle.std.specs.List.{AllByRecursion}
use Rattle.city_json.proofs.WholeArrays.{marks_after}
use Rattle.city_grid.specs.NumberEnds.{AreTripleEnds, ends_number, number_len}

-- ---- the bits of up to 64 bytes
abbrev where_same : ℕ → ℕ → ℕ
where_same a b = cond (eqb a b) 255 0

abbrev where_below : ℕ → ℕ → ℕ
where_below a b = cond (ltb a b) 255 0

abbrev lane : ℕ → ℕ
lane b = bit_or (where_same b 44) (where_below 57 b)

any_of : (comma high : Bool) → top 7 (bit_or (cond comma 255 0) (cond high 255 0)) ≡ comma || high
any_of true true = refl
any_of true false = refl
any_of false true = refl
any_of false false = refl

top-lane : (b : ℕ) → top 7 (lane b) ≡ ends_number b
top-lane b = any_of (eqb b 44) (ltb 57 b)

pub stop_mask : (n : ℕ) (bytes : List ℕ) → n ≤ 64 → length bytes ≡ n
    → mask_l (map (top 7) (zip2 bit_or (zip2 where_same bytes (replicate n 44))
    (zip2 where_below (replicate n 57) bytes))) % 2 ^ 64 ≡ mask_l (map ends_number bytes)
stop_mask n bytes few long =
    ap (λ x. mask_l (map (top 7) (zip2 bit_or x (zip2 where_below (replicate n 57) bytes))) % 2 ^ 64)
    (zip2_splat where_same bytes n 44 long)
    ∙ ap (λ x. mask_l (map (top 7) (zip2 bit_or (map (λ b. where_same b 44) bytes) x)) % 2 ^ 64)
    (zip2_splat_left where_below 57 n bytes long)
    ∙ ap (λ x. mask_l (map (top 7) x) % 2 ^ 64) (zip2-map bit_or (λ b. where_same b 44) (λ b. where_below 57 b) bytes)
    ∙ ap (λ x. mask_l x % 2 ^ 64) (map-map (top 7) lane bytes
    ∙ ap (λ (f : ℕ → Bool). map f bytes) (λ i b. top-lane b i))
    ∙ mask_l-mod (map ends_number bytes) 64 (omega (arith, few, long, length-map bytes ends_number))

-- ---- the first bit
stopped : (bytes : List ℕ) → 0 < mask_l (map ends_number bytes) → number_len bytes < length bytes
stopped [] some = absurd (omega arith)
stopped (b ∷ bytes) some = by (ends_number b) some (stopped bytes)
  where
    by : (t : Bool) → 0 < cond t 1 0 + 2 * mask_l (map ends_number bytes)
        → (0 < mask_l (map ends_number bytes) → number_len bytes < length bytes)
        → cond (not t) (1 + number_len bytes) 0 < suc (length bytes)
    by true some rest = omega arith
    by false some rest = let less = rest (omega arith) in omega arith

pub run_found : (stops : ℕ) (bytes : List ℕ) → stops ≢ 0 → length bytes ≤ 64 → stops ≡ mask_l (map ends_number bytes)
    → (count_trailing_zeros 64 stops ≡ number_len bytes) × (count_trailing_zeros 64 stops < length bytes)
    × (stops / 2 ^ count_trailing_zeros 64 stops / 2
    ≡ mask_l (map ends_number (drop (count_trailing_zeros 64 stops + 1) bytes)))
run_found stops bytes some short is =
    let more : 0 < mask_l (map ends_number bytes) = omega (arith, is, some) in
    let len : count_trailing_zeros 64 stops ≡ number_len bytes =
    ap (count_trailing_zeros 64) is ∙ trailing_mask_l ends_number 64 bytes short more in
    (len, omega (arith, len, stopped bytes more), marks_after ends_number (count_trailing_zeros 64 stops) bytes stops is)

-- ---- windows of a text
pub record IsWindow (text window : List ℕ) (at count : ℕ) : Type 0 where
  pub is : window ≡ take count (drop at text)
  pub within : at + count ≤ length text

module _ (text window : List ℕ) (at count : ℕ) (w : IsWindow text window at count) where
  pub window_long : length window ≡ count
  window_long = ap length w.is ∙ length-take-le count (drop at text) (omega (arith, length-drop at text, w.within))

  pub run_in_window : number_len window < length window → number_len window ≡ number_len (drop at text)
  run_in_window less =
      let front = take count (drop at text) in
      let short : number_len front ≢ length front =
      λ (e : number_len front ≡ length front). omega (arith, less, ap length w.is, ap number_len w.is, e) in
      ap number_len w.is
      ∙ sym (ap number_len (sym (take-append-drop count (drop at text)))
      ∙ prefix_len-append _ front (drop count (drop at text)) ∙ cond-false _ _ _ (ne_eqb _ _ short))

  pub later_window : (n : ℕ) → n ≤ count → IsWindow text (drop n window) (at + n) (count - n)
  later_window n few =
      let parts : count ≡ n + (count - n) = omega arith in
      record {
        is = ap (drop n) (w.is ∙ ap (λ k. take k (drop at text)) parts) ∙ drop-take n (count - n) (drop at text)
            ∙ ap (take (count - n)) (drop-drop n at text);
        within = omega (arith, w.within);
      }

-- ---- a number and the byte that ends it
abbrev pub IsRun : List ℕ → Type 0
IsRun = AllByRecursion (λ c. ends_number c ≡ false)

run_len : (run rest : List ℕ) (c : ℕ) → IsRun run → ends_number c ≡ true → number_len (run ++ c ∷ rest) ≡ length run
run_len [] rest c all stops = ap (λ t. cond (not t) (1 + number_len rest) 0) stops
run_len (b ∷ run) rest c all stops =
    let more = run_len run rest c all.1 stops in
    ap (λ t. cond (not t) (1 + number_len (run ++ c ∷ rest)) 0) all.0 ∙ omega (arith, more)

-- what stands up to the end of a number, and after the byte that ends it
pub record IsCut (text run rest : List ℕ) (at end : ℕ) : Type 0 where
  pub here : slice_range text at end ≡ run
  pub after : drop (end + 1) text ≡ rest
  pub long : end ≡ at + length run

pub cut_here : (text run rest : List ℕ) (at end c : ℕ) → drop at text ≡ run ++ c ∷ rest → IsRun run
    → ends_number c ≡ true → end ≡ at + number_len (drop at text) → IsCut text run rest at end
cut_here text run rest at end c is all stops ends =
    let len : number_len (drop at text) ≡ length run = ap number_len is ∙ run_len run rest c all stops in
    let long : end ≡ at + length run = ends ∙ ap (λ n. at + n) len in
    let count : end - at ≡ length run = omega (arith, long) in
    let next : end + 1 ≡ at + (length run + 1) = omega (arith, long) in
    record {
      here = ap (λ n. take n (drop at text)) count ∙ ap (take (length run)) is ∙ take-append_seam run (c ∷ rest);
      after = ap (λ n. drop n text) next ∙ sym (drop-drop (length run + 1) at text)
          ∙ ap (drop (length run + 1)) is ∙ drop-append-add run (c ∷ rest) 1;
      long = long;
    }

-- ---- three numbers in a window
abbrev pub Finds : ℕ → ℕ → ℕ → Type 0
Finds stops len after = (bytes : List ℕ) → length bytes ≤ 64 → stops ≡ mask_l (map ends_number bytes)
    → (len ≡ number_len bytes) × (len < length bytes) × (after ≡ mask_l (map ends_number (drop (len + 1) bytes)))

pub record AreNear (text : List ℕ) (at count x y z : ℕ) : Type 0 where
  pub ends : AreTripleEnds text at (at + 1 + x) (at + 1 + x + 1 + y) (at + 1 + x + 1 + y + 1 + z)
  pub few : at + 1 + x + 1 + y + 1 + z < at + count

-- a run in a window, and the window after it
record IsNear (text window : List ℕ) (at count len after : ℕ) : Type 0 where
  is : len ≡ number_len (drop at text)
  few : len < count
  onward : IsWindow text (drop (len + 1) window) (at + len + 1) (count - (len + 1))
  bits : after ≡ mask_l (map ends_number (drop (len + 1) window))

near_run : (text window : List ℕ) (at count stops len after : ℕ) → IsWindow text window at count → count ≤ 64
    → stops ≡ mask_l (map ends_number window) → Finds stops len after → IsNear text window at count len after
near_run text window at count stops len after w short bits finds =
    let long = window_long text window at count w in
    let found = finds window (omega (arith, long)) bits in
    let place : at + (len + 1) ≡ at + len + 1 = omega arith in
    record {
      is = found.0 ∙ run_in_window text window at count w (omega (arith, found.0, found.1));
      few = omega (arith, found.1, long);
      onward = subst (λ k. IsWindow text (drop (len + 1) window) k (count - (len + 1))) place
          (later_window text window at count w (len + 1) (omega (arith, found.1, long)));
      bits = found.2;
    }

pub near : (text : List ℕ) (at count stops x y z after_x after_y after_z : ℕ) → count ≤ 64 → at + count ≤ length text
    → stops ≡ mask_l (map ends_number (take count (drop at text))) → Finds (stops / 2) x after_x → Finds after_x y after_y
    → Finds after_y z after_z → AreNear text at count x y z
near text at count stops x y z after_x after_y after_z short within bits finds_x finds_y finds_z =
    let window = take count (drop at text) in
    let w : IsWindow text window at count = record { is = refl; within = within } in
    let shifted : stops / 2 ≡ mask_l (map ends_number (drop 1 window)) =
    omega arith ∙ marks_after ends_number 0 window stops bits in
    let long = window_long text window at count w in
    let found = finds_x (drop 1 window) (omega (arith, long, length-drop 1 window)) shifted in
    let some : 1 ≤ count = omega (arith, long, length-drop 1 window, found.1) in
    let one = near_run text (drop 1 window) (at + 1) (count - 1) (stops / 2) x after_x
    (later_window text window at count w 1 some) (omega arith) shifted finds_x in
    let two = near_run text _ (at + 1 + x + 1) (count - 1 - (x + 1)) after_x y after_y one.onward (omega arith) one.bits finds_y in
    let three = near_run text _ (at + 1 + x + 1 + y + 1) (count - 1 - (x + 1) - (y + 1)) after_y z after_z two.onward
    (omega arith) two.bits finds_z in
    record {
      ends = (ap (λ n. at + 1 + n) one.is, ap (λ n. at + 1 + x + 1 + n) two.is, ap (λ n. at + 1 + x + 1 + y + 1 + n) three.is);
      few = omega (arith, one.few, two.few, three.few);
    }
