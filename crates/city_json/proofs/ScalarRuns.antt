-- Runs of bytes that end no item and no member, sixteen bytes at a time.
use Rattle.std.proofs.Common.{◌≡◌, ℕ, suc, ◌+◌, ◌%◌, ◌^◌, Bool, true, false, not, cond, eqb, ◌||◌, ◌⊎◌, List, [], ◌∷◌, map, length, drop, ◌++◌, replicate, refl, sym, ap, ◌∙◌, arith}
use Rattle.std.specs.List.{prefix_len}
use Rattle.std.proofs.lemmas.Bool.{cond-true, cond-false}
use Rattle.std.proofs.lemmas.List.{length-map}
use Rattle.std.proofs.lemmas.Simd.{zip2_splat, zip2-map, map-map, mask_l-mod}
use lib.Bits.{bit_or}
use lib.Lanes.{mask_l, top, zip2}
use Rattle.city_json.specs.CompactEnds.{IsStopped, goes_on, is_stop}
use Rattle.std.specs.List.{AllByRecursion}
use Rattle.std.proofs.lemmas.List.{drop-drop}
use Rattle.std.proofs.lemmas.Bool.Decides.{nat_tests}

abbrev where_same : ℕ → ℕ → ℕ
where_same a b = cond (eqb a b) 255 0

abbrev lane : ℕ → ℕ
lane b = bit_or (bit_or (where_same b 44) (where_same b 93)) (where_same b 125)

any_of : (comma bracket brace : Bool)
    → top 7 (bit_or (bit_or (cond comma 255 0) (cond bracket 255 0)) (cond brace 255 0))
    ≡ comma || (bracket || brace)
any_of true true true = refl
any_of true true false = refl
any_of true false true = refl
any_of true false false = refl
any_of false true true = refl
any_of false true false = refl
any_of false false true = refl
any_of false false false = refl

top-lane : (b : ℕ) → top 7 (lane b) ≡ is_stop b
top-lane b = any_of (eqb b 44) (eqb b 93) (eqb b 125)

-- the mask of a vector
pub run_mask : (bytes : List ℕ) → length bytes ≡ 16
    → mask_l (map (top 7) (zip2 bit_or
    (zip2 bit_or (zip2 where_same bytes (replicate 16 44)) (zip2 where_same bytes (replicate 16 93)))
    (zip2 where_same bytes (replicate 16 125)))) % 2 ^ 64 ≡ mask_l (map is_stop bytes)
run_mask bytes long =
    ap (λ x. mask_l (map (top 7) (zip2 bit_or (zip2 bit_or x (zip2 where_same bytes (replicate 16 93)))
    (zip2 where_same bytes (replicate 16 125)))) % 2 ^ 64) (zip2_splat where_same bytes 16 44 long)
    ∙ ap (λ x. mask_l (map (top 7)
    (zip2 bit_or (zip2 bit_or (map (λ b. where_same b 44) bytes) x) (zip2 where_same bytes (replicate 16 125)))) % 2
    ^ 64) (zip2_splat where_same bytes 16 93 long)
    ∙ ap (λ x. mask_l (map (top 7)
    (zip2 bit_or (zip2 bit_or (map (λ b. where_same b 44) bytes) (map (λ b. where_same b 93) bytes)) x)) % 2 ^ 64)
    (zip2_splat where_same bytes 16 125 long)
    ∙ ap (λ x. mask_l (map (top 7) (zip2 bit_or x (map (λ b. where_same b 125) bytes))) % 2 ^ 64)
    (zip2-map bit_or (λ b. where_same b 44) (λ b. where_same b 93) bytes)
    ∙ ap (λ x. mask_l (map (top 7) x) % 2 ^ 64)
    (zip2-map bit_or (λ b. bit_or (where_same b 44) (where_same b 93)) (λ b. where_same b 125) bytes)
    ∙ ap (λ x. mask_l x % 2 ^ 64) (map-map (top 7) lane bytes
    ∙ ap (λ (f : ℕ → Bool). map f bytes) (λ i b. top-lane b i))
    ∙ mask_l-mod (map is_stop bytes) 64 (omega (arith, length-map bytes is_stop))

one_more : (n : ℕ) → 1 + n ≡ suc n
one_more n = omega arith

-- a run that ends where an item or a member does
run_whole : (run rest : List ℕ) → AllByRecursion (λ c. is_stop c ≡ false) run → IsStopped rest
    → prefix_len goes_on (run ++ rest) ≡ length run
run_whole [] [] all stopped = refl
run_whole [] (c ∷ rest) all stopped = cond-false (goes_on c) (1 + prefix_len goes_on rest) 0 (stop_ends c stopped)
  where
    stop_ends : (c : ℕ) → (c ≡ 44) ⊎ ((c ≡ 93) ⊎ (c ≡ 125)) → goes_on c ≡ false
    stop_ends c stopped = grind (arith, nat_tests)
run_whole (c ∷ run) rest all stopped =
    cond-true (goes_on c) (1 + prefix_len goes_on (run ++ rest)) 0 (ap not all.0)
    ∙ (ap (λ n. 1 + n) (run_whole run rest all.1 stopped) ∙ one_more (length run))

dropped : (run rest : List ℕ) → drop (length run) (run ++ rest) ≡ rest
dropped [] rest = refl
dropped (c ∷ run) rest = dropped run rest

pub run_left : (text run rest : List ℕ) (at n : ℕ) → n ≡ prefix_len goes_on (drop at text)
    → AllByRecursion (λ c. is_stop c ≡ false) run → IsStopped rest → drop at text ≡ run ++ rest
    → drop (at + n) text ≡ rest
run_left text run rest at n count all stopped is =
    let long : n ≡ length run = count ∙ (ap (prefix_len goes_on) is ∙ run_whole run rest all stopped) in
    sym (drop-drop n at text) ∙ (ap (λ l. drop n l) is ∙ (ap (λ k. drop k (run ++ rest)) long ∙ dropped run rest))
