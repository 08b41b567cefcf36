-- Runs of bytes that stand for themselves, sixteen bytes at a time.
use Rattle.std.proofs.Common.{◌≡◌, ℕ, ◌%◌, ◌^◌, Bool, true, false, not, cond, ltb, leb, eqb, ◌&&◌, ◌||◌, List, map, length, replicate, refl, ap, ◌∙◌, arith}
use Rattle.std.proofs.lemmas.Bool.Decides.{nat_tests}
use Rattle.std.proofs.lemmas.List.{length-map}
use Rattle.std.proofs.lemmas.Simd.{zip2_splat, zip2-map, map-map, mask_l-mod}
use lib.Bits.{bit_or}
use lib.Lanes.{mask_l, top, zip2}
use Rattle.city_json.specs.ReadString.{is_plain}

abbrev pub is_stop : ℕ → Bool
is_stop b = not (is_plain b)

abbrev where_below : ℕ → ℕ → ℕ
where_below a b = cond (ltb a b) 255 0

abbrev where_same : ℕ → ℕ → ℕ
where_same a b = cond (eqb a b) 255 0

abbrev lane : ℕ → ℕ
lane b = bit_or (bit_or (where_below b 32) (where_same b 34)) (where_same b 92)

any_of : (low quote slash : Bool)
    → top 7 (bit_or (bit_or (cond low 255 0) (cond quote 255 0)) (cond slash 255 0))
    ≡ not (not low && not (quote || slash))
any_of true true true = refl
any_of true true false = refl
any_of true false true = refl
any_of true false false = refl
any_of false true true = refl
any_of false true false = refl
any_of false false true = refl
any_of false false false = refl

not_below : (b : ℕ) → not (ltb b 32) ≡ leb 32 b
not_below b = grind (arith, nat_tests)

top-lane : (b : ℕ) → top 7 (lane b) ≡ is_stop b
top-lane b = any_of (ltb b 32) (eqb b 34) (eqb b 92) ∙ ap (λ low. not (low && not (eqb b 34 || eqb b 92))) (not_below b)

-- the mask of a vector
pub stop_mask : (bytes : List ℕ) → length bytes ≡ 16
    → mask_l (map (top 7) (zip2 bit_or
    (zip2 bit_or (zip2 where_below bytes (replicate 16 32)) (zip2 where_same bytes (replicate 16 34)))
    (zip2 where_same bytes (replicate 16 92)))) % 2 ^ 64 ≡ mask_l (map is_stop bytes)
stop_mask bytes long =
    ap (λ x. mask_l (map (top 7) (zip2 bit_or (zip2 bit_or x (zip2 where_same bytes (replicate 16 34)))
    (zip2 where_same bytes (replicate 16 92)))) % 2 ^ 64) (zip2_splat where_below bytes 16 32 long)
    ∙ ap (λ x. mask_l (map (top 7)
    (zip2 bit_or (zip2 bit_or (map (λ b. where_below b 32) bytes) x) (zip2 where_same bytes (replicate 16 92)))) % 2
    ^ 64) (zip2_splat where_same bytes 16 34 long)
    ∙ ap (λ x. mask_l (map (top 7)
    (zip2 bit_or (zip2 bit_or (map (λ b. where_below b 32) bytes) (map (λ b. where_same b 34) bytes)) x)) % 2 ^ 64)
    (zip2_splat where_same bytes 16 92 long)
    ∙ ap (λ x. mask_l (map (top 7) (zip2 bit_or x (map (λ b. where_same b 92) bytes))) % 2 ^ 64)
    (zip2-map bit_or (λ b. where_below b 32) (λ b. where_same b 34) bytes)
    ∙ ap (λ x. mask_l (map (top 7) x) % 2 ^ 64)
    (zip2-map bit_or (λ b. bit_or (where_below b 32) (where_same b 34)) (λ b. where_same b 92) bytes)
    ∙ ap (λ x. mask_l x % 2 ^ 64) (map-map (top 7) lane bytes
    ∙ ap (λ (f : ℕ → Bool). map f bytes) (λ i b. top-lane b i))
    ∙ mask_l-mod (map is_stop bytes) 64 (omega (arith, length-map bytes is_stop))

pub twice : (b : Bool) → not (not b) ≡ b
twice true = refl
twice false = refl
