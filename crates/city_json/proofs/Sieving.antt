-- What a sieve tells of the numbers that went through it.
use Rattle.std.proofs.Common.{◌≡◌, ◌≢◌, ◌∙◌, ◌<◌, ◌≤◌, ◌+◌, ◌*◌, ◌/◌, ◌%◌, ◌^◌, ◌||◌, inl, inr, ℕ, false, List, [], ◌∷◌, ◌++◌, length, take, map, get_or, max, refl, ap, sym, subst, arith, Ordering, Less, Equal, Greater}
use Rattle.std.proofs.Math.ListN.{set}
use Rattle.std.proofs.lemmas.Bool.{cases_eq}
use Rattle.std.proofs.lemmas.Cmp.{eq_by_cmp_equiv, nat_cmp_total, ranked}
use Rattle.std.proofs.lemmas.List.{length-set, get_or-set_same, get_or-set_other, map-append, take_all, take_more}
use Rattle.std.proofs.lemmas.Map.Keys.{IsDistinct-push}
use Rattle.std.proofs.lemmas.Nat.Bits.{bit_at_or, bit_at_set_same, bit_at-lt}
use Rattle.std.specs.Int.{bit_at, w64}
use Rattle.std.proofs.lemmas.Simd.{map-map}
use Rattle.std.specs.List.{AllByRecursion, IsDistinct, list_any}
use Rattle.std.specs.Ordering.{is_eq, nat_cmp}
use Rattle.std.specs.Prelude.{bit_or}
use Rattle.city_json.specs.Fits.{HasDistinctNames}
use Rattle.city_json.specs.Members.{names}
use Rattle.city_json.specs.Sieve.{bit_of, IsMarked}
use Rattle.city_json.specs.Tree.{MemberTrees}
use Rattle.city_json.proofs.NamesApart.{apart_by_prints, same_number}

-- the word of a place with the bit of the place set
abbrev word_at : List ℕ → ℕ → ℕ
word_at words place = bit_or (get_or words (place / 64 % length words) 0) (1 * 2 ^ (place % 64) % 2 ^ 64)

abbrev with_bit : List ℕ → ℕ → List ℕ
with_bit words place =
    set words (place / 64 % length words) (word_at words place)

-- the word of a place is looked for in as many words
found_in : (words : List ℕ) (place at word : ℕ)
    → get_or (set words at word) (place / 64 % length (set words at word)) 0
    ≡ get_or (set words at word) (place / 64 % length words) 0
found_in words place at word = ap (λ n. get_or (set words at word) (place / 64 % n) 0) (length-set words at word)

pub bit_is_set : (words : List ℕ) (place : ℕ) → 0 < length words → bit_of (with_bit words place) place ≡ 1
unfolding bit_of
bit_is_set words place some =
    let at = place / 64 % length words in
    let word = word_at words place in
    let inside : at < length words = omega arith in
    let short : place % 64 < 64 = omega arith in
    ap (λ w. bit_at w (place % 64)) (found_in words place at word ∙ get_or-set_same words at word 0 inside)
    ∙ bit_at_set_same w64 (get_or words at 0) (place % 64) short

-- a bit that is set stays so where others are set, too
stays_set : (word mask k : ℕ) → bit_at word k ≡ 1 → bit_at (bit_or word mask) k ≡ 1
stays_set word mask k was =
    let either : bit_at (bit_or word mask) k ≡ max (bit_at word k) (bit_at mask k) = bit_at_or word mask k in
    let few : bit_at mask k < 2 = bit_at-lt mask k in
    either ∙ omega (arith, was, few)

pub bits_are_kept : (words : List ℕ) (place other : ℕ) → 0 < length words → bit_of words other ≡ 1
    → bit_of (with_bit words place) other ≡ 1
unfolding bit_of
bits_are_kept words place other some was =
    let at = place / 64 % length words in
    let there = other / 64 % length words in
    let word = word_at words place in
    let inside : at < length words = omega arith in
    elim (cases_eq there at) [
      | inl same ↦ ap (λ w. bit_at w (other % 64)) (found_in words other at word
          ∙ (ap (λ k. get_or (set words at word) k 0) same ∙ get_or-set_same words at word 0 inside))
          ∙ stays_set (get_or words at 0) (1 * 2 ^ (place % 64) % 2 ^ 64) (other % 64)
          (subst (λ k. bit_at (get_or words k 0) (other % 64) ≡ 1) same was)
      | inr apart ↦ ap (λ w. bit_at w (other % 64)) (found_in words other at word
          ∙ get_or-set_other words at there word 0 apart) ∙ was
    ]

-- ---- numbers that went through
other_number : (x y : ℕ) → x ≢ y → same_number x y ≡ false
other_number x y apart = by (nat_cmp x y) refl
  where
    by : (o : Ordering) → o ≡ nat_cmp x y → is_eq o ≡ false
    by Less e = refl
    by Equal e = absurd (apart (ranked x y Equal e))
    by Greater e = refl

none_equal : (first second seen : List ℕ) (number : ℕ) → AllByRecursion (IsMarked first second) seen
    → ((s : ℕ) → IsMarked first second s → s ≢ number) → list_any (same_number number) seen ≡ false
none_equal first second [] number marked new = refl
none_equal first second (s ∷ others) number marked new =
    ap (λ b. b || list_any (same_number number) others)
    (other_number number s (λ same. new s marked.0 (sym same)))
    ∙ none_equal first second others number marked.1 new

all_marked : (first second first₂ second₂ seen : List ℕ) (number : ℕ) → AllByRecursion (IsMarked first second) seen
    → ((s : ℕ) → IsMarked first second s → IsMarked first₂ second₂ s) → IsMarked first₂ second₂ number
    → AllByRecursion (IsMarked first₂ second₂) (seen ++ number ∷ [])
all_marked first second first₂ second₂ [] number marked kept now = (now, tt)
all_marked first second first₂ second₂ (s ∷ others) number marked kept now =
    (kept s marked.0, all_marked first second first₂ second₂ others number marked.1 kept now)

-- the numbers are pairwise different, and marked in both sets
pub record AreTold (first second numbers : List ℕ) : Type 0 where
  pub apart : IsDistinct same_number numbers
  pub marked : AllByRecursion (IsMarked first second) numbers

pub none_told : (first second : List ℕ) → AreTold first second []
unfolding IsDistinct
none_told first second = record { apart = tt; marked = tt }

pub one_more : (first second first₂ second₂ numbers : List ℕ) (number : ℕ) → AreTold first second numbers
    → ((seen : ℕ) → IsMarked first second seen → seen ≢ number) → IsMarked first₂ second₂ number
    → ((seen : ℕ) → IsMarked first second seen → IsMarked first₂ second₂ seen)
    → AreTold first₂ second₂ (numbers ++ number ∷ [])
one_more first second first₂ second₂ numbers number told new now kept = record {
  apart = IsDistinct-push (eq_by_cmp_equiv nat_cmp_total) numbers number told.apart
      (none_equal first second numbers number told.marked new);
  marked = all_marked first second first₂ second₂ numbers number told.marked kept now;
}

-- the same of what is taken of a list
pub one_more_at : {A : Type 0} (print : A → ℕ) (first second first₂ second₂ : List ℕ) (listed : List A) (i : ℕ) (d : A)
    (number : ℕ) → i < length listed → number ≡ print (get_or listed i d)
    → AreTold first second (map print (take i listed))
    → ((seen : ℕ) → IsMarked first second seen → seen ≢ number) → IsMarked first₂ second₂ number
    → ((seen : ℕ) → IsMarked first second seen → IsMarked first₂ second₂ seen)
    → AreTold first₂ second₂ (map print (take (i + 1) listed))
one_more_at print first second first₂ second₂ listed i d number inside is told new now kept =
    let all : map print (take i listed) ++ number ∷ [] ≡ map print (take (i + 1) listed) =
    ap (λ n. map print (take i listed) ++ n ∷ []) is
    ∙ sym (ap (map print) (take_more listed i d inside) ∙ map-append print (take i listed) (get_or listed i d ∷ [])) in
    subst (AreTold first₂ second₂) all
    (one_more first second first₂ second₂ (map print (take i listed)) number told new now kept)

pub apart_when_told : {A : Type 0} (bytes : A → List ℕ) (print : List ℕ → ℕ) (first second : List ℕ) (listed : List A)
    (i : ℕ) (members : MemberTrees) → length listed ≤ i
    → AreTold first second (map (λ name. print (bytes name)) (take i listed)) → names members ≡ map bytes listed
    → HasDistinctNames members
apart_when_told bytes print first second listed i members all told is =
    let prints : map (λ name. print (bytes name)) (take i listed) ≡ map print (names members) =
    ap (map (λ name. print (bytes name))) (take_all i listed all)
    ∙ sym (ap (map print) is ∙ map-map print bytes listed) in
    apart_by_prints members print (subst (IsDistinct same_number) prints told.apart)
