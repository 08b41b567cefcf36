-- The depth test as a function on the bytes outside strings.
use Rattle.std.proofs.Common.{inl, inr, ◌≡◌, ◌↔◌, ◌<◌, ◌≤◌, ◌+◌, ◌||◌, ◌++◌, ℕ, Bool, true, false, List, [], ◌∷◌, IsTrue, cond, nat_lt, count_by, if◌then◌else◌, refl, arith, ap, sym, ◌∙◌, ◌-◌, take, drop, length, add-zero, append-nil, length-take}
use Rattle.std.proofs.lemmas.List.{take-append-drop}
use Rattle.std.proofs.lemmas.Bool.{le-ltb, lt-ltb, ltb-true, cases_lt, or_cases, or_left, or_right}
use Rattle.std.proofs.lemmas.List.Sums.{count_by-le-length, sum_by-cons}
use Rattle.city_json.specs.Depth.{IsDeep, Place, outside, inside, escaped, place_after, is_opening, is_closing, unquoted}
use Rattle.byte_streams.specs.Limits.{max_depth}
use Rattle.city_json.specs.BracketRun.{IsBracketRun, place_of}
use Rattle.city_json.proofs.BlockLemmas.{length-unquoted, count_by-unquoted}

-- Whether at some place of `bytes` too many brackets are open, where so many were opened and closed before it.
abbrev pub deep_from : ℕ → ℕ → List ℕ → Bool
deep_from opened closed [] = nat_lt (closed + max_depth) opened
deep_from opened closed (b ∷ bytes) =
    nat_lt (closed + max_depth) opened
    || deep_from (opened + (if is_opening b then 1 else 0)) (closed + (if is_closing b then 1 else 0)) bytes

-- the same as a statement
abbrev pub IsDeepFrom : ℕ → ℕ → List ℕ → Type 0
IsDeepFrom opened closed bytes = (front back : List ℕ) × (bytes ≡ front ++ back)
    × (closed + count_by is_closing front + max_depth < opened + count_by is_opening front)

pub deep_from_over : (opened closed : ℕ) (bytes : List ℕ) → closed + max_depth < opened
    → deep_from opened closed bytes ≡ true
deep_from_over opened closed [] over = lt-ltb (closed + 128) opened over
deep_from_over opened closed (b ∷ bytes) over = or_left _ _ (lt-ltb (closed + 128) opened over)

pub deep_from_end : (opened closed : ℕ) → opened ≤ closed + max_depth → deep_from opened closed [] ≡ false
deep_from_end opened closed few = le-ltb (closed + 128) opened few

pub deep_from_more : (opened closed b : ℕ) (bytes : List ℕ) → opened ≤ closed + max_depth →
    deep_from opened closed (b ∷ bytes) ≡ deep_from (opened + (if is_opening b then 1 else 0))
    (closed + (if is_closing b then 1 else 0)) bytes
deep_from_more opened closed b bytes few = rw (le-ltb (closed + 128) opened few)

-- how a byte adds to the counts
count_more : (p : ℕ → Bool) (b : ℕ) (front : List ℕ)
    → count_by p (b ∷ front) ≡ (if p b then 1 else 0) + count_by p front
count_more p b front = sum_by-cons (λ x. cond (p x) 1 0) b front

pub IsDeepFrom-from_deep_from : (bytes : List ℕ) (opened closed : ℕ) → deep_from opened closed bytes ≡ true
    → IsDeepFrom opened closed bytes
IsDeepFrom-from_deep_from [] opened closed is = ([], [], refl, omega (arith, ltb-true (closed + 128) opened is))
IsDeepFrom-from_deep_from (b ∷ bytes) opened closed is =
    elim (or_cases (nat_lt (closed + max_depth) opened) _ is) [
      | inl over ↦ ([], b ∷ bytes, refl, omega (arith, ltb-true (closed + 128) opened over))
      | inr later ↦
          let found : IsDeepFrom (opened + (if is_opening b then 1 else 0))
          (closed + (if is_closing b then 1 else 0)) bytes =
          IsDeepFrom-from_deep_from bytes (opened + (if is_opening b then 1 else 0))
          (closed + (if is_closing b then 1 else 0)) later in (
            b ∷ found.0,
            found.1,
            ap (λ xs. b ∷ xs) found.2,
            omega (arith, found.3, count_more is_closing b found.0, count_more is_opening b found.0),
          )
    ]

pub deep_from-append : (front back : List ℕ) (opened closed : ℕ) →
    closed + count_by is_closing front + max_depth < opened + count_by is_opening front
    → deep_from opened closed (front ++ back) ≡ true
deep_from-append [] back opened closed over = deep_from_over opened closed back (omega arith)
deep_from-append (b ∷ front) back opened closed over =
    or_right _ _ (deep_from-append front back (opened + (if is_opening b then 1 else 0))
    (closed + (if is_closing b then 1 else 0))
    (omega (arith, over, count_more is_closing b front, count_more is_opening b front)))

pub IsTrue-deep_from : (bytes : List ℕ) → IsTrue (deep_from 0 0 (unquoted outside bytes)) ↔ IsDeep bytes
IsTrue-deep_from bytes = (
  λ is. let (front, back, split, over) = IsDeepFrom-from_deep_from (unquoted outside bytes) 0 0 is in
      (front, back, split, omega arith),
  λ (front, back, split, over). rw split (deep_from-append front back 0 0 (omega arith)),
)

pub IsDeep_from : (result : Bool) (bytes : List ℕ) → result ≡ deep_from 0 0 (unquoted outside bytes) → IsTrue result
    ↔ IsDeep bytes
IsDeep_from result bytes is = rw is (IsTrue-deep_from bytes)

-- a list of bytes after which few enough brackets are open, however they stand
deep_from-few : (run more : List ℕ) (opened closed : ℕ) → opened + count_by is_opening run ≤ closed + max_depth →
    deep_from opened closed (run ++ more) ≡ deep_from (opened + count_by is_opening run)
    (closed + count_by is_closing run) more
deep_from-few [] more opened closed few = rw (add-zero opened, add-zero closed) refl
deep_from-few (b ∷ run) more opened closed few =
    let opening = count_more is_opening b run in
    let closing = count_more is_closing b run in
    let more_opened : opened + (if is_opening b then 1 else 0) + count_by is_opening run ≡ opened
    + count_by is_opening (b ∷ run) = omega (arith, opening) in
    let more_closed : closed + (if is_closing b then 1 else 0) + count_by is_closing run ≡ closed
    + count_by is_closing (b ∷ run) = omega (arith, closing) in
    deep_from_more opened closed b (run ++ more) (omega arith)
    ∙ (deep_from-few run more (opened + (if is_opening b then 1 else 0)) (closed + (if is_closing b then 1 else 0))
    (omega (arith, opening))
    ∙ rw (more_opened, more_closed) refl)

-- the same of one byte at most, after which there may be too many
deep_from-short : (shown more : List ℕ) (opened closed : ℕ) → length shown ≤ 1 → opened ≤ closed + max_depth →
    deep_from opened closed (shown ++ more) ≡ deep_from (opened + count_by is_opening shown)
    (closed + count_by is_closing shown) more
deep_from-short [] more opened closed short few = rw (add-zero opened, add-zero closed) refl
deep_from-short (b ∷ (c ∷ shown)) more opened closed short few = absurd (omega arith)
deep_from-short (b ∷ []) more opened closed short few =
    deep_from_more opened closed b more few
    ∙ rw (
      count_more is_opening b [],
      count_more is_closing b [],
      add-zero (if is_opening b then 1 else 0),
      add-zero (if is_closing b then 1 else 0),
    ) refl

-- the step of the loop
pub deep_from-run : (bytes : List ℕ) (n opened closed opening closing : ℕ) (in_string ends_in_string : Bool)
    → IsBracketRun in_string (take n bytes) (drop n bytes) opening closing ends_in_string
    → opened ≤ closed + max_depth → (closed + max_depth - opened < opening → n ≡ 1)
    → deep_from (opened + opening) (closed + closing) (unquoted (place_of ends_in_string) (drop n bytes))
    ≡ deep_from opened closed (unquoted (place_of in_string) bytes)
deep_from-run bytes n opened closed opening closing in_string ends_in_string run few short =
    let shown : List ℕ = unquoted (place_of in_string) (take n bytes) in
    let more : List ℕ = unquoted (place_of ends_in_string) (drop n bytes) in
    let split : unquoted (place_of in_string) bytes ≡ shown ++ more =
    ap (unquoted (place_of in_string)) (sym (take-append-drop n bytes)) ∙ run.goes_on in
    let step : deep_from opened closed (shown ++ more) ≡ deep_from (opened + count_by is_opening shown)
    (closed + count_by is_closing shown) more =
    elim (cases_lt (closed + max_depth - opened) opening) [
      | inl over ↦ deep_from-short shown more opened closed
          (omega (arith, short over, length-unquoted (take n bytes) (place_of in_string), length-take n bytes)) few
      | inr room ↦ deep_from-few shown more opened closed (omega (arith, run.opened_is))
    ] in
    rw (run.opened_is, run.closed_is) (sym (ap (deep_from opened closed) split ∙ step))

pub IsBracketRun-few : (bytes back : List ℕ) (n opened closed : ℕ) (in_string ends_in_string : Bool)
    → IsBracketRun in_string (take n bytes) back opened closed ends_in_string → (opened ≤ n) × (closed ≤ n)
IsBracketRun-few bytes back n opened closed in_string ends_in_string run = (
  omega (arith, run.opened_is, count_by-unquoted is_opening (take n bytes) (place_of in_string), length-take n bytes),
  omega (arith, run.closed_is, count_by-unquoted is_closing (take n bytes) (place_of in_string), length-take n bytes),
)

unquoted-shorter : (place : Place) (bytes : List ℕ) → length (unquoted place bytes) ≤ length bytes
unquoted-shorter place [] = omega arith
unquoted-shorter outside (b ∷ bytes) = omega (arith, unquoted-shorter (place_after outside b) bytes)
unquoted-shorter inside (b ∷ bytes) = omega (arith, unquoted-shorter (place_after inside b) bytes)
unquoted-shorter escaped (b ∷ bytes) = omega (arith, unquoted-shorter (place_after escaped b) bytes)

-- no more brackets are open than there are bytes
pub short_is_shallow : (bytes : List ℕ) → length bytes ≤ max_depth → IsTrue false ↔ IsDeep bytes
short_is_shallow bytes short =
    let all = unquoted outside bytes in
    let few : 0 + count_by is_opening all ≤ 0 + max_depth =
    omega (arith, count_by-le-length is_opening all, unquoted-shorter outside bytes, short) in
    let none : deep_from 0 0 all ≡ false = ap (deep_from 0 0) (sym (append-nil all))
    ∙ (deep_from-few all [] 0 0 few ∙ deep_from_end (0 + count_by is_opening all) (0 + count_by is_closing all)
    (omega (arith, few))) in
    IsDeep_from false bytes (sym none)
