-- Ranges of measures of vertices, one vertex after the other.
use Rattle.std.proofs.Common.{◌≡◌, ◌≤◌, ◌<◌, ◌+◌, ◌-◌, ◌≤ℤ◌, ◌⊎◌, ◌↔◌, ◌∙◌, ℕ, zero, suc, tests, Bool, true, false, cond, sym, ap, subst, inl, inr, ⊎_elim, List, [], ◌∷◌, ◌++◌, length, take, drop, get_or, ℤ, arith}
use Rattle.std.proofs.Math.Seq.{take-length}
use Rattle.std.proofs.lemmas.Int.{ints}
use Rattle.std.proofs.lemmas.List.{take_more}
use Rattle.std.proofs.lemmas.List.Quantifiers.{Any-push}
use Rattle.std.specs.Int.{int_min, int_max}
use Rattle.std.specs.List.{Any}
use Rattle.city_grid.specs.Axes.{Triple}
use Rattle.city_feature.specs.Area.{Meets}
use Rattle.city_feature.specs.Extent.{IsExtent, IsRange}
use Rattle.city_feature.specs.declared.choices.area.Area.{Area}
use Rattle.city_feature.specs.declared.choices.extents.Extent.{Extent}
use Rattle.city_feature.specs.declared.choices.extents.Range.{Range}

lesser : (test : Bool) (a b n : ℤ) → cond test b a ≤ℤ n → (a ≤ℤ n) ⊎ (b ≤ℤ n)
lesser true a b n below = inr below
lesser false a b n below = inl below

greater : (test : Bool) (a b n : ℤ) → n ≤ℤ cond test a b → (n ≤ℤ a) ⊎ (n ≤ℤ b)
greater true a b n above = inl above
greater false a b n above = inr above

min_below : (a b : ℤ) → (int_min a b ≤ℤ a) × (int_min a b ≤ℤ b)
min_below a b = (grind (arith, tests), grind (arith, tests))

max_above : (a b : ℤ) → (a ≤ℤ int_max a b) × (b ≤ℤ int_max a b)
max_above a b = (grind (arith, tests), grind (arith, tests))

-- the first three are the last three as the code passes them on
pub least_of_two : (x y z a b least : ℤ) → x ≡ a → y ≡ b → z ≡ least → least ≡ int_min x y → (n : ℤ) → (z ≤ℤ n)
    ↔ ((a ≤ℤ n) ⊎ (b ≤ℤ n))
least_of_two x y z a b least of_a of_b of_least is n =
    let min : z ≡ int_min a b = of_least ∙ is ∙ ap (λ v. int_min v y) of_a ∙ ap (int_min a) of_b in (
      λ below. lesser _ a b n (subst (λ v. v ≤ℤ n) min below),
      ⊎_elim (λ h. omega (arith, ints, min, (min_below a b).0, h))
          (λ h. omega (arith, ints, min, (min_below a b).1, h)),
    )

pub greatest_of_two : (x y z a b greatest : ℤ) → x ≡ a → y ≡ b → z ≡ greatest → greatest ≡ int_max x y → (n : ℤ)
    → (n ≤ℤ z) ↔ ((n ≤ℤ a) ⊎ (n ≤ℤ b))
greatest_of_two x y z a b greatest of_a of_b of_greatest is n =
    let max : z ≡ int_max a b = of_greatest ∙ is ∙ ap (λ v. int_max v y) of_a ∙ ap (int_max a) of_b in (
      λ above. greater _ a b n (subst (λ v. n ≤ℤ v) max above),
      ⊎_elim (λ h. omega (arith, ints, max, (max_above a b).0, h))
          (λ h. omega (arith, ints, max, (max_above a b).1, h)),
    )

one_more : {A : Type 0} (P : A → Type 0) (y : A) (x : A) (xs : List A) → Any P xs ⊎ P y → Any P (x ∷ xs) ⊎ P y
one_more P y x xs (inl (k, z, within, at, holds)) = inl (suc k, z, omega arith, at, holds)
one_more P y x xs (inr holds) = inr holds

any_of_push : {A : Type 0} (P : A → Type 0) (xs : List A) (y : A) → Any P (xs ++ y ∷ []) → Any P xs ⊎ P y
any_of_push P [] y (zero, z, within, at, holds) = inr (subst P (sym at) holds)
any_of_push P [] y (suc k, z, within, at, holds) = absurd (omega (arith, within))
any_of_push P (x ∷ xs) y (zero, z, within, at, holds) = inl (zero, z, omega arith, at, holds)
any_of_push P (x ∷ xs) y (suc k, z, within, at, holds) =
    one_more P y x xs (any_of_push P xs y (k, z, omega (arith, within), at, holds))

any_before_push : {A : Type 0} (P : A → Type 0) (xs : List A) (y : A) → Any P xs → Any P (xs ++ y ∷ [])
any_before_push P [] y (k, z, within, at, holds) = absurd (omega (arith, within))
any_before_push P (x ∷ xs) y (zero, z, within, at, holds) = (zero, z, omega arith, at, holds)
any_before_push P (x ∷ xs) y (suc k, z, within, at, holds) =
    let (j, w, inside, there, fine) = any_before_push P xs y (k, z, omega (arith, within), at, holds) in
    (suc j, w, omega (arith, inside), there, fine)

any_along : {A : Type 0} (P : A → Type 0) (Q : Type 0) (xs : List A) (y : A) → Q ↔ Any P xs → (Q ⊎ P y)
    ↔ Any P (xs ++ y ∷ [])
any_along P Q xs y same = (
  ⊎_elim (λ q. any_before_push P xs y (same.0 q)) (λ holds. Any-push P xs y holds),
  λ some. ⊎_elim (λ before. inl (same.1 before)) (λ holds. inr holds) (any_of_push P xs y some),
)

range_more : (measure : Triple → ℤ) (vertices : List Triple) (p : Triple) (range wider : Range)
    → IsRange measure vertices range → ((n : ℤ) → (wider.least ≤ℤ n) ↔ ((range.least ≤ℤ n) ⊎ (measure p ≤ℤ n)))
    → ((n : ℤ) → (n ≤ℤ wider.greatest) ↔ ((n ≤ℤ range.greatest) ⊎ (n ≤ℤ measure p)))
    → IsRange measure (vertices ++ p ∷ []) wider
range_more measure vertices p range wider is least greatest =
    record {
      least = λ n. let step = any_along (λ q. measure q ≤ℤ n) (range.least ≤ℤ n) vertices p (is.least n) in
          (λ h. step.0 ((least n).0 h), λ h. (least n).1 (step.1 h));
      greatest = λ n. let step = any_along (λ q. n ≤ℤ measure q) (n ≤ℤ range.greatest) vertices p (is.greatest n) in
          (λ h. step.0 ((greatest n).0 h), λ h. (greatest n).1 (step.1 h));
    }

none_of_none : {A : Type 0} (P : A → Type 0) → Any P [] → ⊥
none_of_none P (k, z, within, at, holds) = omega (arith, within)

-- the measure of one vertex
one_range : (measure : Triple → ℤ) (p : Triple) (range : Range) → range.least ≡ measure p → range.greatest ≡ measure p
    → IsRange measure (p ∷ []) range
one_range measure p range least greatest =
    record {
      least = λ n. let step = any_along (λ q. measure q ≤ℤ n) ⊥ [] p ((λ no. absurd no), none_of_none _) in (
        (λ h. step.0 (inr (subst (λ m. m ≤ℤ n) least h))),
        (λ h. ⊎_elim (λ (no : ⊥). absurd no) (λ holds. subst (λ m. m ≤ℤ n) (sym least) holds) (step.1 h)),
      );
      greatest = λ n. let step = any_along (λ q. n ≤ℤ measure q) ⊥ [] p ((λ no. absurd no), none_of_none _) in (
        (λ h. step.0 (inr (subst (λ m. n ≤ℤ m) greatest h))),
        (λ h. ⊎_elim (λ (no : ⊥). absurd no) (λ holds. subst (λ m. n ≤ℤ m) (sym greatest) holds) (step.1 h)),
      );
    }

-- the extent of one vertex more
pub extent_begins : (read : List Triple) (p : Triple) (extent : Extent) → read ≡ [] → extent.x.least ≡ p.x
    → extent.x.greatest ≡ p.x → extent.y.least ≡ p.y → extent.y.greatest ≡ p.y → IsExtent (read ++ p ∷ []) extent
extent_begins read p extent none least_x greatest_x least_y greatest_y =
    subst (λ before. IsExtent (before ++ p ∷ []) extent) (sym none)
    (one_range (λ q. q.x) p extent.x least_x greatest_x, one_range (λ q. q.y) p extent.y least_y greatest_y)

pub extent_more : (read : List Triple) (p : Triple) (x y : ℤ) (extent wider : Extent) → x ≡ p.x → y ≡ p.y
    → IsExtent read extent
    → ((n : ℤ) → (wider.x.least ≤ℤ n) ↔ ((extent.x.least ≤ℤ n) ⊎ (x ≤ℤ n)))
    → ((n : ℤ) → (n ≤ℤ wider.x.greatest) ↔ ((n ≤ℤ extent.x.greatest) ⊎ (n ≤ℤ x)))
    → ((n : ℤ) → (wider.y.least ≤ℤ n) ↔ ((extent.y.least ≤ℤ n) ⊎ (y ≤ℤ n)))
    → ((n : ℤ) → (n ≤ℤ wider.y.greatest) ↔ ((n ≤ℤ extent.y.greatest) ⊎ (n ≤ℤ y)))
    → IsExtent (read ++ p ∷ []) wider
extent_more read p x y extent wider same_x same_y is least_x greatest_x least_y greatest_y = (
  range_more (λ q. q.x) read p extent.x wider.x is.0
      (subst (λ m. (n : ℤ) → (wider.x.least ≤ℤ n) ↔ ((extent.x.least ≤ℤ n) ⊎ (m ≤ℤ n))) same_x least_x)
      (subst (λ m. (n : ℤ) → (n ≤ℤ wider.x.greatest) ↔ ((n ≤ℤ extent.x.greatest) ⊎ (n ≤ℤ m))) same_x greatest_x),
  range_more (λ q. q.y) read p extent.y wider.y is.1
      (subst (λ m. (n : ℤ) → (wider.y.least ≤ℤ n) ↔ ((extent.y.least ≤ℤ n) ⊎ (m ≤ℤ n))) same_y least_y)
      (subst (λ m. (n : ℤ) → (n ≤ℤ wider.y.greatest) ↔ ((n ≤ℤ extent.y.greatest) ⊎ (n ≤ℤ m))) same_y greatest_y),
)

-- the same of the first vertex and those up to one place and up to the next; `number` is the next
-- one's measure as the code passes it on
pub range_with_next : (measure : Triple → ℤ) (first : Triple) (others : List Triple) (i : ℕ) (d p : Triple) (number : ℤ)
    (range wider : Range) → i < length others → p ≡ get_or others i d → number ≡ measure p
    → IsRange measure (first ∷ take i others) range
    → ((n : ℤ) → (wider.least ≤ℤ n) ↔ ((range.least ≤ℤ n) ⊎ (number ≤ℤ n)))
    → ((n : ℤ) → (n ≤ℤ wider.greatest) ↔ ((n ≤ℤ range.greatest) ⊎ (n ≤ℤ number)))
    → IsRange measure (first ∷ take (i + 1) others) wider
range_with_next measure first others i d p number range wider within at kept is least greatest =
    let more : (first ∷ take i others) ++ p ∷ [] ≡ first ∷ take (i + 1) others =
    ap (λ vertices. first ∷ vertices) (ap (λ q. take i others ++ q ∷ []) at ∙ sym (take_more others i d within)) in
    let least_so = subst (λ m. (n : ℤ) → (wider.least ≤ℤ n) ↔ ((range.least ≤ℤ n) ⊎ (m ≤ℤ n))) kept least in
    let greatest_so = subst (λ m. (n : ℤ) → (n ≤ℤ wider.greatest) ↔ ((n ≤ℤ range.greatest) ⊎ (n ≤ℤ m))) kept greatest in
    subst (λ vertices. IsRange measure vertices wider) more
    (range_more measure (first ∷ take i others) p range wider is least_so greatest_so)

pub all_vertices : (vertices : List Triple) (first d : Triple) → 1 ≤ length vertices → first ≡ get_or vertices 0 d
    → first ∷ take (length vertices - 1) (drop 1 vertices) ≡ vertices
all_vertices [] first d some is = absurd (omega (arith, some))
all_vertices (vertex ∷ others) first d some is =
    let count : length (vertex ∷ others) - 1 ≡ length others = omega arith in
    ap (λ v. v ∷ take (length (vertex ∷ others) - 1) others) is
    ∙ ap (λ n. vertex ∷ take n others) count
    ∙ ap (λ vs. vertex ∷ vs) (take-length others)

-- the area is met where each range and the area's, as the code passes its ends on, have a number in
-- common
pub meets_as_ranges : (area : Area) (vertices : List Triple) (extent : Extent) (min_x min_y max_x max_y : ℤ)
    → min_x ≡ area.min_x → min_y ≡ area.min_y → max_x ≡ area.max_x → max_y ≡ area.max_y → IsExtent vertices extent →
    (((extent.x.least ≤ℤ max_x) × (min_x ≤ℤ extent.x.greatest))
    × ((extent.y.least ≤ℤ max_y) × (min_y ≤ℤ extent.y.greatest))) ↔ Meets area vertices
meets_as_ranges area vertices extent min_x min_y max_x max_y is_min_x is_min_y is_max_x is_max_y is =
    let x = is.0 in
    let y = is.1 in (
      λ h. (
        (x.least area.max_x).0 (subst (λ n. extent.x.least ≤ℤ n) is_max_x h.0.0),
        (x.greatest area.min_x).0 (subst (λ n. n ≤ℤ extent.x.greatest) is_min_x h.0.1),
        (y.least area.max_y).0 (subst (λ n. extent.y.least ≤ℤ n) is_max_y h.1.0),
        (y.greatest area.min_y).0 (subst (λ n. n ≤ℤ extent.y.greatest) is_min_y h.1.1),
      ),
      λ h. (
        (
          subst (λ n. extent.x.least ≤ℤ n) (sym is_max_x) ((x.least area.max_x).1 h.0),
          subst (λ n. n ≤ℤ extent.x.greatest) (sym is_min_x) ((x.greatest area.min_x).1 h.1),
        ),
        (
          subst (λ n. extent.y.least ≤ℤ n) (sym is_max_y) ((y.least area.max_y).1 h.2),
          subst (λ n. n ≤ℤ extent.y.greatest) (sym is_min_y) ((y.greatest area.min_y).1 h.3),
        ),
      ),
    )
