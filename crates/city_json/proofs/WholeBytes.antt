-- Nested arrays of whole numbers in their compact text: what one byte more in front says.
use Rattle.std.proofs.Common.{◌≡◌, ◌≢◌, ◌⊎◌, ◌∙◌, ◌++◌, ◌+◌, ◌<◌, ◌≤◌, ◌&&◌, ◌||◌, ◌==◌, ℕ, zero, suc, Bool, true, false, cond, List, ◌∷◌, refl, ap, sym, subst, arith, append_assoc, append-nil, inl, inr, ⊎_elim, []}
use Rattle.std.proofs.lemmas.Bool.{eqb-true, false≢true, cases_Bool, cond-false, eq-eqb, ne_eqb}
use Rattle.std.proofs.lemmas.Bool.Decides.{nat_tests}
use Rattle.std.specs.Char.{digit_value, is_ascii_digit}
use Rattle.std.specs.Str.Parse.{AllDigits}
use Rattle.city_json.specs.Bytes.{digit_zero, comma, open_bracket, close_bracket}
use Rattle.city_json.specs.Compact.{compact_items, compact_more_items}
use Rattle.city_json.specs.Number.{IsNumber, IsWhole}
use Rattle.city_json.specs.Tree.{Tree, number, array, ItemTrees, no_items, item}
use Rattle.city_json.specs.Whole.{Stage, at_start, after_comma, after_item, in_number, IsLeft, Inside, Closes, is_place, is_wrong, begins_zero, stage_of, up, down}

-- ---- one byte more in front
module _ (levels : ℕ) (text : List ℕ) (Outer : List ℕ → Type 0) where
  pub close_start : Outer text → Inside levels at_start (close_bracket ∷ text) Outer
  close_start outer = record {
    items = no_items;
    inner = [];
    rest = text;
    splits = refl;
    left = refl;
    within =
        omega arith;
    distinct = tt;
    writable = tt;
    outer = outer;
  }

  pub close_item : Outer text → Inside levels after_item (close_bracket ∷ text) Outer
  close_item outer = record {
    items = no_items;
    inner = [];
    rest = text;
    splits = refl;
    left = refl;
    within =
        omega arith;
    distinct = tt;
    writable = tt;
    outer = outer;
  }

  pub close_number : (zeroed : Bool) → Outer text → Inside levels (in_number zeroed) (close_bracket ∷ text) Outer
  close_number zeroed outer = record {
    items = no_items;
    inner = [];
    rest = text;
    splits = refl;
    left =
        ([], tt, λ _. refl, refl);
    within = omega arith;
    distinct = tt;
    writable = tt;
    outer = outer;
  }

  more_items : (items : ItemTrees) (inner : List ℕ) → IsLeft after_comma items inner
      → comma ∷ inner ≡ compact_more_items items
  more_items no_items inner left = absurd left
  more_items (item first others) inner left = ap (λ l. comma ∷ l) left

  pub comma_item : Inside levels after_comma text Outer → Inside levels after_item (comma ∷ text) Outer
  comma_item i = record {
    items = i.items;
    inner = comma ∷ i.inner;
    rest = i.rest;
    splits =
        ap (λ l. comma ∷ l) i.splits;
    left = more_items i.items i.inner i.left;
    within = i.within;
    distinct = i.distinct;
    writable = i.writable;
    outer = i.outer;
  }

  pub comma_number : (zeroed : Bool) → Inside levels after_comma text Outer
      → Inside levels (in_number zeroed) (comma ∷ text) Outer
  comma_number zeroed i = record {
    items = i.items;
    inner = comma ∷ i.inner;
    rest = i.rest;
    splits =
        ap (λ l. comma ∷ l) i.splits;
    left = ([], tt, λ _. refl, more_items i.items i.inner i.left);
    within = i.within;
    distinct = i.distinct;
    writable = i.writable;
    outer = i.outer;
  }

  pub digit_number : (c : ℕ) → digit_value c < 10 → Inside levels (in_number false) text Outer
      → Inside levels (in_number false) (c ∷ text) Outer
  digit_number c digit i = record {
    items = i.items;
    inner = c ∷ i.inner;
    rest = i.rest;
    splits = ap (λ l. c ∷ l) i.splits;
    left = (c ∷ i.left.0, (digit, i.left.1), λ never. absurd (false≢true never), ap (λ l. c ∷ l) i.left.3);
    within = i.within;
    distinct = i.distinct;
    writable = i.writable;
    outer = i.outer;
  }

  is_whole : (c : ℕ) (digits : List ℕ) → 48 ≤ c → c ≤ 57 → AllDigits 10 digits
      → ((c == digit_zero) ≡ true → digits ≡ []) → IsWhole (c ∷ digits)
  is_whole c digits low high all alone = elim (cases_Bool (c == digit_zero)) [
    | inl zeroed ↦ inl (eqb-true c 48 zeroed, alone zeroed)
    | inr other ↦ inr (let no : c ≢ 48 = λ is. false≢true (sym other ∙ eq-eqb c 48 is) in omega arith, high, all)
  ]

  whole_number : (digits : List ℕ) → IsWhole digits → IsNumber digits
  whole_number digits is = record {
    minus_sign = [];
    whole = digits;
    fraction = [];
    exponent = [];
    spelled =
        sym (append-nil digits);
    is_minus = inl refl;
    is_whole = is;
    is_fraction = tt;
    is_exponent = tt;
  }

  first_digit : (c : ℕ) → 48 ≤ c → c ≤ 57 → Inside levels (in_number (c == digit_zero)) text Outer → (stage : Stage)
      → ((value : Tree) (others : ItemTrees) (inner : List ℕ) → inner ≡ compact_items (item value others)
      → IsLeft stage (item value others) inner) → Inside levels stage (c ∷ text) Outer
  first_digit c low high i stage as_left =
      let digits = i.left.0 in record {
        items = item (number (c ∷ digits)) i.items;
        inner = c ∷ i.inner;
        rest = i.rest;
        splits = ap (λ l. c ∷ l) i.splits;
        left = as_left (number (c ∷ digits)) i.items (c ∷ i.inner) (ap (λ l. c ∷ l) i.left.3);
        within = omega (arith, i.within);
        distinct = (tt, i.distinct);
        writable = (whole_number (c ∷ digits) (is_whole c digits low high i.left.1 i.left.2), i.writable);
        outer = i.outer;
      }

  pub digit_start : (c : ℕ) → 48 ≤ c → c ≤ 57 → Inside levels (in_number (c == digit_zero)) text Outer
      → Inside levels at_start (c ∷ text) Outer
  digit_start c low high i = first_digit c low high i at_start (λ value others inner is. is)

  pub digit_comma : (c : ℕ) → 48 ≤ c → c ≤ 57 → Inside levels (in_number (c == digit_zero)) text Outer
      → Inside levels after_comma (c ∷ text) Outer
  digit_comma c low high i = first_digit c low high i after_comma (λ value others inner is. is)

  opened : (inner rest more beyond : List ℕ) → rest ≡ more ++ close_bracket ∷ beyond
      → open_bracket ∷ (inner ++ close_bracket ∷ rest) ≡ (open_bracket ∷ inner ++ close_bracket ∷ more) ++ close_bracket
      ∷ beyond
  opened inner rest more beyond is = rw is (simp append_assoc)

  opened_items : (inner more : List ℕ)
      → open_bracket ∷ (inner ++ close_bracket ∷ more) ≡ (open_bracket ∷ inner ++ close_bracket ∷ []) ++ more
  opened_items inner more = simp append_assoc

  open_any : Inside levels at_start text (λ rest. Inside (suc levels) after_item rest Outer) → (stage : Stage)
      → ((value : Tree) (others : ItemTrees) (inner : List ℕ) → inner ≡ compact_items (item value others)
      → IsLeft stage (item value others) inner) → Inside (suc levels) stage (open_bracket ∷ text) Outer
  open_any i stage as_left =
      let o = i.outer in record {
        items = item (array i.items) o.items;
        inner = open_bracket ∷ i.inner ++ close_bracket ∷ o.inner;
        rest = o.rest;
        splits = ap (λ l. open_bracket ∷ l) i.splits ∙ opened i.inner i.rest o.inner o.rest o.splits;
        left = as_left (array i.items) o.items (open_bracket ∷ i.inner ++ close_bracket ∷ o.inner)
            (opened_items i.inner o.inner ∙ (λ k. (open_bracket ∷ i.left k ++ close_bracket ∷ []) ++ o.left k));
        within = omega (arith, i.within, o.within);
        distinct = (i.distinct, o.distinct);
        writable = (i.writable, o.writable);
        outer = o.outer;
      }

  pub open_start : Inside levels at_start text (λ rest. Inside (suc levels) after_item rest Outer)
      → Inside (suc levels) at_start (open_bracket ∷ text) Outer
  open_start i = open_any i at_start (λ value others inner is. is)

  pub open_comma : Inside levels at_start text (λ rest. Inside (suc levels) after_item rest Outer)
      → Inside (suc levels) after_comma (open_bracket ∷ text) Outer
  open_comma i = open_any i after_comma (λ value others inner is. is)

-- ---- a byte by its tests
kind : (c : ℕ) → is_place c ≡ true → ((48 ≤ c) × (c ≤ 57)) ⊎ ((c ≡ comma) ⊎ ((c ≡ open_bracket) ⊎ (c ≡ close_bracket)))
kind c is = elim (cases_Bool (is_ascii_digit c)) [
  | inl digit ↦ inl (grind (arith, nat_tests))
  | inr none ↦ inr (elim (cases_Bool (c == comma)) [
    | inl here ↦ inl (eqb-true c comma here)
    | inr no2 ↦ inr (elim (cases_Bool (c == open_bracket)) [
      | inl here ↦ inl (eqb-true c open_bracket here)
      | inr no3 ↦ inr (elim (cases_Bool (c == close_bracket)) [
        | inl here ↦ eqb-true c close_bracket here
        | inr no4 ↦ absurd (false≢true (sym (λ i. none i || (no2 i || (no3 i || no4 i))) ∙ is))
      ])
    ])
  ])
]

digit_is : (c : ℕ) → 48 ≤ c → c ≤ 57 → is_ascii_digit c ≡ true
digit_is c low high = grind (arith, nat_tests)

pub no_mark : (c m : ℕ) → 48 ≤ c → c ≤ 57 → (m < 48) ⊎ (57 < m) → (c == m) ≡ false
no_mark c m low high far = ne_eqb c m
    (λ is. ⊎_elim (λ less. absurd (omega (arith, is, less, low))) (λ more. absurd (omega (arith, is, more, high))) far)

stage_digit : (c : ℕ) (zeroed : Bool) → 48 ≤ c → c ≤ 57 → stage_of c zeroed ≡ in_number zeroed
stage_digit c zeroed low high =
    cond-false (c == open_bracket) at_start _ (no_mark c open_bracket low high (inr (omega arith)))
    ∙ cond-false (c == comma) after_comma _ (no_mark c comma low high (inl (omega arith)))
    ∙ cond-false (c == close_bracket) after_item _ (no_mark c close_bracket low high (inr (omega arith)))

pub Closes-at : (d d' r r' : ℕ) (s s' : Stage) (w : List ℕ) → d ≡ d' → r ≡ r' → s ≡ s' → Closes d r s w
    → Closes d' r' s' w
Closes-at d d' r r' s s' w e f g given =
    subst (λ x. Closes x r' s' w) e (subst (λ x. Closes d x s' w) f (subst (λ x. Closes d r x w) g given))

abbrev MayClose : Stage → Type 0
MayClose after_comma = ⊥
MayClose other = Unit {0}

abbrev MayPart : Stage → Type 0
MayPart after_item = Unit {0}
MayPart (in_number zeroed) = Unit {0}
MayPart other = ⊥

abbrev MayBegin : Stage → Type 0
MayBegin at_start = Unit {0}
MayBegin after_comma = Unit {0}
MayBegin other = ⊥

core_close : (s : Stage) (d d2 r r2 : ℕ) (w : List ℕ) → MayClose s → 0 < d → d2 + 1 ≡ d + 0 → r2 + 0 ≡ r + 1
    → Closes d2 r2 after_item w → Closes d r s (close_bracket ∷ w)
core_close s zero d2 r r2 w may some deep room given = absurd (omega arith)
core_close after_comma (suc d) d2 r r2 w may some deep room given = absurd may
core_close at_start (suc d) d2 r r2 w may some deep room given =
    close_start r w (λ rest. Closes d (suc r) after_item rest)
    (Closes-at d2 d r2 (suc r) after_item after_item w (omega arith) (omega arith) refl given)
core_close after_item (suc d) d2 r r2 w may some deep room given =
    close_item r w (λ rest. Closes d (suc r) after_item rest)
    (Closes-at d2 d r2 (suc r) after_item after_item w (omega arith) (omega arith) refl given)
core_close (in_number zeroed) (suc d) d2 r r2 w may some deep room given =
    close_number r w (λ rest. Closes d (suc r) after_item rest) zeroed
    (Closes-at d2 d r2 (suc r) after_item after_item w (omega arith) (omega arith) refl given)

core_comma : (s : Stage) (d d2 r r2 : ℕ) (w : List ℕ) → MayPart s → 0 < d → d2 + 0 ≡ d + 0 → r2 + 0 ≡ r + 0
    → Closes d2 r2 after_comma w → Closes d r s (comma ∷ w)
core_comma s zero d2 r r2 w may some deep room given = absurd (omega arith)
core_comma at_start (suc d) d2 r r2 w may some deep room given = absurd may
core_comma after_comma (suc d) d2 r r2 w may some deep room given = absurd may
core_comma after_item (suc d) d2 r r2 w may some deep room given =
    comma_item r w (λ rest. Closes d (suc r) after_item rest)
    (Closes-at d2 (suc d) r2 r after_comma after_comma w (omega arith) (omega arith) refl given)
core_comma (in_number zeroed) (suc d) d2 r r2 w may some deep room given =
    comma_number r w (λ rest. Closes d (suc r) after_item rest) zeroed
    (Closes-at d2 (suc d) r2 r after_comma after_comma w (omega arith) (omega arith) refl given)

core_open : (s : Stage) (d d2 r r2 : ℕ) (w : List ℕ) → MayBegin s → 0 < d → 1 ≤ r → d2 + 0 ≡ d + 1 → r2 + 1 ≡ r + 0
    → Closes d2 r2 at_start w → Closes d r s (open_bracket ∷ w)
core_open s zero d2 r r2 w may some fits deep room given = absurd (omega arith)
core_open s d d2 zero r2 w may some fits deep room given = absurd (omega arith)
core_open after_item (suc d) d2 (suc r) r2 w may some fits deep room given = absurd may
core_open (in_number zeroed) (suc d) d2 (suc r) r2 w may some fits deep room given = absurd may
core_open at_start (suc d) d2 (suc r) r2 w may some fits deep room given =
    open_start r w (λ rest. Closes d (suc (suc r)) after_item rest)
    (Closes-at d2 (suc (suc d)) r2 r at_start at_start w (omega arith) (omega arith) refl given)
core_open after_comma (suc d) d2 (suc r) r2 w may some fits deep room given =
    open_comma r w (λ rest. Closes d (suc (suc r)) after_item rest)
    (Closes-at d2 (suc (suc d)) r2 r at_start at_start w (omega arith) (omega arith) refl given)

abbrev MayDigit : Stage → Type 0
MayDigit at_start = Unit {0}
MayDigit after_comma = Unit {0}
MayDigit after_item = ⊥
MayDigit (in_number true) = ⊥
MayDigit (in_number false) = Unit {0}

abbrev begins : Stage → Bool
begins at_start = true
begins after_comma = true
begins after_item = false
begins (in_number zeroed) = false

and_true : (b : Bool) → (b && true) ≡ b
and_true true = refl
and_true false = refl

pub and_false : (b : Bool) → (b && false) ≡ false
and_false true = refl
and_false false = refl

core_digit : (s : Stage) (d d2 r r2 c : ℕ) (w : List ℕ) → 48 ≤ c → c ≤ 57 → MayDigit s → 0 < d → d2 + 0 ≡ d + 0
    → r2 + 0 ≡ r + 0 → Closes d2 r2 (in_number ((c == digit_zero) && begins s)) w → Closes d r s (c ∷ w)
core_digit s zero d2 r r2 c w low high may some deep room given = absurd (omega arith)
core_digit at_start (suc d) d2 r r2 c w low high may some deep room given =
    digit_start r w (λ rest. Closes d (suc r) after_item rest) c low high
    (Closes-at d2 (suc d) r2 r (in_number ((c == digit_zero) && true)) (in_number (c == digit_zero)) w (omega arith)
    (omega arith) (ap in_number (and_true (c == digit_zero))) given)
core_digit after_comma (suc d) d2 r r2 c w low high may some deep room given =
    digit_comma r w (λ rest. Closes d (suc r) after_item rest) c low high
    (Closes-at d2 (suc d) r2 r (in_number ((c == digit_zero) && true)) (in_number (c == digit_zero)) w (omega arith)
    (omega arith) (ap in_number (and_true (c == digit_zero))) given)
core_digit after_item (suc d) d2 r r2 c w low high may some deep room given = absurd may
core_digit (in_number true) (suc d) d2 r r2 c w low high may some deep room given = absurd may
core_digit (in_number false) (suc d) d2 r r2 c w low high may some deep room given =
    let value : digit_value c < 10 = grind (arith, nat_tests) in
    digit_number r w (λ rest. Closes d (suc r) after_item rest) c value
    (Closes-at d2 (suc d) r2 r (in_number ((c == digit_zero) && false)) (in_number false) w (omega arith)
    (omega arith) (ap in_number (and_false (c == digit_zero))) given)

abbrev stage_by : Bool → Bool → Bool → Bool → Stage
stage_by o m k z = cond o at_start (cond m after_comma (cond k after_item (in_number z)))

-- what the tests allow, by the byte before: o an opening bracket, m a comma, k a closing bracket, n a digit
may_close : (o m k n z : Bool)
    → ((o && false) || ((k && (false || false)) || ((m && (false || true)) || (n && false)))) ≡ false
    → MayClose (stage_by o m k z)
may_close true m k n z fine = tt
may_close false false true n z fine = tt
may_close false false false n z fine = tt
may_close false true true n z fine = absurd (false≢true (sym fine))
may_close false true false n z fine = absurd (false≢true (sym fine))

may_part : (o m k n z : Bool) → ((o && true) || ((k && (false || false)) || ((m && (true || false)) || (n && false))))
    ≡ false → MayPart (stage_by o m k z)
may_part true m k n z fine = absurd (false≢true (sym fine))
may_part false false true n z fine = tt
may_part false false false n z fine = tt
may_part false true true n z fine = absurd (false≢true (sym fine))
may_part false true false n z fine = absurd (false≢true (sym fine))

may_begin : (o m k n z : Bool) → (n || (m || (o || k))) ≡ true
    → ((o && false) || ((k && (false || true)) || ((m && (false || false)) || (n && true)))) ≡ false
    → MayBegin (stage_by o m k z)
may_begin true m k n z place fine = tt
may_begin false true k n z place fine = tt
may_begin false false true n z place fine = absurd (false≢true (sym fine))
may_begin false false false true z place fine = absurd (false≢true (sym fine))
may_begin false false false false z place fine = absurd (false≢true place)

may_digit : (o m k n z : Bool)
    → ((o && false) || ((k && (true || false)) || ((m && (false || false)) || (n && false)))) ≡ false
    → (z && true) ≡ false → MayDigit (stage_by o m k z)
may_digit true m k n z fine once = tt
may_digit false true k n z fine once = tt
may_digit false false true n z fine once = absurd (false≢true (sym fine))
may_digit false false false n true fine once = absurd (false≢true (sym once))
may_digit false false false n false fine once = tt

begins_is : (o m k z : Bool) → (o || m) ≡ begins (stage_by o m k z)
begins_is true m k z = refl
begins_is false true k z = refl
begins_is false false true z = refl
begins_is false false false z = refl

module _ (d d2 r r2 p : ℕ) (z : Bool) (w : List ℕ) (place : is_place p ≡ true) (some : 0 < d) where
  -- at a byte that is a literal or a digit
  abbrev Steps : ℕ → Type 0
  Steps c = is_wrong p c ≡ false → (z && is_ascii_digit c) ≡ false → up c ≤ r → d2 + down c ≡ d + up c
      → r2 + up c ≡ r + down c → Closes d2 r2 (stage_of c (begins_zero p c)) w → Closes d r (stage_of p z) (c ∷ w)

  step_close : Steps close_bracket
  step_close fine once fits deep room given =
      core_close (stage_of p z) d d2 r r2 w
      (may_close (p == open_bracket) (p == comma) (p == close_bracket) (is_ascii_digit p) z fine) some deep room given

  step_comma : Steps comma
  step_comma fine once fits deep room given =
      core_comma (stage_of p z) d d2 r r2 w
      (may_part (p == open_bracket) (p == comma) (p == close_bracket) (is_ascii_digit p) z fine) some deep room given

  step_open : Steps open_bracket
  step_open fine once fits deep room given =
      core_open (stage_of p z) d d2 r r2 w
      (may_begin (p == open_bracket) (p == comma) (p == close_bracket) (is_ascii_digit p) z place fine) some fits deep
      room given

  step_digit : (c : ℕ) → 48 ≤ c → c ≤ 57 → Steps c
  step_digit c low high fine once fits deep room given =
      let digit = digit_is c low high in
      let no_open = no_mark c open_bracket low high (inr (omega arith)) in
      let no_comma = no_mark c comma low high (inl (omega arith)) in
      let no_close = no_mark c close_bracket low high (inr (omega arith)) in
      let o = p == open_bracket in
      let m = p == comma in
      let k = p == close_bracket in
      let n = is_ascii_digit p in
      let plain_fine : ((o && false) || ((k && (true || false)) || ((m && (false || false)) || (n && false)))) ≡ false =
      sym (λ i. (o && no_comma i) || ((k && (digit i || no_open i))
      || ((m && (no_comma i || no_close i)) || (n && no_open i)))) ∙ fine in
      let plain_once : (z && true) ≡ false = sym (λ i. z && digit i) ∙ once in
      core_digit (stage_of p z) d d2 r r2 c w low high (may_digit o m k n z plain_fine plain_once) some
      (ap (λ x. d2 + x) (sym (cond-false (c == close_bracket) 1 0 no_close)) ∙ deep
      ∙ ap (λ x. d + x) (cond-false (c == open_bracket) 1 0 no_open))
      (ap (λ x. r2 + x) (sym (cond-false (c == open_bracket) 1 0 no_open)) ∙ room
      ∙ ap (λ x. r + x) (cond-false (c == close_bracket) 1 0 no_close))
      (Closes-at d2 d2 r2 r2 _ _ w refl refl (stage_digit c (begins_zero p c) low high
      ∙ ap (λ b. in_number ((c == digit_zero) && b)) (begins_is o m k z)) given)

  pub byte_step : (c : ℕ) → is_place c ≡ true → Steps c
  byte_step c is = elim (kind c is) [
    | inl digit ↦ step_digit c digit.0 digit.1
    | inr other ↦ elim other [
      | inl here ↦ subst Steps (sym here) step_comma
      | inr further ↦ elim further [
        | inl here ↦ subst Steps (sym here) step_open
        | inr here ↦ subst Steps (sym here) step_close
      ]
    ]
  ]
