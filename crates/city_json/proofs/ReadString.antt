-- The reader of strings, one step at a time.
use Rattle.std.proofs.Common.{◌≡◌, ◌≢◌, ◌⊎◌, ◌++◌, ◌+◌, ◌-◌, ◌*◌, ◌<◌, ◌≤◌, ◌==◌, ◌&&◌, ℕ, zero, suc, Bool, true, false, cond, List, [], ◌∷◌, Option, Some, None, option_map, option_and_then, length, take, drop, refl, sym, ap, ap₂, subst, ◌∙◌, inl, inr, append_assoc, length-append, arith, encode_utf8, nat_le, nat_lt}
use Rattle.std.specs.Char.{is_digit, IsScalar}
use Rattle.std.specs.List.{list_all, prefix_len}
use Rattle.std.specs.Str.{IsUtf8}
use Rattle.std.proofs.lemmas.Str.{IsUtf8-from_is_utf8, is_utf8-from_IsUtf8}
use Rattle.std.specs.Str.Parse.{AllDigits, digits_value}
use Rattle.std.proofs.lemmas.Bool.Decides.{nat_tests}
use Rattle.std.proofs.lemmas.Bool.{cases_Bool, and_parts, and_from, ltb-true, lt-ltb, leb-true, eqb-true, cond-true, cond-false, false_from_ne_true, ne_eqb}
use Rattle.std.proofs.lemmas.Option.{cond_some, same_Some}
use Rattle.city_json.specs.Bytes.{quotation_mark, backslash, small_u}
use Rattle.city_json.specs.Strings.{letter_meaning, IsUnit, IsUnitEscape, IsPairEscape, IsLetterEscape}
use Rattle.city_json.specs.ReadString.{is_plain, is_high_surrogate, is_low_surrogate, unit_at, pair_at, paired, completed, escape_at, prepend, decode, decoded, checked, string_at}

pub and_then_cases : {A B : Type 0} (f : A → Option B) (o : Option A) (y : B) → option_and_then f o ≡ Some y → (x : A)
    × (o ≡ Some x) × (f x ≡ Some y)
and_then_cases f None y e = cc
and_then_cases f (Some x) y e = (x, refl, e)

pub map_cases : {A B : Type 0} (f : A → B) (o : Option A) (y : B) → option_map f o ≡ Some y → (x : A) × (o ≡ Some x)
    × (f x ≡ y)
map_cases f None y e = cc
map_cases f (Some x) y e = (x, refl, cc)

all_hex : (digits : List ℕ) → list_all (λ digit. is_digit digit 16) digits ≡ true → AllDigits 16 digits
all_hex [] e = tt
all_hex (d ∷ ds) e = let both = and_parts (is_digit d 16) (list_all (λ digit. is_digit digit 16) ds) e in
    (ltb-true _ 16 both.0, all_hex ds both.1)

hex_all : (digits : List ℕ) → AllDigits 16 digits → list_all (λ digit. is_digit digit 16) digits ≡ true
hex_all [] h = refl
hex_all (d ∷ ds) h = and_from (is_digit d 16) (list_all (λ digit. is_digit digit 16) ds) (lt-ltb _ 16 h.0)
    (hex_all ds h.1)

unit_at-sound : (bytes : List ℕ) (u : ℕ × List ℕ) → unit_at bytes ≡ Some u → (digits : List ℕ) × (bytes ≡ digits ++ u.1)
    × IsUnit digits u.0
unfolding unit_at
unit_at-sound [] u e = cc
unit_at-sound (a ∷ []) u e = cc
unit_at-sound (a ∷ b ∷ []) u e = cc
unit_at-sound (a ∷ b ∷ c ∷ []) u e = cc
unit_at-sound (a ∷ b ∷ c ∷ d ∷ rest) u e =
    let digits : List ℕ = a ∷ b ∷ c ∷ d ∷ [] in
    let parts = cond_some (list_all (λ digit. is_digit digit 16) digits) (digits_value 16 digits, rest) u e in (
      digits,
      ap (λ (p : ℕ × List ℕ). digits ++ p.1) parts.1,
      (refl, all_hex digits parts.0, sym (ap (λ (p : ℕ × List ℕ). p.0) parts.1)),
    )

unit_at-complete : (digits rest : List ℕ) (u : ℕ) → IsUnit digits u → unit_at (digits ++ rest) ≡ Some (u, rest)
unfolding unit_at
unit_at-complete [] rest u h = absurd (omega (arith, h.0))
unit_at-complete (a ∷ []) rest u h = absurd (omega (arith, h.0))
unit_at-complete (a ∷ b ∷ []) rest u h = absurd (omega (arith, h.0))
unit_at-complete (a ∷ b ∷ c ∷ []) rest u h = absurd (omega (arith, h.0))
unit_at-complete (a ∷ b ∷ c ∷ d ∷ []) rest u h =
    let digits : List ℕ = a ∷ b ∷ c ∷ d ∷ [] in
    ap (λ t. cond t (Some (digits_value 16 digits, rest)) None) (hex_all digits h.1)
    ∙ ap (λ v. Some (v, rest)) (sym h.2)
unit_at-complete (a ∷ b ∷ c ∷ d ∷ e ∷ more) rest u h = absurd (omega (arith, h.0))

pub then_some : {A : Type 0} (t : Bool) (o : Option A) (y : A) → cond t o None ≡ Some y → (t ≡ true) × (o ≡ Some y)
then_some true o y e = (refl, e)
then_some false o y e = cc

low_range : (unit : ℕ) → is_low_surrogate unit ≡ true → (0xdc00 ≤ unit) × (unit < 0xe000)
low_range unit e = let both = and_parts (nat_le 0xdc00 unit) (nat_lt unit 0xe000) e in
    (leb-true 0xdc00 unit both.0, ltb-true unit 0xe000 both.1)

high_range : (unit : ℕ) → is_high_surrogate unit ≡ true → (0xd800 ≤ unit) × (unit < 0xdc00)
high_range unit e = let both = and_parts (nat_le 0xd800 unit) (nat_lt unit 0xdc00) e in
    (leb-true 0xd800 unit both.0, ltb-true unit 0xdc00 both.1)

pair_at-sound : (high : ℕ) (bytes : List ℕ) (e : ℕ × List ℕ) → pair_at high bytes ≡ Some e
    → (second : List ℕ) × (low : ℕ) × (bytes ≡ backslash ∷ small_u ∷ (second ++ e.1)) × IsUnit second (0xdc00 + low)
    × (low < 0x400) × (e.0 ≡ 0x10000 + (high - 0xd800) * 0x400 + low)
unfolding pair_at
pair_at-sound high [] e is = cc
pair_at-sound high (a ∷ []) e is = cc
pair_at-sound high (a ∷ b ∷ rest) e is =
    let outer = then_some ((a == backslash) && (b == small_u)) (option_and_then (paired high) (unit_at rest)) e is in
    let marks = and_parts (a == backslash) (b == small_u) outer.0 in
    let found = and_then_cases (paired high) (unit_at rest) e outer.1 in
    let u = found.0 in
    let inner = cond_some (is_low_surrogate u.0) (0x10000 + (high - 0xd800) * 0x400 + (u.0 - 0xdc00), u.1) e found.2 in
    let range = low_range u.0 inner.0 in
    let unit = unit_at-sound rest u found.1 in
    let left : u.1 ≡ e.1 = ap (λ (p : ℕ × List ℕ). p.1) inner.1 in
    let is_a : a ≡ backslash = eqb-true a backslash marks.0 in
    let is_b : b ≡ small_u = eqb-true b small_u marks.1 in
    let whole : rest ≡ unit.0 ++ e.1 = unit.1 ∙ ap (λ r. unit.0 ++ r) left in (
      unit.0,
      u.0 - 0xdc00,
      cc,
      (unit.2.0, unit.2.1, omega (arith, range, unit.2.2)),
      omega (arith, range),
      sym (ap (λ (p : ℕ × List ℕ). p.0) inner.1),
    )

not_surrogate : (unit : ℕ) → unit < 0x10000 → is_high_surrogate unit ≡ false → is_low_surrogate unit ≡ false
    → IsScalar unit
not_surrogate unit h high low = grind (arith, nat_tests)

unit_small : (digits : List ℕ) (u : ℕ) → IsUnit digits u → u < 0x10000
unit_small [] u h = absurd (omega (arith, h.0))
unit_small (a ∷ []) u h = absurd (omega (arith, h.0))
unit_small (a ∷ b ∷ []) u h = absurd (omega (arith, h.0))
unit_small (a ∷ b ∷ c ∷ []) u h = absurd (omega (arith, h.0))
unit_small (a ∷ b ∷ c ∷ d ∷ []) u h = omega (arith, h.1.0, h.1.1, h.2)
unit_small (a ∷ b ∷ c ∷ d ∷ e ∷ more) u h = absurd (omega (arith, h.0))

renamed : (digits : List ℕ) (u v : ℕ) → u ≡ v → IsUnit digits u → IsUnit digits v
renamed digits u v e unit = (unit.0, unit.1, sym e ∙ unit.2)

abbrev pub IsEscape : List ℕ → ℕ → Type 0
IsEscape piece c = IsLetterEscape piece c ⊎ IsUnitEscape piece c ⊎ IsPairEscape piece c

completed-sound : (bytes : List ℕ) (u e : ℕ × List ℕ) → unit_at bytes ≡ Some u → completed u ≡ Some e → (piece : List ℕ)
    × (bytes ≡ piece ++ e.1) × IsEscape (backslash ∷ small_u ∷ piece) e.0
completed-sound bytes u e found is =
    let unit = unit_at-sound bytes u found in
    let digits = unit.0 in
    elim (cases_Bool (is_high_surrogate u.0)) [
      | inl is_high ↦ (let pair = pair_at-sound u.0 u.1 e (sym (cond-true _ _ _ is_high) ∙ is) in
          let range = high_range u.0 is_high in
          let second = pair.0 in (
            digits ++ backslash ∷ small_u ∷ second,
            unit.1 ∙ ap (λ r. digits ++ r) pair.2 ∙ sym (append_assoc digits (backslash ∷ small_u ∷ second) e.1),
            inr (inr (
              digits,
              second,
              u.0 - 0xd800,
              pair.1,
              refl,
              renamed digits u.0 _ (omega (arith, range)) unit.2,
              omega (arith, range),
              pair.3,
              pair.4,
              pair.5,
            )),
          ))
      | inr not_high ↦ (let rest = sym (cond-false (is_high_surrogate u.0) _ _ not_high) ∙ is in
          elim (cases_Bool (is_low_surrogate u.0)) [
            | inl is_low ↦ (let none : None ≡ Some e = sym (cond-true (is_low_surrogate u.0) _ _ is_low) ∙ rest in cc)
            | inr not_low ↦ (let same : u ≡ e =
                same_Some u e (sym (cond-false (is_low_surrogate u.0) _ _ not_low) ∙ rest) in
                let c : u.0 ≡ e.0 = ap (λ (p : ℕ × List ℕ). p.0) same in (
                  digits,
                  unit.1 ∙ ap (λ (p : ℕ × List ℕ). digits ++ p.1) same,
                  inr (inl (
                    digits,
                    refl,
                    renamed digits u.0 e.0 c unit.2,
                    subst IsScalar c (not_surrogate u.0 (unit_small digits u.0 unit.2) not_high not_low),
                  )),
                ))
          ])
    ]

pub escape_at-sound : (bytes : List ℕ) (e : ℕ × List ℕ) → escape_at bytes ≡ Some e → (piece : List ℕ)
    × (bytes ≡ piece ++ e.1) × IsEscape (backslash ∷ piece) e.0
unfolding escape_at
escape_at-sound [] e is = cc
escape_at-sound (letter ∷ rest) e is =
    elim (cases_Bool (letter == small_u)) [
      | inl is_u ↦ (let found = and_then_cases completed (unit_at rest) e (sym (cond-true _ _ _ is_u) ∙ is) in
          let parts = completed-sound rest found.0 e found.1 found.2 in
          let l : letter ≡ small_u = eqb-true letter small_u is_u in
          (small_u ∷ parts.0, cc, parts.2))
      | inr not_u ↦ (let found = map_cases (λ (c : ℕ). (c, rest)) (letter_meaning letter) e
          (sym (cond-false _ _ _ not_u) ∙ is) in (
            letter ∷ [],
            ap (λ (p : ℕ × List ℕ). letter ∷ p.1) found.2,
            inl (letter, refl, found.1 ∙ ap (λ (p : ℕ × List ℕ). Some p.0) found.2),
          ))
    ]

same_and_then : {A B : Type 0} (f g : A → Option B) (o : Option A) → ((x : A) → o ≡ Some x → f x ≡ g x)
    → option_and_then f o ≡ option_and_then g o
same_and_then f g None h = refl
same_and_then f g (Some x) h = h x refl

pub escape_at-shorter : (bytes : List ℕ) (e : ℕ × List ℕ) → escape_at bytes ≡ Some e → length e.1 ≤ length bytes
escape_at-shorter bytes e is = let found = escape_at-sound bytes e is in
    omega (arith, ap length found.1, length-append found.0 e.1)

decode-enough : (n m : ℕ) (bytes : List ℕ) → length bytes ≤ n → length bytes ≤ m → decode n bytes ≡ decode m bytes
unfolding decode
decode-enough zero zero bytes hn hm = refl
decode-enough zero (suc m) [] hn hm = refl
decode-enough zero (suc m) (b ∷ bytes) hn hm = absurd (omega arith)
decode-enough (suc n) zero [] hn hm = refl
decode-enough (suc n) zero (b ∷ bytes) hn hm = absurd (omega arith)
decode-enough (suc n) (suc m) [] hn hm = refl
decode-enough (suc n) (suc m) (b ∷ bytes) hn hm =
    ap₂ (λ x y. cond (b == quotation_mark) (Some ([], bytes))
    (cond (b == backslash) x (cond (is_plain b) (prepend (b ∷ []) y) None)))
    (same_and_then _ _ (escape_at bytes) (λ e is. let le = escape_at-shorter bytes e is in
    ap (prepend (encode_utf8 e.0)) (decode-enough n m e.1 (omega arith) (omega arith))))
    (decode-enough n m bytes (omega arith) (omega arith))

-- the first byte decides
pub decoded-cons : (b : ℕ) (bytes : List ℕ)
    → decoded (b ∷ bytes) ≡ cond (b == quotation_mark) (Some ([], bytes))
    (cond (b == backslash) (option_and_then (λ e. prepend (encode_utf8 e.0) (decoded e.1)) (escape_at bytes))
    (cond (is_plain b) (prepend (b ∷ []) (decoded bytes)) None))
unfolding decoded decode
decoded-cons b bytes =
    ap (λ x. cond (b == quotation_mark) (Some ([], bytes))
    (cond (b == backslash) x (cond (is_plain b) (prepend (b ∷ []) (decoded bytes)) None)))
    (same_and_then _ _ (escape_at bytes) (λ e is. let le = escape_at-shorter bytes e is in
    ap (prepend (encode_utf8 e.0)) (decode-enough (length bytes) (length e.1) e.1 (omega arith) (omega arith))))

letter_at-complete : (letter c : ℕ) (rest : List ℕ) → letter_meaning letter ≡ Some c
    → escape_at (letter ∷ rest) ≡ Some (c, rest)
unfolding escape_at
letter_at-complete letter c rest h =
    elim (cases_Bool (letter == small_u)) [
      | inl is_u ↦ (let none : None ≡ Some c = sym (ap letter_meaning (eqb-true letter small_u is_u)) ∙ h in cc)
      | inr not_u ↦ cond-false _ _ _ not_u ∙ ap (option_map (λ (m : ℕ). (m, rest))) h
    ]

scalar_alone : (c : ℕ) → IsScalar c → (is_high_surrogate c ≡ false) × (is_low_surrogate c ≡ false)
scalar_alone c h = (grind (arith, nat_tests), grind (arith, nat_tests))

unit_escape-complete : (digits rest : List ℕ) (c : ℕ) → IsUnit digits c → IsScalar c
    → escape_at (small_u ∷ (digits ++ rest)) ≡ Some (c, rest)
unfolding escape_at
unit_escape-complete digits rest c unit scalar =
    let alone = scalar_alone c scalar in
    ap (option_and_then completed) (unit_at-complete digits rest c unit) ∙ cond-false _ _ _ alone.0
    ∙ cond-false _ _ _ alone.1

high_of : (high : ℕ) → high < 0x400 → is_high_surrogate (0xd800 + high) ≡ true
high_of high h = grind (arith, nat_tests)

low_of : (low : ℕ) → low < 0x400 → is_low_surrogate (0xdc00 + low) ≡ true
low_of low h = grind (arith, nat_tests)

pair_escape-complete : (first second rest : List ℕ) (high low : ℕ) → IsUnit first (0xd800 + high) → high < 0x400
    → IsUnit second (0xdc00 + low) → low < 0x400
    → escape_at (small_u ∷ ((first ++ backslash ∷ small_u ∷ second) ++ rest)) ≡ Some (
      0x10000 + high * 0x400 + low,
      rest,
    )
unfolding escape_at pair_at
pair_escape-complete first second rest high low unit h unit₂ h₂ =
    let number : 0x10000 + (0xd800 + high - 0xd800) * 0x400 + (0xdc00 + low - 0xdc00) ≡ 0x10000 + high * 0x400 + low =
    omega arith in
    ap (λ r. option_and_then completed (unit_at r)) (append_assoc first (backslash ∷ small_u ∷ second) rest)
    ∙ ap (option_and_then completed)
    (unit_at-complete first (backslash ∷ small_u ∷ (second ++ rest)) (0xd800 + high) unit)
    ∙ cond-true _ _ _ (high_of high h)
    ∙ ap (option_and_then (paired (0xd800 + high))) (unit_at-complete second rest (0xdc00 + low) unit₂)
    ∙ cond-true _ _ _ (low_of low h₂)
    ∙ ap (λ n. Some (n, rest)) number

pub escape_tail : (piece : List ℕ) (c : ℕ) → IsEscape piece c → (beyond : List ℕ) × (piece ≡ backslash ∷ beyond)
escape_tail piece c (inl letter) = (letter.0 ∷ [], letter.1)
escape_tail piece c (inr (inl unit)) = (small_u ∷ unit.0, unit.1)
escape_tail piece c (inr (inr pair)) = (small_u ∷ (pair.0 ++ backslash ∷ small_u ∷ pair.1), pair.4)

-- the piece of a character, without its backslash, gives it back
pub escape_at-complete : (piece rest : List ℕ) (c : ℕ) → IsEscape (backslash ∷ piece) c
    → escape_at (piece ++ rest) ≡ Some (c, rest)
escape_at-complete piece rest c (inl letter) =
    let is : piece ≡ letter.0 ∷ [] = cc in
    ap (λ p. escape_at (p ++ rest)) is ∙ letter_at-complete letter.0 c rest letter.2
escape_at-complete piece rest c (inr (inl unit)) =
    let is : piece ≡ small_u ∷ unit.0 = cc in
    ap (λ p. escape_at (p ++ rest)) is ∙ unit_escape-complete unit.0 rest c unit.2 unit.3
escape_at-complete piece rest c (inr (inr pair)) =
    let is : piece ≡ small_u ∷ (pair.0 ++ backslash ∷ small_u ∷ pair.1) = cc in
    ap (λ p. escape_at (p ++ rest)) is
    ∙ pair_escape-complete pair.0 pair.1 rest pair.2 pair.3 pair.5 pair.6 pair.7 pair.8
    ∙ ap (λ n. Some (n, rest)) (sym pair.9)

pub decoded-quote : (rest : List ℕ) → decoded (quotation_mark ∷ rest) ≡ Some ([], rest)
decoded-quote rest = decoded-cons quotation_mark rest

pub plain_apart : (b : ℕ) → is_plain b ≡ true → ((b == quotation_mark) ≡ false) × ((b == backslash) ≡ false)
plain_apart b h = (grind (arith, nat_tests), grind (arith, nat_tests))

pub decoded-plain : (b : ℕ) (bytes : List ℕ) → is_plain b ≡ true
    → decoded (b ∷ bytes) ≡ prepend (b ∷ []) (decoded bytes)
decoded-plain b bytes h =
    let apart = plain_apart b h in
    decoded-cons b bytes ∙ cond-false _ _ _ apart.0 ∙ cond-false _ _ _ apart.1 ∙ cond-true _ _ _ h

pub decoded-escape : (bytes : List ℕ) (e : ℕ × List ℕ) → escape_at bytes ≡ Some e
    → decoded (backslash ∷ bytes) ≡ prepend (encode_utf8 e.0) (decoded e.1)
decoded-escape bytes e is = decoded-cons backslash bytes
    ∙ ap (option_and_then (λ (f : ℕ × List ℕ). prepend (encode_utf8 f.0) (decoded f.1))) is

pub decoded-bad_escape : (bytes : List ℕ) → escape_at bytes ≡ None → decoded (backslash ∷ bytes) ≡ None
decoded-bad_escape bytes is = decoded-cons backslash bytes
    ∙ ap (option_and_then (λ (f : ℕ × List ℕ). prepend (encode_utf8 f.0) (decoded f.1))) is

pub decoded-nil : decoded [] ≡ None
unfolding decoded decode
decoded-nil = refl

pub decoded-broken : (b : ℕ) (bytes : List ℕ) → is_plain b ≡ false → b ≢ quotation_mark → b ≢ backslash
    → decoded (b ∷ bytes) ≡ None
decoded-broken b bytes h not_quote not_backslash =
    decoded-cons b bytes ∙ cond-false _ _ _ (ne_eqb b quotation_mark not_quote)
    ∙ cond-false _ _ _ (ne_eqb b backslash not_backslash) ∙ cond-false _ _ _ h

pub prepend-prepend : (xs ys : List ℕ) (r : Option (List ℕ × List ℕ)) → prepend xs (prepend ys r) ≡ prepend (xs ++ ys) r
prepend-prepend xs ys None = refl
prepend-prepend xs ys (Some r) = ap (λ t. Some (t, r.1)) (sym (append_assoc xs ys r.0))

pub prepend-nil : (r : Option (List ℕ × List ℕ)) → prepend [] r ≡ r
prepend-nil None = refl
prepend-nil (Some r) = refl

pub decoded-run : (run bytes : List ℕ) → list_all is_plain run ≡ true
    → decoded (run ++ bytes) ≡ prepend run (decoded bytes)
decoded-run [] bytes h = sym (prepend-nil (decoded bytes))
decoded-run (b ∷ run) bytes h =
    let both = and_parts (is_plain b) (list_all is_plain run) h in
    decoded-plain b (run ++ bytes) both.0 ∙ ap (prepend (b ∷ [])) (decoded-run run bytes both.1)
    ∙ prepend-prepend (b ∷ []) run (decoded bytes)

pub checked-some : (text rest : List ℕ) → IsUtf8 text → checked text rest ≡ Some (text, rest)
checked-some text rest h = cond-true _ _ _ (is_utf8-from_IsUtf8 text h)

pub checked-none : (text rest : List ℕ) → ¬ (IsUtf8 text) → checked text rest ≡ None
checked-none text rest h = cond-false _ _ _ (false_from_ne_true _ (λ t. h (IsUtf8-from_is_utf8 text t)))

-- the run of bytes at the front that stand for themselves
pub decoded-front : (bytes : List ℕ)
    → decoded bytes ≡ prepend (take (prefix_len is_plain bytes) bytes)
    (decoded (drop (prefix_len is_plain bytes) bytes))
decoded-front [] = sym (prepend-nil (decoded []))
decoded-front (b ∷ bytes) =
    let n = prefix_len is_plain bytes in
    elim (cases_Bool (is_plain b)) [
      | inl plain ↦ (let len : prefix_len is_plain (b ∷ bytes) ≡ suc n = cond-true _ _ _ plain ∙ omega arith in
          decoded-plain b bytes plain ∙ ap (prepend (b ∷ [])) (decoded-front bytes)
          ∙ prepend-prepend (b ∷ []) (take n bytes) (decoded (drop n bytes))
          ∙ ap (λ k. prepend (take k (b ∷ bytes)) (decoded (drop k (b ∷ bytes)))) (sym len))
      | inr other ↦ (let len : prefix_len is_plain (b ∷ bytes) ≡ 0 = cond-false _ _ _ other in
          sym (prepend-nil (decoded (b ∷ bytes)))
          ∙ ap (λ k. prepend (take k (b ∷ bytes)) (decoded (drop k (b ∷ bytes)))) (sym len))
    ]

-- the whole string, once what stands in it is decoded
pub string_at-some : (bytes text rest : List ℕ) → decoded bytes ≡ Some (text, rest)
    → string_at bytes ≡ checked text rest
string_at-some bytes text rest h = ap (option_and_then (λ (read : List ℕ × List ℕ). checked read.0 read.1)) h
