-- The compact text of a string: each character is written by a piece that stands for it, in UTF-8 and with no byte
-- below a space.
use Rattle.std.proofs.Common.{cond, nat_lt, ap, add_comm, take, drop, add-one, ◌≡◌, ◌≢◌, inl, inr, ℕ, suc, ◌+◌, ◌*◌, ◌/◌, ◌%◌, ◌<◌, ◌≤◌, ◌&&◌, Bool, true, false, List, [], ◌∷◌, ◌++◌, Some, length, get_or, IsUtf8, refl, sym, subst, arith}
use Rattle.std.specs.Char.{IsScalar, digit_char}
use Rattle.std.specs.List.{flat_map, prefix_len, AllByRecursion}
use Rattle.std.specs.Prelude.{encode_utf8_all}
use Rattle.std.specs.Char.{encode_utf8}
use Rattle.std.proofs.Math.Utf8.{low_scalar, scalar, scalars}
use Rattle.std.proofs.lemmas.Bool.{cases_eq, cases_lt}
use Rattle.std.proofs.lemmas.Bool.Decides.{nat_tests}
use Rattle.std.proofs.lemmas.Grind.{flat_map-append}
use Rattle.std.proofs.lemmas.List.{append-nil}
use Rattle.std.proofs.lemmas.Str.{IsUtf8-append, IsUtf8-encode, IsUtf8-nil, digit_value-digit_char, encode_ascii, inside_one}
use Rattle.city_json.specs.Bytes.{quotation_mark, backslash, backspace, form_feed, newline, carriage_return, tab, space, small_b, small_f, small_n, small_r, small_t, small_u, digit_zero}
use Rattle.city_json.specs.Compact.{written, quoted}
use Rattle.city_json.specs.ReadString.{is_plain}
use Rattle.city_json.specs.Strings.{IsUnit, StandsFor, SpellsCharacters, SpellsString, letter_meaning}

abbrev pub IsClean : List ℕ → Type 0
IsClean b = IsUtf8 b × AllByRecursion (λ c. space ≤ c) b

above-append : (a b : List ℕ) → AllByRecursion (λ c. space ≤ c) a → AllByRecursion (λ c. space ≤ c) b
    → AllByRecursion (λ c. space ≤ c) (a ++ b)
above-append [] b above_a above_b = above_b
above-append (c ∷ a) b above_a above_b = (above_a.0, above-append a b above_a.1 above_b)

pub clean-append : (a b : List ℕ) → IsClean a → IsClean b → IsClean (a ++ b)
clean-append a b clean_a clean_b = (IsUtf8-append a b clean_a.0 clean_b.0, above-append a b clean_a.1 clean_b.1)

abbrev pub IsGraphic : ℕ → Type 0
IsGraphic c = (space ≤ c) × (c < 128)

pub clean-graphic : (b : List ℕ) → AllByRecursion IsGraphic b → IsClean b
clean-graphic [] graphic = (IsUtf8-nil, tt)
clean-graphic (c ∷ b) graphic =
    let one : IsUtf8 (c ∷ []) = subst (λ piece. IsUtf8 piece) (encode_ascii c graphic.0.1)
    (IsUtf8-encode c (low_scalar c (omega arith))) in
    clean-append (c ∷ []) b (one, (graphic.0.0, tt)) (clean-graphic b graphic.1)

and-both : (a b : Bool) → (a && b) ≡ true → (a ≡ true) × (b ≡ true)
and-both true b is = (refl, is)
and-both false b is = cc

-- what is written for a character of one byte

abbrev IsWrittenFor : ℕ → List ℕ → Type 0
IsWrittenFor c piece = StandsFor piece c × AllByRecursion IsGraphic piece

abbrev HasNoLetter : ℕ → Type 0
HasNoLetter c = (c ≢ quotation_mark) × (c ≢ backslash) × (c ≢ backspace) × (c ≢ form_feed) × (c ≢ newline)
    × (c ≢ carriage_return) × (c ≢ tab)

written-control : (c : ℕ) → HasNoLetter c → c < space
    → written c ≡ backslash ∷ small_u ∷ digit_zero ∷ digit_zero ∷ digit_char (c / 16) ∷ digit_char (c % 16) ∷ []
written-control c h low = grind (arith, nat_tests)

written-itself : (c : ℕ) → HasNoLetter c → space ≤ c → written c ≡ c ∷ []
written-itself c h high = grind (arith, nat_tests)

digit-graphic : (d : ℕ) → d < 16 → IsGraphic (digit_char d)
digit-graphic d low = (grind (arith, nat_tests), grind (arith, nat_tests))

control-unit : (c high low : ℕ) → high < 16 → low < 16 → c ≡ high * 16 + low
    → IsUnit (digit_zero ∷ digit_zero ∷ digit_char high ∷ digit_char low ∷ []) c
control-unit c high low h l is =
    let first = digit_value-digit_char high (omega arith) in
    let second = digit_value-digit_char low (omega arith) in (
      refl,
      (omega arith, (omega arith, (omega (arith, first), (omega (arith, second), tt)))),
      omega (arith, first, second),
    )

for-letter : (letter c m : ℕ) → written m ≡ backslash ∷ letter ∷ [] → letter_meaning letter ≡ Some m → IsGraphic letter
    → c ≡ m → IsWrittenFor c (written c)
for-letter letter c m is means graphic same =
    subst (λ d. IsWrittenFor d (written d)) (sym same)
    (rw is (inr (inl (letter, refl, means)), ((omega arith, omega arith), (graphic, tt))))

for-control : (c : ℕ) → HasNoLetter c → c < space → IsWrittenFor c (written c)
for-control c h low =
    let high : c / 16 < 16 = omega arith in
    let unit = control-unit c (c / 16) (c % 16) high (omega arith) (omega arith) in
    let graphic : AllByRecursion IsGraphic (digit_char (c / 16) ∷ digit_char (c % 16) ∷ []) =
    (digit-graphic (c / 16) high, (digit-graphic (c % 16) (omega arith), tt)) in
    rw (written-control c h low) (
      inr (inr (inl (_, refl, unit, low_scalar c (omega arith)))),
      (
        (omega arith, omega arith),
        (
          (omega arith, omega arith),
          ((omega arith, omega arith), ((omega arith, omega arith), graphic)),
        ),
      ),
    )

for-itself : (c : ℕ) → HasNoLetter c → space ≤ c → c < 128 → IsWrittenFor c (written c)
for-itself c h high low =
    rw (written-itself c h high)
    (inl ((low_scalar c (omega arith), high, h.0, h.1), sym (encode_ascii c low)), ((high, low), tt))

for-ascii : (c : ℕ) → c < 128 → IsWrittenFor c (written c)
for-ascii c low =
    elim (cases_eq c quotation_mark) [
      | inl is ↦ for-letter quotation_mark c quotation_mark refl refl (omega arith, omega arith) is
      | inr mark ↦
          elim (cases_eq c backslash) [
            | inl is ↦ for-letter backslash c backslash refl refl (omega arith, omega arith) is
            | inr slash ↦
                elim (cases_eq c backspace) [
                  | inl is ↦ for-letter small_b c backspace refl refl (omega arith, omega arith) is
                  | inr back ↦
                      elim (cases_eq c form_feed) [
                        | inl is ↦ for-letter small_f c form_feed refl refl (omega arith, omega arith) is
                        | inr feed ↦
                            elim (cases_eq c newline) [
                              | inl is ↦ for-letter small_n c newline refl refl (omega arith, omega arith) is
                              | inr line ↦
                                  elim (cases_eq c carriage_return) [
                                    | inl is ↦ for-letter small_r c carriage_return refl refl (
                                      omega arith,
                                      omega arith,
                                    ) is
                                    | inr carriage ↦
                                        elim (cases_eq c tab) [
                                          | inl is ↦ for-letter small_t c tab refl refl (omega arith, omega arith) is
                                          | inr stop ↦
                                              elim (cases_lt c space) [
                                                | inl control ↦
                                                    for-control c (mark, slash, back, feed, line, carriage, stop)
                                                    control
                                                | inr high ↦ for-itself c (
                                                  mark,
                                                  slash,
                                                  back,
                                                  feed,
                                                  line,
                                                  carriage,
                                                  stop,
                                                ) high low
                                              ]
                                        ]
                                  ]
                            ]
                      ]
                ]
          ]
    ]

-- a run of bytes that stand for themselves is written as itself

plain-written : (c : ℕ) → is_plain c ≡ true → written c ≡ c ∷ []
plain-written c is = grind (arith, nat_tests)

run-step : (c : ℕ) (b : List ℕ) (t : Bool) → is_plain c ≡ t
    → take (prefix_len is_plain b) b ++ flat_map written (drop (prefix_len is_plain b) b) ≡ flat_map written b →
    take (cond t (1 + prefix_len is_plain b) 0) (c ∷ b)
    ++ flat_map written (drop (cond t (1 + prefix_len is_plain b) 0) (c ∷ b)) ≡ flat_map written (c ∷ b)
run-step c b true is rest = rw (plain-written c is, add_comm 1 (prefix_len is_plain b), add-one) (ap (λ l. c ∷ l) rest)
run-step c b false is rest = refl

pub written_run : (b : List ℕ)
    → take (prefix_len is_plain b) b ++ flat_map written (drop (prefix_len is_plain b) b) ≡ flat_map written b
written_run [] = refl
written_run (c ∷ b) = run-step c b (is_plain c) refl (written_run b)

-- a character of several bytes is written as itself

bytes-high : (c k : ℕ) → 128 ≤ c → k < length (encode_utf8 c) → 128 ≤ get_or (encode_utf8 c) k 0
bytes-high c k high within =
    elim (cases_lt (get_or (encode_utf8 c) k 0) 128) [
      | inl low ↦ let is = inside_one c [] (encode_utf8 c) k (sym (append-nil (encode_utf8 c))) within low in
          absurd (omega (arith, is))
      | inr is ↦ is
    ]

high-run : (b : List ℕ) → ((k : ℕ) → k < length b → 128 ≤ get_or b k 0) → (flat_map written b ≡ b)
    × AllByRecursion (λ c. space ≤ c) b
high-run [] high = (refl, tt)
high-run (c ∷ b) high =
    let first : 128 ≤ c = high 0 (omega arith) in
    let rest = high-run b (λ k within. high (suc k) (omega arith)) in
    let itself : written c ≡ c ∷ [] =
    written-itself c (
      omega arith,
      omega arith,
      omega arith,
      omega arith,
      omega arith,
      omega arith,
      omega arith,
    ) (omega arith) in
    (rw (itself, rest.0), (omega arith, rest.1))

above_ascii : (c : ℕ) → nat_lt c 128 ≡ false → 128 ≤ c
above_ascii c high = grind (arith, nat_tests)

pub written_high : (c : ℕ) → nat_lt c 128 ≡ false → flat_map written (encode_utf8 c) ≡ encode_utf8 c
written_high c high = (high-run (encode_utf8 c) (λ k within. bytes-high c k (above_ascii c high) within)).0

piece : (c : ℕ) → IsScalar c → StandsFor (flat_map written (encode_utf8 c)) c
    × IsClean (flat_map written (encode_utf8 c))
piece c is_scalar =
    elim (cases_lt c 128) [
      | inl low ↦ let (stands, graphic) = for-ascii c low in
          let same : flat_map written (encode_utf8 c) ≡ written c = rw (encode_ascii c low) (append-nil (written c)) in
          rw same (stands, clean-graphic (written c) graphic)
      | inr high ↦ let (itself, above) = high-run (encode_utf8 c) (λ k within. bytes-high c k high within) in
          rw itself (inl ((is_scalar, omega arith, omega arith, omega arith), refl), (IsUtf8-encode c is_scalar, above))
    ]

pieces : (cs : List ℕ) → scalars cs ≡ true → SpellsCharacters cs (flat_map written (encode_utf8_all cs))
    × IsClean (flat_map written (encode_utf8_all cs))
pieces [] all = (refl, (IsUtf8-nil, tt))
pieces (c ∷ cs) all =
    let both = and-both (scalar c) (scalars cs) all in
    let (stands, clean) = piece c both.0 in
    let (rest, rest_clean) = pieces cs both.1 in
    rw (flat_map-append written (encode_utf8 c) (encode_utf8_all cs))
    ((_, _, refl, stands, rest), clean-append _ _ clean rest_clean)

clean-mark : IsClean (quotation_mark ∷ [])
clean-mark = clean-graphic (quotation_mark ∷ []) ((omega arith, omega arith), tt)

-- The compact text of a string spells that string.
pub quoted-spells : (text : List ℕ) → IsUtf8 text → SpellsString text (quoted text) × IsClean (quoted text)
quoted-spells text (cs, (all, is)) =
    let (spells, clean) = pieces cs all in
    subst (λ t. SpellsString t (quoted t) × IsClean (quoted t)) is (
      (cs, _, refl, spells, refl),
      clean-append (quotation_mark ∷ []) _ clean-mark
          (clean-append _ (quotation_mark ∷ []) clean clean-mark),
    )
