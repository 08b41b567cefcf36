-- Where strings end in a compact text.
use Rattle.std.proofs.Common.{◌≡◌, ◌≢◌, ◌++◌, ◌∙◌, ◌<◌, ◌+◌, ◌-◌, ◌/◌, ◌%◌, ℕ, List, [], ◌∷◌, Bool, true, false, length, drop, get_or, inl, inr, refl, ap, sym, subst, arith, take, length-append, length-drop}
use Rattle.std.proofs.lemmas.List.{drop-drop}
use Rattle.std.proofs.lemmas.Bool.{cases_eq}
use Rattle.std.proofs.lemmas.Bool.Decides.{nat_tests}
use Rattle.std.proofs.lemmas.Grind.{flat_map-append}
use Rattle.std.specs.Char.{digit_char}
use Rattle.std.specs.List.{flat_map, prefix_len}
use Rattle.city_json.specs.Bytes.{quotation_mark, backslash, backspace, form_feed, newline, carriage_return, tab, space, small_b, small_f, small_n, small_r, small_t, small_u, digit_zero}
use Rattle.city_json.specs.Compact.{written}
use Rattle.city_json.specs.ReadString.{is_plain}
use Rattle.city_json.proofs.PassScalars.{rest_is}
use Rattle.city_json.proofs.Places.{drop_one}

pub first_same : (x y : ℕ) (xs ys : List ℕ) → x ∷ xs ≡ y ∷ ys → x ≡ y
first_same x y xs ys e = cc

pub others_same : (x y : ℕ) (xs ys : List ℕ) → x ∷ xs ≡ y ∷ ys → xs ≡ ys
others_same x y xs ys e = cc

-- what is written for a byte

plain_itself : (c : ℕ) → is_plain c ≡ true → written c ≡ c ∷ []
plain_itself c plain = grind (arith, nat_tests)

-- an escape: two bytes, and then bytes that stand for themselves
record IsEscaped (c : ℕ) : Type 0 where
  pub letter : ℕ
  pub more : List ℕ
  pub is : written c ≡ backslash ∷ letter ∷ more
  pub again : flat_map written more ≡ more

plain_digit : (d : ℕ) → d < 16 → is_plain (digit_char d) ≡ true
plain_digit d low = grind (arith, nat_tests)

low_written : (c : ℕ) → c ≢ quotation_mark → c ≢ backslash → c ≢ backspace → c ≢ form_feed → c ≢ newline
    → c ≢ carriage_return → c ≢ tab → c < space
    → written c ≡ backslash ∷ small_u ∷ digit_zero ∷ digit_zero ∷ digit_char (c / 16) ∷ digit_char (c % 16) ∷ []
low_written c a b d e f g h low = grind (arith, nat_tests)

digits_again : (x y : ℕ) → x < 16 → y < 16
    → flat_map written (digit_zero ∷ digit_zero ∷ digit_char x ∷ digit_char y ∷ [])
    ≡ digit_zero ∷ digit_zero ∷ digit_char x ∷ digit_char y ∷ []
digits_again x y a b = rw (plain_itself (digit_char x) (plain_digit x a), plain_itself (digit_char y) (plain_digit y b))

one_letter : (letter c m : ℕ) → written m ≡ backslash ∷ letter ∷ [] → c ≡ m → IsEscaped c
one_letter letter c m is same = record { letter = letter; more = []; is = ap written same ∙ is; again = refl }

not_plain : (c : ℕ) → is_plain c ≡ false → c ≢ quotation_mark → c ≢ backslash → c < space
not_plain c unplain mark slash = grind (arith, nat_tests)

escaped : (c : ℕ) → is_plain c ≡ false → IsEscaped c
escaped c unplain =
    elim (cases_eq c quotation_mark) [
      | inl is ↦ one_letter quotation_mark c quotation_mark refl is
      | inr mark ↦ elim (cases_eq c backslash) [
        | inl is ↦ one_letter backslash c backslash refl is
        | inr slash ↦ elim (cases_eq c backspace) [
          | inl is ↦ one_letter small_b c backspace refl is
          | inr back ↦ elim (cases_eq c form_feed) [
            | inl is ↦ one_letter small_f c form_feed refl is
            | inr feed ↦ elim (cases_eq c newline) [
              | inl is ↦ one_letter small_n c newline refl is
              | inr line ↦ elim (cases_eq c carriage_return) [
                | inl is ↦ one_letter small_r c carriage_return refl is
                | inr carriage ↦ elim (cases_eq c tab) [
                  | inl is ↦ one_letter small_t c tab refl is
                  | inr stop ↦
                      let low = not_plain c unplain mark slash in
                      record {
                        letter = small_u;
                        more = digit_zero ∷ digit_zero ∷ digit_char (c / 16) ∷ digit_char
                            (c % 16) ∷ [];
                        is = low_written c mark slash back feed line carriage stop low;
                        again =
                            digits_again (c / 16) (c % 16) (omega arith) (omega arith);
                      }
                ]
              ]
            ]
          ]
        ]
      ]
    ]

-- after a run of plain bytes: the closing mark, or an escape
abbrev IsNext : List ℕ → List ℕ → Type 0
IsNext [] rest = Unit {0}
IsNext (c ∷ left) rest = is_plain c ≡ false

pub record AfterRun (b rest : List ℕ) : Type 0 where
  pub left : List ℕ
  pub is : drop (prefix_len is_plain b) b ≡ flat_map written left ++ quotation_mark ∷ rest
  pub next : IsNext left rest

run_more : (c : ℕ) (b rest : List ℕ) → is_plain c ≡ true → AfterRun b rest → AfterRun (c ∷ b) rest
run_more c b rest plain run = record {
  left = run.left;
  is =
      rw plain (sym (drop-drop (prefix_len is_plain b) 1 (c ∷ b)) ∙ run.is);
  next = run.next;
}

run_stops : (c : ℕ) (content b rest : List ℕ) → is_plain c ≡ false
    → b ≡ flat_map written (c ∷ content) ++ quotation_mark ∷ rest → AfterRun b rest
run_stops c content b rest unplain is =
    let escape = escaped c unplain in
    let begins : b ≡ backslash ∷ (escape.letter ∷ escape.more ++ flat_map written content) ++ quotation_mark ∷ rest =
    is ∙ ap (λ w. (w ++ flat_map written content) ++ quotation_mark ∷ rest) escape.is in
    record {
      left = c ∷ content;
      is = ap (λ l. drop (prefix_len is_plain l) l) begins ∙ (sym begins ∙ is);
      next =
          unplain;
    }

run_step : (c : ℕ) (content rest : List ℕ) (plain : Bool) → is_plain c ≡ plain
    → AfterRun (flat_map written content ++ quotation_mark ∷ rest) rest
    → AfterRun (flat_map written (c ∷ content) ++ quotation_mark ∷ rest) rest
run_step c content rest true plain run = subst
    (λ w. AfterRun ((w ++ flat_map written content) ++ quotation_mark ∷ rest) rest) (sym (plain_itself c plain))
    (run_more c (flat_map written content ++ quotation_mark ∷ rest) rest plain run)
run_step c content rest false unplain run =
    run_stops c content (flat_map written (c ∷ content) ++ quotation_mark ∷ rest) rest unplain refl

run_of : (content rest : List ℕ) → AfterRun (flat_map written content ++ quotation_mark ∷ rest) rest
run_of [] rest = record { left = []; is = refl; next = tt }
run_of (c ∷ content) rest = run_step c content rest (is_plain c) refl (run_of content rest)

pub after_run : (content b rest : List ℕ) → b ≡ flat_map written content ++ quotation_mark ∷ rest → AfterRun b rest
after_run content b rest is = subst (λ l. AfterRun l rest) (sym is) (run_of content rest)

-- the byte after the run is the closing mark, and then the rest
pub run_closes : (left rest tail : List ℕ) → flat_map written left ++ quotation_mark ∷ rest ≡ quotation_mark ∷ tail
    → IsNext left rest → tail ≡ rest
run_closes [] rest tail is next = cc
run_closes (c ∷ left) rest tail is unplain =
    let escape = escaped c unplain in
    let begins : flat_map written (c ∷ left) ++ quotation_mark ∷ rest
    ≡ backslash ∷ (escape.letter ∷ escape.more ++ flat_map written left) ++ quotation_mark ∷ rest =
    ap (λ w. (w ++ flat_map written left) ++ quotation_mark ∷ rest) escape.is in
    absurd (differ _ _ (sym begins ∙ is))
  where
    differ : (x y : List ℕ) → backslash ∷ x ≡ quotation_mark ∷ y → ⊥
    differ x y e = cc

-- or an escape, after which the string goes on
pub run_escapes : (left rest tail : List ℕ) (b : ℕ) → b ≢ quotation_mark
    → flat_map written left ++ quotation_mark ∷ rest ≡ b ∷ tail → IsNext left rest → (more : List ℕ)
    × (drop 1 tail ≡ flat_map written more ++ quotation_mark ∷ rest) × (0 < length tail)
run_escapes [] rest tail b other is next = absurd (other cc)
run_escapes (c ∷ left) rest tail b other is unplain =
    let escape = escaped c unplain in
    let begins : flat_map written (c ∷ left) ++ quotation_mark ∷ rest
    ≡ backslash ∷ escape.letter ∷ ((escape.more ++ flat_map written left) ++ quotation_mark ∷ rest) =
    ap (λ w. (w ++ flat_map written left) ++ quotation_mark ∷ rest) escape.is in
    let tail_is : tail ≡ escape.letter ∷ ((escape.more ++ flat_map written left) ++ quotation_mark ∷ rest) =
    after_first _ _ _ _ (sym is ∙ begins) in
    let more : flat_map written (escape.more ++ left) ≡ escape.more ++ flat_map written left =
    flat_map-append written escape.more left ∙ ap (λ l. l ++ flat_map written left) escape.again in (
      escape.more ++ left,
      ap (drop 1) tail_is ∙ ap (λ l. l ++ quotation_mark ∷ rest) (sym more),
      rw tail_is (omega arith),
    )
  where
    after_first : (x y : ℕ) (xs ys : List ℕ) → x ∷ xs ≡ y ∷ ys → xs ≡ ys
    after_first x y xs ys e = cc

-- the same in a text

nonempty : (l m : List ℕ) (c : ℕ) → l ≡ m ++ c ∷ [] → 0 < length l
nonempty l m c is = omega (arith, ap length is, length-append m (c ∷ []))

-- more bytes stand before the text's end
pub not_at_end : (text content rest : List ℕ) (i : ℕ) → drop i text ≡ flat_map written content ++ quotation_mark ∷ rest
    → i < length text
not_at_end text content rest i is = omega (
  arith,
  ap length is,
  length-append (flat_map written content) (quotation_mark ∷ rest),
  length-drop i text,
)

pub run_at : (text content rest : List ℕ) (i n : ℕ) → n ≡ prefix_len is_plain (take (length text - i) (drop i text))
    → drop i text ≡ flat_map written content ++ quotation_mark ∷ rest
    → (left : List ℕ) × (drop (i + n) text ≡ flat_map written left ++ quotation_mark ∷ rest) × IsNext left rest
run_at text content rest i n count is =
    let run = after_run content (drop i text) rest is in
    let same : n ≡ prefix_len is_plain (drop i text) = count ∙ ap (prefix_len is_plain) (rest_is text i) in
    (run.left, sym (drop-drop n i text) ∙ (ap (λ k. drop k (drop i text)) same ∙ run.is), run.next)

pub string_closes : (text content rest : List ℕ) (i n : ℕ)
    → n ≡ prefix_len is_plain (take (length text - i) (drop i text))
    → drop i text ≡ flat_map written content ++ quotation_mark ∷ rest
    → i + n < length text → get_or text (i + n) 0 ≡ quotation_mark → drop (i + n + 1) text ≡ rest
string_closes text content rest i n count is within mark =
    let run = run_at text content rest i n count is in
    run_closes run.0 rest (drop (i + n + 1) text) (sym run.1 ∙ drop_one text (i + n) quotation_mark within mark) run.2

pub string_goes_on : (text content rest : List ℕ) (i n : ℕ)
    → n ≡ prefix_len is_plain (take (length text - i) (drop i text))
    → drop i text ≡ flat_map written content ++ quotation_mark ∷ rest
    → i + n < length text → get_or text (i + n) 0 ≢ quotation_mark → (more : List ℕ)
    × (drop (i + n + 2) text ≡ flat_map written more ++ quotation_mark ∷ rest) × (i + n + 1 < length text)
string_goes_on text content rest i n count is within other =
    let run = run_at text content rest i n count is in
    let next = run_escapes run.0 rest (drop (i + n + 1) text) (get_or text (i + n) 0) other
    (sym run.1 ∙ drop_one text (i + n) (get_or text (i + n) 0) within refl) run.2 in
    let two : i + n + 2 ≡ i + n + 1 + 1 = omega arith in (
      next.0,
      ap (λ k. drop k text) two ∙ (sym (drop-drop 1 (i + n + 1) text) ∙ next.1),
      omega (arith, next.2, length-drop (i + n + 1) text),
    )
