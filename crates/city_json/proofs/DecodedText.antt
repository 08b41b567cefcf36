-- What is decoded of a text in UTF-8 is in UTF-8.
use Rattle.std.proofs.Common.{◌≡◌, ◌≢◌, ◌++◌, ◌<◌, ◌≤◌, ℕ, zero, suc, true, false, List, [], ◌∷◌, Some, length, refl, sym, ap, subst, ◌∙◌, inl, inr, arith, length-append, encode_utf8, encode_utf8_all, IsUtf8}
use Rattle.std.specs.Char.{digit_value, IsScalar}
use Rattle.std.specs.Str.{IsAscii, all_scalars}
use Rattle.std.specs.Str.Parse.{AllDigits}
use Rattle.std.proofs.lemmas.Bool.{cases_eq, cases_lt, and_parts}
use Rattle.std.proofs.lemmas.Bool.Decides.{nat_tests}
use Rattle.std.proofs.lemmas.Option.{none-some, same_Some}
use Rattle.std.proofs.lemmas.Str.{IsUtf8-append, IsUtf8-encode, IsUtf8-nil, encode_ascii}
use Rattle.std.proofs.lemmas.Str.Ascii.{IsAscii-nil}
use Rattle.simdutf8.proofs.StepsLemmas.{IsUtf8-after_ascii}
use Rattle.city_json.specs.Bytes.{quotation_mark, backslash, small_u, space}
use Rattle.city_json.specs.ReadString.{is_plain, escape_at, decoded, prepend}
use Rattle.city_json.specs.Strings.{letter_meaning}
use Rattle.city_json.proofs.ReadString.{IsEscape, and_then_cases, map_cases, escape_at-sound, escape_at-shorter, decoded-cons, decoded-nil, decoded-quote, decoded-run, decoded-broken}
use Rattle.city_json.proofs.SpelledString.{plain_encode, scalar_piece, some_encoded}

ascii_more : (b : ℕ) (bytes : List ℕ) → b < 128 → IsAscii bytes → IsAscii (b ∷ bytes)
ascii_more b bytes low others zero = low
ascii_more b bytes low others (suc i) = others i

ascii_both : (front back : List ℕ) → IsAscii front → IsAscii back → IsAscii (front ++ back)
ascii_both [] back one two = two
ascii_both (b ∷ front) back one two =
    ascii_more b (front ++ back) (one 0) (ascii_both front back (λ i. one (suc i)) two)

digit_low : (digit : ℕ) → digit_value digit < 16 → digit < 128
digit_low digit small = grind (arith, nat_tests)

letter_low : (letter c : ℕ) → letter_meaning letter ≡ Some c → letter < 128
letter_low letter c means = grind (arith, nat_tests)

digits_low : (digits : List ℕ) → AllDigits 16 digits → IsAscii digits
digits_low [] all = IsAscii-nil
digits_low (digit ∷ digits) all = ascii_more digit digits (digit_low digit all.0) (digits_low digits all.1)

escape_low : (piece : List ℕ) (c : ℕ) → IsEscape (backslash ∷ piece) c → IsAscii piece
escape_low piece c (inl letter) =
    let is : piece ≡ letter.0 ∷ [] = cc in
    subst IsAscii (sym is) (ascii_more letter.0 [] (letter_low letter.0 c letter.2) IsAscii-nil)
escape_low piece c (inr (inl unit)) =
    let is : piece ≡ small_u ∷ unit.0 = cc in
    subst IsAscii (sym is) (ascii_more small_u unit.0 (omega arith) (digits_low unit.0 unit.2.1))
escape_low piece c (inr (inr pair)) =
    let is : piece ≡ small_u ∷ (pair.0 ++ backslash ∷ small_u ∷ pair.1) = cc in
    let second : IsAscii (backslash ∷ small_u ∷ pair.1) =
    ascii_more backslash (small_u ∷ pair.1) (omega arith)
    (ascii_more small_u pair.1 (omega arith) (digits_low pair.1 pair.7.1)) in
    subst IsAscii (sym is) (ascii_more small_u (pair.0 ++ backslash ∷ small_u ∷ pair.1) (omega arith)
    (ascii_both pair.0 (backslash ∷ small_u ∷ pair.1) (digits_low pair.0 pair.5.1) second))

-- the same of shorter texts
abbrev HoldsUpTo : ℕ → Type 0
HoldsUpTo n = (bytes content rest : List ℕ) → length bytes ≤ n → IsUtf8 bytes → decoded bytes ≡ Some (content, rest)
    → IsUtf8 content

at_mark : (others content rest : List ℕ) → decoded (quotation_mark ∷ others) ≡ Some (content, rest) → IsUtf8 content
at_mark others content rest read =
    let same = same_Some ([], others) (content, rest) (sym (decoded-quote others) ∙ read) in
    subst IsUtf8 (ap (λ (p : List ℕ × List ℕ). p.0) same) IsUtf8-nil

at_escape : (n : ℕ) (others content rest : List ℕ) → length others ≤ n → IsUtf8 others → HoldsUpTo n
    → decoded (backslash ∷ others) ≡ Some (content, rest) → IsUtf8 content
at_escape n others content rest few utf8 before read =
    let found = and_then_cases (λ (e : ℕ × List ℕ). prepend (encode_utf8 e.0) (decoded e.1)) (escape_at others)
    (content, rest) (sym (decoded-cons backslash others) ∙ read) in
    let e = found.0 in
    let more = map_cases (λ (r : List ℕ × List ℕ). (encode_utf8 e.0 ++ r.0, r.1)) (decoded e.1) (
      content,
      rest,
    ) found.2 in
    let piece = escape_at-sound others e found.1 in
    let shorter : length e.1 ≤ length others = escape_at-shorter others e found.1 in
    let left : IsUtf8 e.1 = (IsUtf8-after_ascii piece.0 e.1 (escape_low piece.0 e.0 piece.2)).0
    (subst IsUtf8 piece.1 utf8) in
    let scalar : IsScalar e.0 = scalar_piece (backslash ∷ piece.0) e.0 (inr piece.2) in
    subst IsUtf8 (ap (λ (p : List ℕ × List ℕ). p.0) more.2)
    (IsUtf8-append (encode_utf8 e.0) more.0.0 (IsUtf8-encode e.0 scalar)
    (before e.1 more.0.0 more.0.1 (omega (arith, shorter, few)) left more.1))

at_control : (c : ℕ) (others content rest : List ℕ) → c ≢ quotation_mark → c ≢ backslash → c < space
    → decoded (c ∷ others) ≡ Some (content, rest) → IsUtf8 content
at_control c others content rest no_mark no_escape low read =
    let broken : is_plain c ≡ false = grind (arith, nat_tests) in
    absurd (none-some (content, rest) (sym (decoded-broken c others broken no_mark no_escape) ∙ read))

at_plain : (n c : ℕ) (others content rest : List ℕ) → IsScalar c → c ≢ quotation_mark → c ≢ backslash → space ≤ c
    → length others ≤ n → IsUtf8 others → HoldsUpTo n
    → decoded (encode_utf8 c ++ others) ≡ Some (content, rest) → IsUtf8 content
at_plain n c others content rest scalar no_mark no_escape high few utf8 before read =
    let more = map_cases (λ (r : List ℕ × List ℕ). (encode_utf8 c ++ r.0, r.1)) (decoded others) (
      content,
      rest,
    ) (sym (decoded-run (encode_utf8 c) others (plain_encode c (scalar, high, no_mark, no_escape))) ∙ read) in
    subst IsUtf8 (ap (λ (p : List ℕ × List ℕ). p.0) more.2)
    (IsUtf8-append (encode_utf8 c) more.0.0 (IsUtf8-encode c scalar) (before others more.0.0 more.0.1 few utf8 more.1))

at_character : (n c : ℕ) (cs content rest : List ℕ) → length (encode_utf8 c ++ encode_utf8_all cs) ≤ suc n → IsScalar c
    → all_scalars cs ≡ true → HoldsUpTo n
    → decoded (encode_utf8 c ++ encode_utf8_all cs) ≡ Some (content, rest) → IsUtf8 content
at_character n c cs content rest few scalar others before read =
    let utf8 : IsUtf8 (encode_utf8_all cs) = (cs, (others, refl)) in
    let some : 0 < length (encode_utf8 c) = some_encoded c in
    let fewer : length (encode_utf8_all cs) ≤ n =
    omega (arith, length-append (encode_utf8 c) (encode_utf8_all cs), some, few) in
    let low : c < 128 → decoded (c ∷ encode_utf8_all cs) ≡ Some (content, rest) =
    λ is. sym (ap (λ l. decoded (l ++ encode_utf8_all cs)) (encode_ascii c is)) ∙ read in
    elim (cases_eq c quotation_mark) [
      | inl is ↦ at_mark (encode_utf8_all cs) content rest (sym (ap (λ b. decoded (b ∷ encode_utf8_all cs)) is)
          ∙ low (omega (arith, is)))
      | inr no_mark ↦
          elim (cases_eq c backslash) [
            | inl is ↦ at_escape n (encode_utf8_all cs) content rest fewer utf8 before
                (sym (ap (λ b. decoded (b ∷ encode_utf8_all cs)) is) ∙ low (omega (arith, is)))
            | inr no_escape ↦
                elim (cases_lt c space) [
                  | inl is ↦ at_control c (encode_utf8_all cs) content rest no_mark no_escape is
                      (low (omega (arith, is)))
                  | inr high ↦ at_plain n c (encode_utf8_all cs) content rest scalar no_mark no_escape high fewer utf8
                      before read
                ]
          ]
    ]

by_characters : (n : ℕ) (cs bytes content rest : List ℕ) → length bytes ≤ suc n → all_scalars cs ≡ true
    → encode_utf8_all cs ≡ bytes → HoldsUpTo n → decoded bytes ≡ Some (content, rest) → IsUtf8 content
by_characters n [] bytes content rest few all is before read =
    absurd (none-some (content, rest) (sym decoded-nil ∙ (ap decoded is ∙ read)))
by_characters n (c ∷ cs) bytes content rest few all is before read =
    let both = and_parts _ (all_scalars cs) all in
    at_character n c cs content rest (omega (arith, ap length is, few)) both.0 both.1 before (ap decoded is ∙ read)

up_to : (n : ℕ) → HoldsUpTo n
up_to zero [] content rest few utf8 read = absurd (none-some (content, rest) (sym decoded-nil ∙ read))
up_to zero (b ∷ bytes) content rest few utf8 read = absurd (omega (arith, few))
up_to (suc n) bytes content rest few utf8 read =
    by_characters n utf8.0 bytes content rest few utf8.1.0 utf8.1.1 (up_to n) read

pub utf8_decoded : (bytes content rest : List ℕ) → IsUtf8 bytes → decoded bytes ≡ Some (content, rest) → IsUtf8 content
utf8_decoded bytes content rest utf8 read = up_to (length bytes) bytes content rest (omega arith) utf8 read
