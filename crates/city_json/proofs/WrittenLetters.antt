-- An escape by a letter that is written so for its character stays as it stands.
use Rattle.std.proofs.Common.{◌≡◌, ◌∙◌, ◌<◌, ◌≤◌, ◌+◌, ◌++◌, ℕ, true, List, [], ◌∷◌, Some, length, drop, get_or, refl, ap, sym, subst, inl, inr, arith, slice_range, encode_utf8}
use Rattle.std.proofs.lemmas.Bool.{cases_eq}
use Rattle.std.proofs.lemmas.Bool.Decides.{nat_tests}
use Rattle.std.proofs.lemmas.Str.{encode_ascii}
use Rattle.std.specs.List.{flat_map}
use Rattle.city_json.specs.Bytes.{quotation_mark, backslash, small_b, small_f, small_n, small_r, small_t}
use Rattle.city_json.specs.Compact.{written}
use Rattle.city_json.specs.Compacting.{shown, TakenEscape}
use Rattle.city_json.specs.ReadString.{escape_at}
use Rattle.city_json.specs.WrittenLetters.{is_letter_written}
use Rattle.city_json.proofs.Places.{drop_one, shown_more, slice_more, slice_one}

-- the letter stands for a character, which is written by a backslash and it
record IsWritten (letter : ℕ) : Type 0 where
  character : ℕ
  is_read : (rest : List ℕ) → escape_at (letter ∷ rest) ≡ Some (character, rest)
  is_written : flat_map written (encode_utf8 character) ≡ backslash ∷ letter ∷ []

mark : IsWritten quotation_mark
unfolding escape_at
mark = record { character = 34; is_read = λ rest. refl; is_written = ap (flat_map written) (encode_ascii 34 (omega arith)) }

itself : IsWritten backslash
unfolding escape_at
itself = record { character = 92; is_read = λ rest. refl; is_written = ap (flat_map written) (encode_ascii 92 (omega arith)) }

back : IsWritten small_b
unfolding escape_at
back = record { character = 8; is_read = λ rest. refl; is_written = ap (flat_map written) (encode_ascii 8 (omega arith)) }

feed : IsWritten small_f
unfolding escape_at
feed = record { character = 12; is_read = λ rest. refl; is_written = ap (flat_map written) (encode_ascii 12 (omega arith)) }

line_end : IsWritten small_n
unfolding escape_at
line_end = record { character = 10; is_read = λ rest. refl; is_written = ap (flat_map written) (encode_ascii 10 (omega arith)) }

return_ : IsWritten small_r
unfolding escape_at
return_ = record { character = 13; is_read = λ rest. refl; is_written = ap (flat_map written) (encode_ascii 13 (omega arith)) }

stop : IsWritten small_t
unfolding escape_at
stop = record { character = 9; is_read = λ rest. refl; is_written = ap (flat_map written) (encode_ascii 9 (omega arith)) }

of_letter : (letter known : ℕ) → letter ≡ known → IsWritten known → IsWritten letter
of_letter letter known same is = subst (λ l. IsWritten l) (sym same) is

letter_written : (letter : ℕ) → is_letter_written letter ≡ true → IsWritten letter
letter_written letter is =
    elim (cases_eq letter quotation_mark) [
      | inl same ↦ of_letter letter quotation_mark same mark
      | inr no1 ↦ elim (cases_eq letter backslash) [
        | inl same ↦ of_letter letter backslash same itself
        | inr no2 ↦ elim (cases_eq letter small_b) [
          | inl same ↦ of_letter letter small_b same back
          | inr no3 ↦ elim (cases_eq letter small_f) [
            | inl same ↦ of_letter letter small_f same feed
            | inr no4 ↦ elim (cases_eq letter small_n) [
              | inl same ↦ of_letter letter small_n same line_end
              | inr no5 ↦ elim (cases_eq letter small_r) [
                | inl same ↦ of_letter letter small_r same return_
                | inr no6 ↦ of_letter letter small_t (grind (arith, nat_tests)) stop
              ]
            ]
          ]
        ]
      ]
    ]

pub letter_taken : (text line : List ℕ) (from at : ℕ) → from ≤ at → at + 1 < length text
    → get_or text at 0 ≡ backslash → is_letter_written (get_or text (at + 1) 0) ≡ true
    → TakenEscape (drop (at + 1) text) (drop (at + 2) text) (shown line text from at) (shown line text from (at + 2))
letter_taken text line from at copied within escapes is =
    let letter = get_or text (at + 1) 0 in
    let known = letter_written letter is in
    let beyond : drop (at + 1) text ≡ letter ∷ drop (at + 1 + 1) text = drop_one text (at + 1) letter within refl in
    let next : (at + 1) + 1 ≡ at + 2 = omega arith in
    let pair : slice_range text at (at + 2) ≡ backslash ∷ letter ∷ [] =
    slice_more text at (at + 1) (at + 2) (omega arith) (omega arith)
    ∙ (ap (λ l. l ++ slice_range text (at + 1) (at + 2)) (slice_one text at backslash (omega arith) escapes)
    ∙ ap (λ l. backslash ∷ l) (ap (λ n. slice_range text (at + 1) n) (sym next)
    ∙ slice_one text (at + 1) letter within refl)) in
    record {
      character = known.character;
      is_read = ap escape_at beyond ∙ (known.is_read (drop (at + 1 + 1) text)
          ∙ ap (λ n. Some (known.character, drop n text)) next);
      is_shown = shown_more line text from at (at + 2) copied (omega arith)
          ∙ ap (λ l. shown line text from at ++ l) (pair ∙ sym known.is_written);
    }
