-- Integers of at most sixteen digits in a text, also a zero with a minus sign.
use Rattle.std.proofs.Common.{◌≡◌, ◌∙◌, ◌+◌, ◌<◌, ◌^◌, ℕ, ap, refl, sym, subst, inl, inr, false, true, List, [], ◌∷◌, ◌++◌, length, get_or, slice_range, arith}
use Rattle.city_grid.proofs.ShortIntegers.{numerals}
use Rattle.std.proofs.lemmas.Fmt.{digits_value-decimal}
use Rattle.std.proofs.lemmas.List.{append-nil}
use Rattle.std.specs.Fmt.{decimal}
use Rattle.city_json.proofs.Places.{slice_more, slice_one}
use Rattle.city_json.specs.Bytes.{minus}
use Rattle.city_json.specs.Number.{IsNumber}
use Rattle.city_grid.specs.Decimal.{signed}
use Rattle.city_grid.specs.Vertex.{IsInteger}
use Rattle.city_grid.proofs.vertices.DecimalIntegers.{decimal_is_whole}
use Rattle.city_grid.proofs.vertices.IntegerTexts.{integer_from}

unsigned_number : (n : ℕ) → n < 10 ^ 16 → IsNumber (decimal n)
unsigned_number n small =
    record {
      minus_sign = [];
      whole = decimal n;
      fraction = [];
      exponent = [];
      spelled = sym (append-nil (decimal n));
      is_minus = inl refl;
      is_whole = decimal_is_whole n (omega arith);
      is_fraction = tt;
      is_exponent = tt;
    }

negative_number : (n : ℕ) → n < 10 ^ 16 → IsNumber (minus ∷ decimal n)
negative_number n small =
    record {
      minus_sign = minus ∷ [];
      whole = decimal n;
      fraction = [];
      exponent = [];
      spelled = ap (λ ds. minus ∷ ds) (sym (append-nil (decimal n)));
      is_minus = inr refl;
      is_whole = decimal_is_whole n (omega arith);
      is_fraction = tt;
      is_exponent = tt;
    }

pub unsigned_integer : (text : List ℕ) (n : ℕ) → n < 10 ^ 16 → text ≡ decimal n → IsInteger text (signed false n)
unfolding unsigned_number
unsigned_integer text n small written =
    subst (λ t. IsInteger t (signed false n)) (sym written)
    (subst (IsInteger (decimal n)) (ap (signed false) (digits_value-decimal numerals n (omega arith)))
    (integer_from (decimal n) (unsigned_number n small) false (decimal n) [] [] refl refl refl refl refl refl))

pub negative_integer : (text : List ℕ) (at end n : ℕ) → at < length text → get_or text at 0 ≡ minus → at + 1 < end
    → n < 10 ^ 16 → slice_range text (at + 1) end ≡ decimal n → IsInteger (slice_range text at end) (signed true n)
unfolding negative_number
negative_integer text at end n within is onward small written =
    let marked : slice_range text at end ≡ minus ∷ decimal n =
    slice_more text at (at + 1) end (omega arith) (omega arith)
    ∙ ap (λ l. l ++ slice_range text (at + 1) end) (slice_one text at minus within is)
    ∙ ap (λ l. minus ∷ l) written in
    subst (λ t. IsInteger t (signed true n)) (sym marked)
    (subst (IsInteger (minus ∷ decimal n)) (ap (signed true) (digits_value-decimal numerals n (omega arith)))
    (integer_from (minus ∷ decimal n) (negative_number n small) true (decimal n) []
    [] refl refl refl refl refl refl))
