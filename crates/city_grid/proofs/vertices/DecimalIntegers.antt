-- An integer in decimal is a number, so that nothing but memory can be out for it.
use Rattle.std.proofs.Common.{◌≡◌, ◌<◌, ◌^◌, ℕ, zero, suc, sym, ap, refl, subst, inl, inr, List, [], ◌∷◌, get_or, ℤ, pos, negsuc, FitsSigned, w64, arith}
use Rattle.std.proofs.lemmas.Fmt.{decimal_is_IsNumeral, decimal_digit, first_decimal}
use Rattle.std.proofs.lemmas.Int.{ints}
use Rattle.std.proofs.lemmas.List.{append-nil}
use Rattle.std.proofs.lemmas.Str.Parse.{digit_from_value}
use Rattle.std.specs.Fmt.{decimal, signed_decimal}
use Rattle.std.specs.Str.Parse.{AllDigits}
use Rattle.city_json.specs.Bytes.{minus}
use Rattle.city_json.specs.Gives.{RefusesNumber}
use Rattle.city_json.specs.Number.{IsNumber, IsWhole}
use Rattle.byte_streams.specs.declared.fault.Fault.{Fault}
use Rattle.byte_streams.specs.declared.fault.Fault.TheVariants.{Memory, Syntax}

-- digits that do not begin with a zero
whole_from : (ds : List ℕ) → AllDigits 10 ds → 48 < get_or ds 0 0 → IsWhole ds
whole_from [] all first = absurd (omega arith)
whole_from (d ∷ ds) all first = inr (omega arith, (digit_from_value d all.0).1, all.1)

pub decimal_is_whole : (n : ℕ) → n < 2 ^ 64 → IsWhole (decimal n)
decimal_is_whole zero short = subst IsWhole (sym (decimal_digit 0 (omega arith))) (inl (refl, refl))
decimal_is_whole (suc n) short =
    whole_from (decimal (suc n)) (decimal_is_IsNumeral (suc n) short).0.1 (first_decimal (suc n) (omega arith) short)

unfoldable pub decimal_is_number : (z : ℤ) → FitsSigned w64 z → IsNumber (signed_decimal z)
decimal_is_number (pos n) fits =
    record {
      minus_sign = [];
      whole = decimal n;
      fraction = [];
      exponent = [];
      spelled = sym (append-nil (decimal n));
      is_minus = inl refl;
      is_whole = decimal_is_whole n (omega (arith, ints, fits));
      is_fraction = tt;
      is_exponent = tt;
    }
decimal_is_number (negsuc n) fits =
    record {
      minus_sign = minus ∷ [];
      whole = decimal (suc n);
      fraction = [];
      exponent = [];
      spelled = ap (λ ds. minus ∷ ds) (sym (append-nil (decimal (suc n))));
      is_minus = inr refl;
      is_whole = decimal_is_whole (suc n) (omega (arith, ints, fits));
      is_fraction = tt;
      is_exponent = tt;
    }

pub only_memory : (fault : Fault) (text : List ℕ) → RefusesNumber fault text → IsNumber text → fault ≡ Memory
only_memory Memory text refused number = refl
only_memory Syntax text refused number = absurd (refused number)
only_memory other text refused number = absurd refused
