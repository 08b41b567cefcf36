-- Copies with other numbers at the leaves, item by item and member by member.
use Rattle.std.proofs.Common.{◌<◌, ◌^◌, ℕ, zero, suc, List, [], ◌∷◌, get_or, sym, refl, subst, inl, inr, arith}
use Rattle.std.proofs.lemmas.Fmt.{decimal_is_IsNumeral, decimal_digit, first_decimal}
use Rattle.std.proofs.lemmas.List.{append-nil}
use Rattle.std.proofs.lemmas.Str.Parse.{digit_from_value}
use Rattle.std.specs.Fmt.{decimal}
use Rattle.std.specs.Str.Parse.{AllDigits}
use Rattle.city_json.specs.Number.{IsNumber, IsWhole}

whole_from : (ds : List ℕ) → AllDigits 10 ds → 48 < get_or ds 0 0 → IsWhole ds
whole_from [] all first = absurd (omega arith)
whole_from (d ∷ ds) all first = inr (omega arith, (digit_from_value d all.0).1, all.1)

decimal_is_whole : (n : ℕ) → n < 2 ^ 64 → IsWhole (decimal n)
decimal_is_whole zero short = subst IsWhole (sym (decimal_digit 0 (omega arith))) (inl (refl, refl))
decimal_is_whole (suc n) short = whole_from (decimal (suc n)) (decimal_is_IsNumeral (suc n) short).0.1
    (first_decimal (suc n) (omega arith) short)

pub decimal_is_number : (n : ℕ) → n < 2 ^ 64 → IsNumber (decimal n)
decimal_is_number n short = record {
  minus_sign = [];
  whole = decimal n;
  fraction = [];
  exponent = [];
  spelled = sym (append-nil (decimal n));
  is_minus = inl refl;
  is_whole = decimal_is_whole n short;
  is_fraction = tt;
  is_exponent = tt;
}
