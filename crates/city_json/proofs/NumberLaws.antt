-- Reading a number gives what the grammar calls one, and finds each that ends where it should.
use Rattle.std.proofs.Common.{◌≡◌, ◌≢◌, ◌⊎◌, inl, inr, ℕ, ◌<◌, ◌≤◌, ◌-◌, Bool, true, false, List, [], ◌∷◌, ◌++◌, Option, Some, None, length, take, refl, sym, ◌∙◌, ap, subst, arith, append_assoc, length-append, ◌==◌, ◌↔◌, IsTrue, ◌||◌, if◌then◌else◌}
use Rattle.std.specs.Char.{is_ascii_digit, digit_value}
use Rattle.std.specs.Option.{option_map, option_and_then}
use Rattle.std.specs.List.{AllByRecursion}
use Rattle.std.specs.Str.Parse.{AllDigits}
use Rattle.std.proofs.lemmas.List.{append-nil}
use Rattle.std.proofs.lemmas.Bool.Decides.{nat_tests}
use Rattle.std.proofs.lemmas.Option.{option_and_then_some}
use Rattle.std.proofs.lemmas.Str.Parse.{digit_from_value}
use Rattle.std.proofs.Math.Seq.{take-append_seam}
use Rattle.city_json.specs.Bytes.{digit_zero, digit_one, digit_nine, minus, plus, point, small_e, large_e}
use Rattle.city_json.specs.Number.{AreDigits, IsMinus, IsWhole, IsFraction, IsSign, IsExponent, IsNumber}
use Rattle.city_json.specs.NumberAt.{past_digits, past_some_digits, past_whole, past_minus, past_sign, past_fraction, past_exponent, past_number, split_before, number_at, EndsNumber, StartsNumber, is_number_byte}

-- the bytes are a front with the property, and the rest
abbrev pub Splits : (List ℕ → Type 0) → List ℕ → List ℕ → Type 0
Splits P b rest = (front : List ℕ) × (b ≡ front ++ rest) × P front

value_from_digit : (c : ℕ) → is_ascii_digit c ≡ true → digit_value c < 10
value_from_digit c e = grind (arith, nat_tests)

digit_from_value_test : (c : ℕ) → digit_value c < 10 → is_ascii_digit c ≡ true
digit_from_value_test c h = let r : (48 ≤ c) × (c ≤ 57) = digit_from_value c h in grind (arith, nat_tests)

-- Sound: what is passed over is what the grammar says.

digits-step : (c : ℕ) (cs : List ℕ) → Splits (AllDigits 10) cs (past_digits cs) → (t : Bool) → is_ascii_digit c ≡ t
    → Splits (AllDigits 10) (c ∷ cs) (if t then past_digits cs else c ∷ cs)
digits-step c cs (front, e, digits) true is = (c ∷ front, ap (λ l. c ∷ l) e, (value_from_digit c is, digits))
digits-step c cs s false is = ([], refl, tt)

pub digits-split : (b : List ℕ) → Splits (AllDigits 10) b (past_digits b)
digits-split [] = ([], refl, tt)
digits-split (c ∷ cs) = digits-step c cs (digits-split cs) (is_ascii_digit c) refl

at_rest : (P : List ℕ → Type 0) (b r s : List ℕ) → r ≡ s → Splits P b r → Splits P b s
at_rest P b r s e h = subst (λ rest. Splits P b rest) e h

some_digits-step : (c : ℕ) (cs rest : List ℕ) (t : Bool) → is_ascii_digit c ≡ t
    → (if t then Some (past_digits cs) else None) ≡ Some rest → Splits AreDigits (c ∷ cs) rest
some_digits-step c cs rest true is e =
    let (front, split, digits) = digits-split cs in
    at_rest AreDigits (c ∷ cs) (past_digits cs) rest (cc) (
      c ∷ front,
      ap (λ l. c ∷ l) split,
      (omega arith, (value_from_digit c is, digits)),
    )
some_digits-step c cs rest false is e = cc

some_digits-split : (b rest : List ℕ) → past_some_digits b ≡ Some rest → Splits AreDigits b rest
some_digits-split [] rest e = cc
some_digits-split (c ∷ cs) rest e = some_digits-step c cs rest (is_ascii_digit c) refl e

-- digits of which the first is no zero
whole-from_digits : (c : ℕ) (cs rest : List ℕ) (t : Bool) → (c ≢ digit_zero) → is_ascii_digit c ≡ t
    → (if t then Some (past_digits cs) else None) ≡ Some rest → Splits IsWhole (c ∷ cs) rest
whole-from_digits c cs rest true other is e =
    let (front, split, digits) = digits-split cs in
    let low : digit_one ≤ c = grind (arith, nat_tests) in
    let high : c ≤ digit_nine = grind (arith, nat_tests) in
    at_rest IsWhole (c ∷ cs) (past_digits cs) rest (cc) (c ∷ front, ap (λ l. c ∷ l) split, inr (low, high, digits))
whole-from_digits c cs rest false other is e = cc

whole-step : (c : ℕ) (cs rest : List ℕ) (t : Bool) → (c == digit_zero) ≡ t
    → (if t then Some cs else past_some_digits (c ∷ cs)) ≡ Some rest → Splits IsWhole (c ∷ cs) rest
whole-step c cs rest true is e =
    at_rest IsWhole (c ∷ cs) cs rest (cc) (c ∷ [], refl, inl (grind (arith, nat_tests), refl))
whole-step c cs rest false is e = whole-from_digits c cs rest (is_ascii_digit c) (grind (arith, nat_tests)) refl e

whole-split : (b rest : List ℕ) → past_whole b ≡ Some rest → Splits IsWhole b rest
whole-split [] rest e = cc
whole-split (c ∷ cs) rest e = whole-step c cs rest (c == digit_zero) refl e

minus-step : (c : ℕ) (cs : List ℕ) (t : Bool) → (c == minus) ≡ t → Splits IsMinus (c ∷ cs) (if t then cs else c ∷ cs)
minus-step c cs true is = (c ∷ [], refl, inr (ap (λ d. d ∷ []) (grind (arith, nat_tests))))
minus-step c cs false is = ([], refl, inl refl)

minus-split : (b : List ℕ) → Splits IsMinus b (past_minus b)
minus-split [] = ([], refl, inl refl)
minus-split (c ∷ cs) = minus-step c cs (c == minus) refl

is_sign : (c : ℕ) → (c == plus || c == minus) ≡ true → IsSign (c ∷ [])
is_sign c is = let which : (c ≡ minus) ⊎ (c ≡ plus) = grind (arith, nat_tests) in
    elim which [ inl e ↦ inr (inl (ap (λ d. d ∷ []) e)) | inr e ↦ inr (inr (ap (λ d. d ∷ []) e)) ]

sign-step : (c : ℕ) (cs : List ℕ) (t : Bool) → (c == plus || c == minus) ≡ t
    → Splits IsSign (c ∷ cs) (if t then cs else c ∷ cs)
sign-step c cs true is = (c ∷ [], refl, is_sign c is)
sign-step c cs false is = ([], refl, inl refl)

sign-split : (b : List ℕ) → Splits IsSign b (past_sign b)
sign-split [] = ([], refl, inl refl)
sign-split (c ∷ cs) = sign-step c cs (c == plus || c == minus) refl

fraction-step : (c : ℕ) (cs rest : List ℕ) (t : Bool) → (c == point) ≡ t
    → (if t then past_some_digits cs else Some (c ∷ cs)) ≡ Some rest → Splits IsFraction (c ∷ cs) rest
fraction-step c cs rest true is e =
    let (front, split, digits) = some_digits-split cs rest e in
    (c ∷ front, ap (λ l. c ∷ l) split, (grind (arith, nat_tests), digits))
fraction-step c cs rest false is e = at_rest IsFraction (c ∷ cs) (c ∷ cs) rest (cc) ([], refl, tt)

fraction-split : (b rest : List ℕ) → past_fraction b ≡ Some rest → Splits IsFraction b rest
fraction-split [] rest e = at_rest IsFraction [] [] rest (cc) ([], refl, tt)
fraction-split (c ∷ cs) rest e = fraction-step c cs rest (c == point) refl e

exponent-step : (c : ℕ) (cs rest : List ℕ) (t : Bool) → (c == small_e || c == large_e) ≡ t
    → (if t then past_some_digits (past_sign cs) else Some (c ∷ cs)) ≡ Some rest → Splits IsExponent (c ∷ cs) rest
exponent-step c cs rest true is e =
    let (sign, split, is_sign) = sign-split cs in
    let (digits, split_digits, are_digits) = some_digits-split (past_sign cs) rest e in
    let all : cs ≡ (sign ++ digits) ++ rest = split
    ∙ (ap (λ l. sign ++ l) split_digits ∙ sym (append_assoc sign digits rest)) in
    (c ∷ (sign ++ digits), ap (λ l. c ∷ l) all, (grind (arith, nat_tests), (sign, digits, refl, is_sign, are_digits)))
exponent-step c cs rest false is e = at_rest IsExponent (c ∷ cs) (c ∷ cs) rest (cc) ([], refl, tt)

exponent-split : (b rest : List ℕ) → past_exponent b ≡ Some rest → Splits IsExponent b rest
exponent-split [] rest e = at_rest IsExponent [] [] rest (cc) ([], refl, tt)
exponent-split (c ∷ cs) rest e = exponent-step c cs rest (c == small_e || c == large_e) refl e

joined : (b m w f x r1 r2 r3 rest : List ℕ) → b ≡ m ++ r1 → r1 ≡ w ++ r2 → r2 ≡ f ++ r3 → r3 ≡ x ++ rest
    → b ≡ (m ++ (w ++ (f ++ x))) ++ rest
joined b m w f x r1 r2 r3 rest e1 e2 e3 e4 =
    rw (append_assoc m (w ++ (f ++ x)) rest, append_assoc w (f ++ x) rest, append_assoc f x rest) (cc)

number-split : (b rest : List ℕ) → past_number b ≡ Some rest → Splits IsNumber b rest
number-split b rest e =
    option_and_then_some past_exponent (option_and_then past_fraction (past_whole (past_minus b))) rest e
    (λ r3 e3 ex. option_and_then_some past_fraction (past_whole (past_minus b)) r3 e3
    (λ r2 e2 ef.
    let (m, em, is_m) = minus-split b in
    let (w, ew, is_w) = whole-split (past_minus b) r2 e2 in
    let (f, sf, is_f) = fraction-split r2 r3 ef in
    let (x, sx, is_x) = exponent-split r3 rest ex in (
      m ++ (w ++ (f ++ x)),
      joined b m w f x (past_minus b) r2 r3 rest em ew sf sx,
      record {
        minus_sign = m;
        whole = w;
        fraction = f;
        exponent = x;
        spelled = refl;
        is_minus = is_m;
        is_whole = is_w;
        is_fraction = is_f;
        is_exponent = is_x;
      },
    )))

pub split-front : (b front rest : List ℕ) → b ≡ front ++ rest → take (length b - length rest) b ≡ front
split-front b front rest e =
    let n : length b - length rest ≡ length front = omega (arith, ap length e, length-append front rest) in
    rw (n, e) (take-append_seam front rest)

sound-step : (b text rest : List ℕ) (o : Option (List ℕ)) → past_number b ≡ o
    → option_map (split_before b) o ≡ Some (text, rest) → (b ≡ text ++ rest) × IsNumber text
sound-step b text rest None is e = cc
sound-step b text rest (Some r) is e =
    let pair : split_before b r ≡ (text, rest) = cc in
    let (front, split, number) = number-split b r is in
    let front_is : front ≡ text = sym (split-front b front r split) ∙ ap (λ p. p.0) pair in
    let rest_is : r ≡ rest = ap (λ p. p.1) pair in
    (cc, subst (λ t. IsNumber t) front_is number)

pub sound : (b text rest : List ℕ) → number_at b ≡ Some (text, rest) → (b ≡ text ++ rest) × IsNumber text
sound b text rest e = sound-step b text rest (past_number b) refl e

-- Complete: what the grammar says is passed over, where nothing goes on with it.

pub digits-passed : (digits rest : List ℕ) → AllDigits 10 digits → past_digits rest ≡ rest
    → past_digits (digits ++ rest) ≡ rest
digits-passed [] rest all ends = ends
digits-passed (c ∷ cs) rest all ends =
    let is : is_ascii_digit c ≡ true = digit_from_value_test c all.0 in
    rw is (digits-passed cs rest all.1 ends)

some_digits-passed : (digits rest : List ℕ) → AreDigits digits → past_digits rest ≡ rest
    → past_some_digits (digits ++ rest) ≡ Some rest
some_digits-passed [] rest are ends = absurd (omega (arith, are.0))
some_digits-passed (c ∷ cs) rest are ends =
    let is : is_ascii_digit c ≡ true = digit_from_value_test c are.1.0 in
    rw is (ap (λ l. Some l) (digits-passed cs rest are.1.1 ends))

whole-passed : (whole rest : List ℕ) → IsWhole whole → past_digits rest ≡ rest → past_whole (whole ++ rest) ≡ Some rest
whole-passed [] rest is ends = absurd is
whole-passed (c ∷ cs) rest (inl is) ends = rw (is.0, is.1)
whole-passed (c ∷ cs) rest (inr is) ends =
    let other : (c == digit_zero) ≡ false = grind (arith, nat_tests) in
    let digit : is_ascii_digit c ≡ true = grind (arith, nat_tests) in
    rw (other, digit) (ap (λ l. Some l) (digits-passed cs rest is.2 ends))

pub minus-passed : (minus_sign whole rest : List ℕ) → IsMinus minus_sign → IsWhole whole
    → past_minus (minus_sign ++ (whole ++ rest)) ≡ whole ++ rest
minus-passed m [] rest is is_whole = absurd is_whole
minus-passed m (c ∷ cs) rest (inr is) is_whole = rw is
minus-passed m (c ∷ cs) rest (inl is) is_whole =
    let other : (c == minus) ≡ false =
    elim is_whole [ inl zero ↦ grind (arith, nat_tests) | inr more ↦ grind (arith, nat_tests) ] in
    rw (is, other)

sign-passed : (sign digits rest : List ℕ) → IsSign sign → AreDigits digits
    → past_sign ((sign ++ digits) ++ rest) ≡ digits ++ rest
sign-passed sign [] rest is are = absurd (omega (arith, are.0))
sign-passed sign (c ∷ cs) rest (inr (inl is)) are = rw is
sign-passed sign (c ∷ cs) rest (inr (inr is)) are = rw is
sign-passed sign (c ∷ cs) rest (inl is) are =
    let digit : is_ascii_digit c ≡ true = digit_from_value_test c are.1.0 in
    let other : (c == plus || c == minus) ≡ false = grind (arith, nat_tests) in
    rw (is, other)

fraction-passed : (fraction rest : List ℕ) → IsFraction fraction → past_digits rest ≡ rest
    → past_fraction rest ≡ Some rest → past_fraction (fraction ++ rest) ≡ Some rest
fraction-passed [] rest is no_digit no_point = no_point
fraction-passed (c ∷ cs) rest is no_digit no_point = rw is.0 (some_digits-passed cs rest is.1 no_digit)

exponent-passed : (exponent rest : List ℕ) → IsExponent exponent → past_digits rest ≡ rest
    → past_exponent rest ≡ Some rest → past_exponent (exponent ++ rest) ≡ Some rest
exponent-passed [] rest is no_digit no_e = no_e
exponent-passed (c ∷ cs) rest (mark, (sign, digits, split, is_sign, are_digits)) no_digit no_e =
    let is : (c == small_e || c == large_e) ≡ true = grind (arith, nat_tests) in
    rw (is, split, sign-passed sign digits rest is_sign are_digits) (some_digits-passed digits rest are_digits no_digit)

-- An exponent or a fraction goes on with no digits, and an exponent with no fraction.
pub digits-before_exponent : (exponent rest : List ℕ) → IsExponent exponent → past_digits rest ≡ rest
    → past_digits (exponent ++ rest) ≡ exponent ++ rest
digits-before_exponent [] rest is ends = ends
digits-before_exponent (c ∷ cs) rest is ends =
    let mark : (c ≡ small_e) ⊎ (c ≡ large_e) = is.0 in
    let other : is_ascii_digit c ≡ false = grind (arith, nat_tests) in
    rw other

fraction-before_exponent : (exponent rest : List ℕ) → IsExponent exponent → past_fraction rest ≡ Some rest
    → past_fraction (exponent ++ rest) ≡ Some (exponent ++ rest)
fraction-before_exponent [] rest is ends = ends
fraction-before_exponent (c ∷ cs) rest is ends =
    let mark : (c ≡ small_e) ⊎ (c ≡ large_e) = is.0 in
    let other : (c == point) ≡ false = grind (arith, nat_tests) in
    rw other

pub digits-before_fraction : (fraction rest : List ℕ) → IsFraction fraction → past_digits rest ≡ rest
    → past_digits (fraction ++ rest) ≡ fraction ++ rest
digits-before_fraction [] rest is ends = ends
digits-before_fraction (c ∷ cs) rest is ends = rw is.0

-- what ends a number is passed by no part of one
digits-at_end : (rest : List ℕ) → EndsNumber rest → past_digits rest ≡ rest
digits-at_end [] ends = refl
digits-at_end (c ∷ cs) ends = let other : is_ascii_digit c ≡ false = grind (arith, nat_tests) in rw other

fraction-at_end : (rest : List ℕ) → EndsNumber rest → past_fraction rest ≡ Some rest
fraction-at_end [] ends = refl
fraction-at_end (c ∷ cs) ends = let other : (c == point) ≡ false = grind (arith, nat_tests) in rw other

exponent-at_end : (rest : List ℕ) → EndsNumber rest → past_exponent rest ≡ Some rest
exponent-at_end [] ends = refl
exponent-at_end (c ∷ cs) ends = let other : (c == small_e || c == large_e) ≡ false = grind (arith, nat_tests) in
    rw other

regrouped : (m w f x rest : List ℕ) → (m ++ (w ++ (f ++ x))) ++ rest ≡ m ++ (w ++ (f ++ (x ++ rest)))
regrouped m w f x rest = simp append_assoc

number-passed : (text rest : List ℕ) → IsNumber text → EndsNumber rest → past_number (text ++ rest) ≡ Some rest
number-passed text rest number ends =
    let m = number.minus_sign in
    let w = number.whole in
    let f = number.fraction in
    let x = number.exponent in
    let no_digit = digits-before_exponent x rest number.is_exponent (digits-at_end rest ends) in
    let no_point = fraction-before_exponent x rest number.is_exponent (fraction-at_end rest ends) in
    rw (
      number.spelled,
      regrouped m w f x rest,
      minus-passed m w (f ++ (x ++ rest)) number.is_minus number.is_whole,
      whole-passed w (f ++ (x ++ rest)) number.is_whole
          (digits-before_fraction f (x ++ rest) number.is_fraction no_digit),
      fraction-passed f (x ++ rest) number.is_fraction no_digit no_point,
    )
    (exponent-passed x rest number.is_exponent (digits-at_end rest ends) (exponent-at_end rest ends))

pub complete : (text rest : List ℕ) → IsNumber text → EndsNumber rest → number_at (text ++ rest) ≡ Some (text, rest)
complete text rest number ends = rw (number-passed text rest number ends, split-front (text ++ rest) text rest refl)

pub rest_is_short : (b rest : List ℕ) → Some rest ≡ past_number b → length rest ≤ length b
rest_is_short b rest e = let (front, split, number) = number-split b rest (sym e) in
    omega (arith, ap length split, length-append front rest)

-- Bytes are a number where nothing is left of them.

number_alone : (b : List ℕ) → past_number b ≡ Some [] → IsNumber b
number_alone b e = let (front, split, number) = number-split b [] e in
    subst (λ t. IsNumber t) (sym (split ∙ append-nil front)) number

alone_number : (b : List ℕ) → IsNumber b → past_number b ≡ Some []
alone_number b number = subst (λ t. past_number t ≡ Some []) (append-nil b) (number-passed b [] number tt)

pub all_read : (b rest : List ℕ) (t : Bool) → Some rest ≡ past_number b → t ≡ (length rest == 0) → IsTrue t ↔ IsNumber b
all_read b [] t e is = (λ _. number_alone b (sym e), λ number. is)
all_read b (c ∷ cs) t e is = (
  λ all. absurd (grind (arith, nat_tests)),
  λ number. let all : past_number b ≡ Some [] =
      alone_number b number in cc,
)

pub none_read : (b : List ℕ) → None ≡ past_number b → IsTrue false ↔ IsNumber b
none_read b e = (λ all. cc, λ number. let all : past_number b ≡ Some [] = alone_number b number in cc)

-- The first byte tells a number.

starts_with_whole : (whole rest : List ℕ) → IsWhole whole → StartsNumber (whole ++ rest)
starts_with_whole [] rest is = absurd is
starts_with_whole (c ∷ cs) rest (inl is) = rw is.0
starts_with_whole (c ∷ cs) rest (inr is) = grind (arith, nat_tests)

pub number_starts : (text : List ℕ) → IsNumber text → StartsNumber text
number_starts text number =
    let others = number.fraction ++ number.exponent in
    let goes : (m : List ℕ) → IsMinus m → StartsNumber (m ++ (number.whole ++ others)) = λ m is. elim is [
      | inl none ↦ rw none (starts_with_whole number.whole others number.is_whole)
      | inr sign ↦ rw sign
    ] in
    rw number.spelled (goes number.minus_sign number.is_minus)

-- No other byte stands in a number.

abbrev AreNumberBytes : List ℕ → Type 0
AreNumberBytes = AllByRecursion (λ c. is_number_byte c ≡ true)

bytes-append : (xs ys : List ℕ) → AreNumberBytes xs → AreNumberBytes ys → AreNumberBytes (xs ++ ys)
bytes-append [] ys first second = second
bytes-append (x ∷ xs) ys first second = (first.0, bytes-append xs ys first.1 second)

bytes-digits : (digits : List ℕ) → AllDigits 10 digits → AreNumberBytes digits
bytes-digits [] all = tt
bytes-digits (c ∷ cs) all = let is : is_ascii_digit c ≡ true = digit_from_value_test c all.0 in
    (rw is, bytes-digits cs all.1)

bytes-minus : (m : List ℕ) → IsMinus m → AreNumberBytes m
bytes-minus m (inl is) = rw is tt
bytes-minus m (inr is) = rw is (refl, tt)

bytes-whole : (whole : List ℕ) → IsWhole whole → AreNumberBytes whole
bytes-whole [] is = absurd is
bytes-whole (c ∷ cs) (inl is) = rw (is.0, is.1) (refl, tt)
bytes-whole (c ∷ cs) (inr is) = (grind (arith, nat_tests), bytes-digits cs is.2)

bytes-fraction : (fraction : List ℕ) → IsFraction fraction → AreNumberBytes fraction
bytes-fraction [] is = tt
bytes-fraction (c ∷ cs) is = (grind (arith, nat_tests), bytes-digits cs is.1.1)

bytes-sign : (sign : List ℕ) → IsSign sign → AreNumberBytes sign
bytes-sign sign (inl is) = rw is tt
bytes-sign sign (inr (inl is)) = rw is (refl, tt)
bytes-sign sign (inr (inr is)) = rw is (refl, tt)

bytes-exponent : (exponent : List ℕ) → IsExponent exponent → AreNumberBytes exponent
bytes-exponent [] is = tt
bytes-exponent (c ∷ cs) (mark, (sign, digits, split, is_sign, are_digits)) = (
  grind (arith, nat_tests),
  rw split
      (bytes-append sign digits (bytes-sign sign is_sign) (bytes-digits digits are_digits.1)),
)

pub IsNumber-bytes : (text : List ℕ) → IsNumber text → AllByRecursion (λ c. is_number_byte c ≡ true) text
IsNumber-bytes text number =
    let fraction = bytes-append number.fraction number.exponent (bytes-fraction number.fraction number.is_fraction)
    (bytes-exponent number.exponent number.is_exponent) in
    let whole = bytes-append number.whole (number.fraction ++ number.exponent)
    (bytes-whole number.whole number.is_whole) fraction in
    rw number.spelled (bytes-append number.minus_sign (number.whole ++ (number.fraction ++ number.exponent))
    (bytes-minus number.minus_sign number.is_minus) whole)
