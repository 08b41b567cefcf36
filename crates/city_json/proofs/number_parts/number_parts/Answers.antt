use Rattle.std.proofs.Common.{◌≡◌, ◌∙◌, ℕ, List, ◌++◌, drop, sym, ap, subst}
use Rattle.std.specs.Str.Parse.{AllDigits, without_leading_sign}
use Rattle.city_json.specs.Number.{IsNumber}
use Rattle.city_json.proofs.PartsOfNumbers.{whole_found, fraction_found, digits_of_whole, digits_of_fraction, digits_of_exponent}
use Rattle.city_json.proofs.number_parts.number_parts.Goals as goal
use Rattle.city_json.proofs.number_parts.number_parts.Goals.{After-past_mark}

abbrev digits_and_rest : List ℕ → List ℕ → List ℕ × List ℕ
digits_and_rest digits rest = (digits, rest)

whole : (c : After-past_mark) (n : IsNumber c.args.bytes.now)
    → digits_and_rest c.split_digits.result.0.now c.split_digits.result.1.now ≡ (n.whole, n.fraction ++ n.exponent)
whole c n = whole_found c.args.bytes.now n _ _ c.past_minus-unsigned.ensures c.split_digits.ensures

fraction : (c : After-past_mark) (n : IsNumber c.args.bytes.now)
    → digits_and_rest c.split_digits-2.result.0.now c.split_digits-2.result.1.now ≡ (drop 1 n.fraction, n.exponent)
fraction c n = fraction_found c.args.bytes.now n _ _ _
    (ap (λ p. p.1) (whole c n)) c.past_point.ensures c.split_digits-2.ensures

pub returns-clause-whole : goal.returns-clause-whole
returns-clause-whole c = λ n. ap (λ p. p.0) (whole (goal.at.returns-clause-whole c).After-past_mark n)

pub returns-clause-fraction : goal.returns-clause-fraction
returns-clause-fraction c = λ n. ap (λ p. p.0) (fraction (goal.at.returns-clause-fraction c).After-past_mark n)

pub returns-clause-exponent : goal.returns-clause-exponent
returns-clause-exponent c = λ n. c.past_mark.ensures
    ∙ ap (λ p. drop 1 p.1) (fraction (goal.at.returns-clause-exponent c).After-past_mark n)

pub returns-clause-digits : goal.returns-clause-digits
returns-clause-digits c =
    let at = (goal.at.returns-clause-digits c).After-past_mark in
    let n = c.requires in
    let exponent = c.past_mark.ensures ∙ ap (λ p. drop 1 p.1) (fraction at n) in (
      subst (AllDigits 10) (sym (ap (λ p. p.0) (whole at n))) (digits_of_whole n.whole n.is_whole),
      subst (AllDigits 10) (sym (ap (λ p. p.0) (fraction at n))) (digits_of_fraction n.fraction n.is_fraction),
      subst (λ x. AllDigits 10 (without_leading_sign x)) (sym exponent) (digits_of_exponent n.exponent n.is_exponent),
    )
