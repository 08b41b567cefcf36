use Rattle.std.proofs.Common.{◌∙◌, sym, ap, arith}
use Rattle.std.specs.Str.Parse.{digits_value_after}
use Rattle.city_grid.proofs.decimals.DigitValues.{value_after-append}
use Rattle.city_grid.proofs.decimals.Places.{front_is_less, all_is_less}
use Rattle.city_grid.proofs.decimals.digits.join_digits.Goals as goal
use Rattle.city_grid.proofs.decimals.digits.join_digits.Goals.{After-append_zeros}

pub returns-in_err-append_digits : goal.returns-in_err-append_digits
returns-in_err-append_digits c =
    rw c.from_residual.ensures (λ small.
    c.in_err-append_digits.ensures (omega (arith, front_is_less c.args.front.now c.args.more.now c.args.zeros)))

pub returns-in_err-append_digits-2 : goal.returns-in_err-append_digits-2
returns-in_err-append_digits-2 c =
    let front = ap (λ v. digits_value_after 10 v c.args.more.now) c.in_ok-append_digits.ensures.1
    ∙ sym (value_after-append 0 c.args.front.now c.args.more.now) in
    rw c.from_residual-in_err-append_digits-2.ensures
    (λ small. c.in_err-append_digits-2.ensures
    (omega (arith, front, all_is_less c.args.front.now c.args.more.now c.args.zeros)))

pub returns : goal.returns
returns c =
    let front = c.in_ok-append_digits-2.ensures.1
    ∙ ap (λ v. digits_value_after 10 v c.args.more.now) c.in_ok-append_digits.ensures.1
    ∙ sym (value_after-append 0 c.args.front.now c.args.more.now) in
    rw front at c.append_zeros.ensures
