use Rattle.std.proofs.Common.{◌≡◌, ◌≤◌, ◌<◌, ◌+◌, take_all, get_or, inl, inr, ap, sym, ◌∙◌, subst, arith}
use Rattle.std.proofs.lemmas.Bool.Decides.{nat_tests}
use Rattle.std.proofs.lemmas.Int.Digits.{digits_more, digits_value_more}
use Rattle.std.proofs.lemmas.Str.{digit_value_digit}
use Rattle.std.specs.Fmt.{decimal}
use Rattle.std.specs.Str.Parse.{AllDigits, digits_value}
use Rattle.cut_by_value.proofs.Indices.{no_index_by_digit, no_index_by_size, plain_of_number, some_text}
use Rattle.cut_by_value.proofs.leaves.index.Goals as goal

pub returns-then-not-is_ascii_digit-clause-none : goal.returns-then-not-is_ascii_digit-clause-none
returns-then-not-is_ascii_digit-clause-none c =
    no_index_by_digit c.args.count c.args.text.now c.loop-byte.byte-index (omega arith) (omega arith)
    (λ range. grind (arith, nat_tests))

pub returns-then-value-count-clause-none : goal.returns-then-value-count-clause-none
returns-then-value-count-clause-none c =
    let range : (48 ≤ get_or c.args.text.now c.loop-byte.byte-index 0)
    × (get_or c.args.text.now c.loop-byte.byte-index 0 ≤ 57) = grind (arith, nat_tests) in
    let digit = digit_value_digit (get_or c.args.text.now c.loop-byte.byte-index 0) range in
    let more = digits_value_more 10 c.args.text.now c.loop-byte.byte-index (omega arith) in
    no_index_by_size c.args.count _ c.args.text.now (c.loop-byte.byte-index + 1) (omega arith)
    (omega (arith, more, digit, c.loop-byte.invariant.value)) c.if-value-count.true

pub loop-byte-preserved : goal.loop-byte-preserved
loop-byte-preserved c =
    let range : (48 ≤ get_or c.args.text.now c.loop-byte.byte-index 0)
    × (get_or c.args.text.now c.loop-byte.byte-index 0 ≤ 57) = grind (arith, nat_tests) in
    let digit = digit_value_digit (get_or c.args.text.now c.loop-byte.byte-index 0) range in
    let more = digits_value_more 10 c.args.text.now c.loop-byte.byte-index (omega arith) in
    record {
      digits = digits_more 10 c.args.text.now c.loop-byte.byte-index (omega arith) c.loop-byte.invariant.digits
          (omega (arith, digit, range));
      value = omega (arith, more, digit, c.loop-byte.invariant.value);
      below = inr (omega arith);
    }

pub returns-clause-some : goal.returns-clause-some
returns-clause-some c =
    let whole = take_all c.loop-byte.byte-index c.args.text.now c.loop-byte-test.false in
    let value : c.loop-byte.value ≡ digits_value 10 c.args.text.now =
    c.loop-byte.invariant.value ∙ ap (digits_value 10) whole in
    let all : AllDigits 10 c.args.text.now = subst (AllDigits 10) whole c.loop-byte.invariant.digits in
    let some = some_text c.args.text.now c.requires in
    let below : c.loop-byte.value < c.args.count =
    elim c.loop-byte.invariant.below [ inl none ↦ absurd (omega (arith, none, some)) | inr less ↦ less ] in (
      below,
      subst (λ n. c.args.text.now ≡ decimal n) (sym value)
          (plain_of_number c.args.text.now c.requires all (omega (arith, value, below))),
      value,
    )
