use Rattle.std.proofs.Common.{lit<, arith, ◌≡◌, ◌∙◌, ap, to_z, of_z, w64, unsigned_abs}
use Rattle.std.proofs.lemmas.Int.{ints}
use Rattle.city_feature.proofs.choices.Cuts.{steps_text}
use Rattle.city_feature.proofs.choices.area.reader.steps.Goals as goal

pub returns-then-unsigned_abs-le-MAX_STEPS-clause-some :
    goal.returns-then-unsigned_abs-le-MAX_STEPS-clause-some
returns-then-unsigned_abs-le-MAX_STEPS-clause-some c =
    let parsed = c.in-Ok.ensures.value.0 in
    let kept : to_z w64 (of_z w64 c.in-Ok.steps) ≡ c.in-Ok.steps = omega (arith, ints, parsed) in
    let no_plus = c.if-starts_with.ensures.byte (lit< tt) (lit< tt) (λ w o h. h) in
    steps_text c.args.text.now _ no_plus parsed.0.0 (kept
    ∙ parsed.1) (omega (
      arith,
      ints,
      kept,
      ap unsigned_abs kept,
      c.unsigned_abs.ensures.value,
      c.if-unsigned_abs-le-MAX_STEPS.true,
    ))
