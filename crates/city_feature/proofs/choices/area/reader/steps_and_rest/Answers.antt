use Rattle.std.proofs.Common.{lit<, arith, ◌≡◌, ◌∙◌, subst, sym, to_z, of_z, w64}
use Rattle.std.proofs.lemmas.Int.{ints}
use Rattle.city_feature.specs.Area.{IsStepsText}
use Rattle.city_feature.proofs.choices.Cuts.{no_cut, front_of_cut, cut_so, steps_lack_comma}
use Rattle.city_feature.proofs.choices.area.reader.steps_and_rest.Goals as goal

pub returns-in_default-clause-none : goal.returns-in_default-clause-none
returns-in_default-clause-none c =
    λ front rest steps cut reads.
    no_cut c.args.text.now front rest (c.in_default.ensures.byte (lit< tt) (λ w o h. h))
    (steps_lack_comma front steps reads) cut

pub returns-in_default-steps-clause-none : goal.returns-in_default-steps-clause-none
returns-in_default-steps-clause-none c =
    λ front rest steps cut reads.
    let around = c.in-Some.ensures.byte (lit< tt) (λ w o h. h) in
    let same = around.0 ∙ front_of_cut c.args.text.now front rest (steps_lack_comma front steps reads) cut in
    c.in_default-steps.ensures.none steps (subst (λ t. IsStepsText t steps) (sym same) reads)

pub returns-clause-some : goal.returns-clause-some
returns-clause-some c =
    let around = c.in-Some.ensures.byte (lit< tt) (λ w o h. h) in
    let reads = c.in-Some-steps.ensures.some in
    let kept : to_z w64 (of_z w64 c.in-Some-steps.steps) ≡ c.in-Some-steps.steps =
    omega (arith, ints, reads.in_range) in (
      c.in-Some.front.now,
      cut_so c.args.text.now _ _ around.2 around.0 around.1,
      subst (IsStepsText c.in-Some.front.now) (sym kept) reads,
    )
