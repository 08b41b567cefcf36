use Rattle.std.proofs.Common.{sym, subst, arith}
use Rattle.std.proofs.lemmas.Int.{ints}
use Rattle.city_feature.specs.Area.{IsStepsText}
use Rattle.city_feature.proofs.choices.Cuts.{next_steps, last_steps}
use Rattle.city_feature.proofs.choices.area.reader.area.Goals as goal

pub returns-in_default-clause-none : goal.returns-in_default-clause-none
returns-in_default-clause-none c =
    λ area reads. c.in_default.ensures.none reads.min_x _ area.min_x reads.spelled reads.writes_min_x

pub returns-in_default-steps_and_rest-clause-none :
    goal.returns-in_default-steps_and_rest-clause-none
returns-in_default-steps_and_rest-clause-none c =
    λ area reads.
    let a = c.in-Some.ensures.some in
    let x = next_steps _ _ _ _ _ _ _ a.1 a.2 reads.spelled reads.writes_min_x in
    c.in_default-steps_and_rest.ensures.none reads.min_y _ area.min_y x.1 reads.writes_min_y

pub returns-in_default-steps_and_rest-2-clause-none :
    goal.returns-in_default-steps_and_rest-2-clause-none
returns-in_default-steps_and_rest-2-clause-none c =
    λ area reads.
    let a = c.in-Some.ensures.some in
    let b = c.in-Some-steps_and_rest.ensures.some in
    let x = next_steps _ _ _ _ _ _ _ a.1 a.2 reads.spelled reads.writes_min_x in
    let y = next_steps _ _ _ _ _ _ _ b.1 b.2 x.1 reads.writes_min_y in
    c.in_default-steps_and_rest-2.ensures.none reads.max_x _ area.max_x y.1 reads.writes_max_x

pub returns-in_default-steps-clause-none : goal.returns-in_default-steps-clause-none
returns-in_default-steps-clause-none c =
    λ area reads.
    let a = c.in-Some.ensures.some in
    let b = c.in-Some-steps_and_rest.ensures.some in
    let d = c.in-Some-steps_and_rest-2.ensures.some in
    let x = next_steps _ _ _ _ _ _ _ a.1 a.2 reads.spelled reads.writes_min_x in
    let y = next_steps _ _ _ _ _ _ _ b.1 b.2 x.1 reads.writes_min_y in
    let z = next_steps _ _ _ _ _ _ _ d.1 d.2 y.1 reads.writes_max_x in
    c.in_default-steps.ensures.none area.max_y (subst (λ t. IsStepsText t area.max_y) (sym z.1) reads.writes_max_y)

pub returns-then-max_x-min_x-clause-none : goal.returns-then-max_x-min_x-clause-none
returns-then-max_x-min_x-clause-none c =
    λ area reads.
    let a = c.in-Some.ensures.some in
    let b = c.in-Some-steps_and_rest.ensures.some in
    let d = c.in-Some-steps_and_rest-2.ensures.some in
    let x = next_steps _ _ _ _ _ _ _ a.1 a.2 reads.spelled reads.writes_min_x in
    let y = next_steps _ _ _ _ _ _ _ b.1 b.2 x.1 reads.writes_min_y in
    let z = next_steps _ _ _ _ _ _ _ d.1 d.2 y.1 reads.writes_max_x in
    omega (arith, ints, x.0, z.0, area.ordered_x, c.if-max_x-min_x.true)

pub returns-then-max_y-min_y-clause-none : goal.returns-then-max_y-min_y-clause-none
returns-then-max_y-min_y-clause-none c =
    λ area reads.
    let a = c.in-Some.ensures.some in
    let b = c.in-Some-steps_and_rest.ensures.some in
    let d = c.in-Some-steps_and_rest-2.ensures.some in
    let x = next_steps _ _ _ _ _ _ _ a.1 a.2 reads.spelled reads.writes_min_x in
    let y = next_steps _ _ _ _ _ _ _ b.1 b.2 x.1 reads.writes_min_y in
    let z = next_steps _ _ _ _ _ _ _ d.1 d.2 y.1 reads.writes_max_x in
    let last = last_steps _ _ _ _ c.in-Some-steps.ensures.some z.1 reads.writes_max_y in
    omega (arith, ints, y.0, last, area.ordered_y, c.if-max_y-min_y.true)
