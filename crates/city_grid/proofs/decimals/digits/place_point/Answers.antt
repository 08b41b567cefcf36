use Rattle.std.proofs.Common.{arith, refl, ◌++◌, drop}
use Rattle.city_grid.specs.Decimal.{IsPlaced}
use Rattle.city_grid.proofs.decimals.DigitValues.{all_digits-take, all_digits-drop}
use Rattle.city_grid.proofs.decimals.Places.{cut_at, placed_is, placed_from, cut_zeros, zeros_cut, parts_are_zeros, value_of_zeros, if_some_from, if_none_from}
use Rattle.city_grid.proofs.decimals.digits.place_point.Goals as goal

pub returns-then-not-are_zeros-clause-none : goal.returns-then-not-are_zeros-clause-none
returns-then-not-are_zeros-clause-none c = λ n small placed.
    let whole = c.args.whole.now in
    let places = c.args.places.now in
    let kept = c.min-kept.result in
    let more = c.min-more.result in
    let cut = cut_at whole places c.args.place kept more c.requires.whole c.requires.places c.min-kept.ensures
    c.min-more.ensures in
    let zeros = parts_are_zeros (drop kept whole) (drop more places) (all_digits-drop kept whole c.requires.whole)
    (all_digits-drop more places c.requires.places) (placed_is _ _ _ _ _ n cut placed).0 in
    let first = c.if-not-are_zeros.ensures.1 (cut_zeros whole kept zeros.0) in
    grind arith

pub returns-then-not-are_zeros-2-clause-none : goal.returns-then-not-are_zeros-2-clause-none
returns-then-not-are_zeros-2-clause-none c = λ n small placed.
    let whole = c.args.whole.now in
    let places = c.args.places.now in
    let kept = c.min-kept.result in
    let more = c.min-more.result in
    let cut = cut_at whole places c.args.place kept more c.requires.whole c.requires.places c.min-kept.ensures
    c.min-more.ensures in
    let zeros = parts_are_zeros (drop kept whole) (drop more places) (all_digits-drop kept whole c.requires.whole)
    (all_digits-drop more places c.requires.places) (placed_is _ _ _ _ _ n cut placed).0 in
    let first = c.if-not-are_zeros-2.ensures.1 (cut_zeros places more zeros.1) in
    grind arith

pub join_digits-requires-clause-front : goal.join_digits-requires-clause-front
join_digits-requires-clause-front c = all_digits-take c.min-kept.result c.args.whole.now c.requires.whole

pub join_digits-requires-clause-more : goal.join_digits-requires-clause-more
join_digits-requires-clause-more c = all_digits-take c.min-more.result c.args.places.now c.requires.places

pub returns-clause-some : goal.returns-clause-some
returns-clause-some c =
    let whole = c.args.whole.now in
    let places = c.args.places.now in
    let kept = c.min-kept.result in
    let more = c.min-more.result in
    let cut = cut_at whole places c.args.place kept more c.requires.whole c.requires.places c.min-kept.ensures
    c.min-more.ensures in
    let nothing = value_of_zeros (drop kept whole) (drop more places)
    (zeros_cut whole kept (c.are_zeros.ensures.0 c.if-not-are_zeros.false))
    (zeros_cut places more (c.are_zeros-2.ensures.0 c.if-not-are_zeros-2.false)) in
    if_some_from c.join_digits.result _ _ (IsPlaced (whole ++ places) c.args.place) c.join_digits.ensures
    (placed_from _ _ _ _ _ _ cut nothing refl)

pub returns-clause-none : goal.returns-clause-none
returns-clause-none c =
    let whole = c.args.whole.now in
    let places = c.args.places.now in
    let kept = c.min-kept.result in
    let more = c.min-more.result in
    let cut = cut_at whole places c.args.place kept more c.requires.whole c.requires.places c.min-kept.ensures
    c.min-more.ensures in
    if_none_from c.join_digits.result _ _ (IsPlaced (whole ++ places) c.args.place) c.join_digits.ensures
    (λ n placed. (placed_is _ _ _ _ _ n cut placed).1)
