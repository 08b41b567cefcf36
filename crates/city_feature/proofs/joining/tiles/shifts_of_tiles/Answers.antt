use Rattle.std.proofs.Common.{ap, map}
use Rattle.std.proofs.lemmas.List.{drop_all}
use Rattle.city_feature.specs.Values.{header_value, lent_members}
use Rattle.city_feature.proofs.JoinedTiles.{all_agree, all_known}
use Rattle.city_feature.proofs.joining.tiles.shifts_of_tiles.Goals as goal

pub returns-clause-ok : goal.returns-clause-ok
returns-clause-ok c =
    let loop = c.loop-header in
    let none = ap (map header_value) (drop_all loop.header-index c.args.headers.now c.loop-header-test.false) in
    all_agree _ _ _ _ _ _ loop.shifts.items _ none c.from_vec.ensures loop.invariant.agree

pub returns-clause-known : goal.returns-clause-known
returns-clause-known c =
    let loop = c.loop-header in
    let none = ap (map header_value) (drop_all loop.header-index c.args.headers.now c.loop-header-test.false) in
    all_known (lent_members c.args.extensions.now) _
    (map header_value c.args.headers.now) _ none loop.invariant.extensions
