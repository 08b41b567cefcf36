use Rattle.std.proofs.Common.{ap, drop, map}
use Rattle.std.proofs.lemmas.Result.{err_from_is_err_and}
use Rattle.city_grid.specs.Axes.{number_texts}
use Rattle.city_feature.specs.Values.{header_value, lent_members}
use Rattle.city_feature.proofs.JoinedTiles.{all_forward, first_and_others, joined, refused, scale_of_origin}
use Rattle.city_feature.proofs.joining.join_headers.Goals as goal

pub shifts_of_tiles-requires-clause-scale : goal.shifts_of_tiles-requires-clause-scale
shifts_of_tiles-requires-clause-scale c =
    let headers = c.args.headers.now in
    let first = c.index-headers-0.result in
    let origin = c.origin_of-origin.result in
    let are = ap (map header_value) (first_and_others headers first _ c.requires.some c.index-headers-0.is) in
    scale_of_origin c.args.base (header_value first) (map header_value (drop 1 headers)) origin.transform
    (number_texts origin.translation) (c.origin_of-origin.ensures.origin _ _ are)

pub returns-in_err-shifts-clause-refusal : goal.returns-in_err-shifts-clause-refusal
returns-in_err-shifts-clause-refusal c =
    let headers = c.args.headers.now in
    let first = c.index-headers-0.result in
    let origin = c.origin_of-origin.result in
    let are = ap (map header_value) (first_and_others headers first _ c.requires.some c.index-headers-0.is) in
    let p = err_from_is_err_and c.from_residual.result c.from_residual.ensures.1 in
    rw (p.1, p.2) (refused c.args.base (map header_value headers) (header_value first)
    (map header_value (drop 1 headers)) origin.transform (number_texts origin.translation) are
    (c.origin_of-origin.ensures.origin _ _ are)
    (lent_members c.new-extensions.result) _ _ c.new-extensions.ensures c.in_err-shifts.ensures.refusal)

pub returns-clause-ok : goal.returns-clause-ok
returns-clause-ok c =
    let headers = c.args.headers.now in
    let first = c.index-headers-0.result in
    let origin = c.origin_of-origin.result in
    let are = ap (map header_value) (first_and_others headers first _ c.requires.some c.index-headers-0.is) in
    joined c.args.base (map header_value headers) (header_value first)
    (map header_value (drop 1 headers)) origin.transform (number_texts origin.translation) are
    (c.origin_of-origin.ensures.origin _ _ are)
    (lent_members c.new-extensions.result) c.in_ok-shifts.shifts c.in-Ok.line c.new-extensions.ensures
    (lent_members c.shifts_of_tiles.new.extensions) c.in_ok-shifts.ensures.ok c.in_ok-shifts.ensures.known
    c.in-Ok.ensures.ok

pub returns-clause-forward : goal.returns-clause-forward
returns-clause-forward c least =
    let headers = c.args.headers.now in
    let first = c.index-headers-0.result in
    let origin = c.origin_of-origin.result in
    let are = ap (map header_value) (first_and_others headers first _ c.requires.some c.index-headers-0.is) in
    all_forward c.args.base (map header_value headers) (header_value first)
    (map header_value (drop 1 headers)) origin.transform (number_texts origin.translation) are
    (c.origin_of-origin.ensures.origin _ _ are)
    (lent_members c.new-extensions.result) c.in_ok-shifts.shifts c.in_ok-shifts.ensures.ok
    c.origin_of-origin.ensures.above_zero least
