use Rattle.std.proofs.Common.{◌≡◌, ◌∙◌, ap, sym, subst, map, take, take_all, ◌++◌, ◌∷◌, []}
use Rattle.std.proofs.lemmas.List.{map_more}
use Rattle.city_grid.specs.Axes.{number_texts}
use Rattle.city_feature.specs.Origin.{IsOrigin}
use Rattle.city_feature.specs.Values.{header_value}
use Rattle.city_feature.specs.declared.base.Base.TheVariants.{Least}
use Rattle.city_feature.proofs.FirstLeast.{own_is_least}
use Rattle.city_feature.proofs.joining.origin.least_origin.Goals as goal

pub loop-header-init : goal.loop-header-init
loop-header-init c =
    own_is_least (header_value c.args.first.now) c.own_origin-origin.result.transform
    (number_texts c.own_origin-origin.result.translation) c.own_origin-origin.ensures.transform
    c.own_origin-origin.ensures.translation

pub loop-header-preserved : goal.loop-header-preserved
loop-header-preserved c =
    let header = c.header-item.result in
    let others = c.args.others.now in
    let before = map header_value (take c.loop-header.header-index others) in
    let more = map_more header_value others c.loop-header.header-index header c.loop-header-test.true
    ∙ ap (λ h. before ++ header_value h ∷ []) (sym c.header-item.is) in
    subst (λ tiles. IsOrigin Least (header_value c.args.first.now) tiles c.lowered-origin.result.transform
    (number_texts c.lowered-origin.result.translation)) (sym more)
    (c.lowered-origin.ensures (header_value c.args.first.now) before c.loop-header.invariant)

pub returns : goal.returns
returns c =
    let others = c.args.others.now in
    let origin = c.loop-header.origin in
    let index = c.loop-header.header-index in
    let all : take index others ≡ others = take_all index others c.loop-header-test.false in
    subst (λ tiles. IsOrigin Least (header_value c.args.first.now) tiles origin.transform
    (number_texts origin.translation)) (ap (map header_value) all) c.loop-header.invariant
