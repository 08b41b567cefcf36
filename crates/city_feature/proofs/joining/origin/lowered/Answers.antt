use Rattle.std.proofs.Common.{◌≡◌, ◌∙◌, ap}
use Rattle.city_grid.specs.Axes.{least, number_texts}
use Rattle.city_feature.specs.Values.{header_value}
use Rattle.city_feature.proofs.FirstLeast.{lowered_origin}
use Rattle.city_feature.proofs.joining.origin.lowered.Goals as goal

pub returns : goal.returns
returns c first others before =
    let own_grid = c.own_origin-own.ensures.transform in
    let new : c.translate-new.result ≡ c.args.header.now.grid.translate = c.translate-new.ensures
    ∙ ap (λ grid. grid.translate) own_grid in
    let lowest = c.least_of.ensures.translate
    ∙ ap (λ grid. least c.args.before.now.transform.translate grid.translate) own_grid in
    lowered_origin first others c.args.before.now.transform (number_texts c.args.before.now.translation) before
    (header_value c.args.header.now)
    (number_texts c.own_origin-own.result.translation) c.own_origin-own.ensures.translation
    c.translate-known.result c.translate-new.result c.translate-known.ensures new c.least_of.result
    c.least_of.ensures.scale lowest
    (record { x = c.text_of_lesser.result.now; y = c.text_of_lesser-2.result.now; z = c.text_of_lesser-3.result.now })
    c.text_of_lesser.ensures c.text_of_lesser-2.ensures c.text_of_lesser-3.ensures
