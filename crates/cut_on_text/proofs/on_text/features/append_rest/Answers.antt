use Rattle.std.proofs.Common.{◌∙◌, ◌++◌, map, ap, append_assoc}
use Rattle.city_json.specs.Compact.{compact}
use Rattle.city_feature.specs.Feature.{vertices_tree}
use Rattle.cut_on_text.specs.FeatureText.{middle_text}
use Rattle.city_families.specs.Chosen.{point_at}
use Rattle.cut_on_text.proofs.TextMembers.{on_some_more}
use Rattle.cut_on_text.proofs.on_text.features.append_rest.Goals as goal

pub returns : goal.returns
returns c = on_some_more c.append_points.result
    (λ made points stand. made points stand ∙ (ap
    (λ l. l ++ compact (vertices_tree (map (point_at points) c.args.numbers.now))) c.in_ok-append_text.ensures
    ∙ append_assoc c.args.line.now middle_text (compact (vertices_tree (map (point_at points) c.args.numbers.now)))))
    c.append_points.ensures
