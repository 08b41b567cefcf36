use Rattle.std.proofs.Common.{◌∙◌, ap, sym}
use Rattle.city_json.specs.Compact.{compact}
use Rattle.city_json.specs.Parts.{with_value}
use Rattle.city_json.specs.TextPlace.{placed_text}
use Rattle.city_feature.specs.Feature.{vertices_tree}
use Rattle.city_feature.specs.LineVertices.{text_with}
use Rattle.city_feature.proofs.features.on_text.place_text.Goals as goal

pub returns-in-Stay : goal.returns-in-Stay
returns-in-Stay c =
    let line = placed_text c.args.place c.args.bytes.now c.args.compact.now in
    c.hand_over.ensures c.args.bytes.now ∙ ap (λ v. text_with v line) (sym c.in-Stay.is)

pub returns-in_ok-write_moved-in-Move : goal.returns-in_ok-write_moved-in-Move
returns-in_ok-write_moved-in-Move c =
    let line = placed_text c.args.place c.args.bytes.now c.args.compact.now in
    c.in_ok-write_moved-in-Move.ensures
    ∙ ap (λ l. with_value l c.in-Move.part (compact (vertices_tree c.deref.result.now))) c.bytes.ensures
    ∙ ap (λ vs. with_value line c.in-Move.part (compact (vertices_tree vs))) c.deref.ensures.value
    ∙ ap (λ v. text_with v line) (sym c.in-Move.is)
