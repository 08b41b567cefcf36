use Rattle.std.proofs.Common.{◌≡◌, ◌∙◌, sym, slice_range}
use Rattle.city_feature.proofs.LineTexts.{written_vertices}
use Rattle.city_feature.proofs.features.on_text.spelled_vertices.Goals as goal

pub returns-in-Some-clause-spelled : goal.returns-in-Some-clause-spelled
returns-in-Some-clause-spelled c =
    let line = c.args.line.now in
    let part = c.args.part in
    let triples = c.args.triples in
    let (some, from, end) = c.is_value_of.ensures.0 c.if-is_value_of.true in
    let here : slice_range line triples.from triples.end ≡ slice_range line part.value part.end =
    λ i. slice_range line (from i) (end i) in
    written_vertices (slice_range line part.value part.end) c.in-Some.vertices.items
    (sym here ∙ c.in-Some.ensures.written) c.in-Some.ensures.range
