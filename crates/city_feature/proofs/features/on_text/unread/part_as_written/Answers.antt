use Rattle.std.proofs.Common.{arith, subst, slice_range}
use Rattle.city_json.proofs.Options.{on_some_more}
use Rattle.city_feature.specs.LineTexts.{IsVerticesText}
use Rattle.city_feature.proofs.TriplesAreVertices.{vertices_text}
use Rattle.city_feature.proofs.features.on_text.unread.part_as_written.Goals as goal

pub returns-then-is_value_of : goal.returns-then-is_value_of
returns-then-is_value_of c =
    let (some, from, end) = c.is_value_of.ensures.0 c.if-is_value_of.true in
    let (within, t) = c.requires.triples some in (
      omega (arith, some, from, end),
      vertices_text c.args.line.now (slice_range c.args.line.now c.args.part.value c.args.part.end) c.args.triples.from
          c.args.triples.end t (λ i. slice_range c.args.line.now (from i) (end i)),
    )

pub returns : goal.returns
returns c = on_some_more c.stands_as_written.result (λ is. (
  c.in_ok-text.ensures.ordered,
  subst IsVerticesText c.in_ok-text.ensures.some is,
)) c.stands_as_written.ensures
