use Rattle.std.proofs.Common.{◌++◌, ◌∷◌, [], arith, refl}
use Rattle.std.proofs.lemmas.List.Elements.{All-push}
use Rattle.city_grid.specs.Axes.{IsInRange}
use Rattle.city_feature.proofs.features.TextVertices.{goes_on_next, goes_on_last}
use Rattle.city_feature.proofs.features.texts.stands_as_written.Goals as goal

pub returns-then-byte_is : goal.returns-then-byte_is
returns-then-byte_is c =
    let text = c.args.text.now in
    let closed = c.byte_is-in-vertices.ensures.0 c.if-byte_is.true in
    let onward = c.in_ok-end.ensures.onward in
    let (v, written, range) = c.in_ok-end.ensures.is in
    let (read, goes_on, all) = c.vertices.invariant.goes_on in (
      read ++ v ∷ [],
      goes_on_last text c.vertices.at c.in_ok-end.end v onward closed.0 written read
          (read ++ v ∷ []) closed.1 (omega arith) refl goes_on,
      All-push IsInRange read v all range,
    )

pub vertices-preserved : goal.vertices-preserved
vertices-preserved c =
    let text = c.args.text.now in
    let separated = c.byte_is-in-vertices-2.ensures.0 c.if-not-byte_is-2.false in
    let onward = c.in_ok-end.ensures.onward in
    let (v, written, range) = c.in_ok-end.ensures.is in
    let (read, goes_on, all) = c.vertices.invariant.goes_on in
    record {
      within = omega (arith, separated.0);
      goes_on = (
        read ++ v ∷ [],
        goes_on_next text c.vertices.at c.in_ok-end.end v onward separated.0 written
            read (read ++ v ∷ []) separated.1 refl goes_on,
        All-push IsInRange read v all range,
      );
    }
