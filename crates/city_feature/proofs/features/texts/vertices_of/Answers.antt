use Rattle.std.proofs.Common.{◌≡◌, [], ◌∷◌, All, arith, subst, sym, rules}
use Rattle.std.proofs.lemmas.List.Elements.{All-push}
use Rattle.city_json.specs.Bytes.{open_bracket, close_bracket}
use Rattle.city_grid.specs.Axes.{IsInRange}
use Rattle.city_feature.proofs.features.TextVertices.{GoesOn, SpellsOn, no_vertices, goes_from, goes_on_next, goes_on_last, spells_from, spells_next, spells_last}
use Rattle.city_feature.proofs.features.texts.vertices_of.Goals as goal

pub returns-then-eq-clause-spelled : goal.returns-then-eq-clause-spelled
returns-then-eq-clause-spelled c =
    let none : c.in_ok-vertices.vertices.items ≡ [] = search rules in
    let same : c.args.text.now ≡ open_bracket ∷ close_bracket ∷ [] = search rules in
    no_vertices c.args.text.now c.in_ok-vertices.vertices.items same none

pub vertices-init : goal.vertices-init
vertices-init c =
    let text = c.args.text.now in
    let opened = c.byte_is.ensures.0 c.if-not-byte_is.false in
    let none : c.in_ok-vertices.vertices.items ≡ [] = search rules in
    record {
      within = omega (arith, opened.0);
      spells = subst (SpellsOn text 1) (sym none) (spells_from text opened.0 opened.1);
      written = λ _. subst (GoesOn text 1) (sym none) (goes_from text opened.0 opened.1);
      range = subst (All IsInRange) (sym none) (λ k d within. absurd (omega arith));
    }

pub returns-then-byte_is-clause-spelled : goal.returns-then-byte_is-clause-spelled
returns-then-byte_is-clause-spelled c =
    let found = c.in_ok-found in
    let closed = c.byte_is-in-vertices.ensures.0 c.if-byte_is.true in
    spells_last c.args.text.now c.vertices.at found.found.end found.found.vertex found.ensures.onward closed.0
    found.ensures.spelled found.ensures.range c.vertices.vertices.items c.push.new.to.items closed.1
    (omega arith) c.in_ok-push.ensures c.vertices.invariant.spells

pub returns-then-byte_is-clause-written : goal.returns-then-byte_is-clause-written
returns-then-byte_is-clause-written c = λ yes.
    let found = c.in_ok-found in
    let closed = c.byte_is-in-vertices.ensures.0 c.if-byte_is.true in
    let as_written = c.both-as_written.ensures yes in
    goes_on_last c.args.text.now c.vertices.at found.found.end found.found.vertex found.ensures.onward closed.0
    (found.ensures.written as_written.1) c.vertices.vertices.items c.push.new.to.items closed.1
    (omega arith) c.in_ok-push.ensures (c.vertices.invariant.written as_written.0)

pub returns-then-byte_is-clause-range : goal.returns-then-byte_is-clause-range
returns-then-byte_is-clause-range c =
    subst (All IsInRange) (sym c.in_ok-push.ensures)
    (All-push IsInRange c.vertices.vertices.items c.in_ok-found.found.vertex c.vertices.invariant.range
    c.in_ok-found.ensures.range)

pub vertices-preserved : goal.vertices-preserved
vertices-preserved c =
    let text = c.args.text.now in
    let at = c.vertices.at in
    let found = c.in_ok-found in
    let v = found.found.vertex in
    let before = c.vertices.vertices.items in
    let after = c.push.new.to.items in
    let pushed = c.in_ok-push.ensures in
    let separated = c.byte_is-in-vertices-2.ensures.0 c.if-not-byte_is-2.false in
    record {
      within = omega (arith, separated.0);
      spells = spells_next text at found.found.end v found.ensures.onward separated.0 found.ensures.spelled
          found.ensures.range before after separated.1 pushed c.vertices.invariant.spells;
      written = λ yes.
          let as_written = c.both-as_written.ensures yes in
          goes_on_next text at found.found.end v found.ensures.onward separated.0
          (found.ensures.written as_written.1) before after separated.1 pushed
          (c.vertices.invariant.written as_written.0);
      range = subst (All IsInRange) (sym pushed)
          (All-push IsInRange before v c.vertices.invariant.range found.ensures.range);
    }
