use Rattle.std.proofs.Common.{◌≡◌, ◌+◌, ◌≤◌, [], All, arith, subst, sym, rules}
use Rattle.std.proofs.lemmas.List.Elements.{All-push}
use Rattle.city_grid.specs.Axes.{IsInRange}
use Rattle.city_feature.proofs.features.TripleVertices.{GoesTo, all_remain, found_last, found_next}
use Rattle.city_feature.proofs.features.texts.vertices_of_triples.Goals as goal

pub vertices-init : goal.vertices-init
vertices-init c =
    let text = c.args.text.now in
    let long : c.args.from + 4 ≤ c.args.end = omega (arith, c.if-from-end.false, c.if-end-from-lt-MIN_LEN.false) in
    let none : c.in_ok-vertices.vertices.items ≡ [] = search rules in
    let all = all_remain text c.args.from c.args.end (omega (arith, c.if-end-text.false)) long c.requires in
    record {
      within = omega (arith, long);
      remain = all.0;
      goes_to = subst (GoesTo text c.args.from c.args.end (c.args.from + 1)) (sym none) all.1;
      range = subst (All IsInRange) (sym none) (λ k d within. absurd (omega arith));
    }

pub returns-then-found-end-clause-written : goal.returns-then-found-end-clause-written
returns-then-found-end-clause-written c =
    found_last c.args.text.now c.args.from c.vertices.at c.args.end c.in_ok-found.found.end c.in_ok-found.found.vertex
    c.vertices.vertices.items c.push.new.to.items (omega (arith, c.if-end-text.false))
    c.in_ok-push.ensures c.in_ok-found.ensures.is c.vertices.invariant.remain c.vertices.invariant.goes_to
    c.if-found-end.true

pub returns-then-found-end-clause-range : goal.returns-then-found-end-clause-range
returns-then-found-end-clause-range c =
    subst (All IsInRange) (sym c.in_ok-push.ensures)
    (All-push IsInRange c.vertices.vertices.items c.in_ok-found.found.vertex c.vertices.invariant.range
    c.in_ok-found.ensures.range)

pub vertices-preserved : goal.vertices-preserved
vertices-preserved c =
    let more = found_next c.args.text.now c.args.from c.vertices.at c.args.end c.in_ok-found.found.end
    c.in_ok-found.found.vertex c.vertices.vertices.items c.push.new.to.items (omega (arith, c.if-end-text.false))
    c.in_ok-push.ensures c.in_ok-found.ensures.is c.vertices.invariant.remain c.vertices.invariant.goes_to
    (omega (arith, c.if-found-end.false)) in
    record {
      within = omega (arith, c.if-found-end.false);
      remain = more.0;
      goes_to = more.1;
      range = subst (All IsInRange) (sym c.in_ok-push.ensures)
          (All-push IsInRange c.vertices.vertices.items c.in_ok-found.found.vertex c.vertices.invariant.range
          c.in_ok-found.ensures.range);
    }
