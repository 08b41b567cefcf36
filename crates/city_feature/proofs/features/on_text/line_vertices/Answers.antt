use Rattle.std.proofs.Common.{◌∙◌, ◌↔◌, ◌≤◌, ℕ, List, IfSome, IsTrue, All, ap, inr, length, slice_range, subst, sym}
use Rattle.std.proofs.lemmas.Result.{err_from_is_err_and}
use Rattle.city_json.proofs.ObjectTexts.{lies_inside}
use Rattle.city_json.specs.Compact.{compact}
use Rattle.city_json.specs.Parts.{with_value}
use Rattle.city_grid.specs.Axes.{IsInRange}
use Rattle.city_feature.specs.Area.{Meets}
use Rattle.city_feature.specs.Faults.{IsArrayText, RefusesVertices}
use Rattle.city_feature.specs.Feature.{vertices_tree}
use Rattle.city_feature.specs.LineTexts.{SpellsVertices}
use Rattle.city_feature.proofs.LineTexts.{feature_at, written_vertices}
use Rattle.city_feature.proofs.features.LineFaults.{array_text, vertices_refused}
use Rattle.city_feature.proofs.features.LineVertices.{stay_there}
use Rattle.city_feature.proofs.features.on_text.line_vertices.Goals as goal

pub returns-in-Some-unread_vertices_meet-clause-is : goal.returns-in-Some-unread_vertices_meet-clause-is
returns-in-Some-unread_vertices_meet-clause-is c =
    let there = c.args.line.now in
    let part = c.in-Some.part in
    let (ordered, ps, lies, range, met) = c.in-Some-unread_vertices_meet.ensures in
    let here = ap (λ l. slice_range l part.value part.end) (sym c.text-text.ensures.is) ∙ lies in
    stay_there c.args.area.now c.args.shift there part ps c.in-Some-unread_vertices_meet.meets
    (c.is_still-stay.ensures c.if-stay.true)
    (feature_at there part ps c.text-text.ensures.placed c.in-Some.ensures.shape
    c.in-Some.ensures.part (written_vertices _ ps here range)) range ordered here met

pub spelled_vertices-requires-clause-ordered : goal.spelled_vertices-requires-clause-ordered
spelled_vertices-requires-clause-ordered c =
    (lies_inside c.args.line.now c.text-text.ensures.placed _ c.in-Some.part c.in-Some.ensures.part).0

pub spelled_vertices-requires-clause-within : goal.spelled_vertices-requires-clause-within
spelled_vertices-requires-clause-within c =
    subst (λ l. c.in-Some.part.end ≤ length l) (sym c.text-text.ensures.is)
    (lies_inside c.args.line.now c.text-text.ensures.placed _ c.in-Some.part c.in-Some.ensures.part).1

pub spelled_vertices-requires-clause-array : goal.spelled_vertices-requires-clause-array
spelled_vertices-requires-clause-array c =
    let part = c.in-Some.part in
    subst (λ l. IsArrayText (slice_range l part.value part.end)) (sym c.text-text.ensures.is)
    (array_text c.args.line.now c.text-text.ensures.placed
    c.in-Some.ensures.shape part c.in-Some.ensures.part)

pub returns-in_err-found-clause-refused : goal.returns-in_err-found-clause-refused
returns-in_err-found-clause-refused c =
    let part = c.in-Some.part in
    let fault = c.in_err-found.field-0.0 in
    let e = err_from_is_err_and c.from_residual.result c.from_residual.ensures.1 in
    rw (e.1, e.2) (vertices_refused c.args.line.now c.text-text.ensures.placed
    c.in-Some.ensures.shape part c.in-Some.ensures.part c.args.shift fault
    (subst (λ l. RefusesVertices fault (slice_range l part.value part.end)) c.text-text.ensures.is
    c.in_err-found.ensures.refused))

pub returns-then-stay-2-clause-is : goal.returns-then-stay-2-clause-is
returns-then-stay-2-clause-is c =
    let there = c.args.line.now in
    let part = c.in-Some.part in
    let found = c.in_ok-found in
    let ps = found.found.vertices.items in
    let here = λ (l : List ℕ). slice_range l part.value part.end in
    stay_there c.args.area.now c.args.shift there part ps c.meets_given_area.result
    (c.is_still-stay.ensures c.if-stay-2.true)
    (feature_at there part ps c.text-text.ensures.placed c.in-Some.ensures.shape
    c.in-Some.ensures.part
    (subst (λ l. SpellsVertices (here l) ps) c.text-text.ensures.is found.ensures.spelled)) found.ensures.range
    (lies_inside there c.text-text.ensures.placed _ part c.in-Some.ensures.part).0
    (ap here (sym c.text-text.ensures.is) ∙ found.ensures.written c.if-found.true)
    (subst (λ vs. IsTrue c.meets_given_area.result ↔ IfSome c.args.area.now (λ one. Meets one vs)) c.deref.ensures.value
    c.meets_given_area.ensures)

pub returns-in_err-vertices-clause-refused : goal.returns-in_err-vertices-clause-refused
returns-in_err-vertices-clause-refused c =
    let there = c.args.line.now in
    let part = c.in-Some.part in
    let found = c.in_ok-found in
    let ps = found.found.vertices.items in
    let e = err_from_is_err_and c.from_residual-in_err-vertices.result c.from_residual-in_err-vertices.ensures.1 in
    let refused = c.in_err-vertices.ensures.refusal in
    let (is, placed) = feature_at there part ps c.text-text.ensures.placed
    c.in-Some.ensures.shape c.in-Some.ensures.part
    (subst (λ l. SpellsVertices (slice_range l part.value part.end) ps) c.text-text.ensures.is found.ensures.spelled) in
    rw (e.1, e.2) (inr (refused.0, (ps, is, refused.1)))

pub returns-clause-is : goal.returns-clause-is
returns-clause-is c =
    let there = c.args.line.now in
    let part = c.in-Some.part in
    let found = c.in_ok-found in
    let ps = found.found.vertices.items in
    let (moved_is, range) = c.in_ok-vertices.ensures.ok found.ensures.range in
    let (is, placed) = feature_at there part ps c.text-text.ensures.placed
    c.in-Some.ensures.shape c.in-Some.ensures.part
    (subst (λ l. SpellsVertices (slice_range l part.value part.end) ps) c.text-text.ensures.is found.ensures.spelled) in
    record {
      part = part;
      ps = ps;
      is = is;
      placed = placed;
      range = subst (All IsInRange) moved_is range;
      text = ap (λ vs. with_value there.text part (compact (vertices_tree vs))) moved_is;
      known = moved_is;
    }

pub returns-clause-inside : goal.returns-clause-inside
returns-clause-inside c = lies_inside c.args.line.now c.text-text.ensures.placed _ c.in-Some.part c.in-Some.ensures.part
