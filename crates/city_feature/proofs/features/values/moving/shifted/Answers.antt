use Rattle.std.proofs.Common.{◌∙◌, ap, sym, subst, length}
use Rattle.std.proofs.lemmas.List.{length-map}
use Rattle.std.proofs.lemmas.Result.{err_from_is_err_and}
use Rattle.city_json.specs.Tree.{tree}
use Rattle.city_grid.specs.Axes.{sum}
use Rattle.city_feature.specs.Feature.{IsFeature, RefusesMove}
use Rattle.city_feature.specs.Values.{feature_value}
use Rattle.city_feature.proofs.features.StillFeature.{still_feature, has_items, move_refused}
use Rattle.city_feature.proofs.features.values.moving.shifted.Goals as goal

pub returns-in_err-vertices-clause-refusal : goal.returns-in_err-vertices-clause-refusal
returns-in_err-vertices-clause-refusal c =
    let p = err_from_is_err_and c.from_residual.result c.from_residual.ensures.1 in
    let fault = c.in_err-vertices.field-0.0 in
    let inside = c.feature.inside in
    let refused = move_refused fault (record { json = inside.json; vertices = inside.vertices.items }) c.args.shift
    c.in_err-vertices.ensures.refusal in
    rw (p.1, p.2) (subst (λ feature. RefusesMove fault (feature_value feature) c.args.shift) c.feature.view_is refused)

pub write_vertices-requires : goal.write_vertices-requires
write_vertices-requires c =
    let inside = c.feature.inside in
    has_items (tree inside.json) inside.vertices.items (length c.deref.result.now) c.feature.invariant.1
    (ap length (c.deref.ensures.value ∙ c.in_ok-vertices.ensures.ok.0)
    ∙ length-map inside.vertices.items (λ p. sum p c.args.shift))

pub invariant_of-result : goal.invariant_of-result
invariant_of-result c =
    let inside = c.feature.inside in
    let written = c.in_ok-write_vertices.ensures in
    let feature = still_feature (tree inside.json) inside.vertices.items c.deref.result.now c.feature.invariant
    written.again in
    subst (IsFeature (tree c.write_vertices.new.json)) c.deref.ensures.value
    (subst (λ value. IsFeature value c.deref.result.now) (sym written.ok) feature)
