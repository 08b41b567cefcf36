use Rattle.std.proofs.Common.{◌∙◌, ap, inl, inr, option_map, subst, sym}
use Rattle.std.proofs.lemmas.Result.{err_from_is_err_and}
use Rattle.city_json.specs.ObjectTexts.{PlacedObject}
use Rattle.city_json.specs.Triples.{HasTriples}
use Rattle.city_feature.specs.Choice.{IsChosen}
use Rattle.city_feature.specs.FeatureLine.{GivesFeature}
use Rattle.city_feature.specs.LineVertices.{LieIn, text_with}
use Rattle.city_feature.proofs.NoObjects.{is_no_object, no_feature}
use Rattle.city_feature.proofs.features.LineFaults.{refuses_line}
use Rattle.city_feature.proofs.features.LineVertices.{given_text}
use Rattle.city_feature.proofs.features.lines.feature_text.Goals as goal

pub returns-in_default-clause-refusal : goal.returns-in_default-clause-refusal
returns-in_default-clause-refusal c =
    let (value, spells, fits, shallow, none) = rw c.in_default.is at c.in_ok-object.ensures.other in
    inr (inl (value, spells, fits, no_feature value (is_no_object c.args.bytes.now value spells none)))

pub text-line-requires : goal.text-line-requires
text-line-requires c = (c.args.bytes.now, rw c.in-Some.is at c.in_ok-object.ensures.object)

pub chosen_vertices-requires : goal.chosen_vertices-requires
chosen_vertices-requires c = record {
  triples = subst (λ (there : PlacedObject). HasTriples there.text c.in-Some.object.triples) (sym c.text-line.ensures.is)
      (rw c.in-Some.is at c.in_ok-object.ensures.triples);
}

pub place_text-requires : goal.place_text-requires
place_text-requires c = record {
  inside = subst (λ (there : PlacedObject). LieIn there.text c.in-Some-2.vertices) c.text-line.ensures.is
      (rw c.in-Some-2.is at c.in_ok-vertices.ensures.inside);
}

pub returns-in_err-vertices-clause-refusal : goal.returns-in_err-vertices-clause-refusal
returns-in_err-vertices-clause-refusal c =
    let told = c.from_residual-in_err-vertices in
    let e = err_from_is_err_and told.result told.ensures.1 in
    let object = rw c.in-Some.is at c.in_ok-object.ensures.object in
    rw (e.1, e.2) (refuses_line c.args.shift c.in_err-vertices.field-0.0 c.args.bytes.now c.text-line.result
    (c.text-line.ensures.spelled c.args.bytes.now object) c.in_err-vertices.ensures.refused)

pub returns-in_default-2-clause-ok : goal.returns-in_default-2-clause-ok
returns-in_default-2-clause-ok c =
    let object = rw c.in-Some.is at c.in_ok-object.ensures.object in
    let line = c.text-line.result.text in
    subst (λ o. GivesFeature (IsChosen c.args.choice.now) c.args.shift c.args.bytes.now
    (option_map (λ found. text_with found line) o)) c.in_default-2.is
    (c.in_ok-vertices.ensures.ok c.args.bytes.now (c.text-line.ensures.spelled c.args.bytes.now object))

pub returns-clause-ok : goal.returns-clause-ok
returns-clause-ok c =
    let object = rw c.in-Some.is at c.in_ok-object.ensures.object in
    let vertices = c.in-Some-2.vertices in
    given_text (IsChosen c.args.choice.now) c.args.shift c.args.bytes.now c.text-line.result.text _
    c.in_ok-vertices.field-0 vertices c.in-Some-2.is
    (c.in_ok-place.ensures ∙ ap (λ (there : PlacedObject). text_with vertices there.text) (sym c.text-line.ensures.is))
    (c.in_ok-vertices.ensures.ok c.args.bytes.now (c.text-line.ensures.spelled c.args.bytes.now object))
