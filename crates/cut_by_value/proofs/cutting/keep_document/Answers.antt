use Rattle.std.proofs.Common.{sym, subst}
use Rattle.std.proofs.lemmas.Result.{err_from_is_err_and}
use Rattle.city_json.specs.Fits.{HasDistinctNames, IsDistinct}
use Rattle.city_json.specs.Tree.{object, tree}
use Rattle.city_families.specs.Families.{RefusesFamilies}
use Rattle.city_families.proofs.WholeDocument.{distinct_objects}
use Rattle.cut_by_value.proofs.WholeDocument.{families_refused, has_features_of, is_cuttable, is_refused}
use Rattle.cut_by_value.proofs.cutting.keep_document.Goals as goal

pub kin_of-requires : goal.kin_of-requires
kin_of-requires g c = subst HasDistinctNames (sym c.members_named-objects.ensures)
    (distinct_objects (tree c.args.document.now) c.requires.distinct).0

pub returns-in_err-kin-clause-refusal : goal.returns-in_err-kin-clause-refusal
returns-in_err-kin-clause-refusal g c =
    let p = err_from_is_err_and c.from_residual-in_err-kin.result c.from_residual-in_err-kin.ensures.1 in
    rw (p.1, p.2) (families_refused (tree c.args.document.now) _ c.in_ok-check_document.ensures.ok
    (subst (RefusesFamilies _) c.members_named-objects.ensures c.in_err-kin.ensures.refusal))

pub keep_features-requires-clause-distinct : goal.keep_features-requires-clause-distinct
keep_features-requires-clause-distinct g c =
    subst (λ ms. IsDistinct (object ms)) (sym c.members_named-objects.ensures)
    (distinct_objects (tree c.args.document.now) c.requires.distinct)

pub returns-in_err-check_boundaries-clause-refusal : goal.returns-in_err-check_boundaries-clause-refusal
returns-in_err-check_boundaries-clause-refusal g c =
    let p = err_from_is_err_and c.from_residual-in_err-check_boundaries.result
    c.from_residual-in_err-check_boundaries.ensures.1 in
    rw (p.1, p.2) (is_refused (tree c.args.document.now) c.members_named-objects.result.now
    c.items_named-vertices.result.now c.members_named-objects.ensures c.items_named-vertices.ensures.items _
    c.in_ok-check_document.ensures.ok c.in_ok-kin.ensures.children c.in_ok-kin.ensures.belong
    (λ points are. c.in_err-check_boundaries.ensures.fault))

pub returns-in_err-keep_features-clause-refusal : goal.returns-in_err-keep_features-clause-refusal
returns-in_err-keep_features-clause-refusal g c =
    let p = err_from_is_err_and c.from_residual-in_err-keep_features.result
    c.from_residual-in_err-keep_features.ensures.1 in
    rw (p.1, p.2) (is_refused (tree c.args.document.now) c.members_named-objects.result.now
    c.items_named-vertices.result.now c.members_named-objects.ensures c.items_named-vertices.ensures.items _
    c.in_ok-check_document.ensures.ok c.in_ok-kin.ensures.children c.in_ok-kin.ensures.belong
    c.in_err-keep_features.ensures.fault)

pub returns-clause-ok : goal.returns-clause-ok
returns-clause-ok g c =
    let made = c.in_ok-keep_features.ensures.ok in (
      made.0,
      made.1,
      has_features_of (tree c.args.document.now) c.members_named-objects.result.now
          c.items_named-vertices.result.now c.members_named-objects.ensures c.items_named-vertices.ensures.items _ made.0
          c.get-appearance.ensures c.in_ok-check_document.ensures.ok c.in_ok-kin.ensures.belong made.2,
    )

pub returns-clause-cuttable : goal.returns-clause-cuttable
returns-clause-cuttable g c =
    is_cuttable (tree c.args.document.now) c.members_named-objects.result.now c.items_named-vertices.result.now
    c.members_named-objects.ensures c.items_named-vertices.ensures.items c.requires.distinct
    c.in_ok-check_document.ensures.ok c.in_ok-kin.ensures.children c.in_ok-kin.ensures.belong
    c.in_ok-keep_features.ensures.bounded
