use Rattle.std.proofs.Common.{◌∙◌, sym}
use Rattle.std.proofs.lemmas.Bool.{false≢true}
use Rattle.std.proofs.lemmas.Result.{err_from_is_err_and}
use Rattle.city_json.specs.Tree.{tree}
use Rattle.cut_by_value.proofs.Checking.{header_refused}
use Rattle.cut_by_value.proofs.documents.check_frame.Goals as goal

pub returns-then-not-are_city_objects-clause-refusal : goal.returns-then-not-are_city_objects-clause-refusal
returns-then-not-are_city_objects-clause-refusal c = λ is.
    false≢true (sym c.if-not-are_city_objects.true ∙ c.are_city_objects.ensures.1 (rw c.members_named.ensures is.1))

pub returns-in_err-header_transform-clause-refusal : goal.returns-in_err-header_transform-clause-refusal
returns-in_err-header_transform-clause-refusal c =
    let p = err_from_is_err_and c.from_residual.result c.from_residual.ensures.1 in
    rw (p.1, p.2) (header_refused _ (tree c.args.value.now)
    (rw c.members_named.ensures at c.are_city_objects.ensures.0 c.if-not-are_city_objects.false)
    c.in_err-header_transform.ensures.refusal)

pub returns-clause-ok : goal.returns-clause-ok
returns-clause-ok c =
    let (city_json, two, grid) = c.in_ok-header_transform.ensures.ok in (
      (city_json, rw c.members_named.ensures at c.are_city_objects.ensures.0 c.if-not-are_city_objects.false),
      two,
      (c.in_ok-header_transform.field-0, grid),
    )
