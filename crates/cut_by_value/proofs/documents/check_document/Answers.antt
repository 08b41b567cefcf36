use Rattle.std.proofs.Common.{subst}
use Rattle.city_json.specs.Tree.{tree}
use Rattle.city_feature.specs.Feature.{RefusesFirst}
use Rattle.cut_by_value.proofs.Answered.{if_err}
use Rattle.city_families.proofs.Checking.{vertex_refused}
use Rattle.cut_by_value.proofs.documents.check_document.Goals as goal

pub returns-clause-refusal : goal.returns-clause-refusal
returns-clause-refusal c =
    if_err c.check_vertices.result (λ fault refused.
    vertex_refused (tree c.args.value.now) fault c.in_ok-check_frame.ensures.ok
    (subst (RefusesFirst fault) c.items_named.ensures.items refused)) c.check_vertices.ensures.refusal
