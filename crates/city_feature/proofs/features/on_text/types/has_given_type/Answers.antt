use Rattle.std.proofs.Common.{◌↔◌, IfSome, IsTrue, subst, sym}
use Rattle.std.proofs.lemmas.Result.{IfOk-weaker}
use Rattle.city_json.specs.ObjectTexts.{members_of, object_of}
use Rattle.city_feature.specs.Choice.{HasType}
use Rattle.city_feature.proofs.features.TypeTexts.{typed_there}
use Rattle.city_feature.proofs.features.on_text.types.has_given_type.Goals as goal

pub returns-clause-ok : goal.returns-clause-ok
returns-clause-ok c = IfOk-weaker c.spells_one_of.result _ _ (λ has told.
    subst (λ given. IsTrue has ↔ IfSome given (λ types. HasType types (object_of c.args.line.now))) (sym c.in-Some.is)
    (typed_there _ (members_of c.args.line.now) c.in_ok-text.text.now has c.in_ok-text.ensures told c.requires))
    c.spells_one_of.ensures.ok
