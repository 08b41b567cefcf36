use Rattle.std.proofs.Common.{◌∙◌, ◌++◌, ◌∷◌, [], length, ap, subst}
use Rattle.city_json.specs.Bytes.{close_brace}
use Rattle.city_json.specs.Compact.{compact}
use Rattle.city_json.specs.Tree.{tree}
use Rattle.city_feature.specs.Values.{feature_value}
use Rattle.city_feature.proofs.EndedTexts.{feature_closes}
use Rattle.city_families.specs.HeldTexts.{HasGrown}
use Rattle.city_families.proofs.Pieces.{kept_more}
use Rattle.cut_by_value.proofs.keeping.OpenTextsKeep.keep.Goals as goal

pub print_open-requires : goal.print_open-requires
print_open-requires c =
    let (front, closes) = feature_closes (tree c.args.feature.json) c.json.ensures.feature.0.0 in
    (front, ap (λ json. compact (tree json)) c.json.ensures.value ∙ closes)

pub returns-clause-ok : goal.returns-clause-ok
returns-clause-ok c = λ others kept.
    kept_more c.args.self.now.own c.print_open.new.line c.args.self.now.ends.items c.push.new.self.items others
    (feature_value c.args.feature)
    (subst (HasGrown c.args.self.now.own c.print_open.new.line (close_brace ∷ []))
    (ap (λ json. compact (tree json)) c.json.ensures.value) c.in_ok-print_open.ensures.ok)
    (c.in_ok-push.ensures.items ∙ ap (λ l. c.args.self.now.ends.items ++ length l ∷ []) c.items.ensures) kept
