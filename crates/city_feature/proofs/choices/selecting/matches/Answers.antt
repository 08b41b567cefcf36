use Rattle.std.proofs.Common.{subst, sym, IfSome}
use Rattle.city_json.specs.Tree.{tree}
use Rattle.city_feature.specs.Area.{Meets}
use Rattle.city_feature.specs.Choice.{HasType}
use Rattle.city_feature.proofs.choices.selecting.matches.Goals as goal

pub returns-then-has_given_type : goal.returns-then-has_given_type
returns-then-has_given_type c =
    let choice = c.args.choice.now in
    let types = c.has_given_type.ensures.0 c.if-has_given_type.true in
    let of_value = subst (λ value. IfSome choice.types (λ names. HasType names (tree value))) c.json.ensures.value
    types in (
      λ yes. (
        of_value,
        subst (λ vertices. IfSome choice.area (λ area. Meets area vertices)) c.vertices.ensures
            (c.meets_given_area.ensures.0 yes),
      ),
      λ both. c.meets_given_area.ensures.1
          (subst (λ vertices. IfSome choice.area (λ area. Meets area vertices)) (sym c.vertices.ensures) both.1),
    )
