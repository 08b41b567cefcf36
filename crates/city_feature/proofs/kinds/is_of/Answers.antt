use Rattle.std.proofs.Common.{◌↔◌, ◌∙◌, ◌==◌, ap, sym, subst, not, IsTrue}
use Rattle.city_json.specs.Tree.{tree}
use Rattle.city_feature.specs.Shapes.{IsOf}
use Rattle.city_feature.proofs.kinds.Trees.{filled_array, filled_object}
use Rattle.city_feature.proofs.kinds.is_of.Goals as goal

pub returns-in-FilledArray-List : goal.returns-in-FilledArray-List
returns-in-FilledArray-List c =
    subst (λ kind. IsTrue (not c.is_empty.result) ↔ IsOf kind (tree c.args.value.now)) (sym c.in-FilledArray-List.is-0)
    (filled_array c.args.value.now c.in-FilledArray-List.items c.is_empty.result c.in-FilledArray-List.is-1
    (c.is_empty.ensures ∙ ap (λ n. n == 0) c.in-FilledArray-List.items.ok.0))

pub returns-in-FilledObject-Map : goal.returns-in-FilledObject-Map
returns-in-FilledObject-Map c =
    subst (λ kind. IsTrue (not c.is_empty-in-FilledObject-Map.result) ↔ IsOf kind (tree c.args.value.now))
    (sym c.in-FilledObject-Map.is-0)
    (filled_object c.args.value.now c.in-FilledObject-Map.members c.is_empty-in-FilledObject-Map.result
    c.in-FilledObject-Map.is-1 (c.is_empty-in-FilledObject-Map.ensures
    ∙ ap (λ n. n == 0) c.in-FilledObject-Map.members.ok.0))
