use Rattle.std.proofs.Common.{◌≡◌, ◌∙◌, ◌<◌, ◌^◌, [], map, subst, length, arith}
use Rattle.std.proofs.lemmas.Result.{err_from_is_err_and}
use Rattle.std.specs.List.{AllByRecursion}
use Rattle.city_json.specs.Tree.{array, items_tree, named_tree}
use Rattle.city_feature.specs.Feature.{AreReadAgain, vertices_tree}
use Rattle.city_families.specs.Boundaries.{IsBounded, relabelled_objects, uses}
use Rattle.city_families.specs.Chosen.{chosen_objects, point_at}
use Rattle.city_families.specs.Numbered.{AreNumbered}
use Rattle.city_families.specs.Relabelling.{own_text}
use Rattle.city_families.proofs.Assembly.{numbered_none}
use Rattle.cut_by_value.proofs.Assembly.{assembled_is, order_inside}
use Rattle.city_families.proofs.Renumbering.{objects_same}
use Rattle.cut_by_value.proofs.assembling.assemble.Goals as goal

pub returns-in_err-number_chosen-clause-fault : goal.returns-in_err-number_chosen-clause-fault
returns-in_err-number_chosen-clause-fault c =
    let p = err_from_is_err_and c.from_residual.result c.from_residual.ensures.1 in
    rw (p.1, p.2, ← c.requires.long) (λ points all. c.in_err-number_chosen.ensures.fault)

pub own_vertices-requires : goal.own_vertices-requires
own_vertices-requires c =
    let first : AreNumbered [] c.args.numbering.now.table.items c.clear.new.self.items =
    rw c.clear.ensures.items (numbered_none c.args.numbering.now.table.items) in
    let numbered = c.in_ok-number_chosen.ensures.ok [] first in
    rw c.deref-2.ensures.value (order_inside (uses (chosen_objects c.args.chosen.now)) _ _ (length c.args.values.now)
    numbered (c.in_ok-number_chosen.ensures.long ∙ c.requires.long))

pub returns-clause-bounded : goal.returns-clause-bounded
returns-clause-bounded c = rw (← c.requires.long) c.in_ok-number_chosen.ensures.bounded

pub returns-clause-ok : goal.returns-clause-ok
returns-clause-ok c = λ points all.
    let first : AreNumbered [] c.args.numbering.now.table.items c.clear.new.self.items =
    rw c.clear.ensures.items (numbered_none c.args.numbering.now.table.items) in
    let numbered = c.in_ok-number_chosen.ensures.ok [] first in
    let table = c.number_chosen.new.numbering.table.items in
    let order = c.number_chosen.new.numbering.order.items in
    let bounded : AllByRecursion (λ named. IsBounded (length c.number_chosen.new.numbering.table.items) named.1)
    (chosen_objects c.args.chosen.now) = rw c.in_ok-number_chosen.ensures.long
    c.in_ok-number_chosen.ensures.bounded in
    let small : length c.number_chosen.new.numbering.table.items < 2 ^ 64 =
    omega (arith, c.number_chosen.new.numbering.table.small) in
    let copied : map named_tree c.in_ok-objects.objects.items
    ≡ relabelled_objects (own_text c.number_chosen.new.numbering.table.items) (chosen_objects c.args.chosen.now) =
    rw c.deref.ensures.value at c.in_ok-objects.ensures.ok in
    record {
      own = map (point_at points) order;
      same_points = assembled_is c.args.values.now points (chosen_objects c.args.chosen.now) _ table order all
          (c.in_ok-number_chosen.ensures.long ∙ c.requires.long) numbered
          (copied ∙ objects_same table small (chosen_objects c.args.chosen.now) c.requires.distinct bounded);
      written = subst (λ o. array (items_tree c.in_ok-vertices.vertices.items)
          ≡ vertices_tree (map (point_at points) o)) c.deref-2.ensures.value (c.in_ok-vertices.ensures.ok points all);
      again = subst (λ o. AreReadAgain (map (point_at points) o)) c.deref-2.ensures.value
          (c.in_ok-vertices.ensures.again points all);
    }
