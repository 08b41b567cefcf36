use Rattle.std.proofs.Common.{inl, inr, length, map, subst, sym}
use Rattle.std.specs.List.{AllByRecursion}
use Rattle.city_json.specs.Tree.{tree}
use Rattle.city_families.specs.Boundaries.{IsAddress, IsGeometry}
use Rattle.city_families.specs.Numbered.{AreNumbered}
use Rattle.cut_by_value.proofs.Answered.{if_err, on_ok_more}
use Rattle.city_families.proofs.Numbers.{both_boundaries}
use Rattle.cut_by_value.proofs.boundaries.number_object.Goals as goal

pub returns-clause-ok : goal.returns-clause-ok
returns-clause-ok c =
    let new = c.number_each-2.new.numbering in
    on_ok_more c.number_each-2.result
    (λ more uses numbered. subst (λ l. AreNumbered l new.table.items new.order.items)
    (both_boundaries (tree c.args.value.now) (map tree c.items_named.result.now) (map tree c.items_named-2.result.now)
    uses c.items_named.ensures.list c.items_named-2.ensures.list)
    (more _ (c.in_ok-number_each.ensures.ok uses numbered))) c.number_each-2.ensures.ok

pub returns-clause-bounded : goal.returns-clause-bounded
returns-clause-bounded c =
    let count = length c.args.numbering.now.table.items in
    on_ok_more c.number_each-2.result
    (λ addresses. (
      c.is_array_where_there.ensures.0 c.if-not-is_array_where_there.false,
      subst (AllByRecursion (IsGeometry count)) c.items_named.ensures.list c.in_ok-number_each.ensures.bounded,
      subst (AllByRecursion (IsAddress count)) c.items_named-2.ensures.list
          (subst (λ n. AllByRecursion (IsAddress n) (map tree c.items_named-2.result.now))
          c.in_ok-number_each.ensures.long addresses),
    )) c.number_each-2.ensures.bounded

pub returns-clause-fault : goal.returns-clause-fault
returns-clause-fault c =
    if_err c.number_each-2.result
    (λ fault said. elim said [
      | inl memory ↦ inl memory
      | inr wrong ↦ inr (
        wrong.0,
        λ bounded. wrong.1 (subst (λ n. AllByRecursion (IsAddress n) (map tree c.items_named-2.result.now))
            (sym c.in_ok-number_each.ensures.long)
            (subst (AllByRecursion (IsAddress (length c.args.numbering.now.table.items)))
            (sym c.items_named-2.ensures.list) bounded.2)),
      )
    ]) c.number_each-2.ensures.fault
