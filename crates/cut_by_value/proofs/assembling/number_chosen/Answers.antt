use Rattle.std.proofs.Common.{inl, inr, length, subst, sym, take_all, rules, arith}
use Rattle.std.proofs.lemmas.Result.{err_from_is_err_and}
use Rattle.std.specs.List.{AllByRecursion}
use Rattle.city_json.specs.Tree.{named_tree}
use Rattle.city_families.specs.Boundaries.{IsBounded}
use Rattle.city_families.specs.Chosen.{chosen_objects}
use Rattle.city_families.proofs.Choosing.{at_chosen}
use Rattle.cut_by_value.proofs.assembling.number_chosen.Goals as goal

pub returns-in_err-number_named-clause-fault : goal.returns-in_err-number_named-clause-fault
returns-in_err-number_named-clause-fault c =
    let p = err_from_is_err_and c.from_residual.result c.from_residual.ensures.1 in
    rw (p.1, p.2) (elim c.in_err-number_named.ensures.fault [
      | inl memory ↦ inl memory
      | inr wrong ↦ inr (
        wrong.0,
        λ all. wrong.1 (subst (λ n. IsBounded n (named_tree c.member-item.result.now).1)
            (sym c.loop-member.invariant.long) (at_chosen
            (λ named. IsBounded (length c.args.numbering.now.table.items) named.1) c.args.chosen.now
            c.loop-member.member-index c.member-item.result all (omega arith) (search rules))),
      )
    ])

pub returns-clause-bounded : goal.returns-clause-bounded
returns-clause-bounded c =
    subst (λ chosen. AllByRecursion (λ named. IsBounded (length c.args.numbering.now.table.items) named.1)
    (chosen_objects chosen)) (take_all c.loop-member.member-index c.args.chosen.now c.loop-member-test.false)
    c.loop-member.invariant.bounded
