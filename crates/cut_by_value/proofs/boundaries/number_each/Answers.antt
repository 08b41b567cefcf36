use Rattle.std.proofs.Common.{inl, inr, length, subst, sym, arith}
use Rattle.std.proofs.lemmas.Result.{err_from_is_err_and}
use Rattle.city_json.specs.Tree.{tree}
use Rattle.cut_by_value.proofs.Trees.{at_item}
use Rattle.cut_by_value.proofs.boundaries.number_each.Goals as goal

pub returns-in_err-number-clause-fault : goal.returns-in_err-number-clause-fault
returns-in_err-number-clause-fault g c =
    let p = err_from_is_err_and c.from_residual.result c.from_residual.ensures.1 in
    let is_held = g.H.HoldsBoundaries.is_held c.args.kind.now in
    rw (p.1, p.2) (elim c.in_err-number.ensures.fault [
      | inl memory ↦ inl memory
      | inr wrong ↦ inr (
        wrong.0,
        λ all. wrong.1 (subst (λ n. is_held n (tree c.item-item.result)) (sym c.loop-item.invariant.long)
            (at_item (is_held (length c.args.numbering.now.table.items)) c.args.items.now c.loop-item.item-index
            c.item-item.result all (omega arith) c.item-item.is)),
      )
    ])
