use Rattle.std.proofs.Common.{inl, inr, subst, sym, arith}
use Rattle.std.proofs.lemmas.Result.{err_from_is_err_and}
use Rattle.city_json.specs.Tree.{tree}
use Rattle.city_families.specs.Boundaries.{IsBounded}
use Rattle.cut_by_value.proofs.Kinship.{at_value}
use Rattle.cut_by_value.proofs.boundaries.check_boundaries.Goals as goal

pub returns-in_err-number_object : goal.returns-in_err-number_object
returns-in_err-number_object c =
    let p = err_from_is_err_and c.from_residual-in_err-number_object.result
    c.from_residual-in_err-number_object.ensures.1 in
    record {
      fault = rw (p.1, p.2) (elim c.in_err-number_object.ensures.fault [
        | inl memory ↦ inl memory
        | inr wrong ↦ inr (
          wrong.0,
          λ all. wrong.1 (subst (λ n. IsBounded n (tree c.value_of.result.now)) (sym c.loop-member.invariant)
              (subst (IsBounded c.args.vertices) (sym c.value_of.ensures) (at_value (IsBounded c.args.vertices)
              c.args.objects.now c.loop-member.member-index c.member-item.result all (omega arith) c.member-item.is))),
        )
      ]);
    }
