use Rattle.std.proofs.Common.{◌≡◌, ◌∙◌, ◌++◌, ◌∷◌, [], ap, inl, inr, length, length-append, arith}
use Rattle.std.proofs.lemmas.Result.{err_from_is_err_and}
use Rattle.std.specs.List.{Contains}
use Rattle.city_json.specs.Members.{names}
use Rattle.city_json.specs.Tree.{tree, members_tree}
use Rattle.cut_by_value.proofs.Kinship.{names_long, rows_more, value_among}
use Rattle.city_families.specs.Items.{values}
use Rattle.city_families.specs.Table.{IsTable}
use Rattle.cut_by_value.proofs.objects.children.Goals as goal

pub loop-member-preserved : goal.loop-member-preserved
loop-member-preserved c =
    let all = names (members_tree c.args.objects.now) in
    let table : IsTable all c.deref.result.now = rw c.deref.ensures.value c.in_ok-table.ensures.ok in
    let pushed : c.in_ok-graph-2.graph ≡ c.loop-member.graph ++ c.in_ok-row.row.items ∷ [] =
    c.in_ok-graph-2.ensures ∙ ap (λ l. c.loop-member.graph ++ l ∷ []) c.deref-in-loop-member.ensures.value in
    record {
      long = omega (arith, ap length pushed, length-append c.loop-member.graph (c.in_ok-row.row.items ∷ []), c.loop-member.invariant.long);
      rows = rows_more c.args.objects.now c.loop-member.graph _ c.in_ok-row.row.items
          c.loop-member.member-index c.member-item.result (tree c.value_of.result.now) c.loop-member.invariant.rows
          c.loop-member.invariant.long (omega arith) c.member-item.is c.value_of.ensures
          (c.in_ok-row.ensures.ok all table) pushed;
    }

pub returns-in_err-row-clause-fault : goal.returns-in_err-row-clause-fault
returns-in_err-row-clause-fault c =
    let all = names (members_tree c.args.objects.now) in
    let table : IsTable all c.deref.result.now = rw c.deref.ensures.value c.in_ok-table.ensures.ok in
    let p = err_from_is_err_and c.from_residual-in_err-row.result
    c.from_residual-in_err-row.ensures.1 in
    let among : Contains (values (members_tree c.args.objects.now)) (tree c.value_of.result.now) =
    rw c.value_of.ensures (value_among c.args.objects.now c.loop-member.member-index c.member-item.result
    (omega arith) c.member-item.is) in
    rw (p.1, p.2) (elim c.in_err-row.ensures.fault [
      | inl memory ↦ inl memory
      | inr missing ↦ let m = missing.1 all table in
          inr (missing.0, tree c.value_of.result.now, among, m.0, m.1, m.2)
    ])

pub returns : goal.returns
returns c = record {
  ok = record {
    long = omega (arith, names_long c.args.objects.now, c.loop-member.invariant.long);
    rows = c.loop-member.invariant.rows;
  };
  fault = tt;
}
