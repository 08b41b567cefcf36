use Rattle.std.proofs.Common.{◌∙◌, ap, inl, inr, length, map, refl, sym}
use Rattle.std.proofs.lemmas.Result.{err_from_is_err_and}
use Rattle.city_json.specs.Tree.{members_tree, named_tree}
use Rattle.city_families.proofs.Kinship.{graph_in_range, lacks_none}
use Rattle.city_families.proofs.Seeking.{related_as}
use Rattle.cut_by_value.proofs.Seeking.{parted_long, refused}
use Rattle.cut_by_value.proofs.kin.kin_of.Goals as goal

pub check_belonging-requires-clause-graph : goal.check_belonging-requires-clause-graph
check_belonging-requires-clause-graph c =
    graph_in_range (members_tree c.args.objects.now) c.in_ok-graph.graph c.requires c.in_ok-graph.ensures.ok

pub check_belonging-requires-clause-parents : goal.check_belonging-requires-clause-parents
check_belonging-requires-clause-parents c =
    ap length c.deref.ensures.value
    ∙ parted_long c.args.objects.now c.in_ok-parents.parents.items c.in_ok-graph.graph c.in_ok-parents.ensures.ok
    c.in_ok-graph.ensures.ok

pub returns-in_err-meets-clause-refusal : goal.returns-in_err-meets-clause-refusal
returns-in_err-meets-clause-refusal c =
    let p = err_from_is_err_and c.from_residual-in_err-meets.result c.from_residual-in_err-meets.ensures.1 in
    let objects = members_tree c.args.objects.now in
    let rel = related_as (map named_tree c.args.objects.now) _ _ _ _ refl
    (sym c.deref.ensures.value)
    (record { differ = c.requires; linked = c.in_ok-graph.ensures.ok; parted = c.in_ok-parents.ensures.ok }) in
    rw (p.1, p.2) (refused _ objects (lacks_none objects _ c.in_ok-graph.ensures.ok) (elim c.in_err-meets.ensures.fault [
      | inl memory ↦ inl memory
      | inr orphan ↦ inr (orphan.0, orphan.1 (map named_tree c.args.objects.now) rel)
    ]))

pub returns-clause-ok : goal.returns-clause-ok
returns-clause-ok c =
    record { differ = c.requires; linked = c.in_ok-graph.ensures.ok; parted = c.in_ok-parents.ensures.ok }

pub returns-clause-children : goal.returns-clause-children
returns-clause-children c = lacks_none (members_tree c.args.objects.now) _ c.in_ok-graph.ensures.ok

pub returns-clause-belong : goal.returns-clause-belong
returns-clause-belong c =
    let rel = related_as (map named_tree c.args.objects.now) _ _ _ _ refl
    (sym c.deref.ensures.value)
    (record { differ = c.requires; linked = c.in_ok-graph.ensures.ok; parted = c.in_ok-parents.ensures.ok }) in
    c.in_ok-meets.ensures.belong (map named_tree c.args.objects.now) rel
