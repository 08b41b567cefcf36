use Rattle.std.proofs.Common.{◌∙◌, ap, length, refl, subst, sym}
use Rattle.cut_on_text.specs.Faults.{RefusesKin}
use Rattle.cut_on_text.specs.Graphs.{SomeNamesMissing}
use Rattle.city_families.proofs.Kinship.{graph_in_range, lacks_none}
use Rattle.city_families.proofs.Seeking.{related_as}
use Rattle.cut_on_text.proofs.TextFaults.{child_missing, orphan_told}
use Rattle.cut_on_text.proofs.TextGraphs.{related, same_long}
use Rattle.cut_on_text.proofs.on_text.graph.kin_of.Goals as goal

pub check_belonging-requires-clause-graph : goal.check_belonging-requires-clause-graph
check_belonging-requires-clause-graph c =
    let (pairs, are) = c.requires.objects in
    let rel = related c.args.objects.now c.args.parents.items c.args.children.items c.deref.result.now
    c.in-Some.graph c.in_ok-table.table c.requires.parents c.requires.children c.deref.ensures.value
    c.in_ok-table.ensures c.in-Some.ensures pairs are in
    graph_in_range _ c.in-Some.graph rel.0.differ rel.0.linked

pub check_belonging-requires-clause-parents : goal.check_belonging-requires-clause-parents
check_belonging-requires-clause-parents c =
    let (pairs, are) = c.requires.objects in
    let rel = related c.args.objects.now c.args.parents.items c.args.children.items c.deref.result.now
    c.in-Some.graph c.in_ok-table.table c.requires.parents c.requires.children c.deref.ensures.value
    c.in_ok-table.ensures c.in-Some.ensures pairs are in
    ap length c.deref-2.ensures.value ∙ same_long pairs _ _ rel.0

pub returns-in-Ok-clause-kin : goal.returns-in-Ok-clause-kin
returns-in-Ok-clause-kin c =
    let all = related c.args.objects.now c.args.parents.items c.args.children.items c.deref.result.now
    c.in-Some.graph c.in_ok-table.table c.requires.parents c.requires.children c.deref.ensures.value
    c.in_ok-table.ensures c.in-Some.ensures in
    let (pairs, are) = c.requires.objects in
    let one = (all pairs are).0 in
    record {
      range = graph_in_range _ c.in-Some.graph one.differ one.linked;
      long = same_long pairs _ _ one;
      related = λ pairs are.
          let rel = all pairs are in
          let here = related_as pairs _ _ _ _ refl (sym c.deref-2.ensures.value) rel.0 in
          (rel.1, lacks_none _ _ rel.0.linked, c.in-Ok.ensures.belong pairs here, rel.0);
    }

pub returns-in-Err-Orphan-clause-refused : goal.returns-in-Err-Orphan-clause-refused
returns-in-Err-Orphan-clause-refused c = λ count pairs are.
    let rel = related c.args.objects.now c.args.parents.items c.args.children.items c.deref.result.now
    c.in-Some.graph c.in_ok-table.table c.requires.parents c.requires.children c.deref.ensures.value
    c.in_ok-table.ensures c.in-Some.ensures pairs are in
    let here = related_as pairs _ _ _ _ refl (sym c.deref-2.ensures.value) rel.0 in (
      lacks_none _ _ rel.0.linked,
      orphan_told c.in-Err-Orphan.field-0 c.in-Err-Orphan.field-0-is c.in-Err-Orphan.ensures.fault pairs here,
    )

pub returns-in_default-clause-refused : goal.returns-in_default-clause-refused
returns-in_default-clause-refused c = λ count pairs are.
    subst (λ fault. RefusesKin c.args.objects.now fault) (sym c.in_ok-fault.ensures.told)
    (λ count pairs are. child_missing c.args.objects.now c.args.children.items c.in_ok-table.table pairs
    c.requires.children (c.in_ok-table.ensures pairs are) (λ all utf8 table. subst (SomeNamesMissing all)
    c.deref-in_default.ensures.value (c.in_ok-fault.ensures.is all utf8 table)) are) count pairs are
