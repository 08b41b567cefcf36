use Rattle.std.proofs.Common.{◌∙◌, ⊎_elim, refl, subst, sym}
use Rattle.city_json.specs.ObjectTexts.{members_of, object_of}
use Rattle.city_feature.specs.Feature.{RefusesFirst}
use Rattle.city_families.specs.Cut.{header_tree}
use Rattle.city_json.proofs.Options.{if_some_both}
use Rattle.cut_on_text.proofs.TextFaults.{has_frame, header_decided, header_refused, objects_decided, objects_in, objects_refused, other_objects, other_vertices, shaped, vertices_refused}
use Rattle.cut_on_text.proofs.TextMembers.{if_some_more}
use Rattle.city_feature.proofs.NamedTexts.{err_told, ok_told}
use Rattle.cut_on_text.proofs.on_text.faults.cut_fault.Goals as goal

pub objects_fault-requires : goal.objects_fault-requires
objects_fault-requires c = (_, c.objects_text-objects.ensures)

pub returns-then-not-is_array-clause-refused : goal.returns-then-not-is_array-clause-refused
returns-then-not-is_array-clause-refused c =
    other_vertices c.vertices_text-vertices.result.now c.is_array.result (members_of c.args.document.now) c.is_array.ensures
    c.if-not-is_array.true c.vertices_text-vertices.ensures

pub returns-then-not-holds-clause-refused : goal.returns-then-not-holds-clause-refused
returns-then-not-holds-clause-refused c =
    other_objects c.objects_text-objects.result.now c.in_ok-holds.holds (members_of c.args.document.now)
    c.in_ok-holds.ensures c.if-not-holds.true c.objects_text-objects.ensures

pub returns-in-Err-clause-refused : goal.returns-in-Err-clause-refused
returns-in-Err-clause-refused c =
    let members = members_of c.args.document.now in
    let is = shaped c.vertices_text-vertices.result.now c.objects_text-objects.result.now c.is_array.result c.in_ok-holds.holds
    members c.is_array.ensures c.if-not-is_array.false c.vertices_text-vertices.ensures c.in_ok-holds.ensures c.if-not-holds.false
    c.objects_text-objects.ensures in
    header_refused members c.vertices_text-vertices.result.now is c.in-Err.fault
    (err_told _ c.in_ok-fault.field-0 c.in-Err.fault c.in-Err.is c.in_ok-fault.ensures.1)

pub returns-in-Err-clause-decided : goal.returns-in-Err-clause-decided
returns-in-Err-clause-decided c =
    header_decided c.in-Err.fault (header_tree (object_of c.args.document.now)) (err_told _ c.in_ok-fault.field-0
    c.in-Err.fault c.in-Err.is c.in_ok-fault.ensures.1)

pub returns-in-Err-count_vertices-clause-refused : goal.returns-in-Err-count_vertices-clause-refused
returns-in-Err-count_vertices-clause-refused c =
    let members = members_of c.args.document.now in
    let is = shaped c.vertices_text-vertices.result.now c.objects_text-objects.result.now c.is_array.result c.in_ok-holds.holds
    members c.is_array.ensures c.if-not-is_array.false c.vertices_text-vertices.ensures c.in_ok-holds.ensures c.if-not-holds.false
    c.objects_text-objects.ensures in
    let framed = has_frame members c.vertices_text-vertices.result.now is (
      c.in_default.field-0,
      ok_told _ c.in_ok-fault.field-0 c.in_default.field-0 c.in_default.is c.in_ok-fault.ensures.0,
    ) in
    if_some_both c.unless_memory.result
    (λ told same other. vertices_refused members c.vertices_text-vertices.result.now is told framed
    (λ items of. ⊎_elim (λ memory. absurd (other (same ∙ memory)))
    (λ first. subst (λ f. RefusesFirst f items) (sym same) first)
    (c.in-Err-count_vertices.ensures.refused items of)))
    c.unless_memory.ensures.same c.unless_memory.ensures.decided

pub returns-in-Ok-clause-refused : goal.returns-in-Ok-clause-refused
returns-in-Ok-clause-refused c = if_some_more c.objects_fault.result (λ fault holds.
    let members = members_of c.args.document.now in
    let is = shaped c.vertices_text-vertices.result.now c.objects_text-objects.result.now c.is_array.result c.in_ok-holds.holds
    members c.is_array.ensures c.if-not-is_array.false c.vertices_text-vertices.ensures c.in_ok-holds.ensures c.if-not-holds.false
    c.objects_text-objects.ensures in
    let framed = has_frame members c.vertices_text-vertices.result.now is (
      c.in_default.field-0,
      ok_told _ c.in_ok-fault.field-0 c.in_default.field-0 c.in_default.is c.in_ok-fault.ensures.0,
    ) in
    objects_refused members c.vertices_text-vertices.result.now is fault (objects_in members) c.in-Ok.count framed refl
    (c.in-Ok.ensures.ok is.items is.of) (holds (objects_in members) c.objects_text-objects.ensures)) c.objects_fault.ensures

pub returns-in-Ok-clause-decided : goal.returns-in-Ok-clause-decided
returns-in-Ok-clause-decided c =
    if_some_more c.objects_fault.result (λ fault holds.
    let (objects, same, refused) = holds (objects_in (members_of c.args.document.now)) c.objects_text-objects.ensures in
    objects_decided fault c.in-Ok.count objects refused) c.objects_fault.ensures
