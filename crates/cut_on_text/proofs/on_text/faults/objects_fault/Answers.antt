use Rattle.std.proofs.Common.{subst, sym}
use Rattle.city_json.specs.Tree.{member_trees}
use Rattle.city_families.proofs.WholeDocument.{no_orphan}
use Rattle.city_feature.proofs.NamedTexts.{err_told, ok_told}
use Rattle.cut_on_text.specs.Faults.{RefusesObjects}
use Rattle.cut_on_text.proofs.TextDocuments.{objects_there}
use Rattle.cut_on_text.proofs.TextMembers.{if_some_more}
use Rattle.cut_on_text.proofs.on_text.faults.objects_fault.Goals as goal

pub kin_of-requires-clause-objects : goal.kin_of-requires-clause-objects
kin_of-requires-clause-objects c =
    let (value, of) = c.requires in
    let there = objects_there c.new-objects.result _ value c.new-objects.ensures of
    c.in_ok-places.ensures.places in
    (there.pairs, there.are)

pub returns-in-Err : goal.returns-in-Err
returns-in-Err c = λ value of.
    let there = objects_there c.new-objects.result _ value c.new-objects.ensures of
    c.in_ok-places.ensures.places in (
      member_trees there.pairs,
      there.is,
      err_told _ c.in_ok-fault.field-0 c.in-Err.fault c.in-Err.is c.in_ok-fault.ensures.refused c.args.vertices there.pairs
          there.are,
    )

pub returns : goal.returns
returns c = if_some_more c.boundary_fault.result (λ fault found value of.
    let there = objects_there c.new-objects.result _ value c.new-objects.ensures of
    c.in_ok-places.ensures.places in
    let (city, lacks, belong, rel) = (ok_told _ c.in_ok-fault.field-0 c.in_default.field-0 c.in_default.is
    c.in_ok-fault.ensures.kin).related there.pairs there.are in (
      member_trees there.pairs,
      there.is,
      subst (λ told. RefusesObjects told c.args.vertices (member_trees there.pairs)) (sym found.0)
          (lacks, no_orphan (member_trees there.pairs) belong, found.1 there.pairs there.are),
    )) c.boundary_fault.ensures
