use Rattle.std.proofs.Common.{◌∙◌, ◌++◌, ap, arith, map}
use Rattle.city_json.specs.Tree.{member_trees}
use Rattle.city_feature.proofs.NamedTexts.{ok_told}
use Rattle.city_families.specs.HeldTexts.{texts_in}
use Rattle.city_families.proofs.Seeking.{as_many_pairs}
use Rattle.cut_on_text.proofs.TextDocuments.{objects_there}
use Rattle.cut_on_text.proofs.TextFeatures.{as_many_parts}
use Rattle.cut_on_text.proofs.on_text.texts_on.Goals as goal

pub kin_of-requires-clause-objects : goal.kin_of-requires-clause-objects
kin_of-requires-clause-objects c =
    let (value, of) = c.requires.objects in
    let there = objects_there c.new-objects.result _ value c.new-objects.ensures of
    c.in_ok-places.ensures.places in
    (there.pairs, there.are)

pub returns-in-Some-clause-texts : goal.returns-in-Some-clause-texts
returns-in-Some-clause-texts c = λ value appearance points of stand tail.
    let there = objects_there c.new-objects.result _ value c.new-objects.ensures of
    c.in_ok-places.ensures.places in
    let (city, lacks, belong, rel) = (ok_told _ c.in_ok-kin.field-0 c.in-Ok.kin c.in-Ok.is
    c.in_ok-kin.ensures.kin).related there.pairs there.are in
    let held = rw c.in-Some.is at c.in_ok-own.ensures in
    let own = held there.pairs appearance points stand there.are rel in
    let texts = ap texts_in c.new.ensures
    ∙ (ap (λ end. map (λ text. text ++ end) c.in-Some.own) tail ∙ own.texts) in
    (member_trees there.pairs, there.is, city, lacks, belong, own.features, texts, own.are, own.bounded)

pub made_texts-requires-clause-places : goal.made_texts-requires-clause-places
made_texts-requires-clause-places c =
    let (value, of) = c.requires.objects in
    let there = objects_there c.new-objects.result _ value c.new-objects.ensures of
    c.in_ok-places.ensures.places in
    let (city, lacks, belong, rel) = (ok_told _ c.in_ok-kin.field-0 c.in-Ok.kin c.in-Ok.is
    c.in_ok-kin.ensures.kin).related there.pairs there.are in
    omega (arith, as_many_pairs there.pairs _ _ rel, as_many_parts 1 c.new-objects.result.places there.pairs there.are.1)

pub made_texts-requires-clause-objects : goal.made_texts-requires-clause-objects
made_texts-requires-clause-objects c =
    let (value, of) = c.requires.objects in
    let there = objects_there c.new-objects.result _ value c.new-objects.ensures of
    c.in_ok-places.ensures.places in
    let (city, lacks, belong, rel) = (ok_told _ c.in_ok-kin.field-0 c.in-Ok.kin c.in-Ok.is
    c.in_ok-kin.ensures.kin).related there.pairs there.are in
    (there.pairs, there.are, rel)

pub returns-clause-texts : goal.returns-clause-texts
returns-clause-texts c = λ value appearance points of stand tail.
    let there = objects_there c.new-objects.result _ value c.new-objects.ensures of
    c.in_ok-places.ensures.places in
    let (city, lacks, belong, rel) = (ok_told _ c.in_ok-kin.field-0 c.in-Ok.kin c.in-Ok.is
    c.in_ok-kin.ensures.kin).related there.pairs there.are in
    let own = c.in_ok-own-2.ensures there.pairs appearance points stand there.are rel in
    let texts = ap texts_in c.made.ensures
    ∙ (ap (λ end. map (λ text. text ++ end) c.in_ok-own-2.own) tail ∙ own.texts) in
    (member_trees there.pairs, there.is, city, lacks, belong, own.features, texts, own.are, own.bounded)
