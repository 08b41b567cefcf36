use Rattle.std.proofs.Common.{◌<◌, ◌^◌, inr, length, rules, subst, sym}
use Rattle.city_json.specs.ObjectTexts.{PlacedObject, SpellsThere}
use Rattle.city_json.specs.Triples.{HasTriples}
use Rattle.city_families.specs.HeldTexts.{texts_in}
use Rattle.city_feature.proofs.NoObjects.{is_no_object, no_city, no_city_json}
use Rattle.city_feature.specs.Values.{header_value}
use Rattle.tile_stream.specs.declared.tile_reader.head.FirstLine.{FirstLine}
use Rattle.tile_stream.proofs.Heads.{head_found, head_not_found, no_city_found}
use Rattle.tile_stream.proofs.tile_reader.head.document_of.Goals as goal

pub text-requires : goal.text-requires
text-requires c =
    (c.args.bytes.now, rw c.into_line-buffer.ensures (rw c.in-Some.is at c.in_ok-found.ensures.object))

pub document_line-requires : goal.document_line-requires
document_line-requires c =
    subst (λ (there : PlacedObject). HasTriples there.text c.in-Some.found.triples) (sym c.text.ensures.is)
    (rw c.into_line-buffer.ensures (rw c.in-Some.is at c.in_ok-found.ensures.triples))

pub returns-clause-ok : goal.returns-clause-ok
returns-clause-ok c =
    let bytes = c.args.bytes.now in
    let short : length bytes < 2 ^ 64 = search rules in
    let spells : SpellsThere bytes c.text.result =
    c.text.ensures.spelled bytes
    (rw c.into_line-buffer.ensures (rw c.in-Some.is at c.in_ok-found.ensures.object)) in
    head_found bytes c.text.result spells short (λ (first : FirstLine). header_value first.header)
    (λ (first : FirstLine). texts_in first.texts) c.document_line.result c.document_line.ensures.ok

pub returns-clause-none : goal.returns-clause-none
returns-clause-none c =
    let bytes = c.args.bytes.now in
    let spells : SpellsThere bytes c.text.result =
    c.text.ensures.spelled bytes
    (rw c.into_line-buffer.ensures (rw c.in-Some.is at c.in_ok-found.ensures.object)) in
    no_city_found bytes c.text.result spells c.document_line.result c.document_line.ensures.none

pub returns-clause-refused : goal.returns-clause-refused
returns-clause-refused c =
    let bytes = c.args.bytes.now in
    let spells : SpellsThere bytes c.text.result =
    c.text.ensures.spelled bytes
    (rw c.into_line-buffer.ensures (rw c.in-Some.is at c.in_ok-found.ensures.object)) in
    head_not_found bytes c.text.result spells c.document_line.result c.document_line.ensures.refused

pub returns-in_default-clause-refused : goal.returns-in_default-clause-refused
returns-in_default-clause-refused c =
    let (value, spells, fits, shallow, none) = rw c.in_default.is at c.in_ok-found.ensures.other in
    let other = is_no_object c.args.bytes.now value spells none in
    inr (value, spells, fits, inr (no_city value other, no_city_json value other))
