use Rattle.std.proofs.Common.{◌∙◌, ap, inr, subst, sym}
use Rattle.std.proofs.lemmas.Result.{err_from_is_err_and}
use Rattle.city_feature.proofs.NoObjects.{is_no_object, no_city_json}
use Rattle.city_families.specs.HeldTexts.{texts_in}
use Rattle.cut_on_text.specs.declared.cuts.CutTexts.{CutTexts}
use Rattle.city_feature.specs.Values.{header_value}
use Rattle.city_json.proofs.ObjectTexts.{compact_of, compacted_here, spelled_there}
use Rattle.city_json.specs.ObjectTexts.{PlacedObject, SpellsThere}
use Rattle.city_json.specs.TextPlace.{placed_text}
use Rattle.city_json.specs.Triples.{HasTriples}
use Rattle.document_stream.specs.Taking.{is_white_space}
use Rattle.document_stream.proofs.InputTaken.{blank, compact_given, compact_refused, not_blank, text_refused}
use Rattle.document_stream.proofs.taking.cut_read.Goals as goal

pub returns-then-is_white_space-clause-refused : goal.returns-then-is_white_space-clause-refused
returns-then-is_white_space-clause-refused c = blank c.args.text.items
    (ap is_white_space (sym c.deref.ensures.value) ∙ (sym c.is_white_space.ensures ∙ c.if-is_white_space.true))

pub returns-in_err-found-clause-refused : goal.returns-in_err-found-clause-refused
returns-in_err-found-clause-refused c =
    let p = err_from_is_err_and c.from_residual.result c.from_residual.ensures.1 in
    rw (p.1, p.2) (text_refused c.args.text.items _ (not_blank c.args.text.items
    (ap is_white_space (sym c.deref.ensures.value) ∙ (sym c.is_white_space.ensures ∙ c.if-is_white_space.false)))
    (rw c.deref-2.ensures.value at c.in_err-found.ensures.refused))

pub returns-in_default-clause-refused : goal.returns-in_default-clause-refused
returns-in_default-clause-refused c =
    let (value, spells, fits, shallow, none) = rw (c.deref-2.ensures.value, c.in_default.is) at c.in_ok-found.ensures.other in
    let other = is_no_object c.args.text.items value spells none in (
      not_blank c.args.text.items
          (ap is_white_space (sym c.deref.ensures.value) ∙ (sym c.is_white_space.ensures ∙ c.if-is_white_space.false)),
      inr (value, (spells, fits, shallow), λ is. no_city_json value other is.0),
    )

pub new-document-requires : goal.new-document-requires
new-document-requires c =
    let given = compacted_here c.args.text.items _ c.items.result.now _ c.deref-3.result.now (c.items.ensures ∙ (c.into_line-line.ensures ∙ ap (placed_text c.in-Some.found.place c.args.text.items) c.into_line.ensures))
    c.deref-3.ensures.value (rw (c.deref-2.ensures.value, c.in-Some.is) at c.in_ok-found.ensures.object) in
    (given.0, compact_of c.args.text.items c.items.result.now c.deref-3.result.now given, given.5)

pub cut_text-requires : goal.cut_text-requires
cut_text-requires c =
    let same = c.items.ensures
    ∙ (c.into_line-line.ensures ∙ ap (placed_text c.in-Some.found.place c.args.text.items) c.into_line.ensures) in
    subst (λ (there : PlacedObject). HasTriples there.text c.in-Some.found.triples) (sym c.new-document.ensures)
    (subst (λ line. HasTriples line c.in-Some.found.triples) (sym same)
    (rw (c.deref-2.ensures.value, c.in-Some.is) at c.in_ok-found.ensures.triples))

pub returns-clause-ok : goal.returns-clause-ok
returns-clause-ok c =
    let given = compacted_here c.args.text.items _ c.items.result.now _ c.deref-3.result.now (c.items.ensures ∙ (c.into_line-line.ensures ∙ ap (placed_text c.in-Some.found.place c.args.text.items) c.into_line.ensures))
    c.deref-3.ensures.value (rw (c.deref-2.ensures.value, c.in-Some.is) at c.in_ok-found.ensures.object) in
    let spells : SpellsThere c.args.text.items c.new-document.result =
    subst (λ (there : PlacedObject). SpellsThere c.args.text.items there) (sym c.new-document.ensures)
    (spelled_there c.args.text.items c.items.result.now c.deref-3.result.now given) in
    compact_given c.args.text.items c.new-document.result spells
    c.cut_text.result (λ (cut : CutTexts). header_value cut.header) (λ (cut : CutTexts). texts_in cut.texts)
    c.cut_text.ensures.ok

pub returns-clause-refused : goal.returns-clause-refused
returns-clause-refused c =
    let given = compacted_here c.args.text.items _ c.items.result.now _ c.deref-3.result.now (c.items.ensures ∙ (c.into_line-line.ensures ∙ ap (placed_text c.in-Some.found.place c.args.text.items) c.into_line.ensures))
    c.deref-3.ensures.value (rw (c.deref-2.ensures.value, c.in-Some.is) at c.in_ok-found.ensures.object) in
    let spells : SpellsThere c.args.text.items c.new-document.result =
    subst (λ (there : PlacedObject). SpellsThere c.args.text.items there) (sym c.new-document.ensures)
    (spelled_there c.args.text.items c.items.result.now c.deref-3.result.now given) in
    compact_refused c.args.text.items c.new-document.result spells
    c.cut_text.result (not_blank c.args.text.items
    (ap is_white_space (sym c.deref.ensures.value) ∙ (sym c.is_white_space.ensures ∙ c.if-is_white_space.false)))
    c.cut_text.ensures.refused
