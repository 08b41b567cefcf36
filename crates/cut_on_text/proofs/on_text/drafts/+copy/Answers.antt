use Rattle.std.proofs.Common.{◌≡◌, ◌∙◌, ◌<◌, ◌≤◌, subst, arith, length, drop, refl, slice_index}
use Rattle.city_json.specs.Bytes.{close_bracket, comma, open_bracket}
use Rattle.city_json.specs.Compacting.{shown}
use Rattle.city_json.proofs.Options.{if_some_more}
use Rattle.city_json.proofs.Places.{drop_one, shown_one}
use Rattle.city_families.specs.Copied.{CopiesPart}
use Rattle.cut_on_text.specs.Walks.{Walks}
use Rattle.cut_on_text.proofs.CopiedArrays.{copied_begin, copied_more, copied_none, copied_stop, part_array}
use Rattle.city_families.proofs.CopiedTexts.{not_both}
use Rattle.cut_on_text.proofs.on_text.drafts.+copy.Goals as goal

pub copy_items-returns-then-byte_is-clause-made : goal.copy_items-returns-then-byte_is-clause-made
copy_items-returns-then-byte_is-clause-made g t c = λ items rest w is.
    let text = c.args.text.now in
    let here = c.byte_is.ensures.0 c.if-byte_is.true in
    copied_none _ text rest _ _ _ c.args.at items here.0 here.1 w is
    (shown_one c.args.copier.now.draft.line text c.args.copier.now.draft.from c.args.at close_bracket c.requires.copied here.0
    here.1)

pub copy_items-items-init : goal.copy_items-items-init
copy_items-items-init g t c = record {
  onward = omega arith;
  within = c.requires.within;
  copied = c.requires.copied;
  count = refl;
  goes_on = λ items rest w is. copied_begin _ c.args.text.now rest _ _ c.args.at items
      (λ inside here. not_both c.byte_is.result (c.byte_is.ensures.1 (inside, here)) c.if-byte_is.false) w is;
}

pub copy_items-returns-then-byte_is-2-clause-made : goal.copy_items-returns-then-byte_is-2-clause-made
copy_items-returns-then-byte_is-2-clause-made g t c = λ items rest w is.
    let text = c.args.text.now in
    let here = c.byte_is-in-items.ensures.0 c.if-byte_is-2.true in
    let so_far = c.items.invariant.goes_on items rest w is in
    let made = subst (λ n. CopiesPart n (drop c.items.i text) (drop c.in_ok-end.end text)
    (Walks g.L.Labels.labelled c.items.copier.labels (shown c.items.copier.draft.line text c.items.copier.draft.from c.items.i)
    c.copy_part.new.copier.labels
    (shown c.copy_part.new.copier.draft.line text c.copy_part.new.copier.draft.from c.in_ok-end.end)))
    c.items.invariant.count c.in_ok-end.ensures.made in
    copied_stop _ items text rest _ _ _ _ _ _ _ c.items.i c.in_ok-end.end so_far made here.0 here.1
    (shown_one c.copy_part.new.copier.draft.line text c.copy_part.new.copier.draft.from c.in_ok-end.end close_bracket
    c.in_ok-end.ensures.copied here.0 here.1)

pub copy_items-items-preserved : goal.copy_items-items-preserved
copy_items-items-preserved g t c =
    let text = c.args.text.now in
    let here : (c.in_ok-end.end < length text) × (slice_index text c.in_ok-end.end ≡ comma) =
    c.byte_is-in-items-2.ensures.0 c.if-not-byte_is.false in
    let made = subst (λ n. CopiesPart n (drop c.items.i text) (drop c.in_ok-end.end text)
    (Walks g.L.Labels.labelled c.items.copier.labels (shown c.items.copier.draft.line text c.items.copier.draft.from c.items.i)
    c.copy_part.new.copier.labels
    (shown c.copy_part.new.copier.draft.line text c.copy_part.new.copier.draft.from c.in_ok-end.end)))
    c.items.invariant.count c.in_ok-end.ensures.made in
    let so_far : c.args.at ≤ c.items.i = c.items.invariant.onward in
    let onward : c.items.i < c.in_ok-end.end = c.in_ok-end.ensures.onward in
    let kept : c.copy_part.new.copier.draft.from ≤ c.in_ok-end.end = c.in_ok-end.ensures.copied in
    record {
      onward = omega (arith, so_far, onward);
      within = omega (arith, here.0);
      copied = omega (arith, kept);
      count = c.in_ok-end.ensures.count ∙ c.items.invariant.count;
      goes_on = λ items rest w is. copied_more _ items text rest _ _ _ _ _ _ _ c.items.i c.in_ok-end.end
          (c.items.invariant.goes_on items rest w is) made here.0 here.1
          (shown_one c.copy_part.new.copier.draft.line text c.copy_part.new.copier.draft.from c.in_ok-end.end comma kept here.0
          here.1);
    }

pub copy_part-returns-clause-made : goal.copy_part-returns-clause-made
copy_part-returns-clause-made g t c =
    let text = c.args.text.now in
    let here : (c.args.at < length text) × (slice_index text c.args.at ≡ open_bracket) =
    c.byte_is.ensures.0 c.if-not-byte_is.false in
    if_some_more c.copy_items.result (λ end made.
    part_array _ _ _ _ _ _ _ _ _ (drop_one text c.args.at open_bracket here.0 here.1)
    (shown_one c.args.copier.now.draft.line text c.args.copier.now.draft.from c.args.at open_bracket c.requires.copied here.0
    here.1) made) c.copy_items.ensures.made
