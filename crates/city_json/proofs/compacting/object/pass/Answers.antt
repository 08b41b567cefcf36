use Rattle.std.proofs.Common.{◌≡◌, ◌<◌, ◌≤◌, ◌∙◌, length, get_or, refl, arith}
use Rattle.city_json.specs.Bytes.{open_brace}
use Rattle.city_json.proofs.PassParts.{whole_parts}
use Rattle.city_json.proofs.Places.{drop_one, nothing_shown, shown_one}
use Rattle.city_json.proofs.compacting.object.pass.Goals as goal

pub returns-clause-object : goal.returns-clause-object
returns-clause-object c =
    let text = c.args.text.now in
    let before_end : c.in_ok-at.at ≤ length text = c.in_ok-at.ensures.within in
    let inside : c.in_ok-at.at < length text = omega (arith, c.if-at-text.false) in
    let opens : get_or text c.in_ok-at.at 0 ≡ open_brace = omega (arith, c.if-text-at-ne123.false) in
    whole_parts text _ c.in_ok-at.at c.in_ok-end.end c.white_end.result _ _ _ c.members.new.parts.items
    (c.if-not-is_utf8.ensures.0 refl) (c.in_ok-at.ensures.is_shown
    ∙ nothing_shown c.args.draft.now.line text c.args.draft.now.from c.requires.line
    c.requires.from) c.in_ok-at.ensures.skipped (drop_one text c.in_ok-at.at open_brace inside opens)
    (shown_one c.skip_white.new.draft.line text c.skip_white.new.draft.from c.in_ok-at.at open_brace
    c.in_ok-at.ensures.copied inside opens) c.in_ok-end.ensures.taken c.white_end.ensures.skipped (omega arith) refl
