use Rattle.std.proofs.Common.{◌≡◌, ◌<◌, ◌⊎◌, ◌++◌, ◌∙◌, ap, arith, length, get_or, codes, [], ◌∷◌}
use Rattle.city_json.specs.Bytes.{close_brace, colon, comma, open_bracket}
use Rattle.city_json.specs.Compact.{quoted}
use Rattle.cut_on_text.proofs.TextGeometries.{copied_there, member_stopped, part_leaves, walked, walked_made}
use Rattle.cut_on_text.proofs.on_text.items.append_walked.Goals as goal

pub returns-clause-is : goal.returns-clause-is
returns-clause-is g c =
    let text = c.args.text.now in
    let opens : (c.args.value < length text) × (get_or text c.args.value 0 ≡ open_bracket) =
    c.byte_is.ensures.0 c.if-not-byte_is.false in
    let copied = copied_there _ text _ c.args.copier.now.draft.line _ _ c.args.value c.in_ok-boundary_end.boundary_end
    opens.0 opens.1 c.in_ok-boundary_end.ensures.made in
    let found = walked text (quoted (codes "boundaries") ++ colon ∷ []) c.args.value
    c.in_ok-boundary_end.boundary_end c.in_ok-end.end c.requires (part_leaves _ _ _ _ _ _ _ copied)
    (c.ends_member.ensures c.if-not-ends_member.false).0 c.in_ok-end.ensures.is in
    (found.0, found.2)

pub returns-clause-made : goal.returns-clause-made
returns-clause-made g c =
    let text = c.args.text.now in
    let value = c.args.value in
    let end = c.in_ok-boundary_end.boundary_end in
    let opens : (value < length text) × (get_or text value 0 ≡ open_bracket) =
    c.byte_is.ensures.0 c.if-not-byte_is.false in
    let ends : (end < length text) × ((get_or text end 0 ≡ comma) ⊎ (get_or text end 0 ≡ close_brace)) =
    c.ends_member.ensures c.if-not-ends_member.false in
    let copied = copied_there _ text _ c.args.copier.now.draft.line _ _ value end opens.0 opens.1
    c.in_ok-boundary_end.ensures.made in
    let (parts, named, front) = walked text (quoted (codes "boundaries") ++ colon ∷ []) value end c.in_ok-end.end
    c.requires (part_leaves _ _ _ _ _ _ _ copied) ends.0 c.in_ok-end.ensures.is in
    walked_made _ text _ c.args.copier.now.draft.line _ c.copy_items.new.copier.draft.line _ c.requires.at value end
    c.in_ok-end.end c.copy_items.new.copier.draft.from parts named front c.requires.order opens.0 opens.1
    (omega (arith, c.in_ok-boundary_end.ensures.onward)) (omega (arith, c.in_ok-end.ensures.onward))
    c.in_ok-boundary_end.ensures.copied (member_stopped text end ends.0 ends.1) copied
    (c.in_ok-append_text.ensures ∙ ap (λ l. c.copy_items.new.copier.draft.line ++ l) c.in_ok-last.ensures.some)
