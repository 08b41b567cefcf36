use Rattle.std.proofs.Common.{◌<◌, ◌≡◌, ◌∙◌, ◌++◌, ap, arith, length, get_or}
use Rattle.city_json.specs.Bytes.{open_bracket}
use Rattle.cut_on_text.proofs.TextGeometries.{boundary_made}
use Rattle.cut_on_text.proofs.TextMembers.{on_some_more}
use Rattle.cut_on_text.proofs.on_text.items.append_boundary.Goals as goal

pub returns-clause-made : goal.returns-clause-made
returns-clause-made g c =
    let text = c.args.text.now in
    let opens : (0 < length text) × (get_or text 0 0 ≡ open_bracket) = c.byte_is.ensures.0 c.if-not-byte_is.false in
    let end = c.in_ok-end.end in
    on_some_more c.append_text.result (λ appended value writable is.
    boundary_made _ text _ c.args.copier.now.draft.line _ c.copy_items.new.copier.draft.line _ c.copy_items.new.copier.draft.from end
    opens.0 opens.1 c.in_ok-end.ensures.made (omega (arith, c.if-end-text.false))
    (appended ∙ ap (λ l. c.copy_items.new.copier.draft.line ++ l) c.in_ok-last.ensures.some) value writable is)
    c.append_text.ensures
