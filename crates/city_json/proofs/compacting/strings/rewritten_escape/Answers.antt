use Rattle.std.proofs.Common.{◌∙◌, ◌++◌, ap, arith, sym}
use Rattle.city_json.proofs.PassEscapes.{escape_end, escape_taken}
use Rattle.city_json.proofs.compacting.strings.rewritten_escape.Goals as goal

pub overflow_sub-end : goal.overflow_sub-end
overflow_sub-end c = (escape_end c.args.text.now c.in_ok-character.rest.now c.args.at c.in_ok-character.character
    c.requires.within (sym c.in_ok-character.ensures)).short

pub copy_to-requires-clause-order : goal.copy_to-requires-clause-order
copy_to-requires-clause-order c =
    let end = escape_end c.args.text.now c.in_ok-character.rest.now c.args.at c.in_ok-character.character
    c.requires.within (sym c.in_ok-character.ensures) in
    omega (arith, end.onward)

pub returns-clause-onward : goal.returns-clause-onward
returns-clause-onward c = (escape_end c.args.text.now c.in_ok-character.rest.now c.args.at c.in_ok-character.character
    c.requires.within (sym c.in_ok-character.ensures)).onward

pub returns-clause-taken : goal.returns-clause-taken
returns-clause-taken c =
    let text = c.args.text.now in
    let rest = c.in_ok-character.rest.now in
    let read = sym c.in_ok-character.ensures in
    let end = escape_end text rest c.args.at c.in_ok-character.character c.requires.within read in
    escape_taken text rest c.copy_to.new.draft.line _ c.append.new.self c.args.at c.copy_to.new.draft.from
    c.in_ok-character.character read end c.in_ok-copy_to.ensures.from c.in_ok-copy_to.ensures.line
    (c.in_ok-append.ensures ∙ ap (λ l. c.copy_to.new.draft.line ++ l) c.character_bytes.ensures)
