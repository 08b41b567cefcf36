use Rattle.std.proofs.Common.{arith, ◌∙◌, sym}
use Rattle.city_json.proofs.WrittenLetters.{letter_taken}
use Rattle.city_json.proofs.compacting.strings.respelled_escape.Goals as goal

pub returns-then-is_letter_written-clause-taken : goal.returns-then-is_letter_written-clause-taken
returns-then-is_letter_written-clause-taken c = letter_taken c.args.text.now c.args.draft.now.line
    c.args.draft.now.from c.args.at c.requires.copied (omega arith) c.requires.escapes
    (sym c.is_letter_written.ensures ∙ c.if-is_letter_written.true)
