use Rattle.std.proofs.Common.{arith}
use Rattle.city_families.proofs.CopiedTexts.{not_both}
use Rattle.cut_on_text.proofs.ScannedBounds.{is_array, no_boundary}
use Rattle.cut_on_text.proofs.TextMembers.{on_some_more}
use Rattle.cut_on_text.proofs.on_text.bounds.wrong_boundary.Goals as goal

pub returns-then-not-is_array : goal.returns-then-not-is_array
returns-then-not-is_array c = λ value of is.
    not_both c.is_array.result ((c.is_array.ensures value of).1 (is_array c.args.count value is)) c.if-not-is_array.true

pub returns : goal.returns
returns c = on_some_more c.wrong_byte.result (no_boundary c.args.count c.args.text.now (omega arith)) c.wrong_byte.ensures
