use Rattle.std.proofs.Common.{ap, arith, length}
use Rattle.cut_on_text.proofs.TextHeaders.{comma_written}
use Rattle.cut_on_text.proofs.TextMembers.{on_some_more}
use Rattle.cut_on_text.proofs.on_text.headers.append_comma.Goals as goal

pub returns-then-items-gt1-clause-written : goal.returns-then-items-gt1-clause-written
returns-then-items-gt1-clause-written c = on_some_more c.append_text.result (λ is name value others.
    comma_written c.args.line.now c.append_text.new.line name value others (omega (arith, ap length c.items.ensures, c.if-items-gt1.true)) is)
    c.append_text.ensures
