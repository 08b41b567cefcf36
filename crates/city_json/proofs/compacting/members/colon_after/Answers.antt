use Rattle.std.proofs.Common.{arith}
use Rattle.city_json.proofs.CompactMembers.{no_string}
use Rattle.city_json.proofs.compacting.members.colon_after.Goals as goal

pub returns-then-colon-text-clause-none : goal.returns-then-colon-text-clause-none
returns-then-colon-text-clause-none c = λ inside.
    no_string c.args.text.now _ c.string_end-colon.result (omega (arith, c.if-colon-text.true)) c.string_end-colon.ensures.is
