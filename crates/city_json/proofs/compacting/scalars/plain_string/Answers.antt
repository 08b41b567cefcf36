use Rattle.city_json.proofs.PassStrings.{plain_string_is}
use Rattle.city_json.proofs.compacting.scalars.plain_string.Goals as goal

pub returns-then-text-close-eq34-clause-plain : goal.returns-then-text-close-eq34-clause-plain
returns-then-text-close-eq34-clause-plain c =
    plain_string_is c.args.text.now c.args.at c.plain_len.result c.requires.utf8 c.requires.some c.requires.opened
    c.requires.within c.plain_len.ensures.value c.if-close-text.true c.if-text-close-eq34.true
