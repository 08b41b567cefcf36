use Rattle.city_json.proofs.Marks.{bare_brace}
use Rattle.city_json.proofs.compacting.marks.after_member.Goals as goal

pub returns-then-text-at-eq125-clause-closes : goal.returns-then-text-at-eq125-clause-closes
returns-then-text-at-eq125-clause-closes c within closed =
    bare_brace c.args.draft.now.line c.args.text.now c.args.draft.now.from c.args.at c.requires.copied
    within c.if-text-at-eq125.true
