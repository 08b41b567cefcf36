use Rattle.city_json.proofs.ItemsGoOn.{whole_more}
use Rattle.city_json.proofs.compacting.values.more_items.Goals as goal

pub returns-in-Some-clause-taken : goal.returns-in-Some-clause-taken
returns-in-Some-clause-taken c =
    whole_more c.args.levels c.args.draft.now.line c.args.text.now c.args.draft.now.from c.args.at
    c.in-Some.end c.requires.copied c.in-Some.ensures.onward c.in-Some.ensures.closes
