use Rattle.city_json.proofs.PassStrings.{plain_taken, string_taken}
use Rattle.city_json.proofs.compacting.strings.text_value.Goals as goal

pub returns-in-Some-clause-taken : goal.returns-in-Some-clause-taken
returns-in-Some-clause-taken c =
    string_taken c.args.levels _ _ _ _ _
    (plain_taken c.args.text.now c.args.draft.now.line c.args.draft.now.from c.args.at c.in-Some.close
    c.requires.copied c.requires.within c.requires.opened c.in-Some.ensures.onward c.in-Some.ensures.within
    c.in-Some.ensures.plain)

pub returns-in_ok-end-in-None-clause-taken : goal.returns-in_ok-end-in-None-clause-taken
returns-in_ok-end-in-None-clause-taken c = string_taken c.args.levels _ _ _ _ _ c.in_ok-end-in-None.ensures.taken.taken
