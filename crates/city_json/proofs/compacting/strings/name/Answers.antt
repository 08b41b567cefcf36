use Rattle.std.proofs.Common.{◌∙◌, ◌+◌, ap, [], ◌∷◌}
use Rattle.std.proofs.lemmas.List.{map-append}
use Rattle.city_json.specs.ListedNames.{as_written, bytes_in, names_in}
use Rattle.city_json.proofs.PassStrings.{name_taken, plain_taken}
use Rattle.city_json.proofs.compacting.strings.name.Goals as goal

pub returns-in_ok-push-in-Some-clause-taken : goal.returns-in_ok-push-in-Some-clause-taken
returns-in_ok-push-in-Some-clause-taken c =
    name_taken _ _ _ _ _ _ _ (plain_taken c.args.text.now c.args.draft.now.line c.args.draft.now.from c.args.at
    c.in-Some.close c.requires.copied c.requires.within c.requires.opened c.in-Some.ensures.onward
    c.in-Some.ensures.within c.in-Some.ensures.plain) (ap (names_in c.args.text.now) c.in_ok-push-in-Some.ensures
    ∙ map-append (bytes_in c.args.text.now) c.args.draft.now.names (as_written (c.args.at + 1) c.in-Some.close ∷ []))
