use Rattle.std.proofs.Common.{◌∙◌, sym}
use Rattle.std.proofs.lemmas.Bool.{eqb-true}
use Rattle.city_json.proofs.GivenTexts.{none_in, nothing_written}
use Rattle.city_json.proofs.compacting.object.place_of.Goals as goal

pub returns-then-is_empty : goal.returns-then-is_empty
returns-then-is_empty c =
    let line = c.args.draft.now.line in
    let none = none_in c.items.result.now line c.items.ensures (eqb-true _ _ (sym c.is_empty.ensures ∙ c.if-is_empty.true))
    in
    nothing_written line c.args.text.now c.args.draft.now.from c.args.end none c.if-draft-eq0.true
