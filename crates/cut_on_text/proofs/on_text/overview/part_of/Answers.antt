use Rattle.city_json.proofs.NamedMembers.{absent_there}
use Rattle.cut_on_text.specs.Holders.{name_of}
use Rattle.cut_on_text.proofs.on_text.overview.part_of.Goals as goal

pub returns-in_default : goal.returns-in_default
returns-in_default c = λ members of are.
    absent_there c.args.text.now c.args.parts.now members c.mark.result.now (name_of c.args.holder) of.is are
    c.mark.ensures c.in_default.ensures.none
