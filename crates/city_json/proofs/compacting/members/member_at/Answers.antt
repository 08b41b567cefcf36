use Rattle.city_json.proofs.CompactMembers.{no_name, no_named_value}
use Rattle.city_json.proofs.ObjectTexts.{if_none, none_more}
use Rattle.city_json.proofs.compacting.members.member_at.Goals as goal

pub returns-in_err-colon-clause-none : goal.returns-in_err-colon-clause-none
returns-in_err-colon-clause-none c =
    if_none c.from_residual.result (no_name c.args.text.now c.args.at c.in_err-colon.ensures.none)

pub returns-clause-none : goal.returns-clause-none
returns-clause-none c =
    none_more c.member_from.result
    (no_named_value c.args.text.now c.args.at c.in_ok-colon.colon c.in_ok-colon.ensures.within c.in_ok-colon.ensures.is)
    c.member_from.ensures.none
