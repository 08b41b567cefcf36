use Rattle.std.proofs.Common.{subst, sym, unwrap_or}
use Rattle.city_json.proofs.NamedMembers.{absent_there}
use Rattle.city_json.specs.CompactTexts.{IsCompactOf}
use Rattle.cut_on_text.proofs.TextMembers.{if_some_more, value_or}
use Rattle.cut_on_text.proofs.on_text.texts.member_or.Goals as goal

pub returns-in_default : goal.returns-in_default
returns-in_default c = λ members of are named utf8 is value of_other.
    let none = absent_there c.args.text.now c.args.parts.now members c.args.name.now named of.is are is
    c.in_default.ensures.none in
    subst (λ o. IsCompactOf c.args.other.now (unwrap_or o value)) (sym none) of_other

pub returns : goal.returns
returns c = if_some_more c.between.result (λ found lies members of are named utf8 is value of_other.
    value_or c.args.text.now found.now c.args.name.now named c.args.parts.now c.in-Some.part members value of are utf8
    is c.in-Some.ensures.some lies) c.between.ensures.some
