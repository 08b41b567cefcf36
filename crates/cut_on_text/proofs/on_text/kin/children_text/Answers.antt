use Rattle.std.proofs.Common.{subst, sym, refl, codes}
use Rattle.city_json.specs.Tree.{array, no_items, object}
use Rattle.city_feature.proofs.LineTexts.{utf8}
use Rattle.cut_on_text.specs.Kin.{HasChildrenText}
use Rattle.city_json.specs.CompactTexts.{IsCompactOf}
use Rattle.cut_on_text.proofs.TextDocuments.{empty_array}
use Rattle.cut_on_text.proofs.TextMembers.{if_some_more}
use Rattle.cut_on_text.proofs.on_text.kin.children_text.Goals as goal

pub returns : goal.returns
returns c = if_some_more c.member_or.result (λ found holds has value of.
    let (members, is_object, are) = has value of.writable of.within of.is in
    let of_object : IsCompactOf c.args.text.now (object members) = subst (IsCompactOf c.args.text.now) is_object of in
    subst (λ v. HasChildrenText v found) (sym is_object)
    (holds members of_object are (codes "children") (utf8 (codes "children") refl) refl (array no_items) empty_array))
    c.member_or.ensures
