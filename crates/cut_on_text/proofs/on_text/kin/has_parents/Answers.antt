use Rattle.std.proofs.Common.{subst, refl, codes, rules}
use Rattle.city_json.specs.Tree.{array, no_items, object}
use Rattle.city_feature.proofs.LineTexts.{utf8}
use Rattle.city_json.specs.CompactTexts.{IsCompactOf}
use Rattle.cut_on_text.proofs.TextDocuments.{empty_array}
use Rattle.cut_on_text.proofs.TextNames.{parents_said}
use Rattle.cut_on_text.proofs.on_text.kin.has_parents.Goals as goal

pub returns : goal.returns
returns c = λ has value of.
    let (members, is_object, are) = has value of.writable of.within of.is in
    let of_object : IsCompactOf c.args.text.now (object members) = subst (IsCompactOf c.args.text.now) is_object of in
    let given = c.in_ok-parents.ensures members of_object are (codes "parents") (utf8 (codes "parents") refl) refl
    (array no_items) empty_array in
    parents_said value members c.in_ok-named.named.items _ is_object (c.in_ok-named.ensures _ given)
    (search rules)
