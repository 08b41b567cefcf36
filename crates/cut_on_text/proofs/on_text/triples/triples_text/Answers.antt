use Rattle.std.proofs.Common.{refl, codes}
use Rattle.city_json.proofs.ObjectTexts.{some_or, value_found}
use Rattle.city_json.specs.ObjectTexts.{members_of}
use Rattle.city_json.specs.Tree.{array, no_items}
use Rattle.city_feature.proofs.LineTexts.{utf8}
use Rattle.cut_on_text.proofs.TextDocuments.{empty_array, points_there}
use Rattle.cut_on_text.proofs.TextMembers.{if_some_more}
use Rattle.cut_on_text.proofs.on_text.triples.triples_text.Goals as goal

pub returns-clause-vertices : goal.returns-clause-vertices
returns-clause-vertices c = if_some_more c.between.result (λ found lies points.
    let document = c.args.document.now in
    let has = value_found document c.text.ensures.placed _ c.in_ok-part.part c.in_ok-part.ensures.some found.now
    (rw c.text.ensures.is at lies) in
    points_there found.now (members_of document) points
    (some_or _ document _ found.now has (codes "vertices") (utf8 (codes "vertices") refl) refl (array no_items)
    empty_array)) c.between.ensures.some
