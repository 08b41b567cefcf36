use Rattle.std.proofs.Common.{codes, unwrap_or}
use Rattle.city_json.specs.Members.{first_named}
use Rattle.city_json.specs.ObjectTexts.{members_of}
use Rattle.city_json.specs.Tree.{array, no_items}
use Rattle.city_feature.proofs.LineTexts.{written_vertices}
use Rattle.cut_on_text.proofs.TextMembers.{if_some_more}
use Rattle.cut_on_text.proofs.TextPoints.{vertices_made}
use Rattle.cut_on_text.proofs.on_text.cut_compacted_triples.Goals as goal

pub cut_on-requires : goal.cut_on-requires
cut_on-requires c =
    let (points, written, range, stand) = c.in_ok-starts.ensures in
    (points, stand, range)

pub cut_on-requires-2 : goal.cut_on-requires-2
cut_on-requires-2 c =
    let made = vertices_made c.vertices_text-text.result.now c.is_array.result
    (unwrap_or (first_named (codes "vertices") (members_of c.args.document.now)) (array no_items))
    c.in-Ok.field-0.text c.in-Ok.field-0.starts.items c.items-text.result.now c.is_array.ensures
    c.if-not-is_array.false c.vertices_text-text.ensures c.in-Ok.ensures c.items-text.ensures in
    (made.0, made.2, made.3)

pub returns-in-Some : goal.returns-in-Some
returns-in-Some c = if_some_more c.cut_on.result (λ cut holds.
    let (points, written, range, stand) = c.in_ok-starts.ensures in
    holds points (c.in-Some.ensures.vertices points (written_vertices c.in-Some.text.now points written range)) stand)
    c.cut_on.ensures

pub returns : goal.returns
returns c =
    let made = vertices_made c.vertices_text-text.result.now c.is_array.result
    (unwrap_or (first_named (codes "vertices") (members_of c.args.document.now)) (array no_items))
    c.in-Ok.field-0.text c.in-Ok.field-0.starts.items c.items-text.result.now c.is_array.ensures
    c.if-not-is_array.false c.vertices_text-text.ensures c.in-Ok.ensures c.items-text.ensures in
    if_some_more c.cut_on-2.result (λ cut holds. holds made.0 made.1 made.2) c.cut_on-2.ensures
