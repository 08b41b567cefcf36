use Rattle.std.proofs.Common.{◌≡◌, ◌++◌, ◌∷◌, ◌∙◌, [], ap, length, rules}
use Rattle.city_families.proofs.Pieces.{next_ends, pieces_more}
use Rattle.city_families.proofs.graphs.Graph.and_row.Goals as goal

pub invariant_of-result : goal.invariant_of-result
invariant_of-result c =
    let long : c.len.result ≡ length c.append_short.new.to.items = search rules in
    next_ends c.self.inside.places.items c.append_short.new.to.items c.args.row.now c.self.inside.ends.items
    c.push_place.new.places.items c.in_ok-append_short.ensures
    (c.in_ok-push_place.ensures ∙ ap (λ n. c.self.inside.ends.items ++ n ∷ []) long) c.self.invariant

pub returns : goal.returns
returns c =
    let long : c.len.result ≡ length c.append_short.new.to.items = search rules in
    pieces_more c.self.inside.places.items c.append_short.new.to.items c.args.row.now c.self.inside.ends.items
    c.push_place.new.places.items c.in_ok-append_short.ensures
    (c.in_ok-push_place.ensures ∙ ap (λ n. c.self.inside.ends.items ++ n ∷ []) long) c.self.invariant
    ∙ ap (λ l. l ++ c.args.row.now ∷ []) c.self.view_is
