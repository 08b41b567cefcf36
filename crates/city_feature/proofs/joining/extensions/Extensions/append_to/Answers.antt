use Rattle.std.proofs.Common.{◌∙◌, ◌++◌, ap, map, sym}
use Rattle.std.proofs.lemmas.List.{map-append}
use Rattle.city_json.specs.Tree.{member_trees}
use Rattle.city_feature.specs.Pieces.{members_text}
use Rattle.city_feature.specs.Values.{lent, lent_members}
use Rattle.city_feature.proofs.LentMembers.{nil_by_length}
use Rattle.city_feature.proofs.MemberPieces.{nil_of_map, object_of_both}
use Rattle.city_feature.proofs.joining.extensions.Extensions.append_to.Goals as goal

pub returns-clause-ok : goal.returns-clause-ok
returns-clause-ok c =
    let first = c.self.inside.first.entries in
    let later = c.self.inside.later in
    object_of_both c.args.line.now c.append.new.self c.append_hashed.new.line (map lent first) c.is_empty.result
    (nil_by_length c.is_empty.result first c.is_empty.ensures ∙ nil_of_map lent first) c.in_ok-append.ensures.ok
    c.in_ok-append_hashed.ensures.ok c.append_pairs.new.line c.append-2.new.self (map lent later)
    (lent_members c.args.self.now)
    (ap lent_members (sym c.self.view_is) ∙ ap member_trees (map-append lent first later))
    (c.in_ok-append_pairs.ensures.ok
    ∙ ap (λ pairs. c.append_hashed.new.line ++ members_text c.is_empty.result (lent_members pairs)) c.pairs.ensures)
    c.in_ok-append-2.ensures.ok
