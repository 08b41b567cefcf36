use Rattle.std.proofs.Common.{◌≡◌, ◌-◌, ◌++◌, subst, take, drop, map, length, get_or}
use Rattle.city_json.specs.Compact.{compact}
use Rattle.city_feature.specs.Feature.{vertices_tree}
use Rattle.city_families.specs.Chosen.{point_at}
use Rattle.cut_on_text.proofs.TextFeatures.{first_and_others}
use Rattle.cut_on_text.proofs.TextPoints.{points_made}
use Rattle.cut_on_text.proofs.TextMembers.{on_some_more}
use Rattle.cut_on_text.proofs.on_text.points.append_points.Goals as goal

pub returns : goal.returns
returns c = on_some_more c.append_text-3.result (λ closed points stand.
    let numbers = c.args.numbers.now in
    subst (λ l. c.append_text-3.new.line ≡ c.args.line.now ++ compact (vertices_tree (map (point_at points) l)))
    (first_and_others numbers c.in-len1-up.len_at_least)
    (points_made _ _ _ _ _ points (get_or numbers 0 0) (take (length numbers - 1) (drop 1 numbers))
    c.in_ok-append_text.ensures (c.in_ok-append_point.ensures points stand)
    (c.in_ok-append_more_points.ensures points stand) closed)) c.append_text-3.ensures
