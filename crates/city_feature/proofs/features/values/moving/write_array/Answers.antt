use Rattle.std.proofs.Common.{◌∙◌, ap, length}
use Rattle.city_json.specs.Tree.{tree}
use Rattle.city_feature.proofs.features.InPlace.{has_length}
use Rattle.city_feature.proofs.kinds.Trees.{tree_of_list}
use Rattle.city_feature.proofs.features.values.moving.write_array.Goals as goal

pub write_items-requires : goal.write_items-requires
write_items-requires c =
    let same = c.in-List.items-is in
    let long = has_length c.in-List.items.items (tree c.args.value.now) (length c.args.vertices.now)
    (ap tree c.in-List.is ∙ tree_of_list c.in-List.items) c.requires in
    cc
