use Rattle.std.proofs.Common.{◌≡◌, ◌≤◌, length}
use Rattle.std.specs.Vec.{vec_capacity, vec_len}
use Rattle.city_json.specs.Members.{names}
use Rattle.city_json.specs.Tree.{members_tree}
use Rattle.cut_by_value.proofs.Tables.{AreListed}
use Rattle.cut_by_value.proofs.objects.table.Given as goal

abbrev pub invariant-loop-at : goal.invariant-loop-at
invariant-loop-at l =
    (vec_len l.pairs ≡ l.at) × (length l.objects ≤ vec_capacity l.pairs)
    × AreListed (names (members_tree l.objects)) l.pairs.items
