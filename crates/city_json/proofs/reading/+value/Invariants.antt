use Rattle.std.proofs.Common.{◌≡◌, ◌+◌, ◌-◌, ◌*◌, ◌++◌, ◌&&◌}
use Rattle.city_json.specs.Distinct.{are_distinct_items, are_distinct_members}
use Rattle.city_json.specs.Members.{names}
use Rattle.city_json.specs.Reading.{value_at, items_at, members_at}
use Rattle.city_json.specs.Tree.{ItemTrees, MemberTrees}
use Rattle.city_json.proofs.Fronts.{with_items, with_members}
use Rattle.city_json.proofs.reading.+value.Given as goal

abbrev pub decreases-read_value : goal.decreases-read_value
decreases-read_value g l = 4 * l.levels

abbrev pub decreases-read_member : goal.decreases-read_member
decreases-read_member g l = 4 * l.levels + 1

abbrev pub decreases-read_items : goal.decreases-read_items
decreases-read_items g l = 4 * l.levels + 2

abbrev pub decreases-read_members : goal.decreases-read_members
decreases-read_members g l = 4 * l.levels + 2

abbrev pub decreases-read_array : goal.decreases-read_array
decreases-read_array g l = 4 * l.levels + 3

abbrev pub decreases-read_object : goal.decreases-read_object
decreases-read_object g l = 4 * l.levels + 3

abbrev pub invariant-read_items-loop : goal.invariant-read_items-loop
invariant-read_items-loop g l = (front : ItemTrees)
    × g.M.Make.are_items l.items front
    × (with_items front (items_at (value_at l.levels) (l.end - l.counter) l.rest)
    ≡ items_at (value_at l.levels) l.end l.bytes)
    × (l.held.are_distinct ≡ (l.fn.held.are_distinct && are_distinct_items front))
    × (l.held.names ≡ l.fn.held.names)

abbrev pub invariant-read_members-loop : goal.invariant-read_members-loop
invariant-read_members-loop g l = (front : MemberTrees)
    × g.M.Make.are_members l.members front
    × (with_members front (members_at (value_at l.levels) (l.end - l.counter) l.rest)
    ≡ members_at (value_at l.levels) l.end l.bytes)
    × (l.held.are_distinct ≡ (l.fn.held.are_distinct && are_distinct_members front))
    × (l.held.names ≡ l.fn.held.names ++ names front)
