use Rattle.std.proofs.Common.{◌<◌, length}
use Rattle.std.proofs.lemmas.List.Sorted.{All-permutation}
use Rattle.cut_on_text.proofs.Noted.{sorted_rises, sorted_same, within}
use Rattle.cut_on_text.proofs.rosters.Roster.sort.Goals as goal

pub number_anew-requires-clause-within : goal.number_anew-requires-clause-within
number_anew-requires-clause-within c =
    let table = c.self.inside.table.items in
    let order = c.self.inside.order.items in
    rw (c.deref.ensures.value, c.deref_mut.ensures.value) (All-permutation (λ one. one < length table) order
    c.sort_unstable.new.self.items c.sort_unstable.ensures.permutation (within table order c.self.invariant.0))

pub number_anew-requires-clause-rises : goal.number_anew-requires-clause-rises
number_anew-requires-clause-rises c =
    rw (c.deref.ensures.value) (sorted_rises c.self.inside.table.items c.self.inside.order.items
    c.sort_unstable.new.self.items c.self.invariant.0 c.sort_unstable.ensures.permutation
    c.sort_unstable.ensures.sorted)

pub returns-clause-same : goal.returns-clause-same
returns-clause-same c = rw (← c.self.view_is) (sorted_same c.self.inside.order.items c.sort_unstable.new.self.items
    c.sort_unstable.ensures.permutation)
