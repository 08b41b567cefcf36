use Rattle.std.proofs.Common.{◌<◌}
use Rattle.std.specs.List.{All}
use Rattle.tile_handoff.specs.History.{event_tile}
use Rattle.tile_handoff_tests.proofs.rows.largest_row.Given as goal

-- the events so far are of the row's tiles
abbrev pub invariant-loop-i : goal.invariant-loop-i
invariant-loop-i l = All (λ event. event_tile event < 64) l.events.items
