use Rattle.std.proofs.Common.{◌<◌}
use Rattle.std.specs.List.{All}
use Rattle.tile_handoff.specs.History.{event_tile}
use Rattle.tile_handoff_tests.proofs.rows.events_of.Given as goal

-- the events so far are of the row's tiles
abbrev pub invariant-asked : goal.invariant-asked
invariant-asked l = All (λ event. event_tile event < l.initial.tiles) l.events.items
