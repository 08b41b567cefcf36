use Rattle.std.proofs.Common.{◌≡◌, take, filter_map}
use Rattle.tile_merge.proofs.merging.report.Ends.gather.Given as goal

-- the ends so far, in the room that there was
abbrev pub invariant-loop-tile : goal.invariant-loop-tile
invariant-loop-tile g l = (l.ends.ends ≡ filter_map g.T.Ending.last_of (take l.tile-index l.tiles))
    × (l.ends.room ≡ l.initial.ends.room)
