use Rattle.std.proofs.Common.{take}
use Rattle.std.specs.List.{AllZip}
use Rattle.command_runs.proofs.tiles.open_tiles.Given as goal

abbrev pub invariant-loop-path : goal.invariant-loop-path
invariant-loop-path g l =
    AllZip (g.O.Opener.may_give l.opener) (take l.path-index l.paths) l.readers.items
