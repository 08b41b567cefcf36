use Rattle.tile_merge.proofs.TurnsInterleave.{interleaves}
use Rattle.tile_merge.proofs.laws.turns_interleave.Goals as goal

pub returns : goal.returns
returns c lists = interleaves lists
