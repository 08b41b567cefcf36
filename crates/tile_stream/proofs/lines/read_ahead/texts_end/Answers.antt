use Rattle.tile_stream.proofs.Coming.{none_after}
use Rattle.tile_stream.proofs.StandingLines.{ends_before, none_ends}
use Rattle.tile_stream.proofs.lines.read_ahead.texts_end.Goals as goal

pub returns-in-Some : goal.returns-in-Some
returns-in-Some c =
    ends_before c.args.bytes.now c.args.seen c.in-Some.last c.full_end.result c.in-Some.ensures
    c.full_end.ensures.within c.full_end.ensures.full c.full_end.ensures.white

pub returns-in-None : goal.returns-in-None
returns-in-None c =
    none_ends c.args.bytes.now
    (none_after c.args.bytes.now c.args.seen c.requires.seen c.requires.within c.in-None.ensures)
