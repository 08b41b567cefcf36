use Rattle.city_feature.specs.Choice.{IsChosen}
use Rattle.tile_stream.specs.Tile.{stream_limits}
use Rattle.tile_stream.specs.Unread.{IsOfTile, Leaves}
use Rattle.tile_stream.proofs.Filtering.{passed_on_given, refusal_given, stream_given}
use Rattle.tile_stream.proofs.filter.filter_stream.Goals as goal

pub returns-clause-ok : goal.returns-clause-ok
returns-clause-ok g c =
    stream_given (Leaves g.R.Source.gives c.new-tile.result.lines)
    (IsOfTile (g.R.Source.gives c.args.reader) stream_limits) c.new-tile.ensures.tile (IsChosen c.args.choice.now)
    (g.W.Sink.taken c.args.output.now) (g.W.Sink.taken c.filter_tile.new.output) c.filter_tile.result
    c.filter_tile.ensures.ok

pub returns-clause-refused : goal.returns-clause-refused
returns-clause-refused g c =
    refusal_given (Leaves g.R.Source.gives c.new-tile.result.lines)
    (IsOfTile (g.R.Source.gives c.args.reader) stream_limits) c.new-tile.ensures.tile (IsChosen c.args.choice.now)
    (g.W.Sink.taken c.args.output.now) (g.W.Sink.taken c.filter_tile.new.output) c.filter_tile.result
    c.filter_tile.ensures.refused

pub returns-clause-passed_on : goal.returns-clause-passed_on
returns-clause-passed_on g c =
    passed_on_given (Leaves g.R.Source.gives c.new-tile.result.lines)
    (IsOfTile (g.R.Source.gives c.args.reader) stream_limits) c.new-tile.ensures.tile (IsChosen c.args.choice.now)
    (g.W.Sink.taken c.args.output.now) (g.W.Sink.taken c.filter_tile.new.output) c.filter_tile.result
    (g.W.Sink.is_flushed c.filter_tile.new.output) c.filter_tile.ensures.passed_on
