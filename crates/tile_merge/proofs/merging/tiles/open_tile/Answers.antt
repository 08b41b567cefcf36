use Rattle.tile_stream.specs.Tile.{TileLines, stream_limits}
use Rattle.tile_stream.specs.Unread.{Leaves, IsOfTile}
use Rattle.tile_merge.proofs.Opening.{head_given}
use Rattle.tile_merge.proofs.merging.tiles.open_tile.Goals as goal

pub returns-clause-ok : goal.returns-clause-ok
returns-clause-ok g c =
    let gives = g.R.Source.gives in
    let head = c.in_ok-header in
    record {
      line = head.ensures.line;
      later = head.ensures.later;
      head = head_given (Leaves gives c.new-reader.result.lines) (IsOfTile (gives c.args.reader) stream_limits)
          (λ (tile : TileLines). (c.new-reader.ensures.tile tile).0) _ _ _ head.ensures.head;
      some = c.take_head.ensures.some;
      most = head.ensures.most;
    }
