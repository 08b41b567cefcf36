use Rattle.std.proofs.Common.{◌≡◌, ◌≤◌, ◌+◌, false}
use Rattle.city_feature.specs.Choice.{IsChosen}
use Rattle.tile_stream.specs.Coming.{LinesMayComeTo, MayComeTo}
use Rattle.city_feature.specs.LineTexts.{no_steps}
use Rattle.tile_stream.specs.Progress.{SoFar}
use Rattle.tile_stream.specs.TileState.{most_texts}
use Rattle.tile_stream.specs.Unread.{has_failed, most_left}
use Rattle.tile_stream.proofs.filter.write_features.Given as goal

abbrev pub invariant-features : goal.invariant-features
invariant-features g l = record {
  so_far : SoFar (MayComeTo g.R.Source.gives (IsChosen l.choice) no_steps l.fn.tile)
      (LinesMayComeTo g.R.Source.gives (IsChosen l.choice) no_steps l.tile.lines)
      l.count (g.W.Sink.taken l.fn.output) (g.W.Sink.taken l.output);
  bounded : l.count + most_left l.tile.lines ≤ most_texts;
  not_failed : has_failed l.tile.lines ≡ false;
  reads : g.R.Source.failures l.tile.lines.ahead.reader ≡ g.R.Source.failures l.fn.tile.lines.ahead.reader;
  failures : g.W.Sink.failures l.output ≡ g.W.Sink.failures l.fn.output;
}

abbrev pub decreases-features : goal.decreases-features
decreases-features g l = most_left l.tile.lines
