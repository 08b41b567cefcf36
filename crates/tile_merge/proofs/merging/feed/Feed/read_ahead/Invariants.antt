use Rattle.std.proofs.Common.{◌≡◌, ◌≤◌}
use Rattle.std.specs.Io.KnownBytes.{Keeps}
use Rattle.city_feature.specs.Choice.{IsChosen}
use Rattle.tile_merge.specs.Feeds.{MayTake, ReadsOn, most_ahead, most_lines}
use Rattle.tile_merge.proofs.merging.feed.Feed.read_ahead.Given as goal

abbrev pub invariant-lines : goal.invariant-lines
invariant-lines g l = record {
  reads : ReadsOn (MayTake g.R.Source.gives (IsChosen l.choice) l.initial.self)
      (MayTake g.R.Source.gives (IsChosen l.choice) l.self);
  fewer : most_ahead l.self ≤ most_ahead l.initial.self;
  bytes : Keeps (g.W.Sink.taken l.initial.output) (g.W.Sink.taken l.output);
  failures : g.W.Sink.failures l.output ≡ g.W.Sink.failures l.initial.output;
}

abbrev pub decreases-lines : goal.decreases-lines
decreases-lines g l = most_lines l.self
