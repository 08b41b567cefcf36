use Rattle.std.proofs.Common.{◌≡◌, ◌≤◌, ◌+◌}
use Rattle.rtrb.specs.Ring.{received, SameConsumer}
use Rattle.city_feature.specs.Choice.{IsChosen}
use Rattle.tile_handoff.specs.Ends.{notes_put, IsSameSender}
use Rattle.tile_stream.specs.Coming.{LinesMayComeTo}
use Rattle.tile_merge.specs.Threads.{FedSoFar}
use Rattle.tile_stream.specs.TileState.{most_texts}
use Rattle.tile_stream.specs.Unread.{most_left}
use Rattle.tile_merge.proofs.merging.threaded.feeder.FedTile.feed.Given as goal

abbrev pub invariant-lines : goal.invariant-lines
invariant-lines g l = record {
  so_far : FedSoFar (LinesMayComeTo g.R.Source.gives (IsChosen l.initial.choice) l.initial.shift l.initial.reader.lines)
      (LinesMayComeTo g.R.Source.gives (IsChosen l.choice) l.shift l.reader.lines)
      l.initial.count l.count (notes_put l.initial.sender) (notes_put l.sender);
  own : IsSameSender l.initial.sender l.sender;
  same : SameConsumer l.initial.links.cancellation.consumer l.links.cancellation.consumer;
  unseen : received l.links.cancellation.consumer ≡ received l.initial.links.cancellation.consumer;
  bounded : l.count + most_left l.reader.lines ≤ most_texts;
}

abbrev pub decreases-lines : goal.decreases-lines
decreases-lines g l = most_left l.reader.lines
