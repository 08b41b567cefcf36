use Rattle.std.proofs.Common.{◌≡◌}
use Rattle.city_feature.specs.Choice.{IsChosen}
use Rattle.tile_merge.specs.Rounds.{TurnsSoFar, all_ahead}
use Rattle.tile_merge.proofs.merging.in_turn.write_turns.Given as goal

abbrev pub invariant-rounds : goal.invariant-rounds
invariant-rounds g l = record {
  so_far : TurnsSoFar g.R.Source.gives (IsChosen l.choice) l.initial.feeds l.feeds (g.W.Sink.taken l.initial.output)
      (g.W.Sink.taken l.output);
  failures : g.W.Sink.failures l.output ≡ g.W.Sink.failures l.initial.output;
}

abbrev pub decreases-rounds : goal.decreases-rounds
decreases-rounds g l = all_ahead l.feeds
