use Rattle.std.proofs.Common.{◌≡◌}
use Rattle.city_feature.specs.Choice.{IsChosen}
use Rattle.tile_merge.specs.Rounds.{RoundSoFar}
use Rattle.tile_merge.proofs.merging.in_turn.write_round.Given as goal

abbrev pub invariant-tiles : goal.invariant-tiles
invariant-tiles g l = record {
  so_far : RoundSoFar g.R.Source.gives (IsChosen l.choice) l.fn.feeds l.feeds l.feed-index l.any
      (g.W.Sink.taken l.initial.output) (g.W.Sink.taken l.output);
  failures : g.W.Sink.failures l.output ≡ g.W.Sink.failures l.initial.output;
}
