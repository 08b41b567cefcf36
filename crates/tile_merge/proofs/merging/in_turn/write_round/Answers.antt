use Rattle.std.proofs.Common.{◌∙◌, ◌||◌, refl, ap, arith}
use Rattle.byte_streams.specs.Failures.{one_more}
use Rattle.city_feature.specs.Choice.{IsChosen}
use Rattle.tile_merge.proofs.Turning.{round_start, round_end, turn_some, turn_taken, turn_stopped}
use Rattle.tile_merge.proofs.merging.in_turn.write_round.Goals as goal

pub tiles-init : goal.tiles-init
tiles-init g c = record {
  so_far = round_start g.R.Source.gives (IsChosen c.args.choice.now) c.args.feeds.now
      (g.W.Sink.taken c.args.output.now);
  failures = refl;
}

pub write_next-requires : goal.write_next-requires
write_next-requires g c =
    let old = g.W.Sink.taken c.args.output.now in
    turn_some g.R.Source.gives (IsChosen c.args.choice.now) c.args.feeds.now old c.tiles.feeds c.tiles.feed-index
    c.tiles.any (g.W.Sink.taken c.tiles.output) c.tiles.invariant.so_far
    (omega (arith, c.tiles-test.true, c.tiles.auto.feeds)) c.requires c.feed-item.result

pub returns-in-Err : goal.returns-in-Err
returns-in-Err g c = record {
  ok = tt;
  failed = turn_stopped g.R.Source.gives (IsChosen c.args.choice.now) c.args.feeds.now
      (g.W.Sink.taken c.args.output.now) c.tiles.feeds c.tiles.feed-index c.tiles.any (g.W.Sink.taken c.tiles.output)
      c.tiles.invariant.so_far (omega (arith, c.tiles-test.true, c.tiles.auto.feeds)) c.feed-item.result c.requires
      (g.W.Sink.taken c.write_next.new.output) c.in-Err.ensures.failed;
  fault = c.in-Err.ensures.fault;
  failures = c.in-Err.ensures.failures ∙ ap one_more c.tiles.invariant.failures;
}

pub tiles-preserved : goal.tiles-preserved
tiles-preserved g c =
    let turn = c.in-Ok.ensures.ok in
    record {
      so_far = turn_taken g.R.Source.gives (IsChosen c.args.choice.now) c.args.feeds.now
          (g.W.Sink.taken c.args.output.now) c.tiles.feeds c.tiles.feed-index c.tiles.any
          (g.W.Sink.taken c.tiles.output) c.tiles.invariant.so_far
          (omega (arith, c.tiles-test.true, c.tiles.auto.feeds)) c.feed-item.result c.write_next.new.self turn.0
          turn.1 (g.W.Sink.taken c.write_next.new.output) turn.3 (c.tiles.any || c.in-Ok.wrote)
          (ap (λ b. c.tiles.any || b) turn.2);
      failures = c.in-Ok.ensures.failures ∙ c.tiles.invariant.failures;
    }

pub returns : goal.returns
returns g c = record {
  ok = round_end g.R.Source.gives (IsChosen c.args.choice.now) c.args.feeds.now (g.W.Sink.taken c.args.output.now)
      c.tiles.feeds c.tiles.feed-index c.tiles.any (g.W.Sink.taken c.tiles.output) c.tiles.invariant.so_far
      (omega (arith, c.tiles-test.false, c.tiles.auto.feeds));
  failed = tt;
  fault = tt;
  failures = c.tiles.invariant.failures;
}
