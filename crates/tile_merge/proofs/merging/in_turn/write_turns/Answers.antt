use Rattle.std.proofs.Common.{◌∙◌, refl, ap}
use Rattle.byte_streams.specs.Failures.{one_more}
use Rattle.city_feature.specs.Choice.{IsChosen}
use Rattle.tile_merge.proofs.Rounding.{turns_start, turns_on, turns_smaller, turns_over, turns_failed}
use Rattle.tile_merge.proofs.merging.in_turn.write_turns.Goals as goal

pub rounds-init : goal.rounds-init
rounds-init g c = record {
  so_far = turns_start g.R.Source.gives (IsChosen c.args.choice.now) c.args.feeds.now (g.W.Sink.taken c.args.output.now)
      c.requires;
  failures = refl;
}

pub rounds-smaller : goal.rounds-smaller
rounds-smaller g c =
    let old = g.W.Sink.taken c.args.output.now in
    turns_smaller g.R.Source.gives (IsChosen c.args.choice.now) c.args.feeds.now old c.rounds.feeds
    (g.W.Sink.taken c.rounds.output) c.rounds.invariant.so_far c.write_round.new.feeds c.in-Ok-true.field-0
    (g.W.Sink.taken c.write_round.new.output) c.in-Ok-true.ensures.ok c.in-Ok-true.field-0-test

pub rounds-preserved : goal.rounds-preserved
rounds-preserved g c =
    let old = g.W.Sink.taken c.args.output.now in
    record {
      so_far = turns_on g.R.Source.gives (IsChosen c.args.choice.now) c.args.feeds.now old c.rounds.feeds
          (g.W.Sink.taken c.rounds.output) c.rounds.invariant.so_far c.write_round.new.feeds c.in-Ok-true.field-0
          (g.W.Sink.taken c.write_round.new.output) c.in-Ok-true.ensures.ok;
      failures = c.in-Ok-true.ensures.failures ∙ c.rounds.invariant.failures;
    }

pub write_round-requires : goal.write_round-requires
write_round-requires g c = c.rounds.invariant.so_far.some

pub returns-in-Ok-false : goal.returns-in-Ok-false
returns-in-Ok-false g c =
    let old = g.W.Sink.taken c.args.output.now in
    record {
      ok = turns_over g.R.Source.gives (IsChosen c.args.choice.now) c.args.feeds.now old c.rounds.feeds
          (g.W.Sink.taken c.rounds.output) c.rounds.invariant.so_far c.write_round.new.feeds c.in-Ok-false.field-0
          (g.W.Sink.taken c.write_round.new.output) c.in-Ok-false.ensures.ok c.in-Ok-false.field-0-test;
      failed = tt;
      fault = tt;
      failures = c.in-Ok-false.ensures.failures ∙ c.rounds.invariant.failures;
    }

pub returns-in-Err : goal.returns-in-Err
returns-in-Err g c =
    let old = g.W.Sink.taken c.args.output.now in
    record {
      ok = tt;
      failed = turns_failed g.R.Source.gives (IsChosen c.args.choice.now) c.args.feeds.now old c.rounds.feeds
          (g.W.Sink.taken c.rounds.output) c.rounds.invariant.so_far (g.W.Sink.taken c.write_round.new.output)
          c.in-Err.ensures.failed;
      fault = c.in-Err.ensures.fault;
      failures = c.in-Err.ensures.failures ∙ ap one_more c.rounds.invariant.failures;
    }
