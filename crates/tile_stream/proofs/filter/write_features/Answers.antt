use Rattle.std.proofs.Common.{◌+◌, ◌∙◌, refl, arith}
use Rattle.city_feature.specs.Choice.{IsChosen}
use Rattle.tile_stream.specs.Coming.{LinesMayComeTo, MayComeTo}
use Rattle.city_feature.specs.LineTexts.{no_steps}
use Rattle.tile_stream.proofs.Steps.{at_end, at_failed_flush, at_skipped, refused_more, so_far_more}
use Rattle.tile_stream.proofs.filter.write_features.Goals as goal

pub returns-in-Ok-None-clause-ok : goal.returns-in-Ok-None-clause-ok
returns-in-Ok-None-clause-ok g c =
    let before = MayComeTo g.R.Source.gives (IsChosen c.args.choice.now) no_steps c.args.tile.now in
    let comes = LinesMayComeTo g.R.Source.gives (IsChosen c.args.choice.now) no_steps in
    let over = rw (c.in-Ok-None.field-0-is, c.zero.ensures) at c.in-Ok-None.ensures.over in
    rw over.1 (at_end before (g.W.Sink.taken c.args.output.now) (comes c.features.tile.lines) c.features.count
    (g.W.Sink.taken c.features.output) c.features.invariant.so_far over.0)

pub returns-in-Err-clause-refused : goal.returns-in-Err-clause-refused
returns-in-Err-clause-refused g c =
    let before = MayComeTo g.R.Source.gives (IsChosen c.args.choice.now) no_steps c.args.tile.now in
    let comes = LinesMayComeTo g.R.Source.gives (IsChosen c.args.choice.now) no_steps in
    let e = c.in-Err.refusal in
    let refused = rw c.zero.ensures at c.in-Err.ensures.refused in
    refused_more before (comes c.features.tile.lines) (g.W.Sink.taken c.args.output.now)
    (g.W.Sink.taken c.features.output) c.features.count c.features.invariant.so_far e.fault e.tile e.line
    (g.W.Sink.taken c.write_next.new.output) refused

pub features-preserved : goal.features-preserved
features-preserved g c =
    let before = MayComeTo g.R.Source.gives (IsChosen c.args.choice.now) no_steps c.args.tile.now in
    let comes = LinesMayComeTo g.R.Source.gives (IsChosen c.args.choice.now) no_steps in
    let old = g.W.Sink.taken c.args.output.now in
    let now = c.features.tile.lines in
    let after = c.write_next.new.tile.lines in
    let step = rw (c.in-Ok-Some.field-0-is, c.zero.ensures) at c.in-Ok-Some.ensures.step in
    let one = rw c.in-Ok-Some.field-0-is at c.in-Ok-Some.ensures.one in
    let fewer = rw c.in-Ok-Some.field-0-is at c.in-Ok-Some.ensures.fewer in
    let wrote = g.W.Sink.taken c.write_next.new.output in
    let more = so_far_more before (comes now) old (g.W.Sink.taken c.features.output) c.features.count
    c.features.invariant.so_far (comes after) c.in-Ok-Some.texts wrote step in
    record {
      so_far = at_skipped before old (comes after) (c.features.count + c.in-Ok-Some.texts) wrote more
          (comes after) (λ texts outcome comes. comes) (g.W.Sink.taken c.pass_on.new.output) c.pass_on.ensures.bytes;
      bounded = omega (arith, c.features.invariant.bounded, fewer, one);
      not_failed = c.in-Ok-Some.ensures.not_failed;
      reads = c.in-Ok-Some.ensures.reads ∙ c.features.invariant.reads;
      failures = c.in-Ok.ensures.failures ∙ (c.in-Ok-Some.ensures.failures ∙ c.features.invariant.failures);
    }

pub returns-in-Err-pass_on-clause-refused : goal.returns-in-Err-pass_on-clause-refused
returns-in-Err-pass_on-clause-refused g c =
    let before = MayComeTo g.R.Source.gives (IsChosen c.args.choice.now) no_steps c.args.tile.now in
    let comes = LinesMayComeTo g.R.Source.gives (IsChosen c.args.choice.now) no_steps in
    let old = g.W.Sink.taken c.args.output.now in
    let now = c.features.tile.lines in
    let after = c.write_next.new.tile.lines in
    let step = rw (c.in-Ok-Some.field-0-is, c.zero.ensures) at c.in-Ok-Some.ensures.step in
    let some = rw c.zero.ensures at c.write_next.ensures.some in
    let wrote = g.W.Sink.taken c.write_next.new.output in
    let more = so_far_more before (comes now) old (g.W.Sink.taken c.features.output) c.features.count
    c.features.invariant.so_far (comes after) c.in-Ok-Some.texts wrote step in
    let front = at_failed_flush before old (comes after) (c.features.count + c.in-Ok-Some.texts) wrote more some
    (g.W.Sink.taken c.pass_on.new.output) c.pass_on.ensures.bytes in
    rw c.of_no_line.ensures (refl, refl, front)
