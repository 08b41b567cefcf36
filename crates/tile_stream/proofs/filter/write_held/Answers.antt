use Rattle.std.proofs.Common.{◌∙◌, ap, length, refl}
use Rattle.city_feature.specs.Choice.{IsChosen}
use Rattle.city_feature.specs.LineTexts.{no_steps}
use Rattle.tile_stream.specs.Coming.{LinesMayComeTo, MayComeTo}
use Rattle.tile_stream.proofs.FirstBytes.{all_given, some_given}
use Rattle.tile_stream.proofs.Steps.{at_start, at_fault, at_skipped, at_failed_flush, of_line}
use Rattle.tile_stream.proofs.filter.write_held.Goals as goal

pub returns-in-Err-clause-refused : goal.returns-in-Err-clause-refused
returns-in-Err-clause-refused g c =
    let before = MayComeTo g.R.Source.gives (IsChosen c.args.choice.now) no_steps c.args.tile.now in
    let at = c.in-Err.at in
    let old = g.W.Sink.taken c.args.output.now in
    let refused = rw c.zero.ensures at c.in-Err.ensures.refused in
    let stopped = at_fault before old before 0 old (at_start before old)
    (record { line = at.line; fault = at.fault }) refused in
    rw c.of_line.ensures (of_line before at.line old old at.fault c.in-Err.ensures.kind.0 stopped)

pub returns-in-Err-write-clause-refused : goal.returns-in-Err-write-clause-refused
returns-in-Err-write-clause-refused g c =
    let before = MayComeTo g.R.Source.gives (IsChosen c.args.choice.now) no_steps c.args.tile.now in
    let after = LinesMayComeTo g.R.Source.gives (IsChosen c.args.choice.now) no_steps c.take_held.new.self.lines in
    let gives = rw c.zero.ensures at c.in-Ok.ensures.texts in
    let some = rw c.zero.ensures at c.take_held.ensures.some in
    rw c.of_no_line.ensures (
      refl,
      refl,
      some_given before after (g.W.Sink.taken c.args.output.now) c.in-Ok.texts
          gives some (g.W.Sink.taken c.write.new.output) c.in-Err-write.ensures.some,
    )

pub returns-in-Ok-pass_on-clause-ok : goal.returns-in-Ok-pass_on-clause-ok
returns-in-Ok-pass_on-clause-ok g c =
    let before = MayComeTo g.R.Source.gives (IsChosen c.args.choice.now) no_steps c.args.tile.now in
    let after = LinesMayComeTo g.R.Source.gives (IsChosen c.args.choice.now) no_steps c.take_held.new.self.lines in
    let old = g.W.Sink.taken c.args.output.now in
    let mid = g.W.Sink.taken c.write.new.output in
    let gives = rw c.zero.ensures at c.in-Ok.ensures.texts in
    let so_far = all_given before after old c.in-Ok.texts gives c.len.result
    (c.len.ensures.count ∙ ap length c.in-Ok-write.ensures.same) mid c.in-Ok-write.ensures.ok in
    at_skipped before old after c.len.result mid so_far after (λ texts outcome came. came)
    (g.W.Sink.taken c.pass_on.new.output) c.pass_on.ensures.bytes

pub returns-clause-refused : goal.returns-clause-refused
returns-clause-refused g c =
    let before = MayComeTo g.R.Source.gives (IsChosen c.args.choice.now) no_steps c.args.tile.now in
    let after = LinesMayComeTo g.R.Source.gives (IsChosen c.args.choice.now) no_steps c.take_held.new.self.lines in
    let old = g.W.Sink.taken c.args.output.now in
    let mid = g.W.Sink.taken c.write.new.output in
    let gives = rw c.zero.ensures at c.in-Ok.ensures.texts in
    let some = rw c.zero.ensures at c.take_held.ensures.some in
    let so_far = all_given before after old c.in-Ok.texts gives _ refl mid c.in-Ok-write.ensures.ok in
    let front = at_failed_flush before old after _ mid so_far some (g.W.Sink.taken c.pass_on.new.output)
    c.pass_on.ensures.bytes in
    rw c.of_no_line-in-Err-pass_on.ensures (refl, refl, front)
