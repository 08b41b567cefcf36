use Rattle.std.proofs.Common.{◌∙◌, ap, arith, length}
use Rattle.std.proofs.lemmas.Result.{err_from_is_err_and}
use Rattle.tile_stream.proofs.FirstBytes.{all_texts, next_failed, next_written}
use Rattle.tile_stream.proofs.tile_reader.ready.ReadyTexts.write.Goals as goal

pub write_at-requires : goal.write_at-requires
write_at-requires g c =
    omega (arith, c.loop-at-test.true, c.len-at-end.ensures.count, ap length c.loop-at.invariant.same)

pub returns-in_err-write_at-clause-some : goal.returns-in_err-write_at-clause-some
returns-in_err-write_at-clause-some g c =
    let refusal = err_from_is_err_and c.from_residual.result c.from_residual.ensures.1 in
    let some = rw c.loop-at.invariant.same at c.in_err-write_at.ensures.some in
    rw refusal.1 (next_failed c.args.self.now c.loop-at.at (omega (arith, c.loop-at-test.true, c.len-at-end.ensures.count))
    (g.W.Sink.taken c.args.output.now) (g.W.Sink.taken c.loop-at.output) (g.W.Sink.taken c.write_at.new.output)
    c.loop-at.invariant.written some)

pub returns-in_err-write_at-clause-same : goal.returns-in_err-write_at-clause-same
returns-in_err-write_at-clause-same g c = c.in_err-write_at.ensures.same ∙ c.loop-at.invariant.same

pub loop-at-preserved : goal.loop-at-preserved
loop-at-preserved g c = record {
  same = c.in_ok-write_at.ensures.same ∙ c.loop-at.invariant.same;
  written =
      let wrote = rw c.loop-at.invariant.same at c.in_ok-write_at.ensures.ok in
      next_written c.args.self.now c.loop-at.at (omega (arith, c.loop-at-test.true, c.len-at-end.ensures.count))
      (g.W.Sink.taken c.args.output.now) (g.W.Sink.taken c.loop-at.output) (g.W.Sink.taken c.write_at.new.output)
      c.loop-at.invariant.written wrote;
  none_failed = c.in_ok-write_at.ensures.failures ∙ c.loop-at.invariant.none_failed;
}

pub returns-clause-ok : goal.returns-clause-ok
returns-clause-ok g c = all_texts c.args.self.now c.loop-at.at (g.W.Sink.taken c.args.output.now)
    (g.W.Sink.taken c.loop-at.output) (omega (arith, c.loop-at-test.false, c.len-at-end.ensures.count))
    c.loop-at.invariant.written
