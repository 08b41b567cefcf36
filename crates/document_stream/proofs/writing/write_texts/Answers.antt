use Rattle.std.proofs.Common.{◌∙◌, arith}
use Rattle.std.proofs.lemmas.Result.{err_from_is_err_and}
use Rattle.document_stream.proofs.StreamWritten.{all_texts, next_failed, next_written}
use Rattle.document_stream.proofs.writing.write_texts.Goals as goal

pub returns-in_err-write_at-clause-some : goal.returns-in_err-write_at-clause-some
returns-in_err-write_at-clause-some g c =
    let refusal = err_from_is_err_and c.from_residual.result c.from_residual.ensures.1 in
    let some = rw c.loop-at.invariant.same at c.in_err-write_at.ensures.some in
    rw refusal.1 (next_failed c.args.texts.now c.loop-at.at (omega (arith, c.loop-at-test.true, c.len-at-end.ensures))
    (g.W.Sink.taken c.args.output.now) (g.W.Sink.taken c.loop-at.output) (g.W.Sink.taken c.write_at.new.output)
    c.loop-at.invariant.written some)

pub loop-at-preserved : goal.loop-at-preserved
loop-at-preserved g c = record {
  same = c.in_ok-write_at.ensures.same ∙ c.loop-at.invariant.same;
  written =
      let wrote = rw c.loop-at.invariant.same at c.in_ok-write_at.ensures.ok in
      next_written c.args.texts.now c.loop-at.at (omega (arith, c.loop-at-test.true, c.len-at-end.ensures))
      (g.W.Sink.taken c.args.output.now) (g.W.Sink.taken c.loop-at.output) (g.W.Sink.taken c.write_at.new.output)
      c.loop-at.invariant.written wrote;
  none_failed = c.in_ok-write_at.ensures.failures ∙ c.loop-at.invariant.none_failed;
}

pub returns-clause-ok : goal.returns-clause-ok
returns-clause-ok g c = all_texts c.args.texts.now c.loop-at.at (g.W.Sink.taken c.args.output.now)
    (g.W.Sink.taken c.loop-at.output) (omega (arith, c.loop-at-test.false, c.len-at-end.ensures))
    c.loop-at.invariant.written
