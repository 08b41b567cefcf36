use Rattle.std.proofs.Common.{◌∙◌, ℕ, ap, sym, subst, arith, append-nil, flat_map, get_or, refl, take}
use Rattle.std.proofs.lemmas.Result.{err_from_is_err_and}
use Rattle.std.specs.Io.KnownBytes.{Appends}
use Rattle.byte_streams.specs.Failures.{one_more}
use Rattle.tile_stream.specs.Stream.{with_newline}
use Rattle.tile_merge.specs.Threads.{RunningState}
use Rattle.tile_merge.proofs.Writing.{all_first, first_failed, first_written, header_failed, set_itself}
use Rattle.tile_merge.proofs.merging.threaded.writing.write_first.Goals as goal

pub returns-in_err-write_line-clause-written : goal.returns-in_err-write_line-clause-written
returns-in_err-write_line-clause-written g c =
    let refusal = err_from_is_err_and c.from_residual.result c.from_residual.ensures.1 in
    header_failed c.args.header c.args.tiles.now (g.W.Sink.taken c.args.output.now) (g.W.Sink.taken c.write_line.new.output)
    c.in_err-write_line.ensures.some c.from_residual.result refusal.0 refusal.1

pub tiles-init : goal.tiles-init
tiles-init g c = record {
  same = refl;
  written = subst (Appends (g.W.Sink.taken c.args.output.now) (g.W.Sink.taken c.write_line.new.output))
      (sym (append-nil (with_newline c.args.header))) c.in_ok-write_line.ensures.all.1;
  failures = c.in_ok-write_line.ensures.failures;
}

pub returns-in_err-write_first-clause-written : goal.returns-in_err-write_first-clause-written
returns-in_err-write_first-clause-written g c =
    let refusal = err_from_is_err_and c.from_residual-in_err-write_first.result
    c.from_residual-in_err-write_first.ensures.1 in
    let tile = c.index-tiles-at.result in
    let there = c.index-tiles-at.is ∙ ap (λ tiles. get_or tiles c.tiles.at tile) c.tiles.invariant.same in
    let part = subst (λ (first : RunningState g.row.R.Denot). (count : ℕ) × Appends (g.W.Sink.taken c.tiles.output)
    (g.W.Sink.taken c.write_first.new.output) (take count (flat_map with_newline first.begun.first)))
    (sym c.index-tiles-at.is) c.in_err-write_first.ensures.written in
    first_failed c.args.header c.args.tiles.now (g.W.Sink.taken c.args.output.now) c.tiles.at
    (omega (arith, c.tiles-test.true)) tile there (g.W.Sink.taken c.tiles.output)
    (g.W.Sink.taken c.write_first.new.output) c.tiles.invariant.written part
    c.from_residual-in_err-write_first.result refusal.0 refusal.1

pub returns-in_err-write_first-clause-failures : goal.returns-in_err-write_first-clause-failures
returns-in_err-write_first-clause-failures g c =
    let refusal = err_from_is_err_and c.from_residual-in_err-write_first.result
    c.from_residual-in_err-write_first.ensures.1 in
    rw refusal.1 (c.in_err-write_first.ensures.failures ∙ ap one_more c.tiles.invariant.failures)

pub returns-in_err-write_first-clause-same : goal.returns-in_err-write_first-clause-same
returns-in_err-write_first-clause-same g c =
    set_itself c.tiles.tiles c.args.tiles.now c.tiles.at c.index-tiles-at.result c.write_first.new.self
    c.tiles.invariant.same c.in_err-write_first.ensures.same

pub tiles-preserved : goal.tiles-preserved
tiles-preserved g c =
    let tile = c.index-tiles-at.result in
    let there = c.index-tiles-at.is ∙ ap (λ tiles. get_or tiles c.tiles.at tile) c.tiles.invariant.same in
    let wrote = subst (λ (first : RunningState g.row.R.Denot). Appends (g.W.Sink.taken c.tiles.output)
    (g.W.Sink.taken c.write_first.new.output) (flat_map with_newline first.begun.first)) (sym c.index-tiles-at.is)
    c.in_ok-write_first.ensures.written in
    record {
      same = set_itself c.tiles.tiles c.args.tiles.now c.tiles.at tile c.write_first.new.self c.tiles.invariant.same
          c.in_ok-write_first.ensures.same;
      written = first_written c.args.header c.args.tiles.now (g.W.Sink.taken c.args.output.now) c.tiles.at
          (omega (arith, c.tiles-test.true)) tile there (g.W.Sink.taken c.tiles.output)
          (g.W.Sink.taken c.write_first.new.output) c.tiles.invariant.written wrote;
      failures = c.in_ok-write_first.ensures.failures ∙ c.tiles.invariant.failures;
    }

pub returns-clause-written : goal.returns-clause-written
returns-clause-written g c = all_first c.args.header c.args.tiles.now (g.W.Sink.taken c.args.output.now)
    c.tiles.at (omega (arith, c.tiles-test.false)) (g.W.Sink.taken c.tiles.output) c.tiles.invariant.written

pub returns-clause-failures : goal.returns-clause-failures
returns-clause-failures g c = c.tiles.invariant.failures

pub returns-clause-same : goal.returns-clause-same
returns-clause-same g c = c.tiles.invariant.same
