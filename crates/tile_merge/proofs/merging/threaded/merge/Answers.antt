use Rattle.std.proofs.Common.{◌∙◌, List, ap, filter_map, inr, length, refl, subst, sym, arith}
use Rattle.std.proofs.lemmas.Result.{err_from_is_err_and}
use Rattle.byte_streams.specs.declared.fault.Fault.TheVariants.{Memory}
use Rattle.city_feature.specs.Choice.{IsChosen}
use Rattle.tile_merge.specs.Merged.{IsOutputFault, IsRefusedEarly}
use Rattle.tile_merge.specs.Threaded.{HasNoThread}
use Rattle.tile_merge.specs.Threads.{RunningState, HaveGiven, IsRunOf}
use Rattle.tile_merge.proofs.Answering.{lent_back, of_memory, when_ok}
use Rattle.tile_merge.proofs.Opening.{all_three_same}
use Rattle.tile_merge.proofs.Starting.{are_fresh, not_started, quiet_unstarted, refused_all, refused_start}
use Rattle.tile_merge.proofs.Threaded.{all_merged, all_passed_on, before_writing, failures_are, interleaved, refused_write, tile_refused}
use Rattle.tile_merge.proofs.Writing.{on_ok}
use Rattle.tile_merge.proofs.merging.threaded.merge.Goals as goal

pub returns-in_err-tiles-clause-refused : goal.returns-in_err-tiles-clause-refused
returns-in_err-tiles-clause-refused g c =
    let e = err_from_is_err_and c.from_residual.result c.from_residual.ensures.1 in
    rw (e.1, e.2) (refused_start g.R.Source.gives c.args.base c.args.readers.items (IsChosen c.args.choice.now)
    c.in_err-tiles.field-0.0 (g.W.Sink.taken c.args.output.now) (inr c.in_err-tiles.ensures.refused))

pub returns-in_err-filled-clause-refused : goal.returns-in_err-filled-clause-refused
returns-in_err-filled-clause-refused g c =
    let e = err_from_is_err_and c.from_residual-in_err-filled.result c.from_residual-in_err-filled.ensures.1 in
    let memory = of_memory g.R.Source.gives c.args.base c.args.readers.items Memory refl e.0 e.2 in
    rw e.1 (refused_start g.R.Source.gives c.args.base c.args.readers.items (IsChosen c.args.choice.now) e.0
    (g.W.Sink.taken c.args.output.now) (inr memory))

pub returns-in_err-running-clause-refused : goal.returns-in_err-running-clause-refused
returns-in_err-running-clause-refused g c =
    let e = err_from_is_err_and c.from_residual-in_err-running.result c.from_residual-in_err-running.ensures.1 in
    rw (e.1, e.2) (refused_start g.R.Source.gives c.args.base c.args.readers.items (IsChosen c.args.choice.now)
    c.in_err-running.field-0.0 (g.W.Sink.taken c.args.output.now)
    (not_started g.R.Source.gives c.args.base c.args.readers.items c.in_ok-tiles.field-0.tiles.items
    c.in_ok-tiles.field-0.shifts c.in_ok-tiles.field-0.line c.in_ok-tiles.ensures.ok c.in_err-running.field-0.0
    c.in_err-running.ensures.refused))

pub returns-in_err-running-clause-passed_on : goal.returns-in_err-running-clause-passed_on
returns-in_err-running-clause-passed_on g c =
    let e = err_from_is_err_and c.from_residual-in_err-running.result c.from_residual-in_err-running.ensures.1 in
    rw (e.1, e.2) (before_writing (not_started g.R.Source.gives c.args.base c.args.readers.items
    c.in_ok-tiles.field-0.tiles.items c.in_ok-tiles.field-0.shifts c.in_ok-tiles.field-0.line
    c.in_ok-tiles.ensures.ok c.in_err-running.field-0.0 c.in_err-running.ensures.refused))

pub returns-in_err-running-clause-failures : goal.returns-in_err-running-clause-failures
returns-in_err-running-clause-failures g c =
    let e = err_from_is_err_and c.from_residual-in_err-running.result c.from_residual-in_err-running.ensures.1 in
    rw (e.1, e.2) (sym (quiet_unstarted (length c.in_ok-tiles.field-0.tiles.items) c.in_err-running.field-0.0
    c.in_err-running.ensures.refused (g.W.Sink.failures c.args.output.now)))

pub write_stream-wrote-requires : goal.write_stream-wrote-requires
write_stream-wrote-requires g c =
    let tiles = c.in_ok-tiles.field-0.tiles.items in
    let shifts = c.in_ok-tiles.field-0.shifts in
    let runs = all_three_same (IsRunOf g.R.Source.gives c.args.choice.now) tiles c.items.result.now shifts c.in_ok-running.running.items
    c.deref_mut.result.now (sym c.items.ensures) c.deref_mut.ensures.value c.in_ok-running.ensures.ok in
    record { fresh = are_fresh g.R.Source.gives c.args.choice.now tiles shifts c.deref_mut.result.now runs }

pub returns-in_err-wrote-clause-refused : goal.returns-in_err-wrote-clause-refused
returns-in_err-wrote-clause-refused g c =
    let wrote = c.write_stream-wrote in
    let tiles = c.in_ok-tiles.field-0.tiles.items in
    let shifts = c.in_ok-tiles.field-0.shifts in
    let line = c.in_ok-tiles.field-0.line in
    let running = c.in_ok-running.running.items in
    let now = wrote.new.tiles in
    let runs = all_three_same (IsRunOf g.R.Source.gives c.args.choice.now) tiles c.items.result.now shifts running
    c.deref_mut.result.now (sym c.items.ensures) c.deref_mut.ensures.value c.in_ok-running.ensures.ok in
    let back = lent_back running now c.in_ok-running.running.len
    (wrote.auto.tiles ∙ ap length c.deref_mut.ensures.value ∙ sym c.in_ok-running.running.ok.0)
    c.in_ok-running.running.ok.0 in
    let courses = c.join_all.ensures.0 in
    let Have : List (RunningState g.row.R.Denot) → Type 0 = λ ts. HaveGiven g.R.Source.gives ts courses in
    let old = g.W.Sink.taken c.args.output.now in
    let new = g.W.Sink.taken wrote.new.output in
    let e = err_from_is_err_and c.from_residual-in_err-wrote.result c.from_residual-in_err-wrote.ensures.1 in
    rw e.1 (inr (refused_write g.R.Source.gives c.args.choice.now c.args.base c.args.readers.items tiles shifts line
    c.in_ok-tiles.ensures.ok c.deref_mut.result.now now runs wrote.result old new
    (g.W.Sink.failures c.args.output.now) (g.W.Sink.failures wrote.new.output) wrote.ensures.written courses
    (subst Have back c.join_all.ensures.1) c.in_err-wrote.field-0.0 c.in_err-wrote.was e.0 e.2))

pub returns : goal.returns
returns g c =
    let gives = g.R.Source.gives in
    let choice = c.args.choice.now in
    let base = c.args.base in
    let readers = c.args.readers.items in
    let wrote = c.write_stream-wrote in
    let tiles = c.in_ok-tiles.field-0.tiles.items in
    let shifts = c.in_ok-tiles.field-0.shifts in
    let line = c.in_ok-tiles.field-0.line in
    let joined = c.in_ok-tiles.ensures.ok in
    let running = c.in_ok-running.running.items in
    let given = c.deref_mut.result.now in
    let now = wrote.new.tiles in
    let runs = all_three_same (IsRunOf gives choice) tiles c.items.result.now shifts running given (sym c.items.ensures)
    c.deref_mut.ensures.value c.in_ok-running.ensures.ok in
    let back = lent_back running now c.in_ok-running.running.len
    (wrote.auto.tiles ∙ ap length c.deref_mut.ensures.value ∙ sym c.in_ok-running.running.ok.0)
    c.in_ok-running.running.ok.0 in
    let courses = c.join_all.ensures.0 in
    let Have : List (RunningState g.row.R.Denot) → Type 0 = λ ts. HaveGiven gives ts courses in
    let have = subst Have back c.join_all.ensures.1 in
    let old = g.W.Sink.taken c.args.output.now in
    let new = g.W.Sink.taken wrote.new.output in
    let failures = g.W.Sink.failures c.args.output.now in
    let newer = g.W.Sink.failures wrote.new.output in
    let so_far = wrote.ensures.written in
    let was = c.in_ok-wrote.was in
    let ends_are = c.gather-ends.ensures.ends ∙ ap (filter_map (λ (tile : RunningState g.row.R.Denot). tile.last))
    (c.deref.ensures.value ∙ back) in
    let result = c.report.result in
    let ok = all_merged gives choice base readers tiles shifts line joined given now runs wrote.result old new failures
    newer so_far courses have was c.gather-ends.result.ends ends_are result c.report.ensures.ok in
    let refused = tile_refused gives choice base readers tiles shifts line joined given now runs wrote.result old new
    failures newer so_far courses have was c.gather-ends.result.ends ends_are result c.report.ensures.refused in
    let flushed = on_ok (g.W.Sink.is_flushed wrote.new.output) wrote.result was wrote.ensures.flushed in
    record {
      ok = ok;
      flushed = when_ok (g.W.Sink.is_flushed wrote.new.output) result flushed;
      refused = refused_all gives base readers (IsChosen choice) old new result refused;
      interleaved = interleaved gives (IsChosen choice) base readers old new result ok;
      passed_on = all_passed_on (λ e. HasNoThread gives base readers e) (λ e. IsRefusedEarly gives base readers e)
          (λ e. IsOutputFault e) (g.W.Sink.is_flushed wrote.new.output) result flushed;
      too_many = λ over. absurd (omega (arith, over, c.in_ok-tiles.ensures.few));
      failures = failures_are gives choice base readers tiles shifts line joined given now runs wrote.result old new
          failures newer so_far courses have was c.gather-ends.result.ends ends_are result c.report.ensures.refused;
    }
