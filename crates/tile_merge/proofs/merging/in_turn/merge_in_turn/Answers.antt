use Rattle.std.proofs.Common.{◌∙◌, ap, filter_map, length, refl, sym, arith}
use Rattle.std.proofs.lemmas.Result.{err_from_is_err_and}
use Rattle.city_feature.specs.Choice.{IsChosen}
use Rattle.tile_merge.specs.Feeds.{FeedState}
use Rattle.tile_merge.specs.Merged.{IsOutputFault, IsRefusedEarly}
use Rattle.tile_merge.specs.Rounds.{IsFeedOf, course_ends, course_texts}
use Rattle.tile_merge.specs.Turns.{AreTurns, turns}
use Rattle.tile_merge.proofs.Answering.{lent_back, merged_result, no_failed_write, of_early, of_memory, of_write, refused_result, when_ok, when_refused}
use Rattle.tile_merge.proofs.Ends.{all_ended}
use Rattle.tile_merge.proofs.InTurn.{interleaved_result}
use Rattle.tile_merge.proofs.MergedTiles.{given_all, some_ahead}
use Rattle.tile_merge.proofs.Opening.{all_three_same}
use Rattle.tile_merge.proofs.merging.in_turn.merge_in_turn.Goals as goal

pub returns-in_err-tiles-clause-refused : goal.returns-in_err-tiles-clause-refused
returns-in_err-tiles-clause-refused g c =
    let e = err_from_is_err_and c.from_residual.result c.from_residual.ensures.1 in
    rw (e.1, e.2) (of_early g.R.Source.gives (IsChosen c.args.choice.now) c.args.base AreTurns c.args.readers.items
    c.in_err-tiles.field-0.0 (g.W.Sink.taken c.args.output.now) c.in_err-tiles.ensures.refused)

pub returns-in_err-feeds-clause-refused : goal.returns-in_err-feeds-clause-refused
returns-in_err-feeds-clause-refused g c =
    let e = err_from_is_err_and c.from_residual-in_err-feeds.result c.from_residual-in_err-feeds.ensures.1 in
    rw e.1 (of_early g.R.Source.gives (IsChosen c.args.choice.now) c.args.base AreTurns c.args.readers.items e.0
    (g.W.Sink.taken c.args.output.now)
    (of_memory g.R.Source.gives c.args.base c.args.readers.items c.in_err-feeds.field-0.0
    c.in_err-feeds.ensures.memory e.0 e.2))

pub write_stream-requires : goal.write_stream-requires
write_stream-requires g c =
    let joined = c.in_ok-tiles.ensures.ok in
    let tiles = c.in_ok-tiles.field-0.tiles.items in
    let shifts = c.in_ok-tiles.field-0.shifts in
    let fed = all_three_same (IsFeedOf g.R.Source.gives (IsChosen c.args.choice.now)) tiles c.items.result.now shifts c.in_ok-feeds.feeds.items
    c.deref_mut.result.now (sym c.items.ensures) c.deref_mut.ensures.value c.in_ok-feeds.ensures.ok in
    some_ahead g.R.Source.gives (IsChosen c.args.choice.now) c.args.readers.items tiles joined.headers
    shifts c.deref_mut.result.now joined.opened fed

pub returns-in_err-write_stream-clause-refused : goal.returns-in_err-write_stream-clause-refused
returns-in_err-write_stream-clause-refused g c =
    let tiles = c.in_ok-tiles.field-0.tiles.items in
    let shifts = c.in_ok-tiles.field-0.shifts in
    let feeds = c.deref_mut.result.now in
    let fed = all_three_same (IsFeedOf g.R.Source.gives (IsChosen c.args.choice.now)) tiles c.items.result.now shifts c.in_ok-feeds.feeds.items feeds
    (sym c.items.ensures) c.deref_mut.ensures.value c.in_ok-feeds.ensures.ok in
    let front = c.in_err-write_stream.ensures.failed in
    let given = given_all g.R.Source.gives (IsChosen c.args.choice.now) tiles shifts feeds front.0 fed
    front.2 in
    let e = err_from_is_err_and c.from_residual-in_err-write_stream.result
    c.from_residual-in_err-write_stream.ensures.1 in
    rw e.1 (of_write g.R.Source.gives (IsChosen c.args.choice.now) c.args.base AreTurns c.args.readers.items tiles
    shifts c.in_ok-tiles.field-0.line c.in_ok-tiles.ensures.ok front.0 given (turns (course_texts front.0)) refl
    (g.W.Sink.taken c.args.output.now) (g.W.Sink.taken c.write_stream.new.output)
    c.in_err-write_stream.field-0.0 c.in_err-write_stream.ensures.fault e.0 e.2 front.1 front.3)

pub returns : goal.returns
returns g c =
    let gives = g.R.Source.gives in
    let chosen = IsChosen c.args.choice.now in
    let readers = c.args.readers.items in
    let tiles = c.in_ok-tiles.field-0.tiles.items in
    let shifts = c.in_ok-tiles.field-0.shifts in
    let line = c.in_ok-tiles.field-0.line in
    let joined = c.in_ok-tiles.ensures.ok in
    let feeds = c.deref_mut.result.now in
    let fed = all_three_same (IsFeedOf g.R.Source.gives (IsChosen c.args.choice.now)) tiles c.items.result.now shifts c.in_ok-feeds.feeds.items feeds
    (sym c.items.ensures) c.deref_mut.ensures.value c.in_ok-feeds.ensures.ok in
    let turned = c.in_ok-write_stream.ensures.ok in
    let after = c.write_stream.new.feeds in
    let given = given_all gives chosen tiles shifts feeds turned.0 fed turned.1 in
    let old = g.W.Sink.taken c.args.output.now in
    let new = g.W.Sink.taken c.write_stream.new.output in
    let back = c.deref.ensures.value ∙ lent_back c.in_ok-feeds.feeds.items after c.in_ok-feeds.feeds.len
    (c.write_stream.auto.feeds ∙ ap length c.deref_mut.ensures.value ∙ sym c.in_ok-feeds.feeds.ok.0)
    c.in_ok-feeds.feeds.ok.0 in
    let ends = c.gather.result.ends in
    let are = c.gather.ensures.ends ∙ ap (filter_map (λ (f : FeedState g.row.R.Denot). f.last)) back
    ∙ all_ended (λ (f : FeedState g.row.R.Denot). f.last) after (course_ends turned.0) turned.2 in
    let out = turns (course_texts turned.0) in
    let ok = merged_result gives chosen c.args.base AreTurns readers tiles shifts line joined turned.0 given out refl
    old new turned.3 ends are c.report.result c.report.ensures.ok in
    let flushed = c.in_ok-write_stream.ensures.flushed in
    record {
      ok = ok;
      flushed = when_ok (g.W.Sink.is_flushed c.write_stream.new.output) c.report.result flushed;
      refused = refused_result gives chosen c.args.base AreTurns readers tiles shifts line joined turned.0 given out
          refl old new turned.3 ends are c.report.result c.report.ensures.refused;
      interleaved = interleaved_result gives chosen c.args.base readers old new c.report.result ok;
      passed_on = when_refused (λ e. IsRefusedEarly gives c.args.base readers e) (λ e. IsOutputFault e)
          (g.W.Sink.is_flushed c.write_stream.new.output) c.report.result flushed;
      too_many = λ over. absurd (omega (arith, over, c.in_ok-tiles.ensures.few));
      failures = c.in_ok-write_stream.ensures.failures ∙ no_failed_write ends c.report.result c.report.ensures.refused
          (g.W.Sink.failures c.args.output.now);
    }
