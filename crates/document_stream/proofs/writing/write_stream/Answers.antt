use Rattle.std.proofs.lemmas.Result.{err_from_is_err_and}
use Rattle.std.proofs.Common.{flat_map}
use Rattle.city_families.specs.HeldTexts.{texts_in}
use Rattle.tile_stream.specs.Stream.{with_newline}
use Rattle.tile_stream.proofs.FirstBytes.{all_of_it, of_features, of_header, on_err}
use Rattle.document_stream.proofs.writing.write_stream.Goals as goal

pub returns-in_err-write_text-clause-some : goal.returns-in_err-write_text-clause-some
returns-in_err-write_text-clause-some g c =
    let stream = c.args.cut.now in
    let some = rw c.items.ensures at c.in_err-write_text.ensures.some in
    let refusal = err_from_is_err_and c.from_residual.result c.from_residual.ensures.1 in
    rw refusal.1 (of_header (with_newline stream.header) (flat_map with_newline (texts_in stream.texts))
    (g.W.Sink.taken c.args.output.now) (g.W.Sink.taken c.write_text.new.output) some)

pub returns-in_err-write_texts-clause-some : goal.returns-in_err-write_texts-clause-some
returns-in_err-write_texts-clause-some g c =
    let stream = c.args.cut.now in
    let wrote = rw c.items.ensures at c.in_ok-write_text.ensures.all in
    let some = c.in_err-write_texts.ensures.some in
    let refusal = err_from_is_err_and c.from_residual-in_err-write_texts.result
    c.from_residual-in_err-write_texts.ensures.1 in
    rw refusal.1 (of_features (with_newline stream.header) (flat_map with_newline (texts_in stream.texts))
    (g.W.Sink.taken c.args.output.now) (g.W.Sink.taken c.write_text.new.output) wrote
    (g.W.Sink.taken c.write_texts.new.output) some)

pub returns-clause-some : goal.returns-clause-some
returns-clause-some g c =
    let stream = c.args.cut.now in
    let wrote = rw c.items.ensures at c.in_ok-write_text.ensures.all in
    let more = c.in_ok-write_texts.ensures.ok in
    on_err c.flush.result (all_of_it (with_newline stream.header) (flat_map with_newline (texts_in stream.texts))
    (g.W.Sink.taken c.args.output.now) (g.W.Sink.taken c.write_text.new.output) wrote
    (g.W.Sink.taken c.write_texts.new.output) (g.W.Sink.taken c.flush.new.self) more c.flush.ensures.bytes)
