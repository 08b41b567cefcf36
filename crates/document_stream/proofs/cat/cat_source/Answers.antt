use Rattle.std.proofs.Common.{◌∙◌, ap, length}
use Rattle.city_families.specs.HeldTexts.{HeldTexts, texts_in}
use Rattle.tile_stream.specs.Stream as lines
use Rattle.document_stream.proofs.AllWritten.{all_written, some_written}
use Rattle.document_stream.proofs.cat.cat_source.Goals as goal

pub returns-clause-refused : goal.returns-clause-refused
returns-clause-refused g c =
    let stream = c.in-Ok.stream in
    let some = c.in-Err-write_stream.ensures.some in
    rw c.of_no_line.ensures (some_written (g.R.Source.gives c.args.source.now) (length stream.texts.own)
    (lines.stream stream.header (texts_in stream.texts)) c.in-Ok.ensures.ok (g.W.Sink.taken c.args.output.now)
    (g.W.Sink.taken c.write_stream.new.output) some.0 some.1)

pub returns-in-Ok-write_stream-clause-ok : goal.returns-in-Ok-write_stream-clause-ok
returns-in-Ok-write_stream-clause-ok g c =
    let stream = c.in-Ok.stream in
    all_written (g.R.Source.gives c.args.source.now) (length stream.texts.own)
    (lines.stream stream.header (texts_in stream.texts)) c.in-Ok.ensures.ok (g.W.Sink.taken c.args.output.now)
    (g.W.Sink.taken c.write_stream.new.output) c.len.result
    (c.len.ensures.count ∙ ap (λ (texts : HeldTexts). length texts.own) c.in-Ok-write_stream.ensures.same)
    c.in-Ok-write_stream.ensures.ok
