use Rattle.std.proofs.Common.{◌≡◌, flat_map, take}
use Rattle.std.specs.Io.KnownBytes.{Appends}
use Rattle.city_families.specs.HeldTexts.{texts_in}
use Rattle.tile_stream.specs.Stream.{with_newline}
use Rattle.document_stream.proofs.writing.write_texts.Given as goal

abbrev pub invariant-loop-at : goal.invariant-loop-at
invariant-loop-at g l = record {
  same : l.texts ≡ l.fn.texts;
  written : Appends (g.W.Sink.taken l.fn.output) (g.W.Sink.taken l.output)
      (flat_map with_newline (take l.at (texts_in l.fn.texts)));
  none_failed : g.W.Sink.failures l.output ≡ g.W.Sink.failures l.fn.output;
}
