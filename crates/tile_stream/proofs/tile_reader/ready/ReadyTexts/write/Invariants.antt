use Rattle.std.proofs.Common.{◌≡◌, flat_map, take}
use Rattle.std.specs.Io.KnownBytes.{Appends}
use Rattle.tile_stream.specs.Stream.{with_newline}
use Rattle.tile_stream.proofs.tile_reader.ready.ReadyTexts.write.Given as goal

abbrev pub invariant-loop-at : goal.invariant-loop-at
invariant-loop-at g l = record {
  same : l.self ≡ l.fn.self;
  written : Appends (g.W.Sink.taken l.fn.output) (g.W.Sink.taken l.output)
      (flat_map with_newline (take l.at l.fn.self));
  none_failed : g.W.Sink.failures l.output ≡ g.W.Sink.failures l.fn.output;
}
