use Rattle.std.proofs.Common.{◌≡◌, take}
use Rattle.std.specs.Io.KnownBytes.{Appends}
use Rattle.tile_stream.specs.Stream.{stream}
use Rattle.tile_merge.specs.Threads.{first_texts}
use Rattle.tile_merge.proofs.merging.threaded.writing.write_first.Given as goal

-- the header and the first texts of the tiles so far were written
abbrev pub invariant-tiles : goal.invariant-tiles
invariant-tiles g l = record {
  same : l.tiles ≡ l.fn.tiles;
  written : Appends (g.W.Sink.taken l.fn.output) (g.W.Sink.taken l.output)
      (stream l.fn.header (first_texts (take l.at l.fn.tiles)));
  failures : g.W.Sink.failures l.output ≡ g.W.Sink.failures l.fn.output;
}
