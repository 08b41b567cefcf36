-- A flush appends nothing.
use Rattle.std.specs.Io.KnownBytes.{Keeps}
use Rattle.byte_streams.proofs.device.flush_through.Given as goal

abbrev pub invariant-tries : goal.invariant-tries
invariant-tries g l = Keeps (g.W.Write.contents l.initial.writer) (g.W.Write.contents l.writer)
