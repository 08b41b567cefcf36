-- A read that failed consumed nothing, and the bytes keep their number.
use Rattle.std.proofs.Common.{◌≡◌, length}
use Rattle.std.specs.Io.KnownBytes.{Keeps}
use Rattle.byte_streams.proofs.device.read_through.Given as goal

abbrev pub invariant-tries : goal.invariant-tries
invariant-tries g l = (length l.to ≡ length l.initial.to)
    × Keeps (g.R.Read.remaining l.initial.reader) (g.R.Read.remaining l.reader)
