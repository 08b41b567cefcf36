use Rattle.std.proofs.Common.{◌≡◌, length}
use Rattle.city_json.specs.ReadString.{decoded, prepend}
use Rattle.city_json.proofs.reading.strings.decode.Given as goal

abbrev pub invariant-pieces : goal.invariant-pieces
invariant-pieces l = decoded l.bytes ≡ prepend l.to.items (decoded l.rest)

abbrev pub decreases-pieces : goal.decreases-pieces
decreases-pieces l = length l.rest
