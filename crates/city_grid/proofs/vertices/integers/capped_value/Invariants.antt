use Rattle.std.proofs.Common.{◌≤◌, ◌+◌, ◌*◌, take}
use Rattle.std.specs.Str.Parse.{digits_value}
use Rattle.byte_streams.specs.Limits.{max_steps}
use Rattle.city_grid.specs.Vertex.{IsCapped}
use Rattle.city_grid.proofs.vertices.integers.capped_value.Given as goal

abbrev pub invariant-loop-digit : goal.invariant-loop-digit
invariant-loop-digit l =
    record {
      value : IsCapped (digits_value 10 (take l.digit-index l.digits)) l.size;
      small : l.size ≤ 10 * max_steps + 9;
    }
