use Rattle.std.proofs.Common.{◌≡◌, ◌≤◌, ◌+◌, length}
use Rattle.city_json.specs.Depth.{outside, unquoted}
use Rattle.city_json.specs.BracketRun.{place_of}
use Rattle.city_json.proofs.DepthLemmas.{deep_from}
use Rattle.city_json.proofs.reading.depth.is_deep.Given as goal

abbrev pub invariant-loop-opened : goal.invariant-loop-opened
invariant-loop-opened l = record {
  so_far : deep_from l.opened l.closed (unquoted (place_of l.in_string) l.rest)
      ≡ deep_from 0 0 (unquoted outside l.bytes);
  few_opened : l.opened + length l.rest ≤ length l.bytes;
  few_closed : l.closed + length l.rest ≤ length l.bytes;
}

abbrev pub decreases-loop-opened : goal.decreases-loop-opened
decreases-loop-opened l = length l.rest
