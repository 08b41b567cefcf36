use Rattle.std.proofs.Common.{◌≤◌, ◌+◌, ◌-◌, ◌*◌, arith}
use Rattle.city_json.proofs.OpenParts.{part_goes}
use Rattle.city_json.proofs.compacting.whole_arrays.stays_open_by_parts.Goals as goal

pub rounds-preserved : goal.rounds-preserved
rounds-preserved c = record {
  few = omega (arith, c.in-Some.ensures.few, c.rounds.invariant.few);
  some = λ _. c.in-Some.ensures.some;
  goes_on = λ bytes short is_up is_down.
      let left = c.rounds.invariant.goes_on bytes short is_up is_down in
      let after = 64 - 16 * (c.rounds.round + 1) in
      let fits : 16 + after ≤ 64 = omega (arith, c.rounds-test.true) in
      let next = part_goes c.rounds.left c.in-Some.next after c.rounds.up c.rounds.down left.0
      (omega (arith, left.1, c.rounds-test.true)) fits left.2 left.3 c.in-Some.ensures.stays_open in
      (next.0, next.1, next.2, next.3, λ given. left.4 (next.4 given));
}
