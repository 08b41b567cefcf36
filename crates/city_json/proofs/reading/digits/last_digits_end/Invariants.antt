use Rattle.std.proofs.Common.{◌≡◌, ◌≤◌, ◌-◌, length, drop}
use Rattle.city_json.specs.NumberAt.{past_digits}
use Rattle.city_json.proofs.reading.digits.last_digits_end.Given as goal

abbrev pub invariant-loop-end : goal.invariant-loop-end
invariant-loop-end l = (l.at ≤ l.end) × (l.end ≤ length l.text)
    × (past_digits (drop l.end l.text) ≡ past_digits (drop l.at l.text))

abbrev pub decreases-loop-end : goal.decreases-loop-end
decreases-loop-end l = length l.text - l.end
