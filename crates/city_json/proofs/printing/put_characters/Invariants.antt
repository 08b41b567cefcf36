use Rattle.std.proofs.Common.{◌≡◌, ◌++◌, length, take}
use Rattle.std.specs.List.{flat_map}
use Rattle.city_json.specs.Compact.{written}
use Rattle.city_json.proofs.printing.put_characters.Given as goal

abbrev pub invariant-loop-rest : goal.invariant-loop-rest
invariant-loop-rest l = (l.line ++ flat_map written l.rest ≡ l.initial.line ++ flat_map written l.text)
    × (take (length l.initial.line) l.line ≡ l.initial.line)

abbrev pub decreases-loop-rest : goal.decreases-loop-rest
decreases-loop-rest l = length l.rest
