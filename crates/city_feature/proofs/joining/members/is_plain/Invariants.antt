use Rattle.std.proofs.Common.{◌≡◌, ◌++◌, drop, take}
use Rattle.std.specs.List.{flat_map}
use Rattle.city_json.specs.Compact.{written}
use Rattle.city_feature.proofs.joining.members.is_plain.Given as goal

-- the bytes so far are written as themselves
abbrev pub invariant-loop-byte : goal.invariant-loop-byte
invariant-loop-byte l =
    flat_map written l.text ≡ take l.byte-index l.text ++ flat_map written (drop l.byte-index l.text)
