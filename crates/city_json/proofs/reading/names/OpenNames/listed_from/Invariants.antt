use Rattle.std.proofs.Common.{◌≡◌, ◌≤◌, ◌+◌, ◌++◌, drop, length, map}
use Rattle.std.specs.Vec.{vec_capacity, vec_len}
use Rattle.city_json.proofs.reading.names.OpenNames.listed_from.Given as goal

abbrev pub invariant-loop-place : goal.invariant-loop-place
invariant-loop-place l =
    (map (λ name. name.now) l.listed.items ++ drop l.place l.self ≡ drop l.base l.self)
    × (vec_len l.listed + l.base ≡ l.place)
    × (length l.self ≤ vec_capacity l.listed + l.base)
