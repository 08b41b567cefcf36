use Rattle.std.proofs.Common.{◌≡◌, ◌≤◌, take, length, map}
use Rattle.std.specs.Vec.{vec_capacity, vec_len}
use Rattle.city_json.specs.MemberName.{name_bytes}
use Rattle.city_json.proofs.compacting.names.bytes_of.Given as goal

abbrev pub invariant-loop-name : goal.invariant-loop-name
invariant-loop-name l =
    (map (λ name. name.now) l.all.items ≡ map (name_bytes l.text l.held) (take l.name-index l.listed))
    × (vec_len l.all ≡ l.name-index)
    × (length l.listed ≤ vec_capacity l.all)
