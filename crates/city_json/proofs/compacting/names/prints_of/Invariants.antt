use Rattle.std.proofs.Common.{◌≡◌, ◌≤◌, take, length, map}
use Rattle.std.specs.Vec.{vec_capacity, vec_len}
use Rattle.city_json.specs.MemberName.{name_bytes}
use Rattle.city_json.specs.NamePrint.{print_of}
use Rattle.city_json.proofs.compacting.names.prints_of.Given as goal

abbrev pub invariant-loop-name : goal.invariant-loop-name
invariant-loop-name l =
    (l.prints.items ≡ map (λ name. print_of (name_bytes l.text l.held name)) (take l.name-index l.listed))
    × (vec_len l.prints ≡ l.name-index)
    × (length l.listed ≤ vec_capacity l.prints)
