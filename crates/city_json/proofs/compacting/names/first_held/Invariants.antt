use Rattle.std.proofs.Common.{◌≡◌, drop}
use Rattle.city_json.specs.MemberName.{first_held}
use Rattle.city_json.proofs.compacting.names.first_held.Given as goal

abbrev pub invariant-loop-name : goal.invariant-loop-name
invariant-loop-name l = first_held l.text_len l.listed l.end ≡ first_held l.text_len (drop l.name-index l.listed) l.end
