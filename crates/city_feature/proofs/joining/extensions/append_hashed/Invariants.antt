use Rattle.std.proofs.Common.{◌≡◌, ◌++◌}
use Rattle.city_json.specs.Compact.{compact_members}
use Rattle.city_feature.specs.Pieces.{members_text}
use Rattle.city_feature.specs.Values.{lent_members}
use Rattle.city_feature.proofs.joining.extensions.append_hashed.Given as goal

-- what was appended, and what is still to be appended
abbrev pub invariant-loop-name : goal.invariant-loop-name
invariant-loop-name l = l.line ++ members_text l.is_first (lent_members l.name-iterator)
    ≡ l.fn.line ++ compact_members (lent_members l.known.entries)
