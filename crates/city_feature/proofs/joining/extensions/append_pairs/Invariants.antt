use Rattle.std.proofs.Common.{◌≡◌, ◌++◌, drop}
use Rattle.city_feature.specs.Pieces.{members_text}
use Rattle.city_feature.specs.Values.{lent_members}
use Rattle.city_feature.proofs.joining.extensions.append_pairs.Given as goal

-- what was appended, and what is still to be appended
abbrev pub invariant-loop-name : goal.invariant-loop-name
invariant-loop-name l = l.line ++ members_text l.is_first (lent_members (drop l.name-index l.pairs))
    ≡ l.fn.line ++ members_text l.fn.are_first (lent_members l.pairs)
