use Rattle.std.proofs.Common.{[], ◌∷◌}
use Rattle.city_json.specs.Bytes.{open_brace, close_brace}
use Rattle.city_json.proofs.MemberPlaces.{member_in_part}
use Rattle.city_json.proofs.laws.members_lie_in_their_parts.Goals as goal

pub returns : goal.returns
returns c = λ members parts k part are within.
    member_in_part members (open_brace ∷ []) (close_brace ∷ []) parts k part are within
