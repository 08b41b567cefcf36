-- A member that was printed, and its place.
use Rattle.std.specs.Prelude.{◌≡◌, ◌++◌, ℕ, List, [], ◌∷◌}
use Rattle.city_json.specs.Parts.{IsPart}
use Rattle.city_json.specs.Tree.{Tree}
use Rattle.city_json.specs.declared.compacting.places.MemberPlace.{MemberPlace}

-- The place of a member of this name and value that begins at `front` and ends at `end` was put after the parts.
pub record AddsPart (front end : ℕ) (name : List ℕ) (value : Tree) (before after : List MemberPlace) : Type 0 where
  pub part : MemberPlace
  pub is : IsPart front part name value
  pub ends : part.end ≡ end
  pub added : after ≡ before ++ part ∷ []
