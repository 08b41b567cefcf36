-- The compact text of an object, piece by piece.
use Rattle.std.specs.Prelude.{◌++◌, ℕ, Bool, true, false, List, [], ◌∷◌}
use Rattle.city_json.specs.Bytes.{colon, comma}
use Rattle.city_json.specs.Compact.{quoted, compact_members, compact_more_members}
use Rattle.city_json.specs.Tree.{MemberTrees}

-- what stands before a member: a comma, but for the first of an object
abbrev pub separator : Bool → List ℕ
separator true = []
separator false = comma ∷ []

-- what stands before the value of a member of this name
abbrev pub start_text : Bool → List ℕ → List ℕ
start_text is_first name = separator is_first ++ quoted name ++ colon ∷ []

-- members, which are the first of an object or come after others
abbrev pub members_text : Bool → MemberTrees → List ℕ
members_text true members = compact_members members
members_text false members = compact_more_members members
