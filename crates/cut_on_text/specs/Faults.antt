-- Why city objects are refused.
use Rattle.std.specs.Prelude.{◌≡◌, ℕ, List}
use Rattle.std.specs.List.{AllByRecursion}
use Rattle.byte_streams.specs.declared.fault.Fault.{Fault}
use Rattle.byte_streams.specs.declared.fault.Fault.TheVariants.{ChildMissing, Orphan, BoundaryIndex}
use Rattle.city_json.specs.Tree.{Tree, MemberTrees, member_trees, object}
use Rattle.cut_on_text.specs.PlacedObjects.{AreObjects, PlacedObjects}
use Rattle.city_families.specs.Boundaries.{IsBounded}
use Rattle.city_families.specs.CityObjects.{AreCityObjects, HasOrphan, LacksChild}
use Rattle.city_families.specs.Items.{values}

-- an object of city objects
abbrev pub HoldsCityObjects : Tree → Type 0
HoldsCityObjects value = (members : MemberTrees) × (value ≡ object members) × AreCityObjects members

-- a child names no object; or an object is in no feature; or a boundary is none, of so many vertices
abbrev pub RefusesObjects : Fault → ℕ → MemberTrees → Type 0
RefusesObjects ChildMissing count objects = LacksChild objects
RefusesObjects Orphan count objects = (¬ LacksChild objects) × HasOrphan objects
RefusesObjects BoundaryIndex count objects =
    (¬ LacksChild objects) × (¬ HasOrphan objects) × ¬ AllByRecursion (IsBounded count) (values objects)
RefusesObjects other count objects = ⊥

-- so are these objects, of however many vertices
abbrev pub RefusesKin : PlacedObjects → Fault → Type 0
RefusesKin objects fault = (count : ℕ) (pairs : List (List ℕ × Tree)) → AreObjects objects pairs
    → RefusesObjects fault count (member_trees pairs)
