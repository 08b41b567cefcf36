use Rattle.std.proofs.Common.{◌≡◌, ℕ, List, length, Some}
use Rattle.std.specs.List.{slice_get}
use Rattle.city_json.specs.Members.{names}
use Rattle.city_json.specs.Tree.{Tree, members_tree}
use Rattle.city_families.specs.CityObjects.{children}
use Rattle.city_families.specs.Places.{ArePlaced}
use Rattle.city_families.specs.Items.{values}
use Rattle.cut_by_value.proofs.objects.children.Given as goal

abbrev pub invariant-loop-member : goal.invariant-loop-member
invariant-loop-member l =
    record {
      long : length l.graph ≡ l.member-index;
      rows : (a : ℕ) (row : List ℕ) (object : Tree) → slice_get l.graph a ≡ Some row
          → slice_get (values (members_tree l.objects)) a ≡ Some object
          → ArePlaced (names (members_tree l.objects)) (children object) row;
    }
