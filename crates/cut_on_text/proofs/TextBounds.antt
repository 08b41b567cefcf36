-- City objects of which a boundary is none.
use Rattle.std.proofs.Common.{◌≡◌, ◌<◌, ℕ, zero, suc, List, [], ◌∷◌, Option, Some, length, slice_range, subst, arith}
use Rattle.std.specs.List.{AllByRecursion}
use Rattle.city_json.specs.Members.{first_named}
use Rattle.city_json.specs.Parts.{AreParts}
use Rattle.city_json.specs.Tree.{Tree, MemberTrees, member_trees, object}
use Rattle.city_json.specs.declared.compacting.places.MemberPlace.{MemberPlace}
use Rattle.city_feature.specs.Shapes.{IsArray, WhereThere}
use Rattle.city_json.specs.CompactTexts.{IsCompactOf}
use Rattle.city_families.specs.Boundaries.{IsAddress, IsBounded, IsGeometry}
use Rattle.city_families.specs.Chosen.{named_at}
use Rattle.cut_on_text.specs.PlacedObjects.{IsObjectAt}
use Rattle.cut_on_text.specs.Holders.{AreHeld, name_of}
use Rattle.city_families.specs.Items.{items_of, values}
use Rattle.cut_on_text.specs.Overviews.{IsHolderPart}
use Rattle.cut_on_text.specs.declared.on_text.holders.Holder.{Holder}
use Rattle.cut_on_text.specs.declared.on_text.holders.Holder.TheVariants.{Geometry, Address}
use Rattle.cut_on_text.proofs.TextObjects.{is_found, name_utf8}
use Rattle.cut_on_text.proofs.TextMembers.{member_there}

held_in : (holder : Holder) (count : ℕ) (members : MemberTrees) (value : Tree)
    → first_named (name_of holder) members ≡ Some value → IsBounded count (object members)
    → AreHeld holder count value
held_in Geometry count members value is bounded = (
  subst (WhereThere IsArray) is bounded.0,
  subst (λ there. AllByRecursion (IsGeometry count) (items_of there)) is bounded.1,
)
held_in Address count members value is bounded =
    (tt, subst (λ there. AllByRecursion (IsAddress count) (items_of there)) is bounded.2)

-- a member of an object is at fault, so the object is
pub part_wrong : (holder : Holder) (count : ℕ) (text given : List ℕ) (part : MemberPlace) (found : Option MemberPlace)
    → found ≡ Some part → given ≡ slice_range text part.value part.end
    → ((value : Tree) → IsCompactOf given value → AreHeld holder count value → ⊥)
    → (parts : List MemberPlace) → IsHolderPart holder text parts found → (members : MemberTrees)
    → IsCompactOf text (object members) → AreParts 1 parts members → IsBounded count (object members) → ⊥
part_wrong holder count text given part found there lies wrong parts told members of are bounded =
    let lying = member_there text parts members (name_of holder) part given (name_utf8 holder) of are
    (is_found holder text parts found part there told) lies in
    wrong lying.value lying.of (held_in holder count members lying.value lying.is bounded)

all_at : (P : Tree → Type 0) (pairs : List (List ℕ × Tree)) (k : ℕ) → AllByRecursion P (values (member_trees pairs))
    → k < length pairs → P (named_at pairs k).1
all_at P [] k all within = absurd (omega (arith, within))
all_at P (p ∷ ps) zero all within = all.0
all_at P (p ∷ ps) (suc k) all within = all_at P ps k all.1 (omega (arith, within))

-- the object at a place is at fault, so the objects are
pub object_wrong : (count : ℕ) (name given : List ℕ) (at : ℕ)
    → ((value : Tree) → IsCompactOf given value → IsBounded count value → ⊥) → (pairs : List (List ℕ × Tree))
    → IsObjectAt pairs at name given → AllByRecursion (IsBounded count) (values (member_trees pairs)) → ⊥
object_wrong count name given at wrong pairs there all =
    wrong (named_at pairs at).1 there.2 (all_at (IsBounded count) pairs at all there.0)
