-- The trees of arrays and objects of the code.
use Rattle.std.proofs.Common.{◌≡◌, ◌∙◌, ◌↔◌, ◌==◌, ℕ, Bool, IsTrue, sym, ap, subst, not, List, [], ◌∷◌, length, arith, Vec, Global}
use Rattle.std.proofs.lemmas.Bool.Decides.{nat_tests}
use Rattle.city_json.specs.declared.json.Json.{Json, Json-F, fold-roll-Json}
use Rattle.city_json.specs.declared.json.Json.TheVariants.{List as JsonList, rolls-List, Map as JsonMap, rolls-Map}
use Rattle.city_json.specs.declared.json.Member.{Member}
use Rattle.city_json.specs.Tree.{Tree, tree, tree_step, member_step, array, items_tree, object, members_tree}
use Rattle.city_feature.specs.Shapes.{IsFilledArray, IsFilledObject}

pub tree_of_list : (items : Vec Json Global) → tree (JsonList items) ≡ array (items_tree items.items)
tree_of_list items = ap tree (sym (rolls-List items))
    ∙ fold-roll-Json Tree (List ℕ × Tree) tree_step member_step (Json-F.List items)

pub tree_of_map : (members : Vec Member Global) → tree (JsonMap members) ≡ object (members_tree members.items)
tree_of_map members = ap tree (sym (rolls-Map members))
    ∙ fold-roll-Json Tree (List ℕ × Tree) tree_step member_step (Json-F.Map members)

some_items : (items : List Json) → IsTrue (not (length items == 0)) ↔ IsFilledArray (array (items_tree items))
some_items [] = (λ is. absurd (grind (arith, nat_tests)), λ is. absurd is)
some_items (item ∷ items) = (λ _. tt, λ _. grind (arith, nat_tests))

some_members : (members : List Member) → IsTrue (not (length members == 0))
    ↔ IsFilledObject (object (members_tree members))
some_members [] = (λ is. absurd (grind (arith, nat_tests)), λ is. absurd is)
some_members (member ∷ members) = (λ _. tt, λ _. grind (arith, nat_tests))

pub filled_array : (json : Json) (items : Vec Json Global) (empty : Bool) → json ≡ JsonList items
    → empty ≡ (length items.items == 0) → IsTrue (not empty) ↔ IsFilledArray (tree json)
filled_array json items empty is told =
    subst (λ t. IsTrue (not empty) ↔ IsFilledArray t) (sym (ap tree is ∙ tree_of_list items))
    (subst (λ e. IsTrue (not e) ↔ IsFilledArray (array (items_tree items.items))) (sym told)
    (some_items items.items))

pub filled_object : (json : Json) (members : Vec Member Global) (empty : Bool) → json ≡ JsonMap members
    → empty ≡ (length members.items == 0) → IsTrue (not empty) ↔ IsFilledObject (tree json)
filled_object json members empty is told =
    subst (λ t. IsTrue (not empty) ↔ IsFilledObject t) (sym (ap tree is ∙ tree_of_map members))
    (subst (λ e. IsTrue (not e) ↔ IsFilledObject (object (members_tree members.items))) (sym told)
    (some_members members.items))
