-- Trees of arrays.
use Rattle.std.proofs.Common.{◌≡◌, ℕ, List, [], ◌∷◌, Some, map, sym, ap, refl, subst, length, get_or, ◌<◌, arith, ◌∙◌, Bool, suc, false, rules}
use Rattle.std.proofs.Math.ListN.{get_or-map}
use Rattle.std.proofs.lemmas.List.{length-map}
use Rattle.std.proofs.lemmas.List.Elements.{All-from_recursion}
use Rattle.std.specs.List.{AllByRecursion}
use Rattle.std.specs.Global.{Global}
use Rattle.std.specs.Prelude.{Vec, nat_eq, not}
use Rattle.city_json.specs.declared.json.Json.{Json, Json-F, fold-roll-Json}
use Rattle.city_json.specs.declared.json.Json.TheVariants.{List as JsonList, rolls-List}
use Rattle.city_json.specs.Tree.{Tree, tree, tree_step, member_step, array, item_trees, items_tree}
use Rattle.city_families.specs.CityObjects.{is_filled}
use Rattle.city_families.specs.Items.{item_list, items_of}

pub tree_of_list : (items : Vec Json Global) → tree (JsonList items) ≡ array (item_trees (map tree items.items))
tree_of_list items = ap tree (sym (rolls-List items))
    ∙ fold-roll-Json Tree (List ℕ × Tree) tree_step member_step (Json-F.List items)

pub list_of_trees : (trees : List Tree) → item_list (item_trees trees) ≡ trees
list_of_trees [] = refl
list_of_trees (value ∷ others) = ap (λ l. value ∷ l) (list_of_trees others)

pub items_of_list : (value : Json) (items : Vec Json Global) → value ≡ JsonList items
    → items_of (Some (tree value)) ≡ map tree items.items
items_of_list value items is = ap (λ v. items_of (Some (tree v))) is
    ∙ (ap (λ t. items_of (Some t)) (tree_of_list items) ∙ list_of_trees (map tree items.items))

pub at_item : (P : Tree → Type 0) (items : List Json) (i : ℕ) (value : Json) → AllByRecursion P (map tree items)
    → i < length items → value ≡ get_or items i value → P (tree value)
at_item P items i value all within at =
    subst P (get_or-map tree items i value ∙ ap tree (sym at))
    (All-from_recursion P (map tree items) all i (tree value) (omega (arith, within, length-map items tree)))

pub filled_is : (value : Json) (items : Vec Json Global) (list : List Json) (empty : Bool) → value ≡ JsonList items
    → list ≡ items.items → empty ≡ nat_eq (length list) 0 → not empty ≡ is_filled (Some (tree value))
filled_is value items list empty is same test =
    ap not test ∙ (ap (λ l. not (nat_eq (length l) 0)) same
    ∙ (by items.items ∙ sym (ap (λ v. is_filled (Some (tree v))) is
    ∙ ap (λ t. is_filled (Some t)) (tree_of_list items))))
  where
    more : (n : ℕ) → nat_eq (suc n) 0 ≡ false
    more n = search rules

    by : (l : List Json) → not (nat_eq (length l) 0) ≡ is_filled (Some (array (items_tree l)))
    by [] = refl
    by (v ∷ vs) = ap not (more (length vs))
