-- Copies with other numbers at the leaves, item by item and member by member.
use Rattle.std.proofs.Common.{◌≡◌, ◌<◌, ◌≤◌, ℕ, List, [], ◌∷◌, ◌++◌, length, get_or, map, take, ◌+◌, sym, ap, refl, ◌∙◌}
use Rattle.std.proofs.lemmas.List.{map-append, take_all, take_more}
use Rattle.std.specs.Global.{Global}
use Rattle.std.specs.Prelude.{Vec, codes}
use Rattle.city_json.specs.declared.json.Json.{Json, Json-F, fold-roll-Json}
use Rattle.city_json.specs.declared.json.Member.{Member}
use Rattle.city_json.specs.declared.json.Json.TheVariants.{List as JsonList, Map as JsonMap, rolls-Map}
use Rattle.city_json.specs.Tree.{Tree, tree, named_tree, tree_step, member_step, array, object, item_trees, items_tree, member, member_trees}
use Rattle.city_families.specs.Boundaries.{changed, in_items, in_member, relabelled_addresses, relabelled_geometries, relabelled_object, relabelled_part, changed_items, changed_members}
use Rattle.city_families.specs.Leaves.{relabelled, relabelled_items}
use Rattle.cut_by_value.proofs.Trees.{tree_of_list}

pub tree_of_map : (members : Vec Member Global)
    → tree (JsonMap members) ≡ object (member_trees (map named_tree members.items))
tree_of_map members = ap tree (sym (rolls-Map members))
    ∙ fold-roll-Json Tree (List ℕ × Tree) tree_step member_step (Json-F.Map members)

pub relabelled_list : (f : List ℕ → List ℕ) (trees : List Tree)
    → relabelled_items f (item_trees trees) ≡ item_trees (map (relabelled f) trees)
relabelled_list f [] = refl
relabelled_list f (value ∷ others) = let e = relabelled_list f others in cc

changed_list : (name : List ℕ) (f : Tree → Tree) (pairs : List (List ℕ × Tree))
    → changed_members name f (member_trees pairs) ≡ member_trees (map (changed name f) pairs)
changed_list name f [] = refl
changed_list name f (pair ∷ others) = ap (member (changed name f pair).0 (changed name f pair).1)
    (changed_list name f others)

items_list : (f : Tree → Tree) (trees : List Tree) → changed_items f (item_trees trees) ≡ item_trees (map f trees)
items_list f [] = refl
items_list f (value ∷ others) = let e = items_list f others in cc

pub in_members : (name : List ℕ) (f : Tree → Tree) (value new : Json) (members copies : Vec Member Global)
    → value ≡ JsonMap members → new ≡ JsonMap copies
    → map named_tree copies.items ≡ map (changed name f) (map named_tree members.items)
    → tree new ≡ in_member name f (tree value)
in_members name f value new members copies is made same =
    ap tree made ∙ (tree_of_map copies ∙ (ap (λ pairs. object (member_trees pairs)) same
    ∙ sym (ap (λ v. in_member name f (tree v)) is
    ∙ (ap (in_member name f) (tree_of_map members) ∙ ap object (changed_list name f (map named_tree members.items))))))

pub in_list : (f : Tree → Tree) (value new : Json) (items copies : Vec Json Global) → value ≡ JsonList items
    → new ≡ JsonList copies → map tree copies.items ≡ map f (map tree items.items) → tree new ≡ in_items f (tree value)
in_list f value new items copies is made same =
    ap tree made ∙ (tree_of_list copies ∙ (ap (λ trees. array (item_trees trees)) same
    ∙ sym (ap (λ v. in_items f (tree v)) is ∙ (ap (in_items f) (tree_of_list items)
    ∙ ap array (items_list f (map tree items.items))))))

pub copied_more : (f : Tree → Tree) (items copies copies' : List Json) (i : ℕ) (value new : Json)
    → map tree copies ≡ map f (map tree (take i items)) → i < length items → value ≡ get_or items i value
    → tree new ≡ f (tree value) → copies' ≡ copies ++ new ∷ []
    → map tree copies' ≡ map f (map tree (take (i + 1) items))
copied_more f items copies copies' i value new same within at is pushed =
    rw (pushed, take_more items i value within, ← at, map-append, map-append, map-append)
    (ap (λ l. l ++ tree new ∷ []) same ∙ ap (λ t. map f (map tree (take i items)) ++ t ∷ []) is)

pub relabelled_all : (f : List ℕ → List ℕ) (items copies : List Json) (i : ℕ)
    → map tree copies ≡ map (relabelled f) (map tree (take i items)) → length items ≤ i
    → items_tree copies ≡ relabelled_items f (items_tree items)
relabelled_all f items copies i same done =
    ap item_trees (same ∙ ap (λ l. map (relabelled f) (map tree l)) (take_all i items done))
    ∙ sym (relabelled_list f (map tree items))

map_twice : (f g : List ℕ × Tree → List ℕ × Tree) (pairs : List (List ℕ × Tree))
    → map (λ p. f (g p)) pairs ≡ map f (map g pairs)
map_twice f g [] = refl
map_twice f g (p ∷ ps) = ap (λ l. f (g p) ∷ l) (map_twice f g ps)

parts_list : (name other : List ℕ) (f g : Tree → Tree) (pairs : List (List ℕ × Tree))
    → changed_members name f (changed_members other g (member_trees pairs))
    ≡ member_trees (map (λ p. changed name f (changed other g p)) pairs)
parts_list name other f g pairs = ap (changed_members name f) (changed_list other g pairs)
    ∙ (changed_list name f (map (changed other g) pairs)
    ∙ ap member_trees (sym (map_twice (changed name f) (changed other g) pairs)))

pub in_parts : (label : List ℕ → List ℕ) (value new : Json) (members copies : Vec Member Global)
    → value ≡ JsonMap members → new ≡ JsonMap copies
    → map named_tree copies.items ≡ map (relabelled_part label) (map named_tree members.items)
    → tree new ≡ relabelled_object label (tree value)
in_parts label value new members copies is made same =
    ap tree made ∙ (tree_of_map copies ∙ (ap (λ pairs. object (member_trees pairs)) same
    ∙ sym (ap (λ v. relabelled_object label (tree v)) is
    ∙ (ap (relabelled_object label) (tree_of_map members)
    ∙ ap object (parts_list (codes "geometry") (codes "address") (relabelled_geometries label)
    (relabelled_addresses label) (map named_tree members.items))))))
