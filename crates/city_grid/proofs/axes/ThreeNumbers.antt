-- Arrays of three numbers, as trees.
use Rattle.std.proofs.Common.{◌≡◌, ◌∙◌, ℕ, sym, ap, refl, List, [], ◌∷◌, length, get_or, map, arith, Vec, Global}
use Rattle.std.proofs.lemmas.List.{length-map, get_or-map}
use Rattle.city_json.specs.declared.json.Json.{Json, Json-F, fold-roll-Json}
use Rattle.city_json.specs.declared.json.Json.TheVariants.{List as JsonList, rolls-List}
use Rattle.city_json.specs.Tree.{Tree, tree, tree_step, member_step, array, items_tree, item_trees, number}
use Rattle.city_grid.specs.Axes.{Texts, three}

pub tree_of_list : (items : Vec Json Global) → tree (JsonList items) ≡ array (items_tree items.items)
tree_of_list items = ap tree (sym (rolls-List items))
    ∙ fold-roll-Json Tree (List ℕ × Tree) tree_step member_step (Json-F.List items)

trees_of_three : (trees : List Tree) (texts : Texts) → array (item_trees trees) ≡ three texts
    → trees ≡ number texts.x ∷ (number texts.y ∷ (number texts.z ∷ []))
trees_of_three [] texts equal = cc
trees_of_three (a ∷ []) texts equal = cc
trees_of_three (a ∷ b ∷ []) texts equal = cc
trees_of_three (a ∷ b ∷ c ∷ []) texts equal = cc
trees_of_three (a ∷ b ∷ c ∷ d ∷ rest) texts equal = cc

module _ (values : List Json) (texts : Texts) (equal : array (items_tree values) ≡ three texts) where
  pub length_of_three : length values ≡ 3
  length_of_three = omega (arith, length-map values tree, ap length (trees_of_three (map tree values) texts equal))

  pub first_of_three : (x : Json) → x ≡ get_or values 0 x → tree x ≡ number texts.x
  first_of_three x is =
      ap tree is ∙ sym (get_or-map tree values 0 x (number []) (omega (arith, length_of_three)))
      ∙ ap (λ trees. get_or trees 0 (number [])) (trees_of_three (map tree values) texts equal)

  pub second_of_three : (x : Json) → x ≡ get_or values 1 x → tree x ≡ number texts.y
  second_of_three x is =
      ap tree is ∙ sym (get_or-map tree values 1 x (number []) (omega (arith, length_of_three)))
      ∙ ap (λ trees. get_or trees 1 (number [])) (trees_of_three (map tree values) texts equal)

  pub third_of_three : (x : Json) → x ≡ get_or values 2 x → tree x ≡ number texts.z
  third_of_three x is =
      ap tree is ∙ sym (get_or-map tree values 2 x (number []) (omega (arith, length_of_three)))
      ∙ ap (λ trees. get_or trees 2 (number [])) (trees_of_three (map tree values) texts equal)

pub three_from : (values : List Json) (x y z : Json) (texts : Texts) → length values ≡ 3 → x ≡ get_or values 0 x
    → y ≡ get_or values 1 y → z ≡ get_or values 2 z → tree x ≡ number texts.x → tree y ≡ number texts.y
    → tree z ≡ number texts.z → array (items_tree values) ≡ three texts
three_from [] x y z texts all first second third tx ty tz = absurd (omega arith)
three_from (a ∷ []) x y z texts all first second third tx ty tz = absurd (omega arith)
three_from (a ∷ b ∷ []) x y z texts all first second third tx ty tz = absurd (omega arith)
three_from (a ∷ b ∷ c ∷ []) x y z texts all first second third tx ty tz =
    rw (sym (ap tree first) ∙ tx, sym (ap tree second) ∙ ty, sym (ap tree third) ∙ tz) refl
three_from (a ∷ b ∷ c ∷ d ∷ rest) x y z texts all first second third tx ty tz = absurd (omega arith)

-- an array of three numbers is one of three texts alone
pub same_texts : (s t : Texts) → three s ≡ three t → s ≡ t
same_texts s t equal =
    let x : s.x ≡ t.x = cc in
    let y : s.y ≡ t.y = cc in
    let z : s.z ≡ t.z = cc in
    let texts : List ℕ → List ℕ → List ℕ → Texts = λ a b c. record { x = a; y = b; z = c } in
    ap (λ a. texts a s.y s.z) x ∙ ap (λ b. texts t.x b s.z) y ∙ ap (λ c. texts t.x t.y c) z
