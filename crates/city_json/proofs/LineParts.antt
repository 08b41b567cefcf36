-- What is put at the end of a line, part by part.
use Rattle.std.proofs.Common.{◌≡◌, ◌∙◌, ◌++◌, ℕ, List, [], ◌∷◌, Result, Ok, Err, OnOk, Vec, Global, ap, sym, append_assoc}
use Rattle.city_json.specs.Bytes.{open_bracket, close_bracket, open_brace, close_brace}
use Rattle.city_json.specs.Compact.{compact, compact_items, compact_members}
use Rattle.city_json.specs.declared.json.Json.{Json, Json-F, fold-roll-Json}
use Rattle.city_json.specs.declared.json.Json.TheVariants.{List as JsonList, rolls-List, Map as JsonMap, rolls-Map}
use Rattle.city_json.specs.declared.json.Member.{Member}
use Rattle.city_json.specs.Tree.{Tree, tree, tree_step, member_step, array, items_tree, object, members_tree}

three_parts : (line first inner last : List ℕ) → line ++ first ++ inner ++ last ≡ line ++ (first ++ inner ++ last)
three_parts line first inner last = ap (λ l. l ++ last) (append_assoc line first inner)
    ∙ append_assoc line (first ++ inner) last

-- three parts that are put one after another, the last one perhaps not
pub put_by_parts : {A E : Type 0} (answer : Result A E) (line opened filled after first inner last whole : List ℕ)
    → opened ≡ line ++ first → filled ≡ opened ++ inner → whole ≡ first ++ inner ++ last
    → OnOk answer (after ≡ filled ++ last) → OnOk answer (after ≡ line ++ whole)
put_by_parts (Ok _) line opened filled after first inner last whole one two whole_is three =
    three ∙ ap (λ l. l ++ last) (two ∙ ap (λ l. l ++ inner) one) ∙ three_parts line first inner last
    ∙ ap (λ l. line ++ l) (sym whole_is)
put_by_parts (Err _) line opened filled after first inner last whole one two whole_is three = tt

pub compact_list : (value : Json) (items : Vec Json Global) (lent : List Json) → value ≡ JsonList items
    → lent ≡ items.items → compact (tree value) ≡ open_bracket ∷ compact_items (items_tree lent) ++ close_bracket ∷ []
compact_list value items lent is lent_is = ap compact (ap tree (is ∙ sym (rolls-List items))
    ∙ fold-roll-Json Tree (List ℕ × Tree) tree_step member_step (Json-F.List items)
    ∙ ap (λ l. array (items_tree l)) (sym lent_is))

pub compact_map : (value : Json) (members : Vec Member Global) (lent : List Member) → value ≡ JsonMap members
    → lent ≡ members.items → compact (tree value) ≡ open_brace ∷ compact_members (members_tree lent) ++ close_brace ∷ []
compact_map value members lent is lent_is = ap compact (ap tree (is ∙ sym (rolls-Map members))
    ∙ fold-roll-Json Tree (List ℕ × Tree) tree_step member_step (Json-F.Map members)
    ∙ ap (λ l. object (members_tree l)) (sym lent_is))
