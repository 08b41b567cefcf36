use Rattle.std.proofs.Common.{◌∙◌, ap, codes}
use Rattle.city_json.specs.Tree.{array, items_tree, members_tree, no_items, no_members, object, tree}
use Rattle.city_feature.specs.Changes.{changed_member}
use Rattle.cut_by_value.proofs.Answered.{on_ok_more}
use Rattle.cut_by_value.proofs.Copies.{tree_of_map}
use Rattle.cut_by_value.proofs.Trees.{tree_of_list}
use Rattle.cut_by_value.proofs.headers.empty.Goals as goal

pub returns-clause-ok : goal.returns-clause-ok
returns-clause-ok c = on_ok_more c.exchange_member-2.result (λ made. made
    ∙ (ap (λ t. changed_member (codes "CityObjects") (λ old. t) (tree c.exchange_member.new.document))
    (tree_of_map c.new-2.result ∙ ap (λ l. object (members_tree l)) c.new-2.ensures.items)
    ∙ ap (changed_member (codes "CityObjects") (λ objects. object no_members)) (c.in_ok-exchange_member.ensures.ok
    ∙ (ap (λ t. changed_member (codes "vertices") (λ old. t) (tree c.drop_appearance.new.document))
    (tree_of_list c.new.result ∙ ap (λ l. array (items_tree l)) c.new.ensures.items)
    ∙ ap (changed_member (codes "vertices") (λ vertices. array no_items)) c.drop_appearance.ensures))))
    c.exchange_member-2.ensures.ok
