use Rattle.city_json.specs.Tree.{items_tree, members_tree}
use Rattle.city_json.proofs.ListEnds.{ends_as_compared}
use Rattle.city_json.proofs.comparing.+equal.Goals as goal

pub equal_items-returns : goal.equal_items-returns
equal_items-returns t c = ends_as_compared items_tree
    (λ y ys e. cc) _ _ _ _ _ c.loop-x-test.false c.is_empty.ensures c.loop-x.invariant

pub equal_members-returns : goal.equal_members-returns
equal_members-returns t c = ends_as_compared members_tree
    (λ y ys e. cc) _ _ _ _ _ c.loop-x-test.false c.is_empty.ensures c.loop-x.invariant
