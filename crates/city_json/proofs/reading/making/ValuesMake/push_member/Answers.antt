use Rattle.std.proofs.Common.{List, ℕ}
use Rattle.city_json.specs.Tree.{Tree, tree_step, member_step}
use Rattle.city_json.specs.declared.json.Member.{fold-roll-Member}
use Rattle.city_json.proofs.Fronts.{member_pushed}
use Rattle.city_json.proofs.reading.making.ValuesMake.push_member.Goals as goal

pub returns : goal.returns
returns c = λ before one are named is.
    member_pushed c.args.members.now.items c.push.new.self.items _ before one _ _ c.in_ok-push.ensures.items
    (fold-roll-Member Tree (List ℕ × Tree) tree_step member_step (record { name = c.args.name; value = c.args.value }))
    are named is
