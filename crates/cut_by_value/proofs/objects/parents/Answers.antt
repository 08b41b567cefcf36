use Rattle.std.proofs.Common.{◌∙◌, ap, map, take_all}
use Rattle.city_json.specs.Tree.{named_tree, tree}
use Rattle.cut_by_value.proofs.Kinship.{names_parents, parents_more}
use Rattle.cut_by_value.proofs.objects.parents.Goals as goal

pub loop-member-preserved : goal.loop-member-preserved
loop-member-preserved c =
    let loop = c.loop-member in
    parents_more c.args.objects.now loop.member-index c.member-item.result (tree c.value_of.result.now)
    c.has_parents.result loop.parents.items c.push.new.self.items c.loop-member-test.true c.member-item.is
    c.value_of.ensures c.has_parents.ensures loop.invariant c.in_ok-push.ensures.items

pub returns-clause-ok : goal.returns-clause-ok
returns-clause-ok c =
    let loop = c.loop-member in
    loop.invariant ∙ ap (λ l. map names_parents (map named_tree l))
    (take_all loop.member-index c.args.objects.now c.loop-member-test.false)
