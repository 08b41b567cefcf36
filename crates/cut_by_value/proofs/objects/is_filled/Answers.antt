use Rattle.std.proofs.Common.{refl, rules}
use Rattle.cut_by_value.proofs.Trees.{filled_is}
use Rattle.cut_by_value.proofs.objects.is_filled.Goals as goal

pub returns-in-List : goal.returns-in-List
returns-in-List c = filled_is c.args.value.now c.in-List.items c.in-List.items.items c.is_empty.result c.in-List.is refl
    (search rules)
