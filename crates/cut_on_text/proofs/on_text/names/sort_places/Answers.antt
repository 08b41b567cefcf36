use Rattle.std.proofs.Common.{rules}
use Rattle.std.proofs.lemmas.Cmp.{nat_list_cmp_total}
use Rattle.std.proofs.lemmas.Fn.{always_returns_same}
use Rattle.std.proofs.lemmas.List.Sorted.{ranks_by}
use Rattle.city_families.specs.Table.{name_in}
use Rattle.cut_on_text.proofs.on_text.names.sort_places.Goals as goal

pub returns-clause-sorted : goal.returns-clause-sorted
returns-clause-sorted c = c.sort_unstable_by.ensures.sorted _
    (ranks_by nat_list_cmp_total (name_in c.args.text.now c.args.parts.now))
    (always_returns_same _ _ _ (λ a r f k. search rules))
