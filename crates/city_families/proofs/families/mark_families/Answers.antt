use Rattle.std.proofs.Common.{◌∙◌}
use Rattle.city_families.proofs.Seeking.{from_beginners, unmarked_still}
use Rattle.city_families.proofs.families.mark_families.Goals as goal

pub search_on-requires-clause-found : goal.search_on-requires-clause-found
search_on-requires-clause-found c = c.in_ok-list_beginners.ensures.ok.marked

pub search_on-requires-clause-marks : goal.search_on-requires-clause-marks
search_on-requires-clause-marks c = c.in_ok-list_beginners.ensures.ok.as_many ∙ c.requires.parents

pub returns-clause-long : goal.returns-clause-long
returns-clause-long c =
    c.in_ok-meets.ensures.long ∙ (c.in_ok-list_beginners.ensures.ok.as_many ∙ c.requires.parents)

pub returns-clause-marked : goal.returns-clause-marked
returns-clause-marked c = λ k. from_beginners c.args.graph.now c.args.parents.now c.list_beginners.new.marks
    c.list_beginners.new.found.items c.in_ok-list_beginners.ensures.ok k (c.in_ok-meets.ensures.marks k)

pub returns-clause-others : goal.returns-clause-others
returns-clause-others c = unmarked_still c.list_beginners.new.marks c.search_on.new.marks
    c.in_ok-meets.ensures.long c.in_ok-list_beginners.ensures.ok.others c.in_ok-meets.ensures.others
