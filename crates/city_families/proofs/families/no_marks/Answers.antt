use Rattle.std.proofs.Common.{length, rules}
use Rattle.city_families.proofs.Seeking.{marked_start}
use Rattle.city_families.proofs.families.no_marks.Goals as goal

pub returns-clause-ok : goal.returns-clause-ok
returns-clause-ok c = marked_start (length c.args.kin.now.children) c.in_ok-marks.marks.items (search rules)
