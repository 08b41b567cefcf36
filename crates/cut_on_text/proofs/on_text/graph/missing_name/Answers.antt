use Rattle.std.proofs.Common.{map, subst, sym}
use Rattle.city_json.specs.Compact.{quoted}
use Rattle.cut_on_text.specs.Kin.{AreQuoted}
use Rattle.cut_on_text.proofs.TextGraphs.{missing_said}
use Rattle.cut_on_text.proofs.on_text.graph.missing_name.Goals as goal

pub returns-clause-is : goal.returns-clause-is
returns-clause-is c = λ names utf8 table value of. missing_said names c.deref.result.now value
    (subst (λ given. AreQuoted given value) (sym c.deref.ensures.value) (c.in_ok-named.ensures value of))
    (c.in_ok-missing_one.ensures (map quoted names) table)
