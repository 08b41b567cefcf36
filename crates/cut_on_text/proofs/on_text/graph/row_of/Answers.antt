use Rattle.std.proofs.Common.{map, subst}
use Rattle.city_json.specs.Compact.{quoted}
use Rattle.city_families.specs.Places.{ArePlaced}
use Rattle.cut_on_text.proofs.TextGraphs.{named_by, row_said}
use Rattle.cut_on_text.proofs.TextMembers.{if_some_more}
use Rattle.cut_on_text.proofs.on_text.graph.row_of.Goals as goal

pub returns : goal.returns
returns c = if_some_more c.places_of.result (λ row placed names utf8 table value of.
    row_said names c.in_ok-named.named.items value row.items utf8 (c.in_ok-named.ensures value of)
    (subst (λ given. ArePlaced (map quoted names) (named_by given) row.items) c.deref.ensures.value
    (placed (map quoted names) table))) c.places_of.ensures
