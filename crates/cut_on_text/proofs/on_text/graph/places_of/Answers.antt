use Rattle.std.proofs.Common.{take_all, subst, rules}
use Rattle.city_families.specs.Places.{ArePlaced}
use Rattle.cut_on_text.proofs.TextGraphs.{named_by, placed_text}
use Rattle.cut_on_text.proofs.on_text.graph.places_of.Goals as goal

pub loop-name-preserved : goal.loop-name-preserved
loop-name-preserved c = λ all table. placed_text all c.args.named.now _ _ c.loop-name.name-index
    c.in_ok-place.place _ (c.loop-name.invariant all table) c.loop-name-test.true (c.in_ok-place.ensures all table)
    (search rules)

pub returns : goal.returns
returns c = λ names table. subst (λ given. ArePlaced names (named_by given) c.loop-name.places.items)
    (take_all c.loop-name.name-index c.args.named.now c.loop-name-test.false) (c.loop-name.invariant names table)
