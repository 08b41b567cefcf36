use Rattle.std.proofs.Common.{◌≢◌, ◌∙◌, ℕ, Some, ap, inr, refl, map, take_all, rules, arith, subst}
use Rattle.std.specs.List.{slice_get}
use Rattle.city_json.specs.Tree.{tree}
use Rattle.cut_by_value.proofs.Kinship.{placed_item, placed_other, among}
use Rattle.city_families.specs.Places.{ArePlaced}
use Rattle.cut_by_value.proofs.objects.places_of.Goals as goal

pub loop-value-preserved-in_default : goal.loop-value-preserved-in_default
loop-value-preserved-in_default c = λ names table.
    placed_other names c.args.named.now _ c.loop-value.value-index c.value-item.result
    (c.loop-value.invariant names table) (omega arith) c.value-item.is c.in_default.ensures.none

pub returns-in_default-place-clause-fault : goal.returns-in_default-place-clause-fault
returns-in_default-place-clause-fault c = inr (
  refl,
  λ names table. (
    c.in-Some.name.now,
    among c.args.named.now c.loop-value.value-index c.value-item.result c.in-Some.name.now (omega arith) c.value-item.is
        c.in-Some.ensures.some,
    subst (λ n. (k : ℕ) → slice_get names k ≢ Some n) c.as_bytes.ensures.value (c.in_default-place.ensures names table),
  ),
)

pub loop-value-preserved : goal.loop-value-preserved
loop-value-preserved c = λ names table. placed_item names c.args.named.now _ _ c.loop-value.value-index
    c.in-Some-place.place c.value-item.result c.in-Some.name.now (c.loop-value.invariant names table) (omega arith)
    c.value-item.is c.in-Some.ensures.some (c.in-Some-place.ensures names table ∙ ap Some c.as_bytes.ensures.value) (search rules)

pub returns-clause-ok : goal.returns-clause-ok
returns-clause-ok c = λ names table. subst (λ named. ArePlaced names (map tree named) c.loop-value.places.items)
    (take_all c.loop-value.value-index c.args.named.now c.loop-value-test.false) (c.loop-value.invariant names table)
