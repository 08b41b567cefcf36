use Rattle.std.proofs.Common.{◌∙◌, subst, sym, IfOk, IfErr}
use Rattle.city_json.specs.Tree.{tree}
use Rattle.city_grid.specs.Axes.{Each, Texts}
use Rattle.city_grid.specs.Decimal.{IsUnits}
use Rattle.city_grid.specs.Transform.{Grid, HasNumbers, IsTransform, RefusesTransform}
use Rattle.city_grid.proofs.transforms.OneTransform.{transform_of, transform_refused, only_transform, some_three}
use Rattle.city_grid.proofs.axes.ThreeNumbers.{same_texts}
use Rattle.city_grid.proofs.transforms.reader.transform.Goals as goal
use Rattle.city_grid.proofs.transforms.reader.transform.Goals.{In-Some-numbers_named, After-ok_or}

abbrev scale : In-Some-numbers_named → Texts
scale c = let n = c.in-Some.scale in record { x = n.x.now; y = n.y.now; z = n.z.now }

abbrev translate : In-Some-numbers_named → Texts
translate c = let n = c.in-Some-numbers_named.translate in record { x = n.x.now; y = n.y.now; z = n.z.now }

shape : (c : In-Some-numbers_named) → HasNumbers (tree c.args.value.now) (scale c) (translate c)
shape c = (c.in-Some.ensures.some, c.in-Some-numbers_named.ensures.some)

abbrev grid : After-ok_or → Grid
grid c = record { scale = c.in-Some-decimals.scale; translate = c.in-Some-decimals-2.translate }

pub returns-in_default-decimals-clause-refusal : goal.returns-in_default-decimals-clause-refusal
returns-in_default-decimals-clause-refusal c =
    let at = (goal.at.returns-in_default-decimals-clause-refusal c).In-Some-numbers_named in
    (scale at, translate at, shape at, λ grid units. c.in_default-decimals.ensures.none grid.scale units.0)

pub returns-in_default-decimals-2-clause-refusal : goal.returns-in_default-decimals-2-clause-refusal
returns-in_default-decimals-2-clause-refusal c =
    let at = (goal.at.returns-in_default-decimals-2-clause-refusal c).In-Some-numbers_named in
    (scale at, translate at, shape at, λ grid units. c.in_default-decimals-2.ensures.none grid.translate units.1)

pub returns-clause-ok : goal.returns-clause-ok
returns-clause-ok c =
    let at = (goal.at.returns-clause-ok c).In-Some-numbers_named in
    subst (λ answer. IfOk answer (IsTransform (tree c.args.value.now))) (sym c.ok_or.ensures.value)
    (transform_of (tree c.args.value.now) (scale at) (translate at) (grid (goal.at.returns-clause-ok c).After-ok_or)
    (shape at) (c.in-Some-decimals.ensures.some, c.in-Some-decimals-2.ensures.some) c.new.result c.new.ensures)

pub returns-clause-refusal : goal.returns-clause-refusal
returns-clause-refusal c =
    let at = (goal.at.returns-clause-refusal c).In-Some-numbers_named in
    subst (λ answer. IfErr answer (λ fault. RefusesTransform fault (tree c.args.value.now))) (sym c.ok_or.ensures.value)
    (transform_refused (tree c.args.value.now) (scale at) (translate at)
    (grid (goal.at.returns-clause-refusal c).After-ok_or) (shape at) (
      c.in-Some-decimals.ensures.some,
      c.in-Some-decimals-2.ensures.some,
    ) c.new.result c.new.ensures)

pub returns-clause-only : goal.returns-clause-only
returns-clause-only c = λ other is above.
    let at = (goal.at.returns-clause-only c).In-Some-numbers_named in
    c.ok_or.ensures.value ∙ only_transform (tree c.args.value.now) (scale at) (translate at)
    (grid (goal.at.returns-clause-only c).After-ok_or) (shape at) (
      c.in-Some-decimals.ensures.some,
      c.in-Some-decimals-2.ensures.some,
    ) c.in-Some-decimals.ensures.only c.in-Some-decimals-2.ensures.only
    c.new.result c.new.ensures other is above

pub returns-in_default-decimals-clause-only : goal.returns-in_default-decimals-clause-only
returns-in_default-decimals-clause-only c = λ other is above.
    let at = (goal.at.returns-in_default-decimals-clause-only c).In-Some-numbers_named in
    let same = same_texts is.0 (scale at) (some_three is.0 (scale at) (sym is.2.0 ∙ (shape at).0)) in
    absurd (c.in_default-decimals.ensures.none other.scale (subst (λ t. Each IsUnits t other.scale) same is.3.0))

pub returns-in_default-decimals-2-clause-only : goal.returns-in_default-decimals-2-clause-only
returns-in_default-decimals-2-clause-only c = λ other is above.
    let at = (goal.at.returns-in_default-decimals-2-clause-only c).In-Some-numbers_named in
    let same = same_texts is.1 (translate at) (some_three is.1 (translate at) (sym is.2.1 ∙ (shape at).1)) in
    absurd (c.in_default-decimals-2.ensures.none other.translate
    (subst (λ t. Each IsUnits t other.translate) same is.3.1))
