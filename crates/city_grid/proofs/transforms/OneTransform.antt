-- A value is one transform at most, which is answered where each scale is above 0, and else refused.
use Rattle.std.proofs.Common.{◌≡◌, ◌∙◌, ap, sym, subst, Option, Some, None, Ok, IfOk, IfErr}
use Rattle.std.specs.Option.{SomeIff, ok_or}
use Rattle.byte_streams.specs.declared.fault.Fault.TheVariants.{ScaleNotPositive}
use Rattle.city_json.specs.Tree.{Tree}
use Rattle.city_grid.specs.Axes.{Triple, Texts, three, Each}
use Rattle.city_grid.specs.Decimal.{IsUnits}
use Rattle.city_grid.specs.Transform.{Grid, HasNumbers, HaveUnits, IsTransform, IsAboveZero, RefusesTransform}
use Rattle.city_grid.proofs.axes.ThreeNumbers.{same_texts}

pub some_three : (s t : Texts) → Some (three s) ≡ Some (three t) → three s ≡ three t
some_three s t equal = cc

-- six decimals, which a transform is made of where each scale is above 0
module _ (value : Tree) (scale translate : Texts) (grid : Grid) (shape : HasNumbers value scale translate)
    (units : HaveUnits scale translate grid) where
  pub transform_of : (found : Option Grid) → SomeIff found (IsAboveZero grid.scale) grid
      → IfOk (ok_or found ScaleNotPositive) (IsTransform value)
  transform_of None given = tt
  transform_of (Some t) given = subst (IsTransform value) (sym given.1) (scale, translate, shape, units)

  pub transform_refused : (found : Option Grid) → SomeIff found (IsAboveZero grid.scale) grid
      → IfErr (ok_or found ScaleNotPositive) (λ fault. RefusesTransform fault value)
  transform_refused None given = (grid, (scale, translate, shape, units), given)
  transform_refused (Some t) given = tt

  -- the only one, where the units are the only ones of the numbers
  module _ (only_scale : (units : Triple) → Each IsUnits scale units
      → units ≡ grid.scale) (only_translate : (units : Triple) → Each IsUnits translate units
      → units ≡ grid.translate) where
    one_transform : (other : Grid) → IsTransform value other → other ≡ grid
    one_transform other is =
        let same_scale = same_texts is.0 scale (some_three is.0 scale (sym is.2.0 ∙ shape.0)) in
        let same_translate = same_texts is.1 translate (some_three is.1 translate (sym is.2.1 ∙ shape.1)) in
        let scales = only_scale other.scale (subst (λ t. Each IsUnits t other.scale) same_scale is.3.0) in
        let translates = only_translate other.translate
        (subst (λ t. Each IsUnits t other.translate) same_translate is.3.1) in
        let grids : Triple → Triple → Grid = λ s t. record { scale = s; translate = t } in
        ap (λ s. grids s other.translate) scales ∙ ap (λ t. grids grid.scale t) translates

    pub only_transform : (found : Option Grid) → SomeIff found (IsAboveZero grid.scale) grid → (other : Grid)
        → IsTransform value other → IsAboveZero other.scale → ok_or found ScaleNotPositive ≡ Ok other
    only_transform None given other is above =
        absurd (given (subst (λ g. IsAboveZero g.scale) (one_transform other is) above))
    only_transform (Some t) given other is above = ap Ok (given.1 ∙ sym (one_transform other is))
