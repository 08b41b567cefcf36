-- The shift of a tile's grid against another: whole steps, by an equation and not by a division.
use Rattle.std.specs.Prelude.{◌≡◌, ◌≢◌, ◌-ℤ◌, ◌*ℤ◌}
use Rattle.byte_streams.specs.declared.fault.Fault.{Fault}
use Rattle.byte_streams.specs.declared.fault.Fault.TheVariants.{ScaleDiffers, OffGrid, ShiftRange}
use Rattle.city_grid.specs.Axes.{Triple, IsInRange}
use Rattle.city_grid.specs.Transform.{Grid}

-- k steps lead from the base's origin to the tile's: in each component
-- k * scale = translate_tile - translate_base
pub record IsShift (tile base : Grid) (k : Triple) : Type 0 where
  pub same_scale : tile.scale ≡ base.scale
  pub x : k.x *ℤ base.scale.x ≡ tile.translate.x -ℤ base.translate.x
  pub y : k.y *ℤ base.scale.y ≡ tile.translate.y -ℤ base.translate.y
  pub z : k.z *ℤ base.scale.z ≡ tile.translate.z -ℤ base.translate.z

-- why there is no shift: the scales differ; or they are equal, but some difference is no whole
-- number of steps; or there are too many steps
abbrev pub RefusesShift : Fault → Grid → Grid → Type 0
RefusesShift ScaleDiffers tile base = tile.scale ≢ base.scale
RefusesShift OffGrid tile base = (tile.scale ≡ base.scale) × ((k : Triple) → ¬ IsShift tile base k)
RefusesShift ShiftRange tile base = (k : Triple) × IsShift tile base k × ¬ IsInRange k
RefusesShift other tile base = ⊥
