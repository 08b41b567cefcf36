-- The compact texts of values that are read.
use Rattle.std.specs.Prelude.{◌≡◌, ◌≤◌, ℕ, List}
use Rattle.city_json.specs.Compact.{compact}
use Rattle.city_json.specs.Fits.{depth, IsDistinct}
use Rattle.byte_streams.specs.Limits.{max_depth}
use Rattle.city_json.specs.Tree.{Tree}
use Rattle.city_json.specs.Writable.{IsWritable}

-- the text is the compact text of a value that fits
pub record IsCompactOf (text : List ℕ) (value : Tree) : Type 0 where
  pub is : text ≡ compact value
  pub writable : IsWritable value
  pub distinct : IsDistinct value
  pub within : depth value ≤ max_depth
