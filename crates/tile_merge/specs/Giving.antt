-- What the definitions of a merge speak of: what readers give, in which order texts are mixed, and all that a merge is
-- asked for.
use Rattle.std.specs.Prelude.{ℕ, Bool, List}
use Rattle.city_feature.specs.Feature.{FeatureValue}
use Rattle.city_feature.specs.declared.base.Base.{Base}

-- what a reader may give: the bytes up to the first end or error, and whether it is an error
abbrev pub Giving : Type 0 → Type 1
Giving R = R → List ℕ → Bool → Type 0

-- in which order the texts of each tile stand in one list
abbrev pub Mixing : Type 1
Mixing = List (List (List ℕ)) → List (List ℕ) → Type 0

-- A merge of the tiles of these readers: what these may give, which features are wanted once they are moved, which tile's
-- translation is the base, and in which order the texts of several tiles stand in the stream.
pub record Merging (R : Type 0) : Type 1 where
  pub gives : Giving R
  pub IsWanted : FeatureValue → Type 0
  pub base : Base
  pub Mixes : Mixing
  pub readers : List R

abbrev pub merging : {R : Type 0} → Giving R → (FeatureValue → Type 0) → Base → Mixing → List R → Merging R
merging gives IsWanted base Mixes readers =
    record { gives = gives; IsWanted = IsWanted; base = base; Mixes = Mixes; readers = readers }
