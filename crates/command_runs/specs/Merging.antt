-- What a merge is asked by its options, and how it is refused then.
use Rattle.std.specs.Prelude.{◌⊎◌, ℕ, Bool, true, false, List, Option, if◌then◌else◌}
use Rattle.city_feature.specs.declared.base.Base.{Base}
use Rattle.city_feature.specs.declared.base.Base.TheVariants.{First, Least}
use Rattle.city_feature.specs.Feature.{FeatureValue}
use Rattle.tile_merge.specs.Giving.{Giving, Mixing, merging}
use Rattle.tile_merge.specs.Interleaves.{Interleaves}
use Rattle.tile_merge.specs.Merged.{IsOutputFault, IsRefusedEarly, IsRefusedMerge}
use Rattle.tile_merge.specs.Threaded.{HasNoThread, IsRefusedThreaded}
use Rattle.tile_merge.specs.Turns.{AreTurns}
use Rattle.byte_streams.specs.declared.places.MergeFault.{MergeFault}

abbrev pub base_of : Bool → Base
base_of least = if least then Least else First

-- in which order the texts of the tiles stand: in turn, or as they come
abbrev pub mixes_of : Bool → Mixing
mixes_of true lists out = AreTurns lists out
mixes_of false lists out = Interleaves lists out

-- why a merge in turn, or one as they come, is refused, and what was written then
abbrev pub IsRefusedAsked : {R : Type 0} → Bool → Giving R → (FeatureValue → Type 0) → Base → List R → MergeFault → Option (List ℕ) → Option (List ℕ) → Type 0
IsRefusedAsked true gives IsWanted base readers refusal old new =
    IsRefusedMerge (merging gives IsWanted base AreTurns readers) refusal old new
IsRefusedAsked false gives IsWanted base readers refusal old new =
    IsRefusedThreaded gives IsWanted base readers refusal old new

-- where such a refusal is answered: nothing was written; or the output failed; or what was written was
-- passed on
abbrev pub PassedOnAsked : {R : Type 0} → Bool → Giving R → Base → List R → Type 0 → MergeFault → Type 0
PassedOnAsked true gives base readers IsFlushed refusal =
    IsRefusedEarly gives base readers refusal ⊎ IsOutputFault refusal ⊎ IsFlushed
PassedOnAsked false gives base readers IsFlushed refusal =
    HasNoThread gives base readers refusal
    ⊎ IsRefusedEarly gives base readers refusal
    ⊎ IsOutputFault refusal
    ⊎ IsFlushed
