-- Which readers the files of a merge give, and why they are not opened. `Gives path reader` says that
-- opening this path may give this reader, `Fails path` that it may fail.
use Rattle.std.specs.Prelude.{◌≡◌, ◌⊎◌, ◌<◌, ◌≤◌, ◌+◌, ◌++◌, ℕ, List, ◌∷◌, length}
use Rattle.std.specs.List.{AllZip}
use Rattle.byte_streams.specs.Limits.{max_tiles}
use Rattle.byte_streams.specs.declared.fault.Fault.TheVariants.{Memory, Read, TooManyTiles}
use Rattle.tile_merge.specs.Merged.{IsOfNoTile}
use Rattle.byte_streams.specs.declared.places.MergeFault.{MergeFault}

-- the tile of this number, counted from 1, could not be opened, and those before it were
pub record IsNotOpened {R : Type 0} (Gives : List ℕ → R → Type 0) (Fails : List ℕ → Type 0) (paths : List (List ℕ)) (refusal : MergeFault) : Type 0 where
  pub before : List (List ℕ)
  pub path : List ℕ
  pub others : List (List ℕ)
  pub paths_are : paths ≡ before ++ path ∷ others
  pub readers : List R
  pub opened : AllZip Gives before readers
  pub failed : Fails path
  pub tile : refusal.tile ≡ length before + 1
  pub line : refusal.line ≡ 0
  pub fault : refusal.fault ≡ Read

-- why files are not opened: they are too many; one could not be; or memory ran out
abbrev pub RefusesFiles : {R : Type 0} → (List ℕ → R → Type 0) → (List ℕ → Type 0) → List (List ℕ) → MergeFault → Type 0
RefusesFiles Gives Fails paths refusal =
    (IsOfNoTile refusal × (refusal.fault ≡ TooManyTiles) × (max_tiles < length paths))
    ⊎ ((length paths ≤ max_tiles) × IsNotOpened Gives Fails paths refusal)
    ⊎ ((length paths ≤ max_tiles) × IsOfNoTile refusal × (refusal.fault ≡ Memory))
