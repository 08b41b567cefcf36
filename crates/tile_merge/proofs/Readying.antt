-- Tiles that are ready to be merged in turn, or why they are not.
use Rattle.std.proofs.Common.{◌≡◌, ◌≤◌, ◌+◌, ◌⊎◌, ◌==◌, ℕ, zero, suc, false, All, List, [], ◌∷◌, length, inl, inr, refl, ap, arith, if◌then◌else◌}
use Rattle.std.proofs.lemmas.Bool.Decides.{nat_tests}
use Rattle.byte_streams.specs.declared.fault.Fault.TheVariants.{Memory}
use Rattle.city_feature.specs.Header.{HeaderValue}
use Rattle.city_feature.specs.declared.base.Base.{Base}
use Rattle.tile_stream.specs.Filtered.{failures_after_refusal, failures_after_write}
use Rattle.tile_merge.specs.Giving.{Giving}
use Rattle.tile_merge.specs.Merged.{IsFirstHeadless, IsFirstUnfit, IsOfNoTile, IsRefusedEarly}
use Rattle.tile_merge.specs.Opened.{AllThree, OpenState, IsOpened}
use Rattle.tile_stream.specs.TileState.{most_to_come, most_texts}
use Rattle.byte_streams.specs.declared.places.MergeFault.{MergeFault}

-- a refusal that names a tile is no failed write
pub quiet_tile : (refusal : MergeFault) (n : ℕ) → refusal.tile ≡ n + 1 → (count : ℕ)
    → failures_after_refusal refusal count ≡ count
quiet_tile refusal n is count =
    let none : (refusal.tile == 0) ≡ false = grind (arith, nat_tests, is) in
    ap (λ b. if b then failures_after_write refusal.fault count else count) none

pub quiet_memory : (refusal : MergeFault) → IsOfNoTile refusal → refusal.fault ≡ Memory → (count : ℕ)
    → failures_after_refusal refusal count ≡ count
quiet_memory refusal none is count =
    rw (none.0, is) refl

module _ {R : Type 0} (gives : Giving R) (base : Base) (readers : List R) where
  pub refused_early : (refusal : MergeFault) → IsFirstHeadless gives readers refusal
      ⊎ IsFirstUnfit gives base readers refusal ⊎ (IsOfNoTile refusal × (refusal.fault ≡ Memory))
      → IsRefusedEarly gives base readers refusal
  refused_early refusal why = inr why

  pub quiet_early : (refusal : MergeFault) → IsFirstHeadless gives readers refusal
      ⊎ IsFirstUnfit gives base readers refusal ⊎ (IsOfNoTile refusal × (refusal.fault ≡ Memory)) → (count : ℕ)
      → failures_after_refusal refusal count ≡ count
  quiet_early refusal (inl headless) count = quiet_tile refusal (length headless.before) headless.number count
  quiet_early refusal (inr (inl unfit)) count = quiet_tile refusal (length unfit.before) unfit.number count
  quiet_early refusal (inr (inr memory)) count = quiet_memory refusal memory.0 memory.1 count

  abbrev Few : OpenState R → Type 0
  Few tile = most_to_come tile.unread ≤ most_texts

  pub few_left : (all : List R) (tiles : List (OpenState R)) (headers : List HeaderValue)
      → AllThree (IsOpened gives) all tiles headers
      → All (λ (tile : OpenState R). most_to_come tile.unread ≤ most_texts) tiles
  few_left [] [] [] opened k default within = absurd (omega (arith, within))
  few_left (reader ∷ all) (tile ∷ tiles) (header ∷ headers) opened zero default within = opened.0.most
  few_left (reader ∷ all) (tile ∷ tiles) (header ∷ headers) opened (suc k) default within =
      few_left all tiles headers opened.1 k default (omega (arith, within))
  few_left [] [] (header ∷ headers) opened k default within = absurd opened
  few_left [] (tile ∷ tiles) headers opened k default within = absurd opened
  few_left (reader ∷ all) [] headers opened k default within = absurd opened
  few_left (reader ∷ all) (tile ∷ tiles) [] opened k default within = absurd opened
