-- The refusal of the merge that was asked for.
use Rattle.std.proofs.Common.{◌≡◌, ◌⊎◌, ℕ, Bool, true, false, List, Option, Result, IfErr, sym, subst}
use Rattle.city_feature.specs.Feature.{FeatureValue}
use Rattle.city_feature.specs.declared.base.Base.{Base}
use Rattle.command_runs.specs.Merging.{IsRefusedAsked, PassedOnAsked}
use Rattle.tile_merge.specs.Giving.{Giving, merging}
use Rattle.tile_merge.specs.Merged.{IsOutputFault, IsRefusedEarly, IsRefusedMerge}
use Rattle.tile_merge.specs.Threaded.{HasNoThread, IsRefusedThreaded}
use Rattle.tile_merge.specs.Turns.{AreTurns}
use Rattle.byte_streams.specs.declared.places.MergeFault.{MergeFault}
use Rattle.tile_merge.specs.declared.merging.report.Report.{Report}

module _ {R : Type 0} (gives : Giving R) (readers : List R) (in_turn : Bool) (base other : Base)
    (same : base ≡ other) (result : Result Report MergeFault) where
  module _ (IsWanted : FeatureValue → Type 0) (old new : Option (List ℕ)) where
    pub asked_in_turn : in_turn ≡ true → IfErr result
        (λ e. IsRefusedMerge (merging gives IsWanted base AreTurns readers) e old new)
        → IfErr result (λ e. IsRefusedAsked in_turn gives IsWanted other readers e old new)
    asked_in_turn is refused =
        let there = subst (λ (b : Base). IfErr result (λ e. IsRefusedMerge (merging gives IsWanted b AreTurns readers) e old new))
        same refused in
        subst (λ (asked : Bool). IfErr result (λ e. IsRefusedAsked asked gives IsWanted other readers e old new))
        (sym is) there

    pub asked_with_threads : in_turn ≡ false → IfErr result
        (λ e. IsRefusedThreaded gives IsWanted base readers e old new)
        → IfErr result (λ e. IsRefusedAsked in_turn gives IsWanted other readers e old new)
    asked_with_threads is refused =
        let there = subst (λ (b : Base). IfErr result (λ e. IsRefusedThreaded gives IsWanted b readers e old new)) same
        refused in
        subst (λ (asked : Bool). IfErr result (λ e. IsRefusedAsked asked gives IsWanted other readers e old new))
        (sym is) there

  module _ (IsFlushed : Type 0) where
    pub passed_on_in_turn : in_turn ≡ true → IfErr result
        (λ e. IsRefusedEarly gives base readers e ⊎ IsOutputFault e ⊎ IsFlushed)
        → IfErr result (λ e. PassedOnAsked in_turn gives other readers IsFlushed e)
    passed_on_in_turn is passed_on =
        let there = subst (λ (b : Base). IfErr result
        (λ e. IsRefusedEarly gives b readers e ⊎ IsOutputFault e ⊎ IsFlushed)) same passed_on in
        subst (λ (asked : Bool). IfErr result (λ e. PassedOnAsked asked gives other readers IsFlushed e)) (sym is) there

    pub passed_on_with_threads : in_turn ≡ false
        → IfErr result (λ e. HasNoThread gives base readers e ⊎ IsRefusedEarly gives base readers e ⊎ IsOutputFault e
        ⊎ IsFlushed) → IfErr result (λ e. PassedOnAsked in_turn gives other readers IsFlushed e)
    passed_on_with_threads is passed_on =
        let there = subst (λ (b : Base). IfErr result
        (λ e. HasNoThread gives b readers e ⊎ IsRefusedEarly gives b readers e ⊎ IsOutputFault e ⊎ IsFlushed)) same
        passed_on in
        subst (λ (asked : Bool). IfErr result (λ e. PassedOnAsked asked gives other readers IsFlushed e)) (sym is) there
