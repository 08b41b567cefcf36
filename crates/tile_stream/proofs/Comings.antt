-- What one line does to what may be to come of a tile.
use Rattle.std.proofs.Common.{◌≢◌, ◌≤◌, ◌<◌, ◌++◌, ℕ, Bool, List, [], ◌∷◌, Option, Some, None, option_to_list, refl, subst, inl, inr, arith}
use Rattle.byte_streams.specs.declared.fault.Fault.{Fault}
use Rattle.byte_streams.specs.declared.fault.Fault.TheVariants.{Memory, Write}
use Rattle.byte_streams.specs.declared.places.LineFault.{LineFault}
use Rattle.city_feature.specs.Feature.{FeatureValue}
use Rattle.city_feature.specs.FeatureLine.{GivesFeature, RefusesFeatureLine}
use Rattle.city_grid.specs.Axes.{Triple}
use Rattle.tile_stream.specs.Coming.{LeftComesTo, LinesMayComeTo, SomethingComes}
use Rattle.tile_stream.specs.Texts.{Outcome, EndsAfterLine, LinesComeTo}
use Rattle.tile_stream.specs.Tile.{Stretch, TileLines, stretch_of, line_before, nothing_left, only_fault}
use Rattle.tile_stream.specs.Whole.{TakesLine}
use Rattle.tile_stream.specs.Unread.{Unread, Leaves, MayBeOver, IsRefused, IsFaultFrom, BeginsFrom, ComesFrom}
use Rattle.tile_stream.proofs.Leaving.{begins_before}

abbrev at_line : ℕ → Fault → LineFault
at_line number fault = record { line = number; fault = fault }

-- memory may run out at the next line
memory_in : (Gives : List ℕ → Option (List ℕ) → Type 0) (Refuses : Fault → List ℕ → Type 0) (lines : List Stretch)
    (fault : Option LineFault) (last number : ℕ) → ComesFrom number lines fault last
    → LinesComeTo Gives Refuses lines fault last [] (Some (at_line number Memory))
memory_in Gives Refuses [] None last number comes = (refl, (refl, comes))
memory_in Gives Refuses [] (Some fault) last number comes = (refl, inr (refl, comes))
memory_in Gives Refuses (line ∷ others) fault last number comes = inl (refl, inr (refl, comes))

pub ends_after : (number next : ℕ) (outcome : Outcome) → number < next → IsFaultFrom next outcome
    → EndsAfterLine number outcome
ends_after number next None below from = tt
ends_after number next (Some at) below from = omega (arith, below, from)

ends_from : (first number : ℕ) (outcome : Outcome) → first ≤ number → EndsAfterLine number outcome
    → IsFaultFrom first outcome
ends_from first number None low after = tt
ends_from first number (Some at) low after = omega (arith, low, after)

-- something comes of the lines that are left
module _ (IsWanted : FeatureValue → Type 0) (k : Triple) (number : ℕ) where
  lines_come : (lines : List Stretch) (fault : Option LineFault) (last : ℕ) → BeginsFrom number lines fault
      → SomethingComes (LeftComesTo IsWanted k number (record { lines = lines; fault = fault; last = last }))
  lines_come [] None last begins = ([], (None, (tt, (refl, tt))))
  lines_come [] (Some fault) last begins = ([], (Some fault, (begins, (refl, inl refl))))
  lines_come (line ∷ others) fault last begins =
      ([], (Some (at_line number Memory), (omega arith, inl (refl, inr (refl, begins)))))

  pub left_comes : (left : TileLines) → BeginsFrom number left.lines left.fault
      → SomethingComes (LeftComesTo IsWanted k number left)
  left_comes left begins = lines_come left.lines left.fault left.last begins

module _ {R : Type 0} (gives : R → List ℕ → Bool → Type 0) (IsWanted : FeatureValue → Type 0) (k : Triple) where
  abbrev Comes : Unread R → List (List ℕ) → Outcome → Type 0
  Comes lines texts outcome = LinesMayComeTo gives IsWanted k lines texts outcome

  module _ (before : Unread R) where
    pub nothing_comes : MayBeOver (Leaves gives before) → Comes before [] None
    nothing_comes over = (nothing_left over.0, (over.1, tt), (tt, (refl, tt)))

    pub fault_comes : (fault : Fault) (number : ℕ) → before.number ≤ number
        → IsRefused fault number (Leaves gives before) → Comes before [] (Some (at_line number fault))
    fault_comes Memory number from refused =
        let left = refused.0 in (
          left,
          (refused.1, begins_before before.number number left.lines left.fault left.last from refused.2),
          (
            from,
            memory_in (GivesFeature IsWanted k) (RefusesFeatureLine k) left.lines left.fault left.last number
                refused.2,
          ),
        )
    fault_comes other number from refused = (only_fault number other, (refused, from), (from, (refl, inl refl)))

    module _ (after : Unread R) (number : ℕ) (bytes : List ℕ) (taken : TakesLine gives before after number bytes) where
      abbrev line : Stretch
      line = stretch_of number taken.line.0 bytes

      pub line_comes : (given : Option (List ℕ)) → GivesFeature IsWanted k bytes given
          → (texts : List (List ℕ)) (outcome : Outcome) → Comes after texts outcome
          → Comes before (option_to_list given ++ texts) outcome
      line_comes given feature texts outcome comes =
          let left = comes.0 in
          let ends = ends_after number after.number outcome taken.later comes.2.0 in (
            line_before line left,
            (taken.line.1 left comes.1.0, taken.from),
            (
              ends_from before.number number outcome taken.from ends,
              inr (given, texts, feature, ends, comes.2.1, refl),
            ),
          )

      pub refusal_comes : (left : TileLines) → Leaves gives after left → (fault : Fault)
          → RefusesFeatureLine k fault bytes → Comes before [] (Some (at_line number fault))
      refusal_comes left leaves fault refused = (
        line_before line left,
        (taken.line.1 left leaves, taken.from),
        (taken.from, inl (refl, inl (refl, refused))),
      )

-- a line is not refused because a write failed
module _ (k : Triple) (line : List ℕ) where
  never_write : RefusesFeatureLine k Write line → ⊥
  never_write (inl text) = text
  never_write (inr (inl value)) = value.3
  never_write (inr (inr range)) = cc range.0

  pub no_failed_write : (fault : Fault) → RefusesFeatureLine k fault line → fault ≢ Write
  no_failed_write fault refused is = never_write (subst (λ (f : Fault). RefusesFeatureLine k f line) is refused)
