-- Which fault is answered, found by going through the ends.
use Rattle.std.proofs.Common.{◌≡◌, ◌≤◌, ◌<◌, ◌+◌, Bool, true, false, ℕ, List, ◌∷◌, Option, Some, None, length, get_or, drop, if◌then◌else◌, refl, sym, ap, ◌∙◌, add-one, drop-cons}
use Rattle.std.proofs.lemmas.List.{drop_all}
use Rattle.byte_streams.specs.contracts.fault.Fault.{the_type}
use Rattle.byte_streams.specs.declared.fault.Fault.{Fault}
use Rattle.byte_streams.specs.declared.fault.Fault.TheVariants.{Memory}
use Rattle.byte_streams.specs.declared.places.LineFault.{LineFault}
use Rattle.byte_streams.specs.declared.places.MergeFault.{MergeFault}
use Rattle.tile_merge.specs.EndNotes.{ended_so, outcomes_in}
use Rattle.tile_merge.specs.Told.{fault_of_tile, first_where, is_memory}
use Rattle.tile_merge.specs.declared.merging.ends.TileEnd.{TileEnd}
use Rattle.tile_stream.specs.Texts.{Outcome}
use denote.Enum.Bare.{sameb}

-- what the ends that are left tell is what all of them tell
abbrev pub TellsOn : (Fault → Bool) → ℕ → List TileEnd → List TileEnd → Type 0
TellsOn test next left ends = first_where test next (outcomes_in left) ≡ first_where test 1 (outcomes_in ends)

abbrev no_end : TileEnd
no_end = ended_so 0 None

-- the ends from a place on
module _ (test : Fault → Bool) (next : ℕ) (ends : List TileEnd) (index : ℕ)
    (told : TellsOn test next (drop index ends) ends) where
  abbrev found_of : List TileEnd → Option MergeFault
  found_of left = first_where test next (outcomes_in left)

  -- none is left
  pub tells_none : length ends ≤ index → None ≡ first_where test 1 (outcomes_in ends)
  tells_none over = ap found_of (sym (drop_all index ends over)) ∙ told

  module _ (within : index < length ends) where
    abbrev this : Outcome
    this = (get_or ends index no_end).stop

    abbrev rest : List TileEnd
    rest = drop (index + 1) ends

    first : drop index ends ≡ get_or ends index no_end ∷ rest
    first = rw add-one (drop-cons ends index no_end within)

    -- the first of them stopped so
    as_it_is : (stop : Outcome) → this ≡ stop
        → first_where test next (stop ∷ outcomes_in rest) ≡ first_where test 1 (outcomes_in ends)
    as_it_is stop is = ap (λ (s : Outcome). first_where test next (s ∷ outcomes_in rest)) (sym is)
        ∙ ap found_of (sym first) ∙ told

    pub tells_on : this ≡ None → TellsOn test (next + 1) rest ends
    tells_on none = as_it_is None none

    module _ (at : LineFault) (some : this ≡ Some at) where
      abbrev if_passed : Bool → Option MergeFault
      if_passed passes =
          if passes then Some (fault_of_tile next at) else first_where test (next + 1) (outcomes_in rest)

      pub tells_on_other : test at.fault ≡ false → TellsOn test (next + 1) rest ends
      tells_on_other fails = ap if_passed (sym fails) ∙ as_it_is (Some at) some

      pub tells_this : test at.fault ≡ true → (refusal : MergeFault) → refusal ≡ fault_of_tile next at
          → Some refusal ≡ first_where test 1 (outcomes_in ends)
      tells_this holds refusal is = ap Some is ∙ ap if_passed (sym holds) ∙ as_it_is (Some at) some

pub same_memory : (fault : Fault) → sameb the_type fault Memory ≡ is_memory fault
same_memory Memory = refl
same_memory other = refl
