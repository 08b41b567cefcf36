-- What a run does, by what its words ask for.
use Rattle.std.specs.Prelude.{◌≡◌, ◌⊎◌, ℕ, Bool, List, Option}
use Rattle.std.specs.List.{AllZip}
use Rattle.city_feature.specs.Choice.{IsChosen}
use Rattle.byte_streams.specs.declared.fault.Fault.TheVariants.{Memory}
use Rattle.command_runs.specs.FaultLine.{fault_line}
use Rattle.command_runs.specs.Merging.{base_of, mixes_of}
use Rattle.command_runs.specs.Passing.{ShownOrFailed, WroteOrFailed}
use Rattle.command_line.specs.declared.merge_args.MergeArgs.{MergeArgs}
use Rattle.command_line.specs.declared.parsing.Parsed.{Parsed}
use Rattle.command_line.specs.declared.parsing.Parsed.TheVariants as parsed
use Rattle.document_stream.specs.CutStream.{WroteCut}
use Rattle.document_stream.specs.Input.{SomeInput}
use Rattle.tile_stream.specs.Filtered.{WroteStream}
use Rattle.tile_stream.specs.Head.{SomeTile}
use Rattle.tile_merge.specs.Giving.{Giving, merging}
use Rattle.tile_merge.specs.Merged.{MergedAll}
use Rattle.tile_stream.specs.Tile.{stream_limits}
use Rattle.tile_stream.specs.Unread.{IsOfTile}
use Rattle.byte_streams.specs.declared.places.MergeFault.{MergeFault}

-- a command is done or refused; help is shown; words are wrong; memory ran out
abbrev pub IsStatus : Parsed → ℕ → Type 0
IsStatus (parsed.Help text) status = status ≡ 0
IsStatus (parsed.Usage text) status = status ≡ 2
IsStatus parsed.Memory status = status ≡ 1
IsStatus _ status = (status ≡ 0) ⊎ (status ≡ 1)

-- the tiles of the paths were opened and merged, as was asked for
abbrev pub DidMerge : {R : Type 0} → Giving R → (List ℕ → R → Type 0) → MergeArgs → Type 0 → Option (List ℕ) → Option (List ℕ) → ℕ → ℕ → Type 0
DidMerge {R} gives Opens args IsFlushed old new before after =
    (readers : List R)
    × (counts : List ℕ)
    × AllZip Opens args.paths readers
    × MergedAll (merging gives (IsChosen args.choice) (base_of args.least) (mixes_of args.in_turn) readers) counts old new
    × IsFlushed
    × (after ≡ before)

-- what was written where a run ends as done, whose input is of a reader that gives this
abbrev pub IsDone : {R : Type 0} → Giving R → (List ℕ → R → Type 0) → (List ℕ → Bool → Type 0) → Parsed → Type 0 → Option (List ℕ) → Option (List ℕ) → ℕ → ℕ → Type 0
IsDone gives Opens input (parsed.Merge args) IsFlushed old new before after =
    DidMerge gives Opens args IsFlushed old new before after
IsDone gives Opens input (parsed.Filter choice) IsFlushed old new before after =
    SomeTile (IsOfTile input stream_limits) (λ tile. (count : ℕ) × WroteStream tile (IsChosen choice) count old new)
    × IsFlushed
    × (after ≡ before)
IsDone gives Opens input parsed.Cat IsFlushed old new before after =
    SomeInput input (λ document. (count : ℕ) × WroteCut document count old new) × IsFlushed × (after ≡ before)
IsDone gives Opens input (parsed.Help text) IsFlushed old new before after =
    ShownOrFailed text IsFlushed old new before after
IsDone gives Opens input _ IsFlushed old new before after = ⊥

-- the line of some fault was written, or its first bytes and a call failed
abbrev pub SaidFault : Option (List ℕ) → Option (List ℕ) → ℕ → ℕ → Type 0
SaidFault old new before after = (refusal : MergeFault) × WroteOrFailed (fault_line refusal) old new before after

-- what is said where a run is not done: what is wrong with the words, or a fault
abbrev pub IsSaid : Parsed → ℕ → Option (List ℕ) → Option (List ℕ) → ℕ → ℕ → Type 0
IsSaid (parsed.Usage text) status old new before after = WroteOrFailed text old new before after
IsSaid parsed.Memory status old new before after =
    WroteOrFailed (fault_line (record { tile = 0; line = 0; fault = Memory })) old new before after
IsSaid _ status old new before after = status ≡ 1 → SaidFault old new before after
