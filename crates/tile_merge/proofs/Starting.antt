-- Tiles that join, each with its thread, or why one has none.
use Rattle.std.proofs.Common.{◌≡◌, ◌≤◌, ◌<◌, ◌-◌, ◌⊎◌, ◌++◌, ℕ, List, [], ◌∷◌, Option, None, Some, Result, Ok, Err, IfErr, length, inl, inr, refl, sym, ap, subst, ◌∙◌, arith}
use Rattle.std.proofs.KnownBytes.{Keeps-refl}
use Rattle.byte_streams.specs.declared.fault.Fault.{Fault}
use Rattle.byte_streams.specs.declared.fault.Fault.TheVariants.{Memory, NoThread}
use Rattle.byte_streams.specs.declared.places.LineFault.{LineFault}
use Rattle.city_feature.specs.Choice.{IsChosen}
use Rattle.city_feature.specs.Feature.{FeatureValue}
use Rattle.city_feature.specs.Header.{HeaderValue}
use Rattle.city_feature.specs.Joined.{IsJoined}
use Rattle.city_feature.specs.declared.base.Base.{Base}
use Rattle.city_feature.specs.declared.choices.Choice.{Choice}
use Rattle.city_grid.specs.Axes.{Triple}
use Rattle.tile_merge.specs.Giving.{Giving, merging}
use Rattle.tile_merge.specs.Interleaves.{Interleaves}
use Rattle.tile_merge.specs.Merged.{IsRefusedEarly, IsRefusedMerge}
use Rattle.tile_merge.specs.Opened.{AllThree, AreJoined, OpenState, IsOpened}
use Rattle.tile_merge.specs.Threaded.{HeadersJoin, HasNoThread, IsRefusedThreaded}
use Rattle.tile_merge.specs.Threads.{Fed, MayFeed, RunningState, AreFresh, IsRunOf, IsUnstarted, fresh_run}
use Rattle.tile_merge.specs.EndNotes.{ended_so}
use Rattle.tile_merge.specs.declared.merging.ends.TileEnd.{TileEnd}
use Rattle.tile_stream.specs.Coming.{GivesTexts, LinesMayComeTo, MayComeTo}
use Rattle.tile_stream.specs.Unread.{Unread}
use Rattle.byte_streams.specs.declared.places.MergeFault.{MergeFault}
use Rattle.tile_merge.specs.declared.merging.report.Report.{Report}
use Rattle.tile_merge.proofs.Answering.{of_early}
use Rattle.tile_merge.proofs.Opening.{have_heads, all_three_long}
use Rattle.tile_merge.proofs.Readying.{quiet_memory, quiet_tile}
use Rattle.tile_stream.specs.Filtered.{failures_after_refusal}

-- a refusal to start the thread of a tile
pub unstarted : (count tile : ℕ) → 0 < tile → tile ≤ count → (fault : Fault) → (fault ≡ Memory) ⊎ (fault ≡ NoThread)
    → (refusal : MergeFault)
    → (fault ≡ NoThread → refusal ≡ record { tile = tile; line = 0; fault = NoThread })
    → (fault ≡ Memory → refusal ≡ record { tile = 0; line = 0; fault = Memory }) → IsUnstarted count refusal
unstarted count tile some within fault (inl memory) refusal thread none = inl (none memory)
unstarted count tile some within fault (inr lacking) refusal thread none =
    let is = thread lacking in
    let Unstarted : MergeFault → Type 0 = λ r. (r.fault ≡ NoThread) × (r.line ≡ 0) × (0 < r.tile) × (r.tile ≤ count) in
    inr (subst Unstarted (sym is) (refl, refl, some, within))

-- it is no failed write
pub quiet_unstarted : (count : ℕ) (refusal : MergeFault) → IsUnstarted count refusal → (n : ℕ)
    → failures_after_refusal refusal n ≡ n
quiet_unstarted count refusal (inl memory) n =
    let none = ap (λ (r : MergeFault). r.tile) memory in
    quiet_memory refusal (none, ap (λ (r : MergeFault). r.line) memory) (ap (λ (r : MergeFault). r.fault) memory) n
quiet_unstarted count refusal (inr lacking) n = quiet_tile refusal (refusal.tile - 1) (omega (arith, lacking.2)) n

module _ {R : Type 0} (gives : Giving R) (base : Base) (readers : List R) where
  pub not_started : (tiles : List (OpenState R)) (shifts : List Triple) (line : List ℕ)
      → AreJoined gives base readers tiles shifts line → (refusal : MergeFault) → IsUnstarted (length tiles) refusal
      → HasNoThread gives base readers refusal ⊎ IsRefusedEarly gives base readers refusal
  not_started tiles shifts line all refusal (inl memory) =
      let none = ap (λ (r : MergeFault). r.tile) memory in
      inr (inr (inr (inr ((none, ap (λ (r : MergeFault). r.line) memory), ap (λ (r : MergeFault). r.fault) memory))))
  not_started tiles shifts line all refusal (inr lacking) =
      let long = all_three_long (IsOpened gives) readers tiles all.headers all.opened in
      let heads = have_heads gives readers tiles all.headers all.opened in
      let joins : HeadersJoin gives base readers = (
        heads.0,
        line,
        shifts,
        heads.1,
        subst (λ (hs : List HeaderValue). IsJoined base hs line shifts)
            (sym heads.2) all.joined,
      ) in
      inl (lacking.0, lacking.1, lacking.2, omega (arith, lacking.3, long.0), joins)

  pub refused_start : (IsWanted : FeatureValue → Type 0) (refusal : MergeFault) (old : Option (List ℕ))
      → HasNoThread gives base readers refusal ⊎ IsRefusedEarly gives base readers refusal
      → IsRefusedThreaded gives IsWanted base readers refusal old old
  refused_start IsWanted refusal old (inl lacking) = inl (lacking, Keeps-refl old)
  refused_start IsWanted refusal old (inr early) =
      inr (of_early gives IsWanted base Interleaves readers refusal old early)

  pub refused_all : (IsWanted : FeatureValue → Type 0) (old new : Option (List ℕ)) (result : Result Report MergeFault)
      → IfErr result (λ e. IsRefusedMerge (merging gives IsWanted base Interleaves readers) e old new)
      → IfErr result (λ e. IsRefusedThreaded gives IsWanted base readers e old new)
  refused_all IsWanted old new (Ok report) refused = tt
  refused_all IsWanted old new (Err e) refused = inr refused

-- nothing was taken yet of what threads put that were only started
pub are_fresh : {R : Type 0} (gives : Giving R) (choice : Choice) (tiles : List (OpenState R)) (shifts : List Triple)
    (running : List (RunningState R)) → AllThree (IsRunOf gives choice) tiles shifts running → AreFresh running
are_fresh gives choice [] [] [] runs = tt
are_fresh gives choice (tile ∷ tiles) (shift ∷ shifts) (run ∷ running) runs =
    ((runs.0.lines, runs.0.unasked), are_fresh gives choice tiles shifts running runs.1)
are_fresh gives choice [] [] (run ∷ running) runs = absurd runs
are_fresh gives choice [] (shift ∷ shifts) running runs = absurd runs
are_fresh gives choice (tile ∷ tiles) [] running runs = absurd runs
are_fresh gives choice (tile ∷ tiles) (shift ∷ shifts) [] runs = absurd runs

-- what a tile gives whose first line was taken, and that of its thread
module _ {R : Type 0} (gives : Giving R) (choice : Choice) (tile : OpenState R) (shift : Triple) (now : Unread R) where
  abbrev of_thread : TileEnd → Fed R
  of_thread begun = record { unread = now; shift = shift; choice = choice; begun = begun }

  pub runs_on : (first : List (List ℕ)) → GivesTexts (MayComeTo gives (IsChosen choice) shift tile.unread)
      (LinesMayComeTo gives (IsChosen choice) shift now) first → (begun : TileEnd) → begun ≡ ended_so (length first) None
      → IsRunOf gives choice tile shift (fresh_run (record { fed = of_thread begun; first = first }))
  runs_on first texts begun is = record {
    comes = λ all outcome come.
        let May : TileEnd → Type 0 = λ b. MayFeed gives (of_thread b) come.0 outcome in
        subst (λ ts. MayComeTo gives (IsChosen choice) shift tile.unread ts outcome) (sym come.1)
        (texts come.0 outcome (subst May is come.2));
    lines = refl;
    unasked = refl;
  }

  pub stops_there : (at : LineFault) → MayComeTo gives (IsChosen choice) shift tile.unread [] (Some at)
      → (first : List (List ℕ)) → first ≡ [] → (begun : TileEnd) → begun ≡ ended_so (length first) (Some at)
      → IsRunOf gives choice tile shift (fresh_run (record { fed = of_thread begun; first = first }))
  stops_there at stops first none begun is = record {
    comes = λ all outcome come.
        let May : TileEnd → Type 0 = λ b. MayFeed gives (of_thread b) come.0 outcome in
        let stopped = subst May is come.2 in
        let all_is : all ≡ [] = come.1 ∙ ap (λ ts. ts ++ come.0) none ∙ stopped.0 in
        subst (λ ts. MayComeTo gives (IsChosen choice) shift tile.unread ts outcome) (sym all_is)
        (subst (MayComeTo gives (IsChosen choice) shift tile.unread []) (sym stopped.1) stops);
    lines = refl;
    unasked = refl;
  }
