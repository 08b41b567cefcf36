-- From the courses of the tiles and what was written of them to the answer of a merge.
use Rattle.std.proofs.Common.{◌≡◌, ◌≤◌, ◌+◌, ◌-◌, ◌⊎◌, ℕ, Bool, true, false, Result, Ok, Err, IfOk, IfErr, OnOk, OnErr, unwrap_or, if◌then◌else◌, List, [], ◌∷◌, Option, Some, None, take, length, drop, inl, inr, refl, sym, ap, subst, ◌∙◌, arith, take_all, append-nil, ◌++◌}
use Rattle.std.specs.Io.KnownBytes.{Appends}
use Rattle.std.proofs.KnownBytes.{Keeps-refl}
use Rattle.std.proofs.lemmas.List.{drop_all}
use Rattle.byte_streams.specs.declared.fault.Fault.{Fault}
use Rattle.byte_streams.specs.declared.fault.Fault.TheVariants.{Memory, Write}
use Rattle.city_feature.specs.Feature.{FeatureValue}
use Rattle.city_feature.specs.declared.base.Base.{Base}
use Rattle.city_grid.specs.Axes.{Triple}
use Rattle.tile_merge.specs.EndNotes.{outcomes_in, totals_in}
use Rattle.tile_stream.specs.Filtered.{failures_after_merge}
use Rattle.tile_merge.specs.Feeds.{Course}
use Rattle.tile_merge.specs.Giving.{Giving, Mixing, merging}
use Rattle.tile_merge.specs.Merged.{MergedAll, Merges, WroteMerge, WroteFrontOf, IsRefusedEarly, IsOutputFault, IsRefusedMerge, merged_texts, merged_outcomes}
use Rattle.tile_merge.specs.Opened.{AllThree, AreJoined, MayGiveOpened, OpenState}
use Rattle.tile_merge.specs.Rounds.{course_texts, course_ends}
use Rattle.tile_stream.specs.Stream.{stream}
use Rattle.tile_stream.specs.Texts.{Outcome}
use Rattle.tile_merge.specs.Told.{first_refusal, first_where, or_else, is_memory, fault_of_tile}
use Rattle.byte_streams.specs.declared.places.MergeFault.{MergeFault}
use Rattle.byte_streams.specs.declared.places.LineFault.{LineFault}
use Rattle.tile_merge.specs.declared.merging.ends.TileEnd.{TileEnd}
use Rattle.tile_merge.specs.declared.merging.report.Report.{Report}
use Rattle.tile_merge.proofs.MergedTiles.{AreMerged, are_merged, merges}
use Rattle.tile_merge.proofs.Readying.{quiet_tile}

-- before a byte is written
pub of_early : {R : Type 0} (gives : Giving R) (IsWanted : FeatureValue → Type 0) (base : Base) (Mixes : Mixing)
    (readers : List R) (refusal : MergeFault) (old : Option (List ℕ)) → IsRefusedEarly gives base readers refusal
    → IsRefusedMerge (merging gives IsWanted base Mixes readers) refusal old old
of_early gives IsWanted base Mixes readers refusal old early = inl (early, Keeps-refl old)

pub of_memory : {R : Type 0} (gives : Giving R) (base : Base) (readers : List R) (fault : Fault) → fault ≡ Memory
    → (refusal : MergeFault) → refusal ≡ record { tile = 0; line = 0; fault = fault }
    → IsRefusedEarly gives base readers refusal
of_memory gives base readers fault which refusal is =
    let Early : MergeFault → Type 0 = λ r. IsRefusedEarly gives base readers r in
    subst Early (sym is) (inr (inr (inr ((refl, refl), which))))

-- a vector whose items were lent and changed has the changed ones
pub lent_back : {X : Type 0} (items new : List X) (count : ℕ) → length new ≡ count → count ≡ length items
    → take count (new ++ drop (length new) items) ≡ new
lent_back items new count long whole =
    let none = drop_all (length new) items (omega (arith, long, whole)) in
    ap (λ rest. take count (new ++ rest)) none ∙ ap (take count) (append-nil new)
    ∙ take_all count new (omega (arith, long))

-- ---- results ----

module _ {A E : Type 0} where
  -- what holds whatever is answered
  pub when_ok : (P : Type 0) (result : Result A E) → P → OnOk result P
  when_ok P (Ok x) holds = holds
  when_ok P (Err e) holds = tt

  pub when_err : (P : Type 0) (result : Result A E) → P → OnErr result P
  when_err P (Ok x) holds = tt
  when_err P (Err e) holds = holds

  pub when_refused : (Early Output : E → Type 0) (P : Type 0) (result : Result A E) → P
      → IfErr result (λ e. Early e ⊎ Output e ⊎ P)
  when_refused Early Output P (Ok x) holds = tt
  when_refused Early Output P (Err e) holds = inr (inr holds)

  -- from one fact of an answer to another
  pub if_ok : {P Q : A → Type 0} (result : Result A E) → ((x : A) → P x → Q x) → IfOk result P → IfOk result Q
  if_ok (Ok x) step holds = step x holds
  if_ok (Err e) step holds = tt

  pub if_err : {P Q : E → Type 0} (result : Result A E) → ((e : E) → P e → Q e) → IfErr result P → IfErr result Q
  if_err (Ok x) step holds = tt
  if_err (Err e) step holds = step e holds

-- ---- what was written ----

module _ {R : Type 0} (gives : Giving R) (IsWanted : FeatureValue → Type 0) (base : Base) (Mixes : Mixing)
    (readers : List R) (tiles : List (OpenState R)) (shifts : List Triple) (line : List ℕ)
    (joined : AreJoined gives base readers tiles shifts line) (courses : List Course)
    (given : AllThree (MayGiveOpened gives IsWanted) tiles shifts courses) (out : List (List ℕ))
    (mixes : Mixes (course_texts courses) out) (old new : Option (List ℕ)) where
  all : AreMerged gives IsWanted readers joined.headers shifts courses
  all = are_merged gives IsWanted readers tiles joined.headers shifts courses joined.opened given

  all_merge : Merges gives IsWanted base readers all.merged line
  all_merge = merges gives IsWanted base readers joined.headers line shifts courses all joined.joined

  all_mixed : Mixes (merged_texts all.merged) out
  all_mixed = subst (λ (lists : List (List (List ℕ))). Mixes lists out) (sym all.texts_are) mixes

  -- the first bytes of the stream were written, where a write failed
  pub of_write : (fault : Fault) → fault ≡ Write → (refusal : MergeFault)
      → refusal ≡ record { tile = 0; line = 0; fault = fault } → (count : ℕ)
      → Appends old new (take count (stream line out))
      → IsRefusedMerge (merging gives IsWanted base Mixes readers) refusal old new
  of_write fault which refusal is count written =
      let front : WroteFrontOf (merging gives IsWanted base Mixes readers) old new = record {
        tiles = all.merged;
        line = line;
        out = out;
        count = count;
        merges = all_merge;
        mixes = all_mixed;
        written = written;
      } in
      inr (inl (subst IsOutputFault (sym is) ((refl, refl), which), front))

  -- all of it was
  module _ (written : Appends old new (stream line out)) (ends : List TileEnd) (are : ends ≡ course_ends courses)
      (result : Result Report MergeFault) where
    whole : WroteMerge (merging gives IsWanted base Mixes readers) all.merged old new
    whole = record { line = line; out = out; merges = all_merge; mixes = all_mixed; written = written }

    outcomes_are : merged_outcomes all.merged ≡ outcomes_in ends
    outcomes_are = all.outcomes_are ∙ ap outcomes_in (sym are)

    merged_so : (counts : List ℕ) → (first_refusal 1 (outcomes_in ends) ≡ None) × (counts ≡ totals_in ends)
        → MergedAll (merging gives IsWanted base Mixes readers) counts old new
    merged_so counts says = (
      all.merged,
      whole,
      ap (first_refusal 1) outcomes_are ∙ says.0,
      says.1 ∙ ap totals_in are ∙ all.totals_are,
    )

    refused_so : (refusal : MergeFault) → first_refusal 1 (outcomes_in ends) ≡ Some refusal
        → IsRefusedMerge (merging gives IsWanted base Mixes readers) refusal old new
    refused_so refusal says = inr (inr (all.merged, whole, ap (first_refusal 1) outcomes_are ∙ says))

    pub merged_result : IfOk result
        (λ report. (first_refusal 1 (outcomes_in ends) ≡ None) × (report.counts ≡ totals_in ends))
        → IfOk result (λ report. MergedAll (merging gives IsWanted base Mixes readers) report.counts old new)
    merged_result says = if_ok result (λ report. merged_so report.counts) says

    pub refused_result : IfErr result (λ e. first_refusal 1 (outcomes_in ends) ≡ Some e)
        → IfErr result (λ e. IsRefusedMerge (merging gives IsWanted base Mixes readers) e old new)
    refused_result says = if_err result refused_so says

-- ---- what the report says ----

-- what is answered names a tile
first_tile : (test : Fault → Bool) (tile : ℕ) (outcomes : List Outcome) (refusal : MergeFault)
    → first_where test tile outcomes ≡ Some refusal → tile ≤ refusal.tile
first_tile test tile [] refusal is = absurd (cc is)
first_tile test tile (None ∷ others) refusal is = omega (arith, first_tile test (tile + 1) others refusal is)
first_tile test tile (Some at ∷ others) refusal is =
    first_or (test at.fault) tile at others refusal is
    (λ later. omega (arith, first_tile test (tile + 1) others refusal later))
  where
    first_or : (passes : Bool) (here : ℕ) (fault : LineFault) (rest : List Outcome) (r : MergeFault)
        → (if passes then Some (fault_of_tile here fault) else first_where test (here + 1) rest) ≡ Some r
        → (first_where test (here + 1) rest ≡ Some r → here ≤ r.tile) → here ≤ r.tile
    first_or true here fault rest r same later = omega (arith, ap (λ found. (unwrap_or found r).tile) same)
    first_or false here fault rest r same later = later same

first_of : (memory other : Option MergeFault) (refusal : MergeFault)
    → ((r : MergeFault) → memory ≡ Some r → 1 ≤ r.tile) → ((r : MergeFault) → other ≡ Some r → 1 ≤ r.tile)
    → or_else memory other ≡ Some refusal → 1 ≤ refusal.tile
first_of None other refusal one two is = two refusal is
first_of (Some first) other refusal one two is = one refusal is

names_tile : (outcomes : List Outcome) (refusal : MergeFault) → first_refusal 1 outcomes ≡ Some refusal
    → 1 ≤ refusal.tile
names_tile outcomes refusal is =
    first_of (first_where is_memory 1 outcomes) (first_where (λ fault. true) 1 outcomes) refusal
    (λ r. first_tile is_memory 1 outcomes r) (λ r. first_tile (λ fault. true) 1 outcomes r) is

-- a report is no failed write
pub no_failed_write : (ends : List TileEnd) (result : Result Report MergeFault)
    → IfErr result (λ e. first_refusal 1 (outcomes_in ends) ≡ Some e) → (count : ℕ)
    → count ≡ failures_after_merge result count
no_failed_write ends (Ok report) says count = refl
no_failed_write ends (Err e) says count =
    let named = names_tile (outcomes_in ends) e says in
    sym (quiet_tile e (e.tile - 1) (omega (arith, named)) count)
