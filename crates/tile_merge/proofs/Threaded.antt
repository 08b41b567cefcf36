-- From the lines that were written and what the threads gave to the answer of the whole merge.
use Rattle.std.proofs.Common.{◌≡◌, ◌++◌, ◌⊎◌, ℕ, Result, Ok, Err, IfOk, IfErr, OnOk, List, [], ◌∷◌, Option, Some, None, take, flat_map, filter_map, inl, inr, refl, sym, ap, subst, ◌∙◌, append_assoc, append-nil}
use Rattle.std.specs.Io.KnownBytes.{Appends}
use Rattle.std.specs.List.{AllZip}
use Rattle.std.proofs.lemmas.Grind.{flat_map-append}
use Rattle.byte_streams.specs.declared.fault.Fault.{Fault}
use Rattle.byte_streams.specs.declared.fault.Fault.TheVariants.{Write}
use Rattle.city_feature.specs.Choice.{IsChosen}
use Rattle.city_feature.specs.Feature.{FeatureValue}
use Rattle.city_feature.specs.declared.base.Base.{Base}
use Rattle.city_feature.specs.declared.choices.Choice.{Choice}
use Rattle.city_grid.specs.Axes.{Triple}
use Rattle.tile_merge.specs.Giving.{Giving, merging}
use Rattle.tile_merge.specs.EndNotes.{outcomes_in, totals_in}
use Rattle.tile_merge.specs.Feeds.{Course}
use Rattle.tile_merge.specs.Interleaves.{Interleaves}
use Rattle.tile_merge.specs.Merged.{MergedAll, IsRefusedMerge}
use Rattle.tile_merge.specs.Opened.{AllThree, AreJoined, MayGiveOpened, OpenState}
use Rattle.tile_merge.specs.Rounds.{course_ends, course_texts}
use Rattle.tile_stream.specs.Stream.{with_newline, stream}
use Rattle.tile_merge.specs.Threads.{Begun, RunningState, AreUncancelled, HasGiven, HaveGiven, IsRunOf, LinesSoFar, MayComeOf, begun_of, lines_taken}
use Rattle.tile_merge.specs.Told.{first_refusal}
use Rattle.byte_streams.specs.declared.places.MergeFault.{MergeFault}
use Rattle.tile_merge.specs.declared.merging.report.Report.{Report}
use Rattle.tile_merge.specs.declared.merging.ends.TileEnd.{TileEnd}
use Rattle.byte_streams.specs.Failures.{Wrote, after_call}
use Rattle.tile_merge.specs.Threaded.{WroteInterleaved}
use Rattle.tile_stream.specs.Filtered.{failures_after_merge}
use Rattle.tile_merge.proofs.Answering.{merged_result, no_failed_write, of_write, refused_result}
use Rattle.tile_merge.proofs.Ends.{all_ended}
use Rattle.tile_merge.proofs.Mixing.{AreParted, flat, mixed_on}
use Rattle.tile_stream.proofs.Steps.{first_of_longer}
use Rattle.tile_merge.proofs.Writing.{on_ok}

-- ---- what the threads gave ----

module _ {R : Type 0} (gives : Giving R) where
  given_push : (tiles : List (RunningState R)) (tile : RunningState R) (courses : List Course) (course : Course)
      → HaveGiven gives tiles courses → HasGiven gives tile course
      → HaveGiven gives (tiles ++ tile ∷ []) (courses ++ course ∷ [])
  given_push [] tile [] course have one = (one, tt)
  given_push [] tile (other ∷ courses) course have one = absurd have
  given_push (first ∷ tiles) tile [] course have one = absurd have
  given_push (first ∷ tiles) tile (other ∷ courses) course have one =
      (have.0, given_push tiles tile courses course have.1 one)

  -- one tile more has given its course
  pub given_more : (tiles : List (RunningState R)) (tile : RunningState R) → (courses : List Course)
      × HaveGiven gives tiles courses → (course : Course) × HasGiven gives tile course → (courses : List Course)
      × HaveGiven gives (tiles ++ tile ∷ []) courses
  given_more tiles tile given one = (given.0 ++ one.0 ∷ [], given_push tiles tile given.0 one.0 given.1 one.1)

  -- where nobody asked them to stop, the lines that were taken are those of the texts
  lines_given : (tiles : List (RunningState R)) (courses : List Course) → HaveGiven gives tiles courses
      → AreUncancelled tiles → lines_taken tiles ≡ course_texts courses
  lines_given [] [] have none = refl
  lines_given [] (course ∷ courses) have none = absurd have
  lines_given (tile ∷ tiles) [] have none = absurd have
  lines_given (tile ∷ tiles) (course ∷ courses) have none =
      let one = have.0 in
      let texts_are : one.texts ≡ course.texts =
      sym (append-nil one.texts) ∙ ap (λ others. one.texts ++ others) (sym (one.whole none.0).0) ∙ sym one.are in
      ap (λ l. l ∷ lines_taken tiles) (one.lines ∙ texts_are)
      ∙ ap (λ ls. course.texts ∷ ls) (lines_given tiles courses have.1 none.1)

  -- otherwise they are the first of these
  lines_parted : (tiles : List (RunningState R)) (courses : List Course) → HaveGiven gives tiles courses
      → (rests : List (List (List ℕ))) × AllThree AreParted (lines_taken tiles) (course_texts courses) rests
  lines_parted [] [] have = ([], tt)
  lines_parted [] (course ∷ courses) have = absurd have
  lines_parted (tile ∷ tiles) [] have = absurd have
  lines_parted (tile ∷ tiles) (course ∷ courses) have =
      let one = have.0 in
      let more = lines_parted tiles courses have.1 in
      let first : course.texts ≡ tile.lines ++ one.others = one.are ∙ ap (λ l. l ++ one.others) (sym one.lines) in
      (one.others ∷ more.0, (first, more.1))

  -- where nobody asked them to stop, the end notes are those of the courses
  pub ends_given : (tiles : List (RunningState R)) (courses : List Course) → HaveGiven gives tiles courses
      → AreUncancelled tiles
      → AllZip (λ (tile : RunningState R) (ended : TileEnd). tile.last ≡ Some ended) tiles (course_ends courses)
  ends_given [] [] have none = tt
  ends_given [] (course ∷ courses) have none = absurd have
  ends_given (tile ∷ tiles) [] have none = absurd have
  ends_given (tile ∷ tiles) (course ∷ courses) have none =
      ((have.0.whole none.0).1, ends_given tiles courses have.1 none.1)

  module _ (choice : Choice) where
    gave : (tile : OpenState R) (shift : Triple) (run now : RunningState R) (course : Course)
        → IsRunOf gives choice tile shift run → now.begun ≡ run.begun → HasGiven gives now course
        → MayGiveOpened gives (IsChosen choice) tile shift course
    gave tile shift run now course is same given =
        let May : Begun R → Type 0 = λ begun. MayComeOf gives begun course.texts course.ended.stop in
        (is.comes course.texts course.ended.stop (subst May same given.comes), given.counted)

    gave_all : (tiles : List (OpenState R)) (shifts : List Triple) (running now : List (RunningState R))
        (courses : List Course) → AllThree (IsRunOf gives choice) tiles shifts running
        → begun_of now ≡ begun_of running
        → HaveGiven gives now courses → AllThree (MayGiveOpened gives (IsChosen choice)) tiles shifts courses
    gave_all [] [] [] [] [] runs same have = tt
    gave_all (tile ∷ tiles) (shift ∷ shifts) (run ∷ running) (one ∷ now) (course ∷ courses) runs same have =
        let first : one.begun ≡ run.begun = cc same in
        let others : begun_of now ≡ begun_of running = cc same in (
          gave tile shift run one course runs.0 first have.0,
          gave_all tiles shifts running now courses runs.1 others have.1,
        )
    gave_all [] [] [] [] (course ∷ courses) runs same have = absurd have
    gave_all [] [] [] (one ∷ now) courses runs same have = absurd (cc same)
    gave_all [] [] (run ∷ running) now courses runs same have = absurd runs
    gave_all [] (shift ∷ shifts) running now courses runs same have = absurd runs
    gave_all (tile ∷ tiles) [] running now courses runs same have = absurd runs
    gave_all (tile ∷ tiles) (shift ∷ shifts) [] now courses runs same have = absurd runs
    gave_all (tile ∷ tiles) (shift ∷ shifts) (run ∷ running) [] courses runs same have = absurd (cc same)
    gave_all (tile ∷ tiles) (shift ∷ shifts) (run ∷ running) (one ∷ now) [] runs same have = absurd have

-- ---- what was written ----

module _ {R : Type 0} (gives : Giving R) (choice : Choice) (base : Base) (readers : List R)
    (tiles : List (OpenState R)) (shifts : List Triple) (line : List ℕ)
    (joined : AreJoined gives base readers tiles shifts line) (running now : List (RunningState R))
    (runs : AllThree (IsRunOf gives choice) tiles shifts running) (wrote : Result (Unit {0}) Fault)
    (old new : Option (List ℕ)) (failures newer : ℕ)
    (so_far : LinesSoFar (begun_of running) line now wrote old new failures newer) (courses : List Course)
    (have : HaveGiven gives now courses) where
  given : AllThree (MayGiveOpened gives (IsChosen choice)) tiles shifts courses
  given = gave_all gives choice tiles shifts running now courses runs so_far.same have

  abbrev parted : (rests : List (List (List ℕ))) × AllThree AreParted (lines_taken now) (course_texts courses) rests
  parted = lines_parted gives now courses have

  -- what would have come after what was written
  abbrev later : List (List ℕ)
  later = flat parted.0

  all_mixed : Interleaves (course_texts courses) (so_far.out ++ later)
  all_mixed = mixed_on (lines_taken now) (course_texts courses) parted.0 parted.1 so_far.out so_far.mixes

  all_bytes : stream line so_far.out ++ flat_map with_newline later ≡ stream line (so_far.out ++ later)
  all_bytes =
      append_assoc (with_newline line) (flat_map with_newline so_far.out) (flat_map with_newline later)
      ∙ ap (λ l. with_newline line ++ l) (sym (flat_map-append with_newline so_far.out later))

  -- a write failed
  pub refused_write : (fault : Fault) → wrote ≡ Err fault → (refusal : MergeFault)
      → refusal ≡ record { tile = 0; line = 0; fault = fault }
      → IsRefusedMerge (merging gives (IsChosen choice) base Interleaves readers) refusal old new
  refused_write fault was refusal is =
      let part = subst (λ (r : Result (Unit {0}) Fault). Wrote r old new (stream line so_far.out)) was
      so_far.written in
      let which = subst (λ (r : Result (Unit {0}) Fault). IfErr r (λ f. f ≡ Write)) was so_far.fault in
      let first = first_of_longer part.0 (stream line so_far.out) (flat_map with_newline later) in
      of_write gives (IsChosen choice) base Interleaves readers tiles shifts line joined courses given
      (so_far.out ++ later) all_mixed old new fault which refusal is first.0
      (subst (Appends old new) (sym first.1 ∙ ap (take first.0) all_bytes) part.1)

  module _ (was : wrote ≡ Ok tt) (ends : List TileEnd)
      (taken : ends ≡ filter_map (λ (tile : RunningState R). tile.last) now) (result : Result Report MergeFault) where
    none : AreUncancelled now
    none = on_ok (AreUncancelled now) wrote was so_far.uncancelled

    mixes : Interleaves (course_texts courses) so_far.out
    mixes = subst (λ (lists : List (List (List ℕ))). Interleaves lists so_far.out)
        (lines_given gives now courses have none) so_far.mixes

    written : Appends old new (stream line so_far.out)
    written = subst (λ (r : Result (Unit {0}) Fault). Wrote r old new (stream line so_far.out)) was so_far.written

    ends_are : ends ≡ course_ends courses
    ends_are = taken ∙ all_ended (λ (tile : RunningState R). tile.last) now (course_ends courses)
        (ends_given gives now courses have none)

    pub all_merged : IfOk result
        (λ report. (first_refusal 1 (outcomes_in ends) ≡ None) × (report.counts ≡ totals_in ends))
        → IfOk result (λ report. MergedAll (merging gives (IsChosen choice) base Interleaves readers) report.counts old new)
    all_merged says = merged_result gives (IsChosen choice) base Interleaves readers tiles shifts line joined courses
        given so_far.out mixes old new written ends ends_are result says

    pub tile_refused : IfErr result (λ e. first_refusal 1 (outcomes_in ends) ≡ Some e)
        → IfErr result (λ e. IsRefusedMerge (merging gives (IsChosen choice) base Interleaves readers) e old new)
    tile_refused says = refused_result gives (IsChosen choice) base Interleaves readers tiles shifts line joined courses
        given so_far.out mixes old new written ends ends_are result says

    pub failures_are : IfErr result (λ e. first_refusal 1 (outcomes_in ends) ≡ Some e)
        → newer ≡ failures_after_merge result failures
    failures_are says =
        so_far.failed ∙ ap (λ (r : Result (Unit {0}) Fault). after_call r failures) was
        ∙ no_failed_write ends result says failures

-- why nothing was written, and that what was written was passed on
pub before_writing : {A B C D : Type 0} → A ⊎ B → A ⊎ (B ⊎ (C ⊎ D))
before_writing (inl a) = inl a
before_writing (inr b) = inr (inl b)

pub all_passed_on : (Unstarted Early Output : MergeFault → Type 0) (P : Type 0) (result : Result Report MergeFault) → P
    → IfErr result (λ e. Unstarted e ⊎ Early e ⊎ Output e ⊎ P)
all_passed_on Unstarted Early Output P (Ok report) holds = tt
all_passed_on Unstarted Early Output P (Err e) holds = inr (inr (inr holds))

-- where the bytes are known, they are followed by those that were written
appended : (old new : Option (List ℕ)) (bytes before : List ℕ) → Appends old new bytes → old ≡ Some before
    → new ≡ Some (before ++ bytes)
appended None new bytes before wrote is = absurd (cc is)
appended (Some xs) None bytes before wrote is = absurd wrote
appended (Some xs) (Some ys) bytes before wrote is =
    let same : xs ≡ before = cc is in
    ap Some (wrote ∙ ap (λ front. front ++ bytes) same)

-- where the bytes are known, an interleaving was written
pub interleaved : {R : Type 0} (gives : Giving R) (IsWanted : FeatureValue → Type 0) (base : Base) (readers : List R)
    (old new : Option (List ℕ)) (result : Result Report MergeFault)
    → IfOk result (λ report. MergedAll (merging gives IsWanted base Interleaves readers) report.counts old new)
    → OnOk result (WroteInterleaved gives IsWanted base readers old new)
interleaved gives IsWanted base readers old new (Ok report) merged = λ before is.
    let wrote = merged.1 in (
      stream wrote.line wrote.out,
      (merged.0, wrote.line, wrote.out, wrote.merges, merged.2, wrote.mixes, refl),
      appended old new (stream wrote.line wrote.out) before wrote.written is,
    )
interleaved gives IsWanted base readers old new (Err e) merged = tt
