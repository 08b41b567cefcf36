-- From the turns that were written to the stream of a merge in turn.
use Rattle.std.proofs.Common.{◌+◌, ◌++◌, ℕ, List, [], Option, Result, Ok, Err, IfOk, length, take, sym, subst, take_all, le_refl}
use Rattle.std.proofs.Math.Seq.{take-append-add}
use Rattle.std.specs.Io.KnownBytes.{Appends, Keeps}
use Rattle.std.proofs.KnownBytes.{Appends-trans}
use Rattle.city_feature.specs.Feature.{FeatureValue}
use Rattle.city_feature.specs.declared.base.Base.{Base}
use Rattle.tile_merge.specs.Feeds.{FeedState}
use Rattle.tile_merge.specs.Giving.{Giving, merging}
use Rattle.tile_merge.specs.Interleaves.{Interleaves}
use Rattle.tile_merge.specs.Merged.{MergedAll, merged_texts}
use Rattle.tile_merge.specs.Rounds.{MayTakeAll, SomeCourses, WroteTurns, WroteTurnsFront, course_texts, lines_of}
use Rattle.tile_merge.specs.Turns.{turns, AreTurns}
use Rattle.byte_streams.specs.declared.places.MergeFault.{MergeFault}
use Rattle.tile_merge.specs.declared.merging.report.Report.{Report}
use Rattle.tile_stream.proofs.Steps.{Appends-kept, first_of_longer}
use Rattle.tile_merge.proofs.TurnsInterleave.{interleaves}

-- the line of the header, and then the turns
module _ {R : Type 0} (gives : Giving R) (IsWanted : FeatureValue → Type 0) (header : List ℕ)
    (feeds : List (FeedState R)) (old : Option (List ℕ)) where
  pub no_header : SomeCourses (MayTakeAll gives IsWanted feeds) → (new : Option (List ℕ)) (count : ℕ)
      → Appends old new (take count header) → WroteTurnsFront gives IsWanted header feeds old new
  no_header some new count wrote =
      let first = first_of_longer count header (lines_of (turns (course_texts some.0))) in
      (some.0, first.0, some.1, subst (Appends old new) (sym first.1) wrote)

  module _ (mid new : Option (List ℕ)) (wrote : Appends old mid header) where
    pub no_turns : WroteTurnsFront gives IsWanted [] feeds mid new → WroteTurnsFront gives IsWanted header feeds old new
    no_turns front =
        let is = take-append-add header (lines_of (turns (course_texts front.0))) front.1 in (
          front.0,
          length header + front.1,
          front.2,
          subst (Appends old new) (sym is)
              (Appends-trans old mid new _ _ wrote front.3),
        )

    module _ (after : List (FeedState R)) (newer : Option (List ℕ))
        (turned : WroteTurns gives IsWanted [] feeds after mid new) (stayed : Keeps new newer) where
      all_bytes : Appends old newer (header ++ lines_of (turns (course_texts turned.0)))
      all_bytes = Appends-kept old new newer _ (Appends-trans old mid new _ _ wrote turned.3) stayed

      pub all_turns : WroteTurns gives IsWanted header feeds after old newer
      all_turns = (turned.0, turned.1, turned.2, all_bytes)

      -- they were not passed on
      pub no_flush : WroteTurnsFront gives IsWanted header feeds old newer
      no_flush =
          let bytes = header ++ lines_of (turns (course_texts turned.0)) in (
            turned.0,
            length bytes,
            turned.1,
            subst (Appends old newer) (sym (take_all (length bytes) bytes (le_refl _))) all_bytes,
          )

-- a merge in turn is a merge that interleaves
pub interleaved_result : {R : Type 0} (gives : Giving R) (IsWanted : FeatureValue → Type 0)
    (base : Base) (readers : List R) (old new : Option (List ℕ)) (result : Result Report MergeFault)
    → IfOk result (λ report. MergedAll (merging gives IsWanted base AreTurns readers) report.counts old new)
    → IfOk result (λ report. MergedAll (merging gives IsWanted base Interleaves readers) report.counts old new)
interleaved_result gives IsWanted base readers old new (Ok report) all =
    let wrote = all.1 in
    let lists = merged_texts all.0 in
    let mixes : Interleaves lists wrote.out = subst (Interleaves lists) (sym wrote.mixes) (interleaves lists) in (
      all.0,
      record {
        line = wrote.line;
        out = wrote.out;
        merges = wrote.merges;
        mixes = mixes;
        written =
            wrote.written;
      },
      all.2,
      all.3,
    )
interleaved_result gives IsWanted base readers old new (Err e) all = tt
