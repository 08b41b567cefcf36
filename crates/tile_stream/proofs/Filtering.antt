-- From the features that were written to the answer of the whole call.
use Rattle.std.proofs.Common.{◌≡◌, ◌≢◌, ◌↔◌, ◌<◌, ◌+◌, ℕ, Bool, Result, Ok, Err, IfOk, IfErr, List, Option, Some, None, length, take, flat_map, refl, sym, ap, subst, ◌∙◌, inl, inr, take_all, le_refl}
use Rattle.std.proofs.Math.Seq.{take-append-add}
use Rattle.std.specs.Io.KnownBytes.{Appends, Keeps}
use Rattle.std.proofs.KnownBytes.{Appends-trans, Keeps-refl, Keeps-trans}
use Rattle.city_json.specs.Compact.{compact}
use Rattle.byte_streams.specs.declared.fault.Fault.{Fault}
use Rattle.byte_streams.specs.declared.fault.Fault.TheVariants.{Read, Write}
use Rattle.byte_streams.specs.Failures.{one_more}
use Rattle.city_feature.specs.Feature.{FeatureValue}
use Rattle.city_feature.specs.Header.{HeaderValue}
use Rattle.tile_stream.specs.Coming.{MayComeTo, SomethingComes}
use Rattle.tile_stream.specs.Filtered.{CountsReads, FiltersTo, PassedOn, ToldAfter, WroteStream, StoppedAt, WrotePart, IsRefusedFilter, failures_after_write}
use Rattle.city_feature.specs.LineTexts.{no_steps}
use Rattle.tile_stream.specs.Head.{HasNoHead, SomeTile, GivesHeld}
use Rattle.tile_stream.specs.Progress.{WroteTexts, IsRefusedAfter}
use Rattle.tile_stream.specs.Stream.{stream, with_newline}
use Rattle.tile_stream.specs.Texts.{Outcome}
use Rattle.tile_stream.specs.Tile.{TileLines}
use Rattle.byte_streams.specs.declared.places.MergeFault.{MergeFault}
use Rattle.byte_streams.specs.declared.places.LineFault.{LineFault}
use Rattle.tile_stream.specs.TileState.{TileState}
use Rattle.tile_stream.specs.Unread.{Leaves, failed_reads_after}
use Rattle.tile_stream.proofs.HeldFirst.{tile_comes}
use Rattle.tile_stream.proofs.Steps.{first_of_longer, Appends-kept, same_count}

-- a flush after a refusal: what was taken stays as it was
module _ (MayBe : TileLines → Type 0) (IsWanted : FeatureValue → Type 0) (old mid new : Option (List ℕ))
    (kept : Keeps mid new) where
  stopped_still : (tile : TileLines) (at : LineFault) → StoppedAt tile IsWanted at old mid
      → StoppedAt tile IsWanted at old new
  stopped_still tile at (inl none) = inl (none.0, Keeps-trans old mid new none.1 kept)
  stopped_still tile at (inr some) = inr (some.0, some.1, some.2, Appends-kept old mid new _ some.3 kept)

  refused_still : (fault : Fault) (tile number : ℕ) → IsRefusedFilter MayBe IsWanted fault tile number old mid
      → IsRefusedFilter MayBe IsWanted fault tile number old new
  refused_still Write tile number refused =
      let part = refused.2.2 in (
        refused.0,
        refused.1,
        (
          refused.2.0,
          refused.2.1,
          (part.0, part.1, part.2, part.3, part.4, Appends-kept old mid new _ part.5 kept),
        ),
      )
  refused_still other tile number refused = (
    refused.0,
    (
      refused.1.0,
      refused.1.1,
      stopped_still refused.1.0 (record { line = number; fault = other })
          refused.1.2,
    ),
  )

-- what is told after a refusal, and what else is known then
module _ (refusal told : MergeFault) (IsFlushed : Type 0) (before after : ℕ) where
  pub passed_on : (MayBe : TileLines → Type 0) (old new : Option (List ℕ))
      → ToldAfter refusal IsFlushed told before after → PassedOn MayBe IsFlushed told old new
  passed_on MayBe old new (inl (same, inl write, count)) = inl (ap (λ (e : MergeFault). e.fault) same ∙ write)
  passed_on MayBe old new (inl (same, inr flushed, count)) = inr (inr flushed)
  passed_on MayBe old new (inr failed) = inl (ap (λ (e : MergeFault). e.fault) failed.0)

  pub failures_told : (count : ℕ) → before ≡ failures_after_write refusal.fault count
      → ToldAfter refusal IsFlushed told before after → after ≡ failures_after_write told.fault count
  failures_told count were (inl same) = same.2 ∙ were
      ∙ ap (λ (e : MergeFault). failures_after_write e.fault count) (sym same.0)
  failures_told count were (inr failed) =
      failed.2 ∙ ap one_more (were ∙ same_count refusal.fault count failed.1)
      ∙ ap (λ (e : MergeFault). failures_after_write e.fault count) (sym failed.0)

  pub reads_told : (count reads : ℕ) → reads ≡ failed_reads_after refusal.fault count
      → ToldAfter refusal IsFlushed told before after → CountsReads told.fault count reads
  reads_told count reads were (inl same) = inl
      (were ∙ ap (λ (e : MergeFault). failed_reads_after e.fault count) (sym same.0))
  reads_told count reads were (inr failed) =
      subst (λ (e : MergeFault). CountsReads e.fault count reads) (sym failed.0) (hidden refusal.fault reads were)
    where
      hidden : (fault : Fault) (reads : ℕ) → reads ≡ failed_reads_after fault count → CountsReads Write count reads
      hidden Read reads were = inr (refl, were)
      hidden other reads were = inl were

module _ (MayBe : TileLines → Type 0) (IsWanted : FeatureValue → Type 0) where
  -- no header: nothing was written
  pub of_no_head : (number : ℕ) (fault : Fault) → fault ≢ Write → (old : Option (List ℕ))
      → SomeTile MayBe (λ tile. HasNoHead tile (record { line = number; fault = fault }))
      → IsRefusedFilter MayBe IsWanted fault 1 number old old
  of_no_head number Write not old refused = absurd (not refl)
  of_no_head number other not old refused = (refl, (refused.0, refused.1, inl (refused.2, Keeps-refl old)))

  -- what is read of a tile whose head was given
  module _ {R : Type 0} (gives : R → List ℕ → Bool → Type 0) (now : TileState R) (header : HeaderValue)
      (later : now.held.line < now.lines.number)
      (given : GivesHeld MayBe (Leaves gives now.lines) header now.held) where
    abbrev Comes : List (List ℕ) → Outcome → Type 0
    Comes texts outcome = MayComeTo gives IsWanted no_steps now texts outcome

    filters : (texts : List (List ℕ)) (outcome : Outcome) → Comes texts outcome
        → SomeTile MayBe (λ tile. FiltersTo tile IsWanted header texts outcome)
    filters texts outcome comes =
        let head = given.2 comes.0 comes.1.0 in (
          head.0,
          head.1,
          (
            given.0,
            comes.0,
            head.2,
            tile_comes gives IsWanted no_steps now given.0 given.1 later texts outcome comes,
          ),
        )

    abbrev line : List ℕ
    line = with_newline (compact header.value)

    pub failed_header : SomethingComes (MayComeTo gives IsWanted no_steps now)
        → (old new : Option (List ℕ)) (text : List ℕ) → text ≡ compact header.value → (taken : ℕ)
        → Appends old new (take taken (with_newline text)) → IsRefusedFilter MayBe IsWanted Write 0 0 old new
    failed_header some old new text is taken appends =
        let texts = some.0 in
        let outcome = some.1.0 in
        let tile = filters texts outcome some.1.1 in
        let first = first_of_longer taken line (flat_map with_newline texts) in (
          refl,
          refl,
          (
            tile.0,
            tile.1,
            (
              header,
              texts,
              outcome,
              first.0,
              tile.2,
              subst (Appends old new) (ap (λ t. take taken (with_newline t)) is ∙ sym first.1) appends,
            ),
          ),
        )

    module _ (old mid : Option (List ℕ)) (text : List ℕ) (is_text : text ≡ compact header.value)
        (wrote_text : Appends old mid (with_newline text)) where
      wrote : Appends old mid line
      wrote = subst (λ t. Appends old mid (with_newline t)) is_text wrote_text

      of_features : (fault : Fault) (tile number : ℕ) (new : Option (List ℕ))
          → IsRefusedAfter (MayComeTo gives IsWanted no_steps now) fault tile number mid new
          → IsRefusedFilter MayBe IsWanted fault tile number old new
      of_features Write tile number new refused =
          let front = refused.2 in
          let texts = front.0 in
          let outcome = front.1 in
          let lines = filters texts outcome front.3 in
          let is = take-append-add line (flat_map with_newline texts) front.2 in (
            refused.0,
            refused.1,
            (
              lines.0,
              lines.1,
              (
                header,
                texts,
                outcome,
                length line + front.2,
                lines.2,
                subst (Appends old new) (sym is) (Appends-trans old mid new _ _ wrote front.4),
              ),
            ),
          )
      of_features other tile number new refused =
          let stopped = refused.1 in
          let lines = filters stopped.0 (Some (record { line = number; fault = other })) stopped.1 in (
            refused.0,
            (
              lines.0,
              lines.1,
              inr (
                header,
                stopped.0,
                lines.2,
                Appends-trans old mid new _ _ wrote stopped.2,
              ),
            ),
          )

      -- a fault of the tile, and what was written could not be passed on
      of_failed_flush : (fault : Fault) (tile number : ℕ) (new newer : Option (List ℕ)) → fault ≢ Write
          → IsRefusedAfter (MayComeTo gives IsWanted no_steps now) fault tile number mid new → Keeps new newer
          → IsRefusedFilter MayBe IsWanted Write 0 0 old newer
      of_failed_flush Write tile number new newer not refused stayed = absurd (not refl)
      of_failed_flush other tile number new newer not refused stayed =
          let stopped = refused.1 in
          let at : LineFault = record { line = number; fault = other } in
          let lines = filters stopped.0 (Some at) stopped.1 in
          let bytes = stream (compact header.value) stopped.0 in
          let all = take_all (length bytes) bytes (le_refl _) in
          let there = Appends-kept old new newer bytes (Appends-trans old mid new _ _ wrote stopped.2) stayed in (
            refl,
            refl,
            (
              lines.0,
              lines.1,
              (
                header,
                stopped.0,
                Some at,
                length bytes,
                lines.2,
                subst (Appends old newer) (sym all) there,
              ),
            ),
          )

      -- what is told once what was written was to be passed on
      pub of_told : (refusal told : MergeFault) (IsFlushed : Type 0) (before after : ℕ) (new newer : Option (List ℕ))
          → IsRefusedAfter (MayComeTo gives IsWanted no_steps now) refusal.fault refusal.tile refusal.line mid new
          → Keeps new newer → ToldAfter refusal IsFlushed told before after
          → IsRefusedFilter MayBe IsWanted told.fault told.tile told.line old newer
      of_told refusal told IsFlushed before after new newer refused stayed (inl same) =
          subst (λ (e : MergeFault). IsRefusedFilter MayBe IsWanted e.fault e.tile e.line old newer) (sym same.0)
          (refused_still MayBe IsWanted old new newer stayed refusal.fault refusal.tile refusal.line
          (of_features refusal.fault refusal.tile refusal.line new refused))
      of_told refusal told IsFlushed before after new newer refused stayed (inr failed) =
          subst (λ (e : MergeFault). IsRefusedFilter MayBe IsWanted e.fault e.tile e.line old newer) (sym failed.0)
          (of_failed_flush refusal.fault refusal.tile refusal.line new newer failed.1 refused stayed)

      module _ (count : ℕ) (new newer : Option (List ℕ))
          (features : WroteTexts (MayComeTo gives IsWanted no_steps now) count mid new) (stayed : Keeps new newer) where
        whole : Appends old newer (stream (compact header.value) features.0)
        whole = Appends-kept old new newer _ (Appends-trans old mid new _ _ wrote features.3) stayed

        pub whole_stream : SomeTile MayBe (λ tile. WroteStream tile IsWanted count old newer)
        whole_stream =
            let lines = filters features.0 None features.1 in
            (lines.0, lines.1, (header, features.0, lines.2, features.2, whole))

        pub failed_flush : IsRefusedFilter MayBe IsWanted Write 0 0 old newer
        failed_flush =
            let lines = filters features.0 None features.1 in
            let bytes = stream (compact header.value) features.0 in
            let all = take_all (length bytes) bytes (le_refl _) in (
              refl,
              refl,
              (
                lines.0,
                lines.1,
                (
                  header,
                  features.0,
                  None,
                  length bytes,
                  lines.2,
                  subst (Appends old newer) (sym all) whole,
                ),
              ),
            )

-- what holds of some tile that may be the one read holds of one that the reader may give
module _ (MayBe MayGive : TileLines → Type 0) (same : (tile : TileLines) → MayBe tile ↔ MayGive tile) where
  some_given : (P : TileLines → Type 0) → SomeTile MayBe P → SomeTile MayGive P
  some_given P some = (some.0, (same some.0).0 some.1, some.2)

  module _ (IsWanted : FeatureValue → Type 0) (old new : Option (List ℕ)) where
    refused_given : (fault : Fault) (tile number : ℕ) → IsRefusedFilter MayBe IsWanted fault tile number old new
        → IsRefusedFilter MayGive IsWanted fault tile number old new
    refused_given Write tile number is = (is.0, is.1, some_given (λ lines. WrotePart lines IsWanted old new) is.2)
    refused_given other tile number is = (
      is.0,
      some_given (λ lines. StoppedAt lines IsWanted (record { line = number; fault = other }) old new) is.1,
    )

    pub stream_given : (result : Result ℕ MergeFault)
        → IfOk result (λ count. SomeTile MayBe (λ tile. WroteStream tile IsWanted count old new))
        → IfOk result (λ count. SomeTile MayGive (λ tile. WroteStream tile IsWanted count old new))
    stream_given (Ok count) is = some_given (λ tile. WroteStream tile IsWanted count old new) is
    stream_given (Err e) is = tt

    pub refusal_given : (result : Result ℕ MergeFault)
        → IfErr result (λ e. IsRefusedFilter MayBe IsWanted e.fault e.tile e.line old new)
        → IfErr result (λ e. IsRefusedFilter MayGive IsWanted e.fault e.tile e.line old new)
    refusal_given (Ok count) is = tt
    refusal_given (Err e) is = refused_given e.fault e.tile e.line is

    pub passed_on_given : (result : Result ℕ MergeFault) (IsFlushed : Type 0)
        → IfErr result (λ e. PassedOn MayBe IsFlushed e old new)
        → IfErr result (λ e. PassedOn MayGive IsFlushed e old new)
    passed_on_given (Ok count) IsFlushed is = tt
    passed_on_given (Err e) IsFlushed (inl write) = inl write
    passed_on_given (Err e) IsFlushed (inr (inl none)) =
        inr (inl (
          (
            none.0.0,
            some_given (λ lines. HasNoHead lines (record { line = e.line; fault = e.fault }))
                none.0.1,
          ),
          none.1,
        ))
    passed_on_given (Err e) IsFlushed (inr (inr flushed)) = inr (inr flushed)
