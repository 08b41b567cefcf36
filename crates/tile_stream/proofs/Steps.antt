-- One text more is taken and its line written.
use Rattle.std.proofs.Common.{◌≡◌, ◌≢◌, ◌+◌, ◌++◌, ℕ, List, [], ◌∷◌, Option, Some, None, length, take, flat_map, refl, sym, ap, subst, ◌∙◌, arith, append_assoc, append-nil, ⊎_elim, true, false, nat_le, take_all, le_refl, option_to_list}
use Rattle.std.proofs.lemmas.Bool.{cases_Bool}
use Rattle.std.proofs.lemmas.Bool.Decides.{nat_tests}
use Rattle.std.proofs.Math.Seq.{take-append-add, take-append_seam}
use Rattle.std.proofs.lemmas.List.{take-append-le}
use Rattle.std.specs.Io.KnownBytes.{Appends, Keeps}
use Rattle.std.proofs.KnownBytes.{Appends-nil, Appends-trans}
use Rattle.std.proofs.lemmas.Grind.{common_steps, flat_map-append}
use Rattle.city_json.specs.Bytes.{newline}
use Rattle.byte_streams.specs.declared.fault.Fault.{Fault}
use Rattle.byte_streams.specs.declared.fault.Fault.TheVariants.{Write}
use Rattle.byte_streams.specs.declared.places.LineFault.{LineFault}
use Rattle.tile_stream.specs.Coming.{GivesText, SomethingComes, ComesBack}
use Rattle.tile_stream.specs.Filtered.{failures_after_write}
use Rattle.tile_stream.specs.Progress.{SoFar, WroteTexts, StoppedAfter, WroteFront, IsRefusedAfter, HasWritten, HasBegun}
use Rattle.tile_stream.specs.Stream.{with_newline}
use Rattle.tile_stream.specs.Texts.{Outcome}
use Rattle.tile_stream.specs.Unread.{IsLineFault}

-- the first bytes of a list are the first bytes of a longer one
pub first_of_longer : (count : ℕ) (front back : List ℕ) → (n : ℕ) × (take n (front ++ back) ≡ take count front)
first_of_longer count front back = ⊎_elim
    (λ (within : nat_le count (length front) ≡ true).
    (count, take-append-le count front back (grind (arith, nat_tests, within))))
    (λ (past : nat_le count (length front) ≡ false).
    (length front, take-append_seam front back ∙ sym (take_all count front (grind (arith, nat_tests, past)))))
    (cases_Bool (nat_le count (length front)))

-- known bytes that grew and then stayed
pub Appends-kept : (old mid new : Option (List ℕ)) (bytes : List ℕ) → Appends old mid bytes → Keeps mid new
    → Appends old new bytes
Appends-kept None mid new bytes grew stayed = tt
Appends-kept (Some x) None new bytes grew stayed = absurd grew
Appends-kept (Some x) (Some y) None bytes grew stayed = absurd stayed
Appends-kept (Some x) (Some y) (Some z) bytes grew stayed = stayed ∙ grew

module _ (before : List (List ℕ) → Outcome → Type 0) (old : Option (List ℕ)) where
  pub at_start : SoFar before before 0 old old
  at_start = record {
    texts = [];
    back = λ others outcome comes. comes;
    counted = refl;
    written = Appends-nil old;
  }

  module _ (now : List (List ℕ) → Outcome → Type 0) (count : ℕ) (new : Option (List ℕ))
      (so_far : SoFar before now count old new) where
    comes_last : (outcome : Outcome) → now [] outcome → before so_far.texts outcome
    comes_last outcome comes = subst (λ texts. before texts outcome) (append-nil so_far.texts)
        (so_far.back [] outcome comes)

    pub at_end : now [] None → WroteTexts before count old new
    at_end over = (so_far.texts, comes_last None over, so_far.counted, so_far.written)

    pub at_fault : (at : LineFault) → now [] (Some at) → StoppedAfter before at old new
    at_fault at refused = (so_far.texts, comes_last (Some at) refused, so_far.written)

    -- a line that came to nothing was taken
    pub at_skipped : (after : List (List ℕ) → Outcome → Type 0) → ComesBack now after → (newer : Option (List ℕ))
        → Keeps new newer → SoFar before after count old newer
    at_skipped after skipped newer kept = record {
      texts = so_far.texts;
      back = λ others outcome comes. so_far.back others outcome (skipped others outcome comes);
      counted = so_far.counted;
      written = Appends-kept old new newer _ so_far.written kept;
    }

    -- what was written could not be passed on
    pub at_failed_flush : SomethingComes now → (newer : Option (List ℕ)) → Keeps new newer → WroteFront before old newer
    at_failed_flush some newer kept =
        let more = some.0 in
        let written = flat_map with_newline so_far.texts in
        let all : take (length written) (flat_map with_newline (so_far.texts ++ more)) ≡ written =
        ap (take (length written)) (flat_map-append with_newline so_far.texts more)
        ∙ take-append_seam written (flat_map with_newline more) in (
          so_far.texts ++ more,
          some.1.0,
          length written,
          so_far.back more some.1.0 some.1.1,
          subst (Appends old newer) (sym all) (Appends-kept old new newer _ so_far.written kept),
        )

    module _ (after : List (List ℕ) → Outcome → Type 0) (text : List ℕ) (gives : GivesText now after text) where
      pub at_text : (newer : Option (List ℕ)) → Appends new newer (with_newline text)
          → SoFar before after (count + 1) old newer
      at_text newer appends =
          let written = flat_map with_newline so_far.texts in
          let all : flat_map with_newline (so_far.texts ++ text ∷ []) ≡ written ++ with_newline text =
          flat_map-append with_newline so_far.texts (text ∷ [])
          ∙ ap (λ l. written ++ l) (append-nil (with_newline text)) in
          record {
            texts = so_far.texts ++ text ∷ [];
            back = λ others outcome comes. subst (λ texts. before texts outcome)
                (sym (append_assoc so_far.texts (text ∷ []) others))
                (so_far.back (text ∷ others) outcome (gives others outcome comes));
            counted = grind (arith, common_steps, so_far.counted);
            written = subst (Appends old newer) (sym all) (Appends-trans old new newer _ _ so_far.written appends);
          }

      pub at_failed_write : SomethingComes after → (newer : Option (List ℕ)) (taken : ℕ)
          → Appends new newer (take taken (with_newline text)) → WroteFront before old newer
      at_failed_write some newer taken appends =
          let more = some.0 in
          let outcome = some.1.0 in
          let written = flat_map with_newline so_far.texts in
          let first = first_of_longer taken (with_newline text) (flat_map with_newline more) in
          let stretch : take (length written + first.0) (flat_map with_newline (so_far.texts ++ text ∷ more)) ≡ written
          ++ take taken (with_newline text) =
          ap (take (length written + first.0)) (flat_map-append with_newline so_far.texts (text ∷ more))
          ∙ take-append-add written (flat_map with_newline (text ∷ more)) first.0
          ∙ ap (λ l. written ++ l) first.1 in (
            so_far.texts ++ text ∷ more,
            outcome,
            length written + first.0,
            so_far.back (text ∷ more) outcome (gives more outcome some.1.1),
            subst (Appends old newer) (sym stretch) (Appends-trans old new newer _ _ so_far.written appends),
          )

-- a text and its newline are written, one after the other
module _ (old mid new : Option (List ℕ)) (text : List ℕ) where
  pub text_failed : (count : ℕ) → Appends old mid (take count text) → (n : ℕ)
      × Appends old mid (take n (with_newline text))
  text_failed count wrote =
      let first = first_of_longer count text (newline ∷ []) in
      (first.0, subst (Appends old mid) (sym first.1) wrote)

  pub newline_failed : Appends old mid text → (count : ℕ) → Appends mid new (take count (newline ∷ [])) → (n : ℕ)
      × Appends old new (take n (with_newline text))
  newline_failed wrote count more = (
    length text + count,
    subst (Appends old new) (sym (take-append-add text (newline ∷ []) count))
        (Appends-trans old mid new _ _ wrote more),
  )

-- a line was written, and could not be passed on
pub whole_written : (old mid new : Option (List ℕ)) (text : List ℕ) → Appends old mid (with_newline text)
    → Keeps mid new → (n : ℕ) × Appends old new (take n (with_newline text))
whole_written old mid new text wrote kept =
    let line = with_newline text in (
      length line,
      subst (Appends old new) (sym (take_all (length line) line (le_refl _)))
          (Appends-kept old mid new line wrote kept),
    )

-- a fault that is no failed write belongs to a line
module _ (comes : List (List ℕ) → Outcome → Type 0) (number : ℕ) (old new : Option (List ℕ)) where
  pub of_line : (fault : Fault) → fault ≢ Write → StoppedAfter comes (record { line = number; fault = fault }) old new
      → IsRefusedAfter comes fault 1 number old new
  of_line Write not stopped = absurd (not refl)
  of_line other not stopped = (refl, stopped)

pub same_count : (fault : Fault) (count : ℕ) → fault ≢ Write → failures_after_write fault count ≡ count
same_count Write count not = absurd (not refl)
same_count other count not = refl

-- what one line came to
module _ (before after : List (List ℕ) → Outcome → Type 0) where
  abbrev pub IsTaken : Option (List ℕ) → Type 0
  IsTaken given = (texts : List (List ℕ)) (outcome : Outcome) → after texts outcome
      → before (option_to_list given ++ texts) outcome

  module _ (old new : Option (List ℕ)) where
    pub line_step : (given : Option (List ℕ)) (count : ℕ) → IsTaken given → HasWritten given count old new
        → SoFar before after count old new
    line_step (Some text) count back (one, wrote) = subst (λ n. SoFar before after n old new) (sym one)
        (at_text before old before 0 old (at_start before old) after text back new wrote)
    line_step None count back (none, same) = record {
      texts = [];
      back = back;
      counted = none;
      written = subst (λ bytes. Appends old bytes []) (sym same) (Appends-nil old);
    }

    pub line_begun : (given : Option (List ℕ)) → IsTaken given → SomethingComes after → HasBegun given old new
        → IsRefusedAfter before Write 0 0 old new
    line_begun (Some text) back some (count, wrote) = (
      refl,
      refl,
      at_failed_write before old before 0 old (at_start before old) after text back some new count wrote,
    )
    line_begun None back some none = absurd none

-- a line is at fault, and nothing was written
pub line_refused : (before : List (List ℕ) → Outcome → Type 0) (number : ℕ) (bytes : Option (List ℕ)) (fault : Fault)
    → fault ≢ Write → before [] (Some (record { line = number; fault = fault }))
    → IsRefusedAfter before fault 1 number bytes bytes
line_refused before number bytes fault not refused =
    of_line before number bytes bytes fault not
    (at_fault before bytes before 0 bytes (at_start before bytes) (record { line = number; fault = fault }) refused)

-- some texts came, and then what comes after them
module _ (before mid : List (List ℕ) → Outcome → Type 0) (old between : Option (List ℕ)) (count : ℕ)
    (so_far : SoFar before mid count old between) where
  pub so_far_more : (after : List (List ℕ) → Outcome → Type 0) (more : ℕ) (new : Option (List ℕ))
      → SoFar mid after more between new → SoFar before after (count + more) old new
  so_far_more after more new step = record {
    texts = so_far.texts ++ step.texts;
    back = λ others outcome comes. subst (λ texts. before texts outcome)
        (sym (append_assoc so_far.texts step.texts others))
        (so_far.back (step.texts ++ others) outcome (step.back others outcome comes));
    counted = grind (arith, common_steps, so_far.counted, step.counted);
    written = subst (Appends old new) (sym (flat_map-append with_newline so_far.texts step.texts))
        (Appends-trans old between new _ _ so_far.written step.written);
  }

  pub refused_more : (fault : Fault) (tile line : ℕ) (new : Option (List ℕ))
      → IsRefusedAfter mid fault tile line between new → IsRefusedAfter before fault tile line old new
  refused_more Write tile line new (no_tile, no_line, (texts, outcome, taken, comes, wrote)) =
      let written = flat_map with_newline so_far.texts in
      let stretch : take (length written + taken) (flat_map with_newline (so_far.texts ++ texts)) ≡ written
      ++ take taken (flat_map with_newline texts) =
      ap (take (length written + taken)) (flat_map-append with_newline so_far.texts texts)
      ∙ take-append-add written (flat_map with_newline texts) taken in (
        no_tile,
        no_line,
        (
          so_far.texts ++ texts,
          outcome,
          length written + taken,
          so_far.back texts outcome comes,
          subst (Appends old new) (sym stretch) (Appends-trans old between new _ _ so_far.written wrote),
        ),
      )
  refused_more other tile line new stopped =
      let texts = stopped.1.0 in (
        stopped.0,
        (
          so_far.texts ++ texts,
          so_far.back texts (Some (record { line = line; fault = other })) stopped.1.1,
          subst (Appends old new) (sym (flat_map-append with_newline so_far.texts texts))
              (Appends-trans old between new _ _ so_far.written stopped.1.2),
        ),
      )

-- a line that cannot be read is none that cannot be written
pub no_read_fault_write : (fault : Fault) → IsLineFault fault → fault ≢ Write
no_read_fault_write fault kind is = never (subst IsLineFault is kind)
  where
    never : IsLineFault Write → ⊥
    never kind = absurd kind
