-- The notes that the thread of a tile puts, one after another.
use Rattle.std.proofs.Common.{◌≡◌, ◌+◌, ◌++◌, ℕ, true, false, List, [], ◌∷◌, None, Some, is_some, map, refl, sym, ap, subst, ◌∙◌, arith, append_assoc, append-nil}
use Rattle.std.proofs.lemmas.Grind.{common_steps}
use Rattle.std.proofs.lemmas.List.{map-append}
use Rattle.tile_handoff.specs.declared.note.End.{End}
use Rattle.tile_handoff.specs.declared.note.Note.{Note}
use Rattle.tile_handoff.specs.declared.note.Note.TheVariants.{Line as LineNote, End as EndNote}
use Rattle.city_feature.specs.Choice.{IsChosen}
use Rattle.tile_stream.specs.Coming.{ComesBack, GivesText, LinesMayComeTo, SomethingComes}
use Rattle.tile_merge.specs.Giving.{Giving}
use Rattle.tile_merge.specs.EndNotes.{end_of, ended_so, notes_of}
use Rattle.tile_stream.specs.Texts.{Outcome}
use Rattle.tile_merge.specs.Threads.{Fed, FedSoFar, IsFed, MayFeed, UnlessStopped}

abbrev line_note : List ℕ → Note
line_note text = LineNote text

module _ (before : List (List ℕ) → Outcome → Type 0) (begun : ℕ) (old : List Note) where
  pub fed_start : FedSoFar before before begun begun old old
  fed_start = record {
    texts = [];
    back = λ others outcome comes. comes;
    counted = omega arith;
    put = sym (append-nil old);
  }

  module _ (now : List (List ℕ) → Outcome → Type 0) (count : ℕ) (new : List Note)
      (so_far : FedSoFar before now begun count old new) where
    -- one text more was put
    pub fed_text : (after : List (List ℕ) → Outcome → Type 0) (text : List ℕ) → GivesText now after text
        → (newer : List Note) → newer ≡ new ++ LineNote text ∷ [] → FedSoFar before after begun (count + 1) old newer
    fed_text after text gives newer put =
        let notes = map line_note so_far.texts in
        let more : map line_note (so_far.texts ++ text ∷ []) ≡ notes ++ LineNote text ∷ [] =
        map-append line_note so_far.texts (text ∷ []) in
        record {
          texts = so_far.texts ++ text ∷ [];
          back = λ others outcome comes. subst (λ texts. before texts outcome)
              (sym (append_assoc so_far.texts (text ∷ []) others))
              (so_far.back (text ∷ others) outcome (gives others outcome comes));
          counted = grind (arith, common_steps, so_far.counted);
          put = put ∙ ap (λ ns. ns ++ LineNote text ∷ []) so_far.put ∙ append_assoc old notes (LineNote text ∷ [])
              ∙ ap (λ ns. old ++ ns) (sym more);
        }

    -- a line came to nothing
    pub fed_nothing : (after : List (List ℕ) → Outcome → Type 0) → ComesBack now after
        → FedSoFar before after begun count old new
    fed_nothing after comes_back = record {
      texts = so_far.texts;
      back = λ others outcome comes. so_far.back others outcome (comes_back others outcome comes);
      counted = so_far.counted;
      put = so_far.put;
    }

module _ {R : Type 0} (gives : Giving R) (fed : Fed R) (Unasked : Type 0) (old : List Note) where
  -- the tile had stopped at its first line
  pub fed_stopped : is_some fed.begun.stop ≡ true → (newer : List Note) → newer ≡ old ++ EndNote (end_of fed.begun) ∷ []
      → IsFed gives fed Unasked old newer
  fed_stopped is newer put = record {
    texts = [];
    others = [];
    outcome = fed.begun.stop;
    end = end_of fed.begun;
    comes = stopped fed.begun.stop is;
    put = put;
    whole = λ unasked. (refl, ap (λ n. end_of (ended_so n fed.begun.stop)) (omega arith));
  }
    where
      stopped : (stop : Outcome) → is_some stop ≡ true
          → UnlessStopped stop (LinesMayComeTo gives (IsChosen fed.choice) fed.shift fed.unread) [] stop
      stopped None is = absurd (cc is)
      stopped (Some at) is = (refl, refl)

  module _ (goes : is_some fed.begun.stop ≡ false) (now : List (List ℕ) → Outcome → Type 0) (count : ℕ)
      (new : List Note) (so_far : FedSoFar (LinesMayComeTo gives (IsChosen fed.choice) fed.shift fed.unread) now
      fed.begun.count count old new) (end : End) (newer : List Note) (put : newer ≡ new ++ EndNote end ∷ []) where
    put_all : newer ≡ old ++ notes_of so_far.texts end
    put_all = put ∙ ap (λ ns. ns ++ EndNote end ∷ []) so_far.put
        ∙ append_assoc old (map line_note so_far.texts) (EndNote end ∷ [])

    not_stopped : (texts : List (List ℕ)) (outcome : Outcome)
        → LinesMayComeTo gives (IsChosen fed.choice) fed.shift fed.unread texts outcome → MayFeed gives fed texts outcome
    not_stopped texts outcome comes = unless fed.begun.stop goes
      where
        unless : (stop : Outcome) → is_some stop ≡ false
            → UnlessStopped stop (LinesMayComeTo gives (IsChosen fed.choice) fed.shift fed.unread) texts outcome
        unless None is = comes
        unless (Some at) is = absurd (cc is)

    -- the tile has ended so, and its end note was put
    pub fed_whole : (outcome : Outcome) → now [] outcome → end ≡ end_of (ended_so count outcome)
        → IsFed gives fed Unasked old newer
    fed_whole outcome over is = record {
      texts = so_far.texts;
      others = [];
      outcome = outcome;
      end = end;
      comes = not_stopped (so_far.texts ++ []) outcome (so_far.back [] outcome over);
      put = put_all;
      whole = λ unasked. (refl, is ∙ ap (λ n. end_of (ended_so n outcome)) so_far.counted);
    }

    -- it was asked to stop, whatever else may be to come
    pub fed_front : SomethingComes now → (Unasked → ◌≡◌ {A = ℕ} 1 0) → IsFed gives fed Unasked old newer
    fed_front some asked = record {
      texts = so_far.texts;
      others = some.0;
      outcome = some.1.0;
      end = end;
      comes = not_stopped (so_far.texts ++ some.0) some.1.0 (so_far.back some.0 some.1.0 some.1.1);
      put = put_all;
      whole = λ unasked. absurd (omega (arith, asked unasked));
    }
