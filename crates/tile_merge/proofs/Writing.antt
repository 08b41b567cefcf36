-- The lines of tiles whose threads run, written as they are taken.
use Rattle.std.proofs.Common.{◌≡◌, ◌≤◌, ◌<◌, ◌+◌, ◌++◌, ℕ, List, [], ◌∷◌, Option, Result, Ok, Err, IfErr, IsOk, OnOk, is_ok, false, zero, suc, length, take, drop, flat_map, get_or, set, refl, sym, ap, subst, ◌∙◌, arith, append_assoc, append-nil, take_all, le_refl}
use Rattle.std.proofs.Math.Seq.{take-append-add, map-set_same}
use Rattle.std.specs.Io.KnownBytes.{Appends, Keeps}
use Rattle.std.proofs.KnownBytes.{Appends-trans}
use Rattle.std.proofs.lemmas.List.{get_or-map, get_or-set_same, length-map, length-set, map-set, set-get_or, set-set, take_more, take-append-drop}
use Rattle.std.proofs.lemmas.Grind.{flat_map-append}
use Rattle.byte_streams.specs.Failures.{Wrote, after_call}
use Rattle.byte_streams.specs.declared.fault.Fault.{Fault}
use Rattle.byte_streams.specs.declared.fault.Fault.TheVariants.{Write}
use Rattle.tile_merge.specs.Interleaves.{Interleaves}
use Rattle.tile_merge.specs.Threads.{Begun, RunningState, AreFresh, AreUncancelled, LinesSoFar, TextsGoOn, TextsSoFar, begun_of, first_texts, lines_taken}
use Rattle.tile_stream.specs.Stream.{stream, with_newline}
use Rattle.tile_stream.proofs.Steps.{Appends-kept, first_of_longer}
use Rattle.tile_merge.proofs.Mixing.{flat, flat_mixed, one_mixed}

abbrev Done : Type 0
Done = Result (Unit {0}) Fault

-- what holds where a call succeeds holds where a later one does that succeeds only after it
both_ok : (A B : Type 0) → (A → B) → (wrote result : Done) → OnOk result (IsOk wrote) → OnOk wrote A → OnOk result B
both_ok A B onward (Ok done) (Ok other) after holds = onward holds
both_ok A B onward (Err fault) (Ok other) after holds = absurd (cc after)
both_ok A B onward wrote (Err fault) after holds = tt

-- ---- one line ----

module _ (bytes line : List ℕ) (old : Option (List ℕ)) where
  -- a write failed before
  pub still_failed : (fault other : Fault) (new : Option (List ℕ)) (wrote result : Result (Unit {0}) Fault)
      → wrote ≡ Err fault → result ≡ Err other → Wrote wrote old new bytes
      → Wrote result old new (bytes ++ line)
  still_failed fault other new wrote result was is front =
      let part = subst (λ (r : Done). Wrote r old new bytes) was front in
      let first = first_of_longer part.0 bytes line in
      subst (λ (r : Done). Wrote r old new (bytes ++ line)) (sym is)
      (first.0, subst (Appends old new) (sym first.1) part.1)

  -- it fails now
  pub fails_now : (fault : Fault) (mid new : Option (List ℕ)) (wrote result : Result (Unit {0}) Fault) → wrote ≡ Ok tt
      → result ≡ Err fault → Wrote wrote old mid bytes → (count : ℕ) × Appends mid new (take count line)
      → Wrote result old new (bytes ++ line)
  fails_now fault mid new wrote result was is front part =
      let whole = subst (λ (r : Done). Wrote r old mid bytes) was front in
      subst (λ (r : Done). Wrote r old new (bytes ++ line)) (sym is) (
        length bytes + part.0,
        subst (Appends old new) (sym (take-append-add bytes line part.0))
            (Appends-trans old mid new _ _ whole part.1),
      )

-- a flush that follows what was written
pub flushed : (result : Result (Unit {0}) Fault) (bytes : List ℕ) (old mid new : Option (List ℕ))
    → Appends old mid bytes → Keeps mid new → Wrote result old new bytes
flushed (Ok done) bytes old mid new wrote keeps = Appends-kept old mid new bytes wrote keeps
flushed (Err fault) bytes old mid new wrote keeps = (
  length bytes,
  subst (Appends old new) (sym (take_all (length bytes) bytes (le_refl _)))
      (Appends-kept old mid new bytes wrote keeps),
)

-- a line more of the list of number i
pub one_text : (lists : List (List (List ℕ))) (i : ℕ) → i < length lists → (before now : List (List ℕ)) (line : List ℕ)
    → now ≡ before ++ line ∷ [] → (header : List ℕ) (old : Option (List ℕ)) (count : ℕ) (wrote result : Result (Unit {0}) Fault)
    (mid newest : Option (List ℕ)) (newer after : ℕ)
    → ((bytes : List ℕ) → Wrote wrote old mid bytes → Wrote result old newest (bytes ++ with_newline line))
    → (newer ≡ after_call wrote count → after ≡ after_call result count)
    → (IfErr wrote (λ fault. fault ≡ Write) → IfErr result (λ fault. fault ≡ Write))
    → TextsSoFar header (set lists i before) wrote old mid count newer
    → TextsSoFar header (set lists i now) result old newest count after
one_text lists i within before now line longer header old count wrote result mid newest newer after writes fails faults so_far =
    let lines : List (List (List ℕ)) = set lists i before in
    let grown : set lines i (get_or lines i [] ++ line ∷ []) ≡ set lists i now =
    set-set lists i before (get_or lines i [] ++ line ∷ [])
    ∙ ap (λ (ls : List (List ℕ)). set lists i ls)
    (ap (λ (ls : List (List ℕ)). ls ++ line ∷ []) (get_or-set_same lists i before [] within) ∙ sym longer) in
    let bytes : stream header so_far.out ++ with_newline line ≡ stream header (so_far.out ++ line ∷ []) =
    append_assoc (with_newline header) (flat_map with_newline so_far.out) (with_newline line)
    ∙ ap (λ (l : List ℕ). with_newline header ++ l)
    (ap (λ (l : List ℕ). flat_map with_newline so_far.out ++ l) (sym (append-nil (with_newline line)))
    ∙ sym (flat_map-append with_newline so_far.out (line ∷ []))) in
    record {
      out = so_far.out ++ line ∷ [];
      mixes = subst (λ (ls : List (List (List ℕ))). Interleaves ls (so_far.out ++ line ∷ [])) grown
          (one_mixed lines so_far.out i line (omega (arith, within, length-set lists i before)) so_far.mixes);
      written = subst (λ (l : List ℕ). Wrote result old newest l) bytes (writes _ so_far.written);
      failed = fails so_far.failed;
      fault = faults so_far.fault;
    }

pub on_ok : (A : Type 0) (wrote : Done) → wrote ≡ Ok tt → OnOk wrote A → A
on_ok A wrote is holds = subst (λ (r : Done). OnOk r A) is holds

none_ok : (A : Type 0) (wrote : Done) → is_ok wrote ≡ false → OnOk wrote A
none_ok A (Ok done) failing = absurd (cc failing)
none_ok A (Err fault) failing = tt

uncancelled_set : {R : Type 0} (tiles : List (RunningState R)) (i : ℕ) (default new : RunningState R)
    → new.cancels ≡ (get_or tiles i default).cancels → AreUncancelled tiles → AreUncancelled (set tiles i new)
uncancelled_set [] i default new kept none = tt
uncancelled_set (tile ∷ tiles) zero default new kept none = (kept ∙ none.0, none.1)
uncancelled_set (tile ∷ tiles) (suc i) default new kept none = (none.0, uncancelled_set tiles i default new kept none.1)

-- ---- one tile ----

-- an item that is exchanged for itself
pub set_itself : {X : Type 0} (xs all : List X) (i : ℕ) (d new : X) → xs ≡ all → new ≡ get_or xs i d → set xs i new ≡ all
set_itself xs all i d new same is = ap (set xs i) is ∙ (set-get_or xs i d ∙ same)

module _ {R : Type 0} where
  abbrev begun_in : RunningState R → Begun R
  begun_in tile = tile.begun

  abbrev lines_of_tile : RunningState R → List (List ℕ)
  lines_of_tile tile = tile.lines

  -- the texts of the first lines, one tile after another
  first_flat : (tiles : List (RunningState R)) → AreFresh tiles → flat (lines_taken tiles) ≡ first_texts tiles
  first_flat [] fresh = refl
  first_flat (tile ∷ tiles) fresh = ap (λ ls. ls ++ flat (lines_taken tiles)) fresh.0.0
      ∙ ap (λ ls. tile.begun.first ++ ls) (first_flat tiles fresh.1)

  -- nothing was taken yet but the texts of the first lines
  pub first_lines : (tiles : List (RunningState R)) (header : List ℕ) (wrote : Result (Unit {0}) Fault)
      (old new : Option (List ℕ)) (failures newer : ℕ) → AreFresh tiles
      → Wrote wrote old new (stream header (first_texts tiles)) → newer ≡ after_call wrote failures
      → IfErr wrote (λ fault. fault ≡ Write)
      → LinesSoFar (begun_of tiles) header tiles wrote old new failures newer
  first_lines tiles header wrote old new failures newer fresh written failed fault = record {
    same = refl;
    out = first_texts tiles;
    mixes = subst (Interleaves (lines_taken tiles)) (first_flat tiles fresh) (flat_mixed (lines_taken tiles));
    written = written;
    failed = failed;
    fault = fault;
    uncancelled = where_ok wrote (unasked tiles fresh);
  }
    where
      where_ok : (result : Done) → AreUncancelled tiles → OnOk result (AreUncancelled tiles)
      where_ok (Ok done) none = none
      where_ok (Err fault) none = tt

      unasked : (all : List (RunningState R)) → AreFresh all → AreUncancelled all
      unasked [] nothing = tt
      unasked (tile ∷ all) nothing = (nothing.0.1, unasked all nothing.1)

  -- ---- the header and the texts of the first lines ----

  module _ (header : List ℕ) (tiles : List (RunningState R)) (old : Option (List ℕ)) where
    abbrev of_first : RunningState R → List (List ℕ)
    of_first tile = tile.begun.first

    abbrev up_to : ℕ → List ℕ
    up_to i = stream header (first_texts (take i tiles))

    rest_follows : (i : ℕ) → up_to i ++ flat_map with_newline (first_texts (drop i tiles))
        ≡ stream header (first_texts tiles)
    rest_follows i =
        let front = first_texts (take i tiles) in
        let rest = first_texts (drop i tiles) in
        append_assoc (with_newline header) (flat_map with_newline front) (flat_map with_newline rest)
        ∙ ap (λ (bytes : List ℕ). with_newline header ++ bytes) (sym (flat_map-append with_newline front rest)
        ∙ ap (flat_map with_newline) (sym (flat_map-append of_first (take i tiles) (drop i tiles))
        ∙ ap (flat_map of_first) (take-append-drop i tiles)))

    pub header_failed : (new : Option (List ℕ)) → (count : ℕ) × Appends old new (take count (with_newline header))
        → (result : Done) (fault : Fault) → result ≡ Err fault
        → Wrote result old new (stream header (first_texts tiles))
    header_failed new part result fault is =
        let first = first_of_longer part.0 (with_newline header) (flat_map with_newline (first_texts tiles)) in
        subst (λ (r : Done). Wrote r old new (stream header (first_texts tiles))) (sym is)
        (first.0, subst (Appends old new) (sym first.1) part.1)

    module _ (i : ℕ) (within : i < length tiles) (tile : RunningState R) (is_tile : tile ≡ get_or tiles i tile)
        (mid new : Option (List ℕ)) (wrote : Appends old mid (up_to i)) where
      abbrev line : List ℕ
      line = flat_map with_newline tile.begun.first

      one_more : up_to i ++ line ≡ up_to (i + 1)
      one_more =
          let front = first_texts (take i tiles) in
          let more : first_texts (take (i + 1) tiles) ≡ front ++ tile.begun.first =
          ap (flat_map of_first) (take_more tiles i tile within)
          ∙ flat_map-append of_first (take i tiles) (get_or tiles i tile ∷ [])
          ∙ ap (λ (texts : List (List ℕ)). front ++ texts) (append-nil (of_first (get_or tiles i tile))
          ∙ ap of_first (sym is_tile)) in
          append_assoc (with_newline header) (flat_map with_newline front) line
          ∙ ap (λ (bytes : List ℕ). with_newline header ++ bytes) (sym (flat_map-append with_newline front tile.begun.first)
          ∙ ap (flat_map with_newline) (sym more))

      pub first_written : Appends mid new line → Appends old new (up_to (i + 1))
      first_written appends = subst (Appends old new) one_more (Appends-trans old mid new _ _ wrote appends)

      pub first_failed : (count : ℕ) × Appends mid new (take count line) → (result : Done) (fault : Fault)
          → result ≡ Err fault → Wrote result old new (stream header (first_texts tiles))
      first_failed part result fault is =
          let rest = flat_map with_newline (first_texts (drop (i + 1) tiles)) in
          let here = fails_now (up_to i) line old fault mid new (Ok tt) result refl is wrote part in
          let whole = ap (λ (bytes : List ℕ). bytes ++ rest) one_more ∙ rest_follows (i + 1) in
          subst (λ (bytes : List ℕ). Wrote result old new bytes) whole
          (still_failed (up_to i ++ line) rest old fault fault new result result is is here)

    pub all_first : (i : ℕ) → length tiles ≤ i → (new : Option (List ℕ)) → Appends old new (up_to i)
        → Appends old new (stream header (first_texts tiles))
    all_first i all new wrote = subst (λ (ts : List (RunningState R)). Appends old new (stream header (first_texts ts)))
        (take_all i tiles all) wrote

  module _ (begun : List (Begun R)) (header : List ℕ) (tiles : List (RunningState R)) (i : ℕ)
      (default new : RunningState R) (within : i < length tiles) (same : new.begun ≡ (get_or tiles i default).begun)
      (old : Option (List ℕ)) (count : ℕ) where
    same_begun : begun_of (set tiles i new) ≡ begun_of tiles
    same_begun = map-set_same begun_in tiles i new default same

    -- nobody asked it to stop since
    unasked_since : new.cancels ≡ (get_or tiles i default).cancels → AreUncancelled tiles
        → AreUncancelled (set tiles i new)
    unasked_since kept none = uncancelled_set tiles i default new kept none

    -- the tile was asked to stop, where a write failed
    pub one_asked : new.lines ≡ (get_or tiles i default).lines → (wrote : Result (Unit {0}) Fault) → is_ok wrote ≡ false
        → (mid : Option (List ℕ)) (newer : ℕ) → LinesSoFar begun header tiles wrote old mid count newer
        → LinesSoFar begun header (set tiles i new) wrote old mid count newer
    one_asked none wrote failing mid newer so_far = record {
      same = same_begun ∙ so_far.same;
      out = so_far.out;
      mixes = subst (λ (lists : List (List (List ℕ))). Interleaves lists so_far.out)
          (sym (map-set_same lines_of_tile tiles i new default none)) so_far.mixes;
      written = so_far.written;
      failed = so_far.failed;
      fault = so_far.fault;
      uncancelled = none_ok (AreUncancelled (set tiles i new)) wrote failing;
    }

    -- a note of the tile was taken, and written where it is a line
    pub one_note : new.cancels ≡ (get_or tiles i default).cancels
        → (wrote result : Result (Unit {0}) Fault) (mid newest : Option (List ℕ)) (newer after : ℕ)
        → TextsGoOn (get_or tiles i default).lines new.lines wrote result mid newest newer after
        → OnOk result (IsOk wrote)
        → LinesSoFar begun header tiles wrote old mid count newer
        → LinesSoFar begun header (set tiles i new) result old newest count after
    one_note kept wrote result mid newest newer after goes_on later so_far =
        let lists = lines_taken tiles in
        let here : set lists i (get_or tiles i default).lines ≡ lists =
        ap (λ (ls : List (List ℕ)). set lists i ls) (sym (get_or-map lines_of_tile tiles i default [] within))
        ∙ set-get_or lists i [] in
        let before : TextsSoFar header lists wrote old mid count newer = record {
          out = so_far.out;
          mixes = so_far.mixes;
          written = so_far.written;
          failed = so_far.failed;
          fault = so_far.fault;
        } in
        let now = goes_on lists i (omega (arith, within, length-map tiles lines_of_tile)) header old count
        (subst (λ (ls : List (List (List ℕ))). TextsSoFar header ls wrote old mid count newer) (sym here) before) in
        record {
          same = same_begun ∙ so_far.same;
          out = now.out;
          mixes = subst (λ (ls : List (List (List ℕ))). Interleaves ls now.out) (sym (map-set lines_of_tile tiles i new))
              now.mixes;
          written = now.written;
          failed = now.failed;
          fault = now.fault;
          uncancelled = both_ok (AreUncancelled tiles) (AreUncancelled (set tiles i new)) (unasked_since kept) wrote
              result later so_far.uncancelled;
        }

  -- a flush follows all lines
  pub flushed_lines : (begun : List (Begun R)) (header : List ℕ) (tiles : List (RunningState R))
      (wrote result : Result (Unit {0}) Fault) (old mid new : Option (List ℕ)) (failures between newer : ℕ)
      → wrote ≡ Ok tt → LinesSoFar begun header tiles wrote old mid failures between
      → Keeps mid new → newer ≡ after_call result between → IfErr result (λ fault. fault ≡ Write)
      → LinesSoFar begun header tiles result old new failures newer
  flushed_lines begun header tiles wrote result old mid new failures between newer was so_far keeps failed fault =
      record {
        same = so_far.same;
        out = so_far.out;
        mixes = so_far.mixes;
        written = flushed result (stream header so_far.out) old mid new
            (subst (λ (r : Done). Wrote r old mid (stream header so_far.out)) was so_far.written) keeps;
        failed = failed ∙ ap (after_call result) (so_far.failed ∙ ap (λ (r : Done). after_call r failures) was);
        fault = fault;
        uncancelled = both_ok (AreUncancelled tiles) (AreUncancelled tiles) (λ none. none) wrote result (all_ok result was)
            so_far.uncancelled;
      }
    where
      all_ok : (last : Done) → wrote ≡ Ok tt → OnOk last (IsOk wrote)
      all_ok (Ok done) is = subst (λ (r : Done). IsOk r) (sym is) refl
      all_ok (Err fault) is = tt
