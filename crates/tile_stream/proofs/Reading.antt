-- What a read leaves in a buffer.
use Rattle.std.proofs.Common.{◌≡◌, ◌≤◌, ◌+◌, ◌++◌, ℕ, List, length, take, drop, slice_range, arith, ap, ◌∙◌}
use Rattle.std.proofs.Math.Seq.{take-add}
use Rattle.std.proofs.lemmas.List.{take-append-le, take-take}
use Rattle.std.proofs.lemmas.Slice.{between_from_start}

-- the buffer is what the read left, and no longer
module _ (new rest : List ℕ) (len : ℕ) (whole : length new ≡ len) where
  pub all_left : (count : ℕ) → count ≤ len → slice_range (take len (new ++ rest)) 0 count ≡ take count new
  all_left count within = between_from_start (take len (new ++ rest)) count ∙ take-take count len (new ++ rest) within
      ∙ take-append-le count new rest (omega (arith, whole, within))

  -- what was held stands first, and what was read after it
  module _ (kept : List ℕ) (held : ℕ) (same : take held new ≡ kept) where
    pub kept_first : held ≤ len → slice_range (take len (new ++ rest)) 0 held ≡ kept
    kept_first within = all_left held within ∙ same

    pub read_after : (count : ℕ) → held + count ≤ len
        → slice_range (take len (new ++ rest)) 0 (held + count) ≡ kept ++ take count (drop held new)
    read_after count within = all_left (held + count) within ∙ take-add held count new
        ∙ ap (λ front. front ++ take count (drop held new)) same
