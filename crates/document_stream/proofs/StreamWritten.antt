-- The texts of a document's features, written one after another.
use Rattle.std.proofs.Common.{◌≡◌, ◌++◌, ◌+◌, ◌<◌, ◌≤◌, ℕ, zero, suc, List, [], ◌∷◌, Option, length, map, take, get_or, flat_map, sym, refl, subst, arith}
use Rattle.std.specs.Io.KnownBytes.{Appends}
use Rattle.city_families.specs.HeldTexts.{HeldTexts, texts_in}
use Rattle.tile_stream.proofs.FirstBytes as first
use Rattle.tile_stream.specs.Stream.{with_newline}

text_at : (own : List (List ℕ)) (common : List ℕ) (i : ℕ) → i < length own
    → get_or (map (λ text. text ++ common) own) i [] ≡ get_or own i [] ++ common
text_at [] common i within = absurd (omega (arith, within))
text_at (x ∷ xs) common zero within = refl
text_at (x ∷ xs) common (suc i) within = text_at xs common i (omega (arith, within))

as_many : (own : List (List ℕ)) (common : List ℕ) → length (map (λ text. text ++ common) own) ≡ length own
as_many [] common = refl
as_many (x ∷ xs) common = let more = as_many xs common in omega (arith, more)

module _ (held : HeldTexts) (i : ℕ) (within : i < length held.own) where
  inside : i < length (texts_in held)
  inside = omega (arith, within, as_many held.own held.common)

  pub next_written : (old mid new : Option (List ℕ)) → Appends old mid (flat_map with_newline (take i (texts_in held)))
      → Appends mid new (with_newline (get_or held.own i [] ++ held.common))
      → Appends old new (flat_map with_newline (take (i + 1) (texts_in held)))
  next_written old mid new before wrote = first.next_written (texts_in held) i inside old mid new before
      (subst (λ text. Appends mid new (with_newline text)) (sym (text_at held.own held.common i within)) wrote)

  pub next_failed : (old mid new : Option (List ℕ)) → Appends old mid (flat_map with_newline (take i (texts_in held)))
      → (count : ℕ) × Appends mid new (take count (with_newline (get_or held.own i [] ++ held.common))) → (count : ℕ)
      × Appends old new (take count (flat_map with_newline (texts_in held)))
  next_failed old mid new before some = first.next_failed (texts_in held) i inside old mid new before (
    some.0,
    subst (λ text. Appends mid new (take some.0 (with_newline text))) (sym (text_at held.own held.common i within))
        some.1,
  )

pub all_texts : (held : HeldTexts) (i : ℕ) (old new : Option (List ℕ)) → length held.own ≤ i
    → Appends old new (flat_map with_newline (take i (texts_in held)))
    → Appends old new (flat_map with_newline (texts_in held))
all_texts held i old new past wrote =
    first.all_texts (texts_in held) i old new (omega (arith, past, as_many held.own held.common)) wrote
