-- What became of bytes that were to be written, where the status does not depend on it.
use Rattle.std.specs.Prelude.{◌≡◌, ◌⊎◌, ℕ, List, Option, take}
use Rattle.std.specs.Io.KnownBytes.{Appends}
use Rattle.byte_streams.specs.Failures.{one_more}

-- All of these bytes were written and passed on and no call failed, or some first ones were written
-- and one did.
abbrev pub ShownOrFailed : List ℕ → Type 0 → Option (List ℕ) → Option (List ℕ) → ℕ → ℕ → Type 0
ShownOrFailed bytes IsFlushed old new failures_before failures_after =
    (Appends old new bytes × IsFlushed × (failures_after ≡ failures_before))
    ⊎ ((count : ℕ) × Appends old new (take count bytes) × (failures_after ≡ one_more failures_before))

-- All of these bytes were written and no call failed, or some first ones were and one did.
abbrev pub WroteOrFailed : List ℕ → Option (List ℕ) → Option (List ℕ) → ℕ → ℕ → Type 0
WroteOrFailed bytes old new failures_before failures_after =
    (Appends old new bytes × (failures_after ≡ failures_before))
    ⊎ ((count : ℕ) × Appends old new (take count bytes) × (failures_after ≡ one_more failures_before))
