-- What is still to come of a reader from which some bytes were read ahead.
use Rattle.std.specs.Prelude.{◌≡◌, ◌++◌, ℕ, Bool, List}

-- a reader, and the bytes that were read from it and not taken yet
pub record Ahead (R : Type 0) : Type 0 where
  pub reader : R
  pub held : List ℕ

-- These bytes may be to come up to the first end or error: those that are held, and then what the reader may give.
abbrev pub MayCome : {R : Type 0} → (R → List ℕ → Bool → Type 0) → Ahead R → List ℕ → Bool → Type 0
MayCome gives ahead bytes fails = (others : List ℕ) × gives ahead.reader others fails × (bytes ≡ ahead.held ++ others)
