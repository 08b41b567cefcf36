-- What a reader may give.
use Rattle.std.specs.Prelude.{◌≡◌, refl, ℕ, Bool, true, false, List, [], ◌++◌, Option, Some, None}

-- From here a reader may give these bytes up to its first end or, if it fails, up to its first error:
-- all that it has and then the end, or some of it and then an error. Of unknown bytes nothing is said.
abbrev pub MayGive : Option (List ℕ) → List ℕ → Bool → Type 0
MayGive None bytes fails = Unit {0}
MayGive (Some left) bytes false = bytes ≡ left
MayGive (Some left) bytes true = (others : List ℕ) × (left ≡ bytes ++ others)

-- A reader gave these bytes: what it may give from now on may come after them from the start.
abbrev pub GivesFirst : (List ℕ → Bool → Type 0) → (List ℕ → Bool → Type 0) → List ℕ → Type 0
GivesFirst before after bytes = (others : List ℕ) (fails : Bool) → after others fails → before (bytes ++ others) fails

-- There is something that a reader may give: its bytes, and then the end.
pub gives_something : (known : Option (List ℕ)) → (bytes : List ℕ) × ((fails : Bool) × MayGive known bytes fails)
gives_something None = ([], (false, tt))
gives_something (Some left) = (left, (false, refl))
