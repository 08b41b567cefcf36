-- What a contract sees of a tape.
use Rattle.std.specs.Prelude.{◌≡◌, ◌&&◌, ◌==◌, ℕ, Bool, List, length, min, if◌then◌else◌, Result, Ok, Err}
use Rattle.byte_streams.specs.declared.fault.Fault.{Fault}
use Rattle.byte_streams.specs.declared.fault.Fault.TheVariants.{Read}

-- The bytes that are left, how many a read gives at most, whether an error comes after the last one
-- and not the end, and how many reads failed.
pub record TapeState : Type 0 where
  pub left : List ℕ
  pub step : ℕ
  pub fails : Bool
  pub failures : ℕ

-- A tape gives the bytes that are left on it and no others, and then the end or, if it fails, an error.
abbrev pub PlaysOut : TapeState → List ℕ → Bool → Type 0
PlaysOut tape bytes fails = (bytes ≡ tape.left) × (fails ≡ tape.fails)

-- What a read into a buffer of this length answers: how many bytes it gives, or the error at the end.
abbrev pub tape_answer : TapeState → ℕ → Result ℕ Fault
tape_answer tape room = if (length tape.left == 0)
    && tape.fails then Err Read else Ok (min (min (length tape.left) room) tape.step)
