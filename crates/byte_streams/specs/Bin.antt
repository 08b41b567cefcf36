-- What a contract sees of a bin.
use Rattle.std.specs.Prelude.{◌-◌, ℕ, suc, Bool, false, List, [], ◌∷◌, length, min, nat_le, if◌then◌else◌, Result, Ok, Err}
use Rattle.byte_streams.specs.declared.fault.Fault.{Fault}
use Rattle.byte_streams.specs.declared.fault.Fault.TheVariants.{Write}

-- The bytes that it holds, how many it has room for, how many a write takes at most, whether a flush
-- fails, whether all bytes were flushed, and how many calls failed.
pub record BinState : Type 0 where
  pub bytes : List ℕ
  pub room : ℕ
  pub step : ℕ
  pub flush_fails : Bool
  pub flushed : Bool
  pub failures : ℕ

-- What a write of these bytes answers: how many it takes, or an error where there is no room left.
abbrev pub bin_answer : BinState → List ℕ → Result ℕ Fault
bin_answer bin [] = Ok 0
bin_answer bin (first ∷ others) =
    if nat_le bin.room (length bin.bytes) then Err Write
    else Ok (min (min (length (first ∷ others)) (bin.room - length bin.bytes)) bin.step)

-- whether all bytes were flushed, after a write with this answer: not where it took some
abbrev pub flushed_after : Result ℕ Fault → Bool → Bool
flushed_after (Ok (suc count)) flushed = false
flushed_after other flushed = flushed
