-- What calls on a sink wrote, and how those that failed are counted.
use Rattle.std.specs.Prelude.{◌==◌, ◌&&◌, ◌+◌, ◌-◌, ◌^◌, ℕ, List, Option, length, min, nat_lt, take, if◌then◌else◌, Result, Ok, Err}
use Rattle.std.specs.Io.KnownBytes.{Appends}

-- one failure more: the count stays at its largest value once there
abbrev pub one_more : ℕ → ℕ
one_more count = min (count + 1) (2 ^ 64 - 1)

-- the count after a call that fails where it returns an error
abbrev pub after_call : {X E : Type 0} → Result X E → ℕ → ℕ
after_call (Ok x) count = count
after_call (Err e) count = one_more count

-- the count after a write, which also fails where it takes none of some bytes
abbrev pub after_write : {E : Type 0} → Result ℕ E → List ℕ → ℕ → ℕ
after_write (Err e) from count = one_more count
after_write (Ok taken) from count = if (taken == 0) && nat_lt 0 (length from) then one_more count else count

-- a text was written, or some first bytes of it where a write failed
abbrev pub Wrote : {X E : Type 0} → Result X E → Option (List ℕ) → Option (List ℕ) → List ℕ → Type 0
Wrote (Ok x) old new text = Appends old new text
Wrote (Err e) old new text = (count : ℕ) × Appends old new (take count text)
