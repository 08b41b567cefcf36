-- How a reading of all bytes may stop.
use Rattle.std.specs.Prelude.{ℕ, ◌≤◌, ◌<◌, Bool, true, false, List, length}
use Rattle.byte_streams.specs.Failures.{one_more}
use Rattle.byte_streams.specs.Source.{GivesFirst}
use Rattle.byte_streams.specs.declared.intake.Stop.{Stop}
use Rattle.byte_streams.specs.declared.intake.Stop.TheVariants.{End, Failure, Limit, Memory}

-- A source that may give what `before` says was read, these bytes came, and it may now give what
-- `after` says: at the end and at an error they are all that it gave; past the limit, and where memory
-- ran out, they are the first that it gives.
abbrev pub Stopped : Stop → (List ℕ → Bool → Type 0) → (List ℕ → Bool → Type 0) → ℕ → List ℕ → Type 0
Stopped End before after limit bytes = before bytes false × (length bytes ≤ limit)
Stopped Failure before after limit bytes = before bytes true × (length bytes ≤ limit)
Stopped Limit before after limit bytes = GivesFirst before after bytes × (limit < length bytes)
Stopped Memory before after limit bytes = GivesFirst before after bytes × (length bytes ≤ limit)

-- the count of failed reads once the reading stopped so
abbrev pub after_stop : Stop → ℕ → ℕ
after_stop Failure count = one_more count
after_stop other count = count
