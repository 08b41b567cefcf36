-- A text that was written and passed on.
use Rattle.std.proofs.Common.{◌≡◌, ℕ, Result, Ok, Err, OnOk, List, Option, length, refl, subst, sym, ap, ◌∙◌, inl, inr, take, take_all, le_refl}
use Rattle.std.specs.Io.KnownBytes.{Appends, Keeps}
use Rattle.byte_streams.specs.Failures.{after_call}
use Rattle.byte_streams.specs.declared.fault.Fault.{Fault}
use Rattle.command_runs.specs.Passing.{ShownOrFailed}
use Rattle.tile_stream.proofs.Steps.{Appends-kept}

module _ (bytes : List ℕ) (IsFlushed : Type 0) (old mid new : Option (List ℕ)) (before after : ℕ)
    (wrote : Appends old mid bytes) (kept : Keeps mid new) where
  pub shown : (flushed : Result (Unit {0}) Fault) → OnOk flushed IsFlushed → after ≡ after_call flushed before
      → ShownOrFailed bytes IsFlushed old new before after
  shown (Ok done) is count = inl (Appends-kept old mid new bytes wrote kept, is, count)
  shown (Err fault) is count =
      let all = take_all (length bytes) bytes (le_refl _) in
      inr (length bytes, subst (Appends old new) (sym all) (Appends-kept old mid new bytes wrote kept), count)
