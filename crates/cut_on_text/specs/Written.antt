-- What calls wrote to a sink.
use Rattle.std.specs.Prelude.{◌≡◌, ◌++◌, ℕ, List, Option, Result, IfErr}
use Rattle.byte_streams.specs.Failures.{Wrote, after_call}
use Rattle.byte_streams.specs.declared.fault.Fault.{Fault}
use Rattle.byte_streams.specs.declared.fault.Fault.TheVariants.{Write}

-- a text was written up to the first write that failed, since a sink had taken `start` and so many calls on it had failed
pub record WroteSince {W : Type 0} (taken : W → Option (List ℕ)) (failures : W → ℕ) (start : Option (List ℕ)) (count : ℕ) (sink : W) (wrote : Result (Unit {0}) Fault) (text : List ℕ) : Type 0 where
  pub written : Wrote wrote start (taken sink) text
  pub failed : failures sink ≡ after_call wrote count
  pub fault : IfErr wrote (λ fault. fault ≡ Write)

-- whatever was written before, this text is written after it, unless a write fails or has failed
abbrev pub Writes : {W : Type 0} → (W → Option (List ℕ)) → (W → ℕ) → W → Result (Unit {0}) Fault → W → Result (Unit {0}) Fault → List ℕ → Type 0
Writes taken failures old before new wrote text = (start : Option (List ℕ)) (count : ℕ) (front : List ℕ)
    → WroteSince taken failures start count old before front
    → WroteSince taken failures start count new wrote (front ++ text)
