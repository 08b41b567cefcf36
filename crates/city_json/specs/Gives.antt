-- How what a reader of the code returns stands to what a function on lists gives.
use Rattle.std.specs.Prelude.{◌≡◌, ℕ, List, Option, Some, None, Result, Ok, Err}
use Rattle.byte_streams.specs.declared.fault.Fault.{Fault}
use Rattle.city_json.specs.Number.{IsNumber}
use Rattle.byte_streams.specs.declared.fault.Fault.TheVariants.{Syntax, Memory}

-- Want of memory says nothing of the text, and the only other refusal is that nothing was read.
abbrev pub Refuses : {Y : Type 0} → Fault → Option Y → Type 0
Refuses Memory read = Unit {0}
Refuses Syntax read = read ≡ None
Refuses other read = ⊥

-- What was returned, seen by `view`, is what reading gives, unless memory was out.
abbrev pub Gives : {X Y : Type 0} → (X → Y) → Result X Fault → Option Y → Type 0
Gives view (Ok x) read = read ≡ Some (view x)
Gives view (Err fault) read = Refuses fault read

-- A text that is to be a number is refused where it is none, and where there is no memory for one.
abbrev pub RefusesNumber : Fault → List ℕ → Type 0
RefusesNumber Syntax text = ¬ IsNumber text
RefusesNumber Memory text = IsNumber text
RefusesNumber other text = ⊥
