-- What a run of bytes that stand for themselves ends at.
use Rattle.std.specs.Prelude.{◌≡◌, ◌<◌, ℕ, List, ◌∷◌, Some, None, length}
use Rattle.city_json.specs.declared.reading.strings.RunEnd.{RunEnd}
use Rattle.city_json.specs.declared.reading.strings.RunEnd.TheVariants.{Closing, Escape, Broken}
use Rattle.city_json.specs.Bytes.{backslash}
use Rattle.city_json.specs.ReadString.{decoded, prepend}

-- the bytes begin with the run, and go on with the end and the rest
abbrev pub IsPlainRun : List ℕ → List ℕ → RunEnd → List ℕ → Type 0
IsPlainRun bytes run Closing rest = decoded bytes ≡ Some (run, rest)
IsPlainRun bytes run Escape rest = (decoded bytes ≡ prepend run (decoded (backslash ∷ rest)))
    × (length rest < length bytes)
IsPlainRun bytes run Broken rest = decoded bytes ≡ None
