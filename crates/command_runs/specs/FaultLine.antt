-- The line that tells a refusal on standard error.
use Rattle.std.specs.Prelude.{◌++◌, ◌==◌, ℕ, List, [], ◌∷◌, codes, decimal, if◌then◌else◌}
use Rattle.city_json.specs.Bytes.{newline}
use Rattle.byte_streams.specs.Faults.{text_of}
use Rattle.byte_streams.specs.declared.places.MergeFault.{MergeFault}

-- the tile and the line that a refusal names; what is 0 is left out
abbrev pub place_text : ℕ → ℕ → List ℕ
place_text tile line =
    if tile == 0 then []
    else (if line == 0 then codes "tile " ++ decimal tile ++ codes ": "
    else codes "tile " ++ decimal tile ++ codes " line " ++ decimal line ++ codes ": ")

abbrev pub fault_line : MergeFault → List ℕ
fault_line refusal = codes "citymerge: " ++ place_text refusal.tile refusal.line ++ text_of refusal.fault ++ newline ∷ []
