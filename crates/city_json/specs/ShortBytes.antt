-- Where short texts keep their bytes. No public clause cites this.
use Rattle.std.specs.Prelude.{◌≤◌, ℕ, List, take}
use Rattle.city_json.specs.declared.short.Form.{Form}
use Rattle.city_json.specs.declared.short.Form.TheVariants.{Inline, Heap}

-- the bytes that count
abbrev pub form_bytes : Form → List ℕ
form_bytes (Inline size bytes) = take size bytes
form_bytes (Heap bytes) = bytes.value.items

-- what counts lies within the place
abbrev pub IsWithinPlace : Form → Type 0
IsWithinPlace (Inline size bytes) = size ≤ 22
IsWithinPlace (Heap bytes) = Unit {0}
