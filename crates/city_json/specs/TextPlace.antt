-- The compact text that stands at a place: in what was read, or in the buffer that was given for it.
use Rattle.std.specs.Prelude.{ℕ, List, take}
use Rattle.city_json.specs.declared.compacting.object.TextPlace.{TextPlace}
use Rattle.city_json.specs.declared.compacting.object.TextPlace.TheVariants.{Read, Written}

abbrev pub placed_text : TextPlace → List ℕ → List ℕ → List ℕ
placed_text (Read end) read buffer = take end read
placed_text Written read buffer = buffer
