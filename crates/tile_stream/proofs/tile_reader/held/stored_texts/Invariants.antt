use Rattle.std.proofs.Common.{◌≡◌, ◌≤◌, ◌-◌, length, take}
use Rattle.city_families.specs.HeldTexts.{texts_in, with_end}
use Rattle.city_feature.specs.Choice.{IsChosen}
use Rattle.tile_stream.proofs.HeldTexts.{MadeSoFar}
use Rattle.tile_stream.proofs.tile_reader.held.stored_texts.Given as goal

-- the texts of the features so far were made
abbrev pub invariant-held : goal.invariant-held
invariant-held l =
    record {
      same : l.held ≡ l.fn.held;
      within : l.at ≤ length (texts_in l.fn.held);
      made : MadeSoFar (IsChosen l.choice) l.shift (take l.at (texts_in l.fn.held))
          (with_end l.fn.held.common l.texts.items);
    }

abbrev pub decreases-held : goal.decreases-held
decreases-held l = length (texts_in l.held) - l.at
