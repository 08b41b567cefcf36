use Rattle.std.proofs.Common.{◌≡◌, ◌≤◌, ◌-◌, length, take}
use Rattle.city_families.specs.HeldTexts.{texts_in}
use Rattle.city_feature.specs.Choice.{IsChosen}
use Rattle.tile_stream.specs.Held.{TellWanted}
use Rattle.tile_stream.proofs.tile_reader.held.wanted_of.Given as goal

-- it is known which of the features so far are wanted
abbrev pub invariant-held : goal.invariant-held
invariant-held l =
    record {
      same : l.held ≡ l.fn.held;
      within : l.at ≤ length (texts_in l.fn.held);
      told : TellWanted (IsChosen l.choice) l.shift (take l.at (texts_in l.fn.held)) l.wanted.items;
    }

abbrev pub decreases-held : goal.decreases-held
decreases-held l = length (texts_in l.held) - l.at
