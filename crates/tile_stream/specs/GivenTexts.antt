-- Texts that are still to be given, held or made.
use Rattle.std.specs.Prelude.{ℕ, List}
use Rattle.city_families.specs.HeldTexts.{texts_in}
use Rattle.tile_stream.specs.declared.tile_reader.ready.GivenTexts.{GivenTexts}
use Rattle.tile_stream.specs.declared.tile_reader.ready.GivenTexts.TheVariants.{Stored, Made}

abbrev pub given_texts : GivenTexts → List (List ℕ)
given_texts (Stored texts) = texts
given_texts (Made texts) = texts_in texts
