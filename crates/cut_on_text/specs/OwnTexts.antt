-- What each text of a document's features has of its own, held or made.
use Rattle.std.specs.Prelude.{ℕ, Bool, true, false, List}
use Rattle.cut_on_text.specs.FeatureText.{IsTail}
use Rattle.cut_on_text.specs.declared.held.OwnTexts.{OwnTexts}
use Rattle.cut_on_text.specs.declared.held.OwnTexts.TheVariants.{Held, Made}

abbrev pub own_texts : OwnTexts → List (List ℕ)
own_texts (Held texts) = texts
own_texts (Made texts) = texts

abbrev pub are_made : OwnTexts → Bool
are_made (Held texts) = false
are_made (Made texts) = true

-- texts that are made end in the rest of a feature
abbrev pub EndIn : List ℕ → OwnTexts → Type 0
EndIn common (Held texts) = Unit {0}
EndIn common (Made texts) = IsTail common
