use Rattle.cut_on_text.proofs.SpelledFeatures.{texts_spell}
use Rattle.city_cut.proofs.laws.features_are_spelled_by_their_texts.Goals as goal

pub returns : goal.returns
returns c = texts_spell
