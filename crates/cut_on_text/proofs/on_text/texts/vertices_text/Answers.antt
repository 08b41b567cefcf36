use Rattle.std.proofs.Common.{refl, codes}
use Rattle.city_json.specs.Tree.{array, no_items}
use Rattle.city_feature.proofs.LineTexts.{utf8}
use Rattle.cut_on_text.proofs.TextDocuments.{empty_array}
use Rattle.cut_on_text.proofs.on_text.texts.vertices_text.Goals as goal

pub returns : goal.returns
returns c = c.value_or.ensures (codes "vertices") (utf8 (codes "vertices") refl) refl (array no_items) empty_array
