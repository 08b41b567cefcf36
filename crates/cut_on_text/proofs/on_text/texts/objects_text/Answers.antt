use Rattle.std.proofs.Common.{refl, codes}
use Rattle.city_json.specs.Tree.{no_members, object}
use Rattle.city_feature.proofs.LineTexts.{utf8}
use Rattle.cut_on_text.proofs.TextDocuments.{no_objects}
use Rattle.cut_on_text.proofs.on_text.texts.objects_text.Goals as goal

pub returns : goal.returns
returns c = c.value_or.ensures (codes "CityObjects") (utf8 (codes "CityObjects") refl) refl (object no_members) no_objects
