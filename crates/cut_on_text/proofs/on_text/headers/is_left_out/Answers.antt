use Rattle.std.proofs.Common.{◌∙◌, ◌++◌, ◌∷◌, [], ap, refl, codes}
use Rattle.city_json.specs.Bytes.{colon}
use Rattle.city_json.specs.Compact.{quoted}
use Rattle.std.specs.Prelude.{bytes_eq}
use Rattle.city_feature.proofs.LineTexts.{utf8}
use Rattle.cut_on_text.proofs.TextHeaders.{same_test}
use Rattle.cut_on_text.proofs.on_text.headers.is_left_out.Goals as goal

pub returns : goal.returns
returns c = λ named utf8_named is.
    rw c.if-not-drops_appearance.false (c.eq.ensures ∙ (ap (bytes_eq c.args.name.now) c.as_slice.ensures
    ∙ same_test named (codes "appearance") c.args.name.now (quoted (codes "appearance") ++ colon ∷ []) utf8_named
    (utf8 (codes "appearance") refl) is refl))
