use Rattle.std.proofs.Common.{◌∙◌, ◌++◌, ◌∷◌, [], refl, sym, codes}
use Rattle.std.proofs.lemmas.Slice.Eq.{bytes_eq-Decides}
use Rattle.city_json.specs.Bytes.{colon}
use Rattle.city_json.specs.Compact.{quoted}
use Rattle.city_families.proofs.CopiedTexts.{not_both}
use Rattle.city_feature.proofs.LineTexts.{utf8}
use Rattle.cut_on_text.proofs.TextHeaders.{named_as, named_other}
use Rattle.cut_on_text.proofs.on_text.headers.value_in_header.Goals as goal

pub returns-then-eq : goal.returns-then-eq
returns-then-eq c = λ named old utf8_named is value_is.
    let same = (bytes_eq-Decides c.args.name.now c.as_slice.result.now).0 (sym c.eq.ensures ∙ c.if-eq.true)
    ∙ c.as_slice.ensures in
    rw (named_as named (codes "CityObjects") c.args.name.now (quoted (codes "CityObjects") ++ colon ∷ []) utf8_named
    (utf8 (codes "CityObjects") refl) is refl same) refl

pub returns-then-eq-2 : goal.returns-then-eq-2
returns-then-eq-2 c = λ named old utf8_named is value_is.
    let same = (bytes_eq-Decides c.args.name.now c.as_slice-2.result.now).0 (sym c.eq-2.ensures ∙ c.if-eq-2.true)
    ∙ c.as_slice-2.ensures in
    rw (
      named_other named (codes "CityObjects") c.args.name.now (quoted (codes "CityObjects") ++ colon ∷ []) is refl
          (λ e. not_both c.eq.result (c.eq.ensures
          ∙ (bytes_eq-Decides c.args.name.now c.as_slice.result.now).1 (e ∙ sym c.as_slice.ensures)) c.if-eq.false),
      named_as named (codes "vertices") c.args.name.now (quoted (codes "vertices") ++ colon ∷ []) utf8_named
          (utf8 (codes "vertices") refl) is refl same,
    ) refl

pub returns : goal.returns
returns c = λ named old utf8_named is value_is.
    rw (
      named_other named (codes "CityObjects") c.args.name.now (quoted (codes "CityObjects") ++ colon ∷ []) is refl
          (λ e. not_both c.eq.result (c.eq.ensures
          ∙ (bytes_eq-Decides c.args.name.now c.as_slice.result.now).1 (e ∙ sym c.as_slice.ensures)) c.if-eq.false),
      named_other named (codes "vertices") c.args.name.now (quoted (codes "vertices") ++ colon ∷ []) is refl
          (λ e. not_both c.eq-2.result (c.eq-2.ensures
          ∙ (bytes_eq-Decides c.args.name.now c.as_slice-2.result.now).1 (e ∙ sym c.as_slice-2.ensures)) c.if-eq-2.false),
    ) value_is
