use Rattle.std.proofs.Common.{refl, codes}
use Rattle.city_feature.proofs.LineTexts.{utf8}
use Rattle.cut_on_text.proofs.on_text.headers.drops_appearance.Goals as goal

pub returns-in-Some : goal.returns-in-Some
returns-in-Some c =
    let (value, is, of) = c.in-Some.ensures.some (codes "geometry-templates") (utf8 (codes "geometry-templates") refl)
    refl in
    rw is refl

pub returns-in-None : goal.returns-in-None
returns-in-None c = rw (c.in-None.ensures.none (codes "geometry-templates") refl) refl
