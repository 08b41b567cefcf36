use Rattle.std.proofs.Common.{codes, refl}
use Rattle.city_feature.proofs.LineTexts.{utf8}
use Rattle.cut_on_text.proofs.ScannedBounds.{own_wrong}
use Rattle.cut_on_text.proofs.TextMembers.{on_some_more}
use Rattle.cut_on_text.proofs.on_text.bounds.wrong_own.Goals as goal

pub returns : goal.returns
returns c = on_some_more c.wrong_boundary.result (λ wrong value of.
    let (inner, is, inner_of) = c.in_ok-boundary.ensures value of (codes "boundaries") (utf8 (codes "boundaries") refl) refl in
    own_wrong c.args.count value inner is (wrong inner inner_of)) c.wrong_boundary.ensures
