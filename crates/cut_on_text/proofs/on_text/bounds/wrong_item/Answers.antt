use Rattle.std.proofs.Common.{codes, refl, subst}
use Rattle.city_feature.proofs.LineTexts.{utf8}
use Rattle.cut_on_text.specs.Holders.{IsHeld}
use Rattle.cut_on_text.proofs.ScannedBounds.{address_wrong}
use Rattle.cut_on_text.proofs.TextMembers.{on_some_more}
use Rattle.cut_on_text.proofs.on_text.bounds.wrong_item.Goals as goal

pub returns-in_ok-location-in-Address : goal.returns-in_ok-location-in-Address
returns-in_ok-location-in-Address c = on_some_more c.wrong_own-in-Address.result (λ wrong value of held.
    let (location, is, location_of) =
    c.in_ok-location-in-Address.ensures value of (codes "location") (utf8 (codes "location") refl) refl in
    address_wrong c.args.count value location is (wrong location location_of)
    (subst (λ h. IsHeld h c.args.count value) c.in-Address.is held)) c.wrong_own-in-Address.ensures
