use Rattle.std.proofs.Common.{sym, subst, refl, codes}
use Rattle.city_json.proofs.NamedMembers.{absent_there}
use Rattle.city_json.specs.Parts.{AreParts}
use Rattle.city_json.specs.Tree.{object}
use Rattle.city_json.specs.CompactTexts.{IsCompactOf}
use Rattle.city_families.proofs.CopiedTexts.{not_both}
use Rattle.cut_on_text.proofs.TextAddresses.{AddressMade, address_absent, address_bare, address_made, address_no_object}
use Rattle.cut_on_text.proofs.TextMembers.{on_some_more}
use Rattle.cut_on_text.proofs.on_text.items.append_address.Goals as goal

pub returns-then-not-byte_is-clause-made : goal.returns-then-not-byte_is-clause-made
returns-then-not-byte_is-clause-made g c = on_some_more c.append_text.result (λ appended.
    address_no_object _ c.args.text.now _ _ _ appended
    (λ inside here. not_both _ (c.byte_is.ensures.1 (inside, here)) c.if-not-byte_is.true)) c.append_text.ensures

pub returns-in_default-clause-made : goal.returns-in_default-clause-made
returns-in_default-clause-made g c = on_some_more c.append_text-in_default.result (λ appended value of.
    let text = c.args.text.now in
    let (members, is_object, are) = c.in_ok-parts.ensures value of in
    let of_object : IsCompactOf text (object members) = subst (IsCompactOf text) is_object of in
    let listed : AreParts 1 c.deref.result.now members =
    subst (λ p. AreParts 1 p members) (sym c.deref.ensures.value) are in
    let none = absent_there text _ members _ (codes "location") of_object.is listed refl c.in_default.ensures.none in
    subst (AddressMade _ _ _ _ _ _) (sym is_object) (address_absent _ text _ _ _ appended members of_object none))
    c.append_text-in_default.ensures

pub returns-then-not-byte_is-2-clause-made : goal.returns-then-not-byte_is-2-clause-made
returns-then-not-byte_is-2-clause-made g c = on_some_more c.append_text-then-not-byte_is-2.result (λ appended value of.
    let text = c.args.text.now in
    let (members, is_object, are) = c.in_ok-parts.ensures value of in
    let of_object : IsCompactOf text (object members) = subst (IsCompactOf text) is_object of in
    let listed : AreParts 1 c.deref.result.now members =
    subst (λ p. AreParts 1 p members) (sym c.deref.ensures.value) are in
    subst (AddressMade _ _ _ _ _ _) (sym is_object)
    (address_bare _ text _ _ _ appended c.in_ok-location.location.now c.deref.result.now c.in-Some.part members
    of_object listed c.in-Some.ensures.some c.in_ok-location.ensures.some
    (λ inside here. not_both _ (c.byte_is-2.ensures.1 (inside, here)) c.if-not-byte_is-2.true)))
    c.append_text-then-not-byte_is-2.ensures

pub returns-clause-made : goal.returns-clause-made
returns-clause-made g c = on_some_more c.append_back.result (λ appended value of.
    let text = c.args.text.now in
    let (members, is_object, are) = c.in_ok-parts.ensures value of in
    let of_object : IsCompactOf text (object members) = subst (IsCompactOf text) is_object of in
    let listed : AreParts 1 c.deref.result.now members =
    subst (λ p. AreParts 1 p members) (sym c.deref.ensures.value) are in
    subst (AddressMade _ _ _ _ _ _) (sym is_object)
    (address_made _ text _ _ _ _ _ _ _ c.deref.result.now c.in-Some.part members of_object listed
    c.in-Some.ensures.some c.in_ok-location.ensures.some c.in_ok-append_front.ensures
    c.in_ok-append_listed.ensures.made appended)) c.append_back.ensures
