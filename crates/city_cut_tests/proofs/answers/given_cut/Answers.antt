use Rattle.std.proofs.Common.{subst, sym}
use Rattle.city_json.specs.CompactTexts.{IsCompactOf}
use Rattle.city_json.specs.ObjectTexts.{PlacedObject}
use Rattle.city_json.specs.Parts.{AreParts}
use Rattle.city_json.specs.Tree.{object}
use Rattle.city_json.specs.Triples.{HasTriples}
use Rattle.city_cut_tests.proofs.answers.given_cut.Goals as goal

pub new-document-requires : goal.new-document-requires
new-document-requires c =
    let (members, of, are, triples) = c.in_ok-given.ensures in (
      members,
      subst (λ l. IsCompactOf l (object members)) (sym c.items.ensures) of,
      subst (λ p. AreParts 1 p members) (sym c.deref.ensures.value) are,
    )

pub known_cut-requires : goal.known_cut-requires
known_cut-requires c =
    let (members, of, are, triples) = c.in_ok-given.ensures in
    subst (λ (there : PlacedObject). HasTriples there.text c.in_ok-given.given.triples) (sym c.new-document.ensures)
    (subst (λ l. HasTriples l c.in_ok-given.given.triples) (sym c.items.ensures) triples)
