use Rattle.std.proofs.Common.{subst, sym}
use Rattle.city_json.specs.CompactTexts.{IsCompactOf}
use Rattle.city_json.specs.Parts.{AreParts}
use Rattle.city_json.specs.Tree.{object}
use Rattle.city_cut_tests.proofs.faults.told.Goals as goal

pub new-document-requires : goal.new-document-requires
new-document-requires c =
    let (members, of, are, triples) = c.in_ok-given.ensures in (
      members,
      subst (λ l. IsCompactOf l (object members)) (sym c.items.ensures) of,
      subst (λ p. AreParts 1 p members) (sym c.deref.ensures.value) are,
    )
