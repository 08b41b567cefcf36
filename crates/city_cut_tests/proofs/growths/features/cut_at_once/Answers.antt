use Rattle.std.proofs.Common.{subst, sym}
use Rattle.city_json.specs.ObjectTexts.{PlacedObject}
use Rattle.city_json.specs.Triples.{HasTriples}
use Rattle.city_cut_tests.proofs.growths.features.cut_at_once.Goals as goal

pub text-document-requires : goal.text-document-requires
text-document-requires g c = (c.args.text.now, rw c.in-Ok-Some.field-0-is at c.in-Ok-Some.ensures.object)

pub cut_known-requires : goal.cut_known-requires
cut_known-requires g c =
    subst (λ (there : PlacedObject). HasTriples there.text c.in-Ok-Some.found.triples) (sym c.text-document.ensures.is)
    (rw c.in-Ok-Some.field-0-is at c.in-Ok-Some.ensures.triples)
