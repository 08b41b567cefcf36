use Rattle.std.proofs.Common.{subst, sym}
use Rattle.city_json.specs.ObjectTexts.{PlacedObject}
use Rattle.city_json.specs.Triples.{HasTriples}
use Rattle.city_cut_tests.proofs.answers.cut_on_its_text.Goals as goal

pub text-document-requires : goal.text-document-requires
text-document-requires c = (c.args.text.now, rw c.in-Ok-Some.field-0-is at c.in-Ok-Some.ensures.object)

pub known_cut-requires : goal.known_cut-requires
known_cut-requires c =
    subst (λ (there : PlacedObject). HasTriples there.text c.in-Ok-Some.found.triples) (sym c.text-document.ensures.is)
    (rw c.in-Ok-Some.field-0-is at c.in-Ok-Some.ensures.triples)
