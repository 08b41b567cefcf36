use Rattle.std.proofs.Common.{subst, sym}
use Rattle.city_json.specs.Triples.{HasTriples}
use Rattle.feature_tests.proofs.measured.meets.Goals as goal

pub triples_meet-requires : goal.triples_meet-requires
triples_meet-requires c = record {
  triples = subst (λ line. HasTriples line c.in-Ok-Some.object.triples) (sym c.bytes-text.ensures)
      (rw c.in-Ok-Some.field-0-is at c.in-Ok-Some.ensures.triples);
}
