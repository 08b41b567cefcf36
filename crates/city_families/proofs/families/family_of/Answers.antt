use Rattle.std.proofs.Common.{arith}
use Rattle.std.proofs.lemmas.List.Filters.{dedup_is}
use Rattle.std.specs.Prelude.{eqb}
use Rattle.city_families.proofs.Kinship.{family_is, reached_at}
use Rattle.city_families.proofs.families.family_of.Goals as goal

pub returns-clause-family : goal.returns-clause-family
returns-clause-family c = λ objects distinct is_graph.
    family_is objects c.args.graph.now distinct is_graph c.args.root c.in_ok-places.places.items
    c.sort_unstable.new.self.items _ c.requires.root c.in_ok-places.ensures.ok c.sort_unstable.ensures.permutation
    c.sort_unstable.ensures.sorted (dedup_is eqb c.sort_unstable.new.self.items _ c.dedup.ensures.filtered)

pub returns-clause-marks : goal.returns-clause-marks
returns-clause-marks c = λ objects distinct is_graph k below.
    let at = reached_at objects c.args.graph.now distinct is_graph c.args.root k
    (omega (arith, c.requires.root, is_graph.long)) (omega (arith, below, c.requires.marks, is_graph.long)) in (
      λ is. at.0 ((c.in_ok-places.ensures.marks k).0 (omega (arith, below, c.in_ok-places.ensures.long), is)),
      λ far. ((c.in_ok-places.ensures.marks k).1 (at.1 far)).1,
    )
