use Rattle.std.proofs.Common.{◌≤◌, ◌∙◌, get_or, subst, sym, length, ap}
use Rattle.std.specs.List.{slice_range}
use Rattle.city_families.proofs.Pieces.{inside, piece_at}
use Rattle.city_families.proofs.graphs.row.Goals as goal

pub part_of-requires-clause-ordered : goal.part_of-requires-clause-ordered
part_of-requires-clause-ordered c = subst (λ n. n ≤ get_or c.args.ends.now c.args.at 0) (sym c.start_of.ensures)
    (inside 0 c.args.ends.now (length c.args.places.now) c.args.at c.requires.ends c.requires.within).0

pub part_of-requires-clause-within : goal.part_of-requires-clause-within
part_of-requires-clause-within c = (inside 0 c.args.ends.now (length c.args.places.now) c.args.at c.requires.ends
    c.requires.within).1

pub returns : goal.returns
returns c = c.part_of.ensures ∙ (ap (λ n. slice_range c.args.places.now n (get_or c.args.ends.now c.args.at 0))
    c.start_of.ensures ∙ sym (piece_at c.args.places.now 0 c.args.ends.now c.args.at c.requires.within))
