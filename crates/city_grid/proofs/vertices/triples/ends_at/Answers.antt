use Rattle.std.proofs.Common.{◌≤◌, ◌+◌, arith, length}
use Rattle.city_grid.proofs.vertices.triples.ends_at.Goals as goal

pub returns-in-Some : goal.returns-in-Some
returns-in-Some c =
    let within : c.args.at + 32 ≤ length c.args.text.now =
    omega (arith, c.if-text-at-ge-WINDOW.true, c.requires) in
    let found = c.in-Some.ensures 32 (omega arith) within c.stops_in-stops.ensures in
    record { are = found.0; within = omega (arith, found.1, within) }
